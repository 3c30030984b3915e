-- What is seen of entries as they are found, and the refusal that follows.
use Rattle.std.proofs.Common.{◌≡◌, ℕ, ◌+◌, ◌≤◌, List, [], ◌∷◌, ◌++◌, length, take, Bool, true, false, cond, ◌&&◌, ◌||◌, Option, Some, None, refl, sym, ap, ◌∙◌, subst, inl, inr, arith}
use Rattle.std.specs.Prelude.{is_some, option_map, ◌==◌}
use Rattle.std.specs.List.{list_any}
use Rattle.std.proofs.lemmas.Bool.{and_parts, and_from, false≢true}
use Rattle.std.proofs.lemmas.Bool.Decides.{nat_tests}
use Rattle.std.proofs.lemmas.List.{map-append, take-append-drop, take-append-le}
use Rattle.std.proofs.lemmas.List.Folds.{list_any-append}
use Rattle.udf_field.specs.declared.address.Addr.{Addr}
use Rattle.udf_model.specs.Tag.{id_at, is_id}
use Rattle.udf_file_model.specs.Address.{same_addr}
use Rattle.udf_file_model.specs.Entry.{Entry, entry_of, entry_by, entry_header, fitting, header_by, header_of_id}
use Rattle.udf_file_model.specs.Listing.{Volume, is_placed}
use Rattle.udf_layer.specs.declared.missing.ProfileItem.TheVariants as item
use Rattle.udf_layer.specs.declared.missing.Missing.{Missing}
use Rattle.udf_layer.specs.declared.missing.Missing.TheVariants as missing
use Rattle.udf_tree_model.specs.Among.{Member}
use Rattle.udf_tree_model.specs.Link.{Link, target_of}
use Rattle.udf_tree_model.specs.Node.{Node, Tree, readable}
use Rattle.udf_tree_model.specs.Found.{found, whole_links}
use Rattle.udf_tree_model.specs.Frame.{Frame, entry_at, entry_by as entry_placed, is_address, is_file_set, is_holder, node_by, places, setting_of, tree_of}
use Rattle.udf_tree_model.specs.Refused.{Strategy, ExtendedDescriptors, AttributeFile, RootDirectory, has_root, has_other_strategy, has_extended_descriptors, has_attribute_file, is_indirect, is_indirect_by, names_indirect, passes, refusal, some_found}
use Rattle.udf_tree_model.proofs.Finding.{found_full, found_readable, volume_within}
use Rattle.udf_tree_model.proofs.Members.{any_from, any_gives, member_of, member_of_map, same_bools}
use Rattle.udf_tree_model.proofs.Places.{address_same, same_address}
use Rattle.udf_tree_model.proofs.Stating.{entry_node}
use Rattle.udf_found.specs.declared.arena.Found as arena
use Rattle.udf_found.specs.declared.beyond.Beyond.{Beyond}
use Rattle.udf_found.specs.Beyond.{HoldsFileSet, IsBeyond, beyond_of, item_of, joined, leads_indirect, nothing, of_entries, only_indirect, some_passes, without_links}
use Rattle.udf_found.specs.Begin.{IsHolderAlone}
use Rattle.udf_found.specs.Order.{is_known}
use Rattle.udf_found.specs.Seen.{IsWithin, spots}
use Rattle.udf_found.specs.Spot.{IsFoundList, Spot, addresses, spot}
use Rattle.udf_found.specs.Target.{targets_of}
use Rattle.udf_found.specs.Visit.{Adds}
use Rattle.udf_found.proofs.Adding.{known_is}
use Rattle.udf_found.proofs.Visiting.{next_done}

-- ---- what stands at an address is one thing
number_is : (m n : ℕ) → (m == n) ≡ true → m ≡ n
number_is m n t = grind (arith, nat_tests)

none_some : {X : Type 0} (x : X) → None ≡ Some x → ⊥
none_some x h = cc

entry_alone : (block : List ℕ) (o : Option ℕ) (e : Entry) → entry_by block (fitting block (header_by o)) ≡ Some e → is_id 259 o ≡ false
entry_alone block None e h = refl
entry_alone block (Some id) e h = go (id == 259) refl
  where
    go : (b : Bool) → (id == 259) ≡ b → is_id 259 (Some id) ≡ false
    go false k = k
    go true k = absurd (none_some e (ap (λ (x : ℕ). entry_by block (fitting block (header_of_id x))) (sym (number_is id 259 k)) ∙ h))

pub entry_not_indirect : (v : Volume) (a : Addr) (e : Entry) → entry_at v a ≡ Some e → is_indirect v a ≡ false
unfolding entry_at is_indirect entry_of entry_header
entry_not_indirect v a e h = by_address (is_address a) h
  where
    by_place : (o : Option ℕ) → entry_placed v a o ≡ Some e → is_indirect_by v a o ≡ false
    by_place None k = refl
    by_place (Some sector) k = entry_alone (v.disk sector) (id_at a.block (v.disk sector)) e k

    by_address : (b : Bool) → cond b (entry_placed v a (v.place a)) None ≡ Some e → (b && is_indirect_by v a (v.place a)) ≡ false
    by_address false k = refl
    by_address true k = by_place (v.place a) k

-- at a file set there is neither
file_set_at : (f : Frame) (v : Volume) → HoldsFileSet f v → (o : Option ℕ) → v.place f.file_set ≡ o → (entry_placed v f.file_set o ≡ None) × (is_indirect_by v f.file_set o ≡ false)
unfolding entry_of entry_header
file_set_at f v h None e = (refl, refl)
file_set_at f v h (Some sector) e =
    let id = h.whole sector e in
    (ap (λ (x : Option ℕ). entry_by (v.disk sector) (fitting (v.disk sector) (header_by x))) id, ap (is_id 259) id)

either : {X : Type 0} (b : Bool) (o : Option X) → o ≡ None → cond b o None ≡ None
either true o e = e
either false o e = refl

never : (b c : Bool) → c ≡ false → (b && c) ≡ false
never true c e = e
never false c e = refl

pub file_set_plain : (f : Frame) (v : Volume) → HoldsFileSet f v → (entry_at v f.file_set ≡ None) × (is_indirect v f.file_set ≡ false)
unfolding entry_at is_indirect
file_set_plain f v h =
    let b = file_set_at f v h (v.place f.file_set) refl in
    (either (is_address f.file_set) (entry_placed v f.file_set (v.place f.file_set)) b.0, never (is_address f.file_set) (is_indirect_by v f.file_set (v.place f.file_set)) b.1)

pub holder_address : (f : Frame) (v : Volume) (a : Addr) → is_holder f v a ≡ true → a ≡ f.file_set
unfolding is_holder
holder_address f v a h =
    let b = and_parts (is_some f.system) (is_file_set f v a) h in
    same_address a f.file_set (and_parts (same_addr a f.file_set) (is_address a && is_placed v a) b.1).0

-- what is found is no indirect entry
pub found_plain : (f : Frame) (v : Volume) → HoldsFileSet f v → (a : Addr) → found (setting_of f v) (tree_of f v) a ≡ true → is_indirect v a ≡ false
unfolding readable
found_plain f v h a k = by_holder (is_holder f v a) refl
  where
    r : is_some (tree_of f v a) ≡ true
    r = found_readable (setting_of f v) (tree_of f v) (volume_within f v) a k

    by_entry : (o : Option Entry) → entry_at v a ≡ o → is_some (node_by f v a o) ≡ true → is_indirect v a ≡ false
    by_entry None e l = absurd (false≢true l)
    by_entry (Some x) e l = entry_not_indirect v a x e

    by_holder : (b : Bool) → is_holder f v a ≡ b → is_indirect v a ≡ false
    by_holder true e = ap (is_indirect v) (holder_address f v a e) ∙ (file_set_plain f v h).1
    by_holder false e = by_entry (entry_at v a) refl (sym (ap (λ (n : Option Node). is_some n) (entry_node f v a e)) ∙ r)

-- ---- one address more
or_false : (b : Bool) → b ≡ (b || false)
or_false true = refl
or_false false = refl

or_join : (b c d : Bool) → ((b || c) || d) ≡ (b || (c || d))
or_join true c d = refl
or_join false c d = refl

pub any_more : {X : Type 0} (p : X → Bool) (xs : List X) (x : X) → list_any p (xs ++ x ∷ []) ≡ (list_any p xs || p x)
any_more p xs x = list_any-append p xs (x ∷ []) ∙ ap (λ (b : Bool). list_any p xs || b) (sym (or_false (p x)))

addresses_more : (q : List arena.Found) (n : arena.Found) → addresses (spots (q ++ n ∷ [])) ≡ addresses (spots q) ++ n.at ∷ []
addresses_more q n = ap addresses (map-append (λ (x : arena.Found). spot x.at x.level) q (n ∷ [])) ∙ map-append (λ (x : Spot). x.at) (spots q) (spot n.at n.level ∷ [])

module _ (f : Frame) (v : Volume) (done ts : List Addr) where
  targets_more : (a : Addr) (b c : Bool) → is_indirect v a ≡ c → b ≡ (list_any (leads_indirect f v) done || list_any (is_indirect v) ts)
      → (b || c) ≡ (list_any (leads_indirect f v) done || list_any (is_indirect v) (ts ++ a ∷ []))
  targets_more a b c e h =
      ap (λ (x : Bool). x || c) h
      ∙ or_join (list_any (leads_indirect f v) done) (list_any (is_indirect v) ts) c
      ∙ ap (λ (x : Bool). list_any (leads_indirect f v) done || (list_any (is_indirect v) ts || x)) (sym e)
      ∙ ap (λ (x : Bool). list_any (leads_indirect f v) done || x) (sym (any_more (is_indirect v) ts a))

  pub seen_plain : (a : Addr) (q : List Spot) (b : Beyond) → is_indirect v a ≡ false → IsBeyond f v done ts q b → IsBeyond f v done (ts ++ a ∷ []) q b
  seen_plain a q b e h = record {
    strategy = h.strategy;
    indirect = or_false b.indirect ∙ targets_more a b.indirect false e h.indirect;
    extended = h.extended;
    attributes = h.attributes;
  }

  pub seen_indirect : (a : Addr) (q : List Spot) (b : Beyond) → is_indirect v a ≡ true → IsBeyond f v done ts q b → IsBeyond f v done (ts ++ a ∷ []) q (joined b only_indirect)
  seen_indirect a q b e h = record {
    strategy = sym (or_false b.strategy) ∙ h.strategy;
    indirect = targets_more a b.indirect true e h.indirect;
    extended = sym (or_false b.extended_descriptors) ∙ h.extended;
    attributes = sym (or_false b.attribute_file) ∙ h.attributes;
  }

  pub seen_entry : (a : Addr) (e : Entry) (q r : List arena.Found) (n : arena.Found) (b own : Beyond) → entry_at v a ≡ Some e → own ≡ beyond_of e → n.at ≡ a → r ≡ q ++ n ∷ []
      → IsBeyond f v done ts (spots q) b → IsBeyond f v done (ts ++ a ∷ []) (spots r) (joined b own)
  seen_entry a e q r n b own there o i j h = record {
    strategy = ap (λ (x : Beyond). b.strategy || x.strategy) o ∙ all has_other_strategy b.strategy h.strategy;
    indirect = ap (λ (x : Beyond). b.indirect || x.indirect) o ∙ targets_more a b.indirect false (entry_not_indirect v a e there) h.indirect;
    extended = ap (λ (x : Beyond). b.extended_descriptors || x.extended_descriptors) o ∙ all has_extended_descriptors b.extended_descriptors h.extended;
    attributes = ap (λ (x : Beyond). b.attribute_file || x.attribute_file) o ∙ all has_attribute_file b.attribute_file h.attributes;
  }
    where
      all : (test : Entry → Bool) (c : Bool) → c ≡ some_passes v test (addresses (spots q)) → (c || test e) ≡ some_passes v test (addresses (spots r))
      all test c k =
          ap (λ (x : Bool). x || test e) k
          ∙ ap (λ (x : Option Entry). some_passes v test (addresses (spots q)) || passes test x) (sym there)
          ∙ sym (any_more (λ x. passes test (entry_at v x)) (addresses (spots q)) a)
          ∙ ap (λ (x : Addr). some_passes v test (addresses (spots q) ++ x ∷ [])) (sym i)
          ∙ ap (some_passes v test) (sym (addresses_more q n))
          ∙ ap (λ (l : List arena.Found). some_passes v test (addresses (spots l))) (sym j)

-- ---- going through the links of an entry
-- what stands in the queue is found
pub known_found : (f : Frame) (v : Volume) (next : ℕ) (x : Spot) (ts : List Addr) (q : List arena.Found) → IsWithin f v next x ts q → (a : Addr) → is_known a q ≡ true
    → found (setting_of f v) (tree_of f v) a ≡ true
known_found f v next x ts q m a k =
    let g = any_gives (same_addr a) (addresses (spots q)) (sym (known_is a q) ∙ k) in
    let y = member_of_map (λ (z : Spot). z.at) (spots q) g.0 g.1 in
    let whole : take next (spots q) ++ x ∷ m.visit.rest ≡ spots q = ap (λ (l : List Spot). take next (spots q) ++ l) (sym m.visit.here) ∙ take-append-drop next (spots q) in
    let here = m.visit.queue.reached y.0 (subst (λ (l : List Spot). Member y.0 l) (sym whole) y.1) in
    ap (found (setting_of f v) (tree_of f v)) (same_address a g.0 g.2 ∙ y.2) ∙ found_full (setting_of f v) (tree_of f v) (volume_within f v) y.0.level y.0.at here

-- what is done stays at the front
pub front_stays : (tells : Type 0) (t : Tree) (ps : List Addr) (a : Addr) (l next : ℕ) (old new : List Spot) → next ≤ length old → Adds tells t ps a l old new → take next new ≡ take next old
front_stays tells t ps a l next old new low h = ap (take next) h.is ∙ go h.goes
  where
    go : (b : Bool) → take next (cond b (old ++ spot a l ∷ []) old) ≡ take next old
    go true = take-append-le next old (spot a l ∷ []) low
    go false = refl

leads_any : (v : Volume) (links : List Link) → list_any (is_indirect v) (targets_of links) ≡ list_any (λ link. is_indirect v (target_of link.says)) links
leads_any v [] = refl
leads_any v (l ∷ ls) = ap (λ (b : Bool). is_indirect v (target_of l.says) || b) (leads_any v ls)

pub seen_ends : (f : Frame) (v : Volume) (next : ℕ) (x : Spot) (ts : List Addr) (o q : List arena.Found) (b : Beyond) → ts ≡ targets_of (whole_links (tree_of f v) x.at)
    → take next (spots q) ≡ take next (spots o) → IsWithin f v next x ts q → IsBeyond f v (addresses (take next (spots o))) ts (spots q) b
    → IsBeyond f v (addresses (take (next + 1) (spots q))) [] (spots q) b
seen_ends f v next x ts o q b all front m h = record {
  strategy = h.strategy;
  indirect =
      h.indirect
      ∙ ap (λ (l : List Addr). list_any (leads_indirect f v) (addresses (take next (spots o))) || list_any (is_indirect v) l) all
      ∙ ap (λ (c : Bool). list_any (leads_indirect f v) (addresses (take next (spots o))) || c) (leads_any v (whole_links (tree_of f v) x.at))
      ∙ ap (λ (l : List Spot). list_any (leads_indirect f v) (addresses l) || leads_indirect f v x.at) (sym front)
      ∙ sym (any_more (leads_indirect f v) (addresses (take next (spots q))) x.at)
      ∙ ap (list_any (leads_indirect f v)) (sym (map-append (λ (y : Spot). y.at) (take next (spots q)) (x ∷ [])))
      ∙ ap (λ (l : List Spot). list_any (leads_indirect f v) (addresses l)) (sym done)
      ∙ or_false (list_any (leads_indirect f v) (addresses (take (next + 1) (spots q))));
  extended = h.extended;
  attributes = h.attributes;
}
  where
    done : take (next + 1) (spots q) ≡ take next (spots q) ++ x ∷ []
    done = next_done next x (spots q) m.visit.rest m.visit.inside m.visit.here

-- ---- where the search begins
pub seen_first : (f : Frame) (v : Volume) (q : List arena.Found) → HoldsFileSet f v → IsHolderAlone f v q → IsBeyond f v [] [] (spots q) nothing
seen_first f v q set h = record {
  strategy = sym (none has_other_strategy (spots q) (λ x m. m));
  indirect = refl;
  extended = sym (none has_extended_descriptors (spots q) (λ x m. m));
  attributes = sym (none has_attribute_file (spots q) (λ x m. m));
}
  where
    at_holder : (test : Entry → Bool) (x : Spot) → Member x (spots q) → passes test (entry_at v x.at) ≡ false
    at_holder test x m =
        ap (λ (a : Addr). passes test (entry_at v a)) (holder_address f v x.at (h.alone x m).0)
        ∙ ap (passes test) (file_set_plain f v set).0

    none : (test : Entry → Bool) (xs : List Spot) → ((x : Spot) → Member x xs → Member x (spots q)) → some_passes v test (addresses xs) ≡ false
    none test [] among = refl
    none test (x ∷ xs) among =
        ap (λ (b : Bool). b || some_passes v test (addresses xs)) (at_holder test x (among x (inl refl)))
        ∙ none test xs (λ y m. among y (inr m))

pub holder_plain : (f : Frame) (v : Volume) (q : List arena.Found) → HoldsFileSet f v → IsHolderAlone f v q → (a : Addr) → is_known a q ≡ true → is_indirect v a ≡ false
holder_plain f v q set h a k =
    let g = any_gives (same_addr a) (addresses (spots q)) (sym (known_is a q) ∙ k) in
    let x = member_of_map (λ (z : Spot). z.at) (spots q) g.0 g.1 in
    ap (is_indirect v) (same_address a g.0 g.2 ∙ x.2 ∙ holder_address f v x.0.at (h.alone x.0 x.1).0) ∙ (file_set_plain f v set).1

pub seen_root : (f : Frame) (v : Volume) (ts : List Addr) (q : List Spot) (b : Beyond) → IsBeyond f v [] ts q b → IsBeyond f v [] [] q (without_links b)
seen_root f v ts q b h = record { strategy = h.strategy; indirect = refl; extended = h.extended; attributes = h.attributes }

-- ---- the refusal
module _ (f : Frame) (v : Volume) (q : List Spot) (list : IsFoundList (setting_of f v) (tree_of f v) q) where
  over_found : (p : Addr → Bool) → list_any (λ a. found (setting_of f v) (tree_of f v) a && p a) (places v) ≡ list_any p (addresses q)
  unfolding setting_of
  over_found p = same_bools (list_any (λ a. found (setting_of f v) (tree_of f v) a && p a) (places v)) (list_any p (addresses q)) there back
    where
      there : list_any (λ a. found (setting_of f v) (tree_of f v) a && p a) (places v) ≡ true → list_any p (addresses q) ≡ true
      there h =
          let x = any_gives (λ a. found (setting_of f v) (tree_of f v) a && p a) (places v) h in
          let b = and_parts (found (setting_of f v) (tree_of f v) x.0) (p x.0) x.2 in
          let y = any_gives (same_addr x.0) (addresses q) (sym (list.all x.0) ∙ b.0) in
          any_from p (addresses q) y.0 y.1 (ap p (sym (same_address x.0 y.0 y.2)) ∙ b.1)

      back : list_any p (addresses q) ≡ true → list_any (λ a. found (setting_of f v) (tree_of f v) a && p a) (places v) ≡ true
      back h =
          let x = any_gives p (addresses q) h in
          let here : found (setting_of f v) (tree_of f v) x.0 ≡ true = list.all x.0 ∙ any_from (same_addr x.0) (addresses q) x.0 x.1 (address_same x.0 x.0 refl) in
          let at : Member x.0 (places v) = member_of (places v) x.0 ((volume_within f v).among x.0 (found_readable (setting_of f v) (tree_of f v) (volume_within f v) x.0 here)) in
          any_from (λ a. found (setting_of f v) (tree_of f v) a && p a) (places v) x.0 at (and_from (found (setting_of f v) (tree_of f v) x.0) (p x.0) here x.2)

  first_of : (x y z w : Bool) → of_entries (cond x (Some Strategy) (cond y (Some ExtendedDescriptors) (cond z (Some AttributeFile) (cond w None (Some RootDirectory)))))
      ≡ option_map (λ i. missing.Profile i) (cond x (Some item.Strategy) (cond y (Some item.ExtendedDescriptors) (cond z (Some item.AttributeFile) None)))
  first_of true y z w = refl
  first_of false true z w = refl
  first_of false false true w = refl
  first_of false false false true = refl
  first_of false false false false = refl

  abbrev chosen : Bool → Bool → Bool → Option Missing
  chosen x y z = option_map (λ i. missing.Profile i) (cond x (Some item.Strategy) (cond y (Some item.ExtendedDescriptors) (cond z (Some item.AttributeFile) None)))

  pub refusal_is : (b : Beyond) → IsBeyond f v (addresses q) [] q b → of_entries (refusal f v) ≡ option_map (λ i. missing.Profile i) (item_of b)
  unfolding refusal some_found names_indirect
  refusal_is b h =
      let strategy = h.strategy ∙ sym (over_found (λ a. passes has_other_strategy (entry_at v a))) in
      let indirect = h.indirect ∙ sym (or_false (list_any (leads_indirect f v) (addresses q))) ∙ sym (over_found (leads_indirect f v)) in
      let extended = h.extended ∙ sym (over_found (λ a. passes has_extended_descriptors (entry_at v a))) in
      let attributes = h.attributes ∙ sym (over_found (λ a. passes has_attribute_file (entry_at v a))) in
      first_of (some_found f v has_other_strategy || names_indirect f v) (some_found f v has_extended_descriptors) (some_found f v has_attribute_file) (has_root f v)
      ∙ ap (λ (x : Bool). chosen (x || names_indirect f v) (some_found f v has_extended_descriptors) (some_found f v has_attribute_file)) (sym strategy)
      ∙ ap (λ (x : Bool). chosen (b.strategy || x) (some_found f v has_extended_descriptors) (some_found f v has_attribute_file)) (sym indirect)
      ∙ ap (λ (x : Bool). chosen (b.strategy || b.indirect) x (some_found f v has_attribute_file)) (sym extended)
      ∙ ap (λ (x : Bool). chosen (b.strategy || b.indirect) b.extended_descriptors x) (sym attributes)
