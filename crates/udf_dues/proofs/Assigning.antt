-- The identifiers of found entries: those of ordinary entries in the order of their addresses, and the own ones of others.
use Rattle.std.proofs.Common.{◌≡◌, ℕ, List, [], ◌∷◌, map, Bool, true, false, cond, ◌&&◌, refl, sym, ap, ◌∙◌, subst, inl, inr, arith, Option, Some, None}
use Rattle.std.specs.Prelude.{unwrap_or}
use Rattle.std.specs.declared.cmp.Ordering.TheVariants.{Less}
use Rattle.std.specs.List.{AllByRecursion, filter, list_any}
use Rattle.std.specs.List.Sorted.{IsStrictlySortedBy}
use Rattle.std.specs.Map.{keys_of, values_of}
use Rattle.std.proofs.lemmas.Bool.{false≢true}
use Rattle.std.proofs.lemmas.Bool.Decides.{nat_tests}
use Rattle.udf_field.specs.declared.address.Addr.{Addr}
use Rattle.udf_file_model.specs.Address.{same_addr}
use Rattle.udf_file_model.specs.Listing.{Volume}
use Rattle.udf_tree_model.specs.Among.{Member}
use Rattle.udf_tree_model.specs.Chosen.{is_lower}
use Rattle.udf_tree_model.specs.Counts.{id_by, id_of, ordinary_entries, wanted_id}
use Rattle.udf_tree_model.specs.Found.{found}
use Rattle.udf_tree_model.specs.Frame.{Frame, entry_at, places, setting_of, tree_of}
use Rattle.udf_tree_model.specs.Laws.{HasSoundStarts}
use Rattle.udf_tree_model.specs.Parent.{ordinary, ordinary_graph}
use Rattle.udf_tree_model.specs.Rounds.{reached}
use Rattle.udf_tree_model.proofs.Finding.{found_readable, volume_within}
use Rattle.udf_tree_model.proofs.Keeping.{kept_found}
use Rattle.udf_tree_model.proofs.Members.{any_from, member_filter, member_filtered}
use Rattle.udf_tree_model.proofs.Places.{address_same, placed_among, readable_placed}
use Rattle.udf_tree_model.proofs.Reached.{start_stays}
use Rattle.udf_held.specs.declared.held.Held.{Held}
use Rattle.udf_dues.specs.declared.identifiers.Identity.{Identity}
use Rattle.udf_found.specs.declared.shape.Shape.{Shape}
use Rattle.udf_found.specs.Beyond.{HoldsFileSet}
use Rattle.udf_held.specs.Held.{AreHeldOf}
use Rattle.udf_dues.specs.Identifiers.{identity, wanted_ids}
use Rattle.udf_dues.specs.Numbered.{Lists, given_of, id_in, identity_in, passed}
use Rattle.udf_found.specs.Order.{addr_cmp}
use Rattle.udf_found.specs.Shape.{IsShaped}
use Rattle.udf_dues.proofs.Ascending.{Ascending, not_lower, not_lower_itself, ordinary_ascend}
use Rattle.udf_kept.proofs.ByIndex.{found_stands, member_at}
use Rattle.udf_dues.proofs.Numbering.{numbered}
use Rattle.udf_kept.proofs.Ordinaries.{ordinary_kept}
use Rattle.udf_found.proofs.Seeing.{file_set_plain, holder_address}

-- ---- lists in the order of addresses
lower_from : (a b : Addr) → addr_cmp a b ≡ Less → is_lower a b ≡ true
lower_from a b e = grind (arith, nat_tests)

all_less : (a : Addr) (xs : List Addr) → AllByRecursion (λ b. addr_cmp a b ≡ Less) xs → (b : Addr) → Member b xs → is_lower a b ≡ true
all_less a [] h b m = absurd m
all_less a (x ∷ xs) h b (inl e) = ap (is_lower a) e ∙ lower_from a x h.0
all_less a (x ∷ xs) h b (inr m) = all_less a xs h.1 b m

pub sorted_ascend : (xs : List Addr) → IsStrictlySortedBy addr_cmp xs → Ascending xs
unfolding IsStrictlySortedBy
sorted_ascend [] h = tt
sorted_ascend (x ∷ xs) h = (all_less x xs h.0, sorted_ascend xs h.1)

-- ascending lists with the same members are the same
pub same_ascending : (xs ys : List Addr) → Ascending xs → Ascending ys → ((a : Addr) → Member a xs → Member a ys) → ((a : Addr) → Member a ys → Member a xs) → xs ≡ ys
same_ascending [] [] h k f g = refl
same_ascending [] (y ∷ ys) h k f g = absurd (g y (inl refl))
same_ascending (x ∷ xs) [] h k f g = absurd (f x (inl refl))
same_ascending (x ∷ xs) (y ∷ ys) h k f g =
    ap (λ (z : Addr). z ∷ xs) first ∙ ap (λ (zs : List Addr). y ∷ zs)
    (same_ascending xs ys h.1 k.1 (λ a m. into ys x y a first (h.0 a m) (f a (inr m))) (λ a m. into xs y x a (sym first) (k.0 a m) (g a (inr m))))
  where
    into : (zs : List Addr) (w z a : Addr) → w ≡ z → is_lower w a ≡ true → Member a (z ∷ zs) → Member a zs
    into zs w z a i l (inr n) = n
    into zs w z a i l (inl e) = absurd (false≢true (sym (not_lower_itself w) ∙ ap (is_lower w) (i ∙ sym e) ∙ l))

    by : Member x (y ∷ ys) → Member y (x ∷ xs) → x ≡ y
    by (inl e) n = e
    by (inr m) (inl e) = sym e
    by (inr m) (inr n) = absurd (false≢true (sym (not_lower x y (h.0 y n)) ∙ k.0 x m))

    first : x ≡ y
    first = by (f x (inl refl)) (g y (inl refl))

-- ---- the tests of entries
passed_filter : (p : Held → Bool) (hs : List Held) → passed hs (map p hs) ≡ filter p hs
passed_filter p [] = refl
passed_filter p (h ∷ hs) = ap (λ ys. cond (p h) (h ∷ ys) ys) (passed_filter p hs)

map_same : (p q : Held → ℕ) (hs : List Held) → ((h : Held) → Member h hs → p h ≡ q h) → map p hs ≡ map q hs
map_same p q [] f = refl
map_same p q (h ∷ hs) f = ap (λ (n : ℕ). n ∷ map p hs) (f h (inl refl)) ∙ ap (λ ns. q h ∷ ns) (map_same p q hs (λ k m. f k (inr m)))

abbrev made : ℕ → Bool → Identity
made n b = record { id = n; is_root = b }

module _ (f : Frame) (v : Volume) (set : HoldsFileSet f v) (c : HasSoundStarts (setting_of f v) (tree_of f v)) (hs : List Held) (held : AreHeldOf f v hs) where
  shaped_id : (a : Addr) (o : Option Shape) → IsShaped f v a o → id_in o ≡ id_of v a
  shaped_id a None s = sym (ap id_by (ap (entry_at v) (holder_address f v a s) ∙ (file_set_plain f v set).0))
  shaped_id a (Some s) (other, e, there, shape) = shape.id ∙ sym (ap id_by there)

  own_id : (h : Held) → Member h hs → id_in h.shape ≡ id_of v h.at
  own_id h m = shaped_id h.at h.shape (held.each_of h m).shape

  identity_is : (root : Addr) → f.root ≡ root → (h : Held) → Member h hs → identity_in root h ≡ identity f v h.at
  identity_is root e h m = ap (λ (n : ℕ). made n (same_addr h.at root)) (own_id h m) ∙ ap (λ (r : Addr). made (id_of v h.at) (same_addr h.at r)) (sym e)

  found_of : (a : Addr) → ordinary f v a ≡ true → found (setting_of f v) (tree_of f v) a ≡ true
  unfolding ordinary
  found_of a o = kept_found (setting_of f v) (tree_of f v) (volume_within f v) c a (ordinary_kept f v c a o)

  placed : (a : Addr) → ordinary f v a ≡ true → Member a (places v)
  placed a o = let r = readable_placed f v a (found_readable (setting_of f v) (tree_of f v) (volume_within f v) a (found_of a o)) in placed_among v a r.0 r.1

  listed : (a : Addr) → ordinary f v a ≡ true → (h : Held) × Member h hs × (h.at ≡ a)
  listed a o = let r = found_stands (setting_of f v) (tree_of f v) hs held.held a (found_of a o) in (r.1.entry, member_at hs r.0 r.1.entry r.1.there, r.1.at)

  in_order : (a : Addr) → ordinary f v a ≡ true → Member a (ordinary_entries f v)
  unfolding ordinary_entries
  in_order a o = member_filtered (ordinary f v) (places v) a (placed a o) o

  root_ordinary : (a : Addr) → same_addr a f.root ≡ true → ordinary f v a ≡ true
  unfolding ordinary reached ordinary_graph
  root_ordinary a e = start_stays (ordinary_graph f v) _ a e

  abbrev is_ordinary : Held → Bool
  is_ordinary h = ordinary f v h.at

  last : (b o k : Bool) (m n : ℕ) → b ≡ false → o ≡ false → cond b 0 (cond (o && k) m n) ≡ n
  last true o k m n e i = absurd (false≢true (sym e))
  last false true k m n e i = absurd (false≢true (sym i))
  last false false k m n e i = refl

  -- a found entry that is not ordinary keeps its own
  other_id : (a : Addr) → ordinary f v a ≡ false → id_of v a ≡ wanted_id f v a
  unfolding wanted_id
  other_id a o = sym (last (same_addr a f.root) (ordinary f v a) _ _ (id_of v a) (other (same_addr a f.root) refl) o)
    where
      other : (b : Bool) → same_addr a f.root ≡ b → same_addr a f.root ≡ false
      other true e = absurd (false≢true (sym o ∙ root_ordinary a e))
      other false e = e

  module _ (root : Addr) (same : f.root ≡ root) (bs : List Bool) (tests : bs ≡ map (λ h. ordinary f v h.at) hs) (es : List (Addr × Identity)) (lists : Lists root (passed hs bs) es) where
    among : (h : Held) → Member h (passed hs bs) → Member h hs × (ordinary f v h.at ≡ true)
    among h m = member_filter is_ordinary hs h (subst (λ (ys : List Held). Member h ys) (ap (passed hs) tests ∙ passed_filter is_ordinary hs) m)

    keys_are : keys_of es ≡ ordinary_entries f v
    unfolding ordinary_entries
    keys_are = same_ascending (keys_of es) (filter (ordinary f v) (places v)) (sorted_ascend (keys_of es) lists.sorted) (ordinary_ascend f v) into from
      where
        into : (a : Addr) → Member a (keys_of es) → Member a (filter (ordinary f v) (places v))
        into a m =
            let r = lists.there a m in
            let o = ap (ordinary f v) (sym r.2) ∙ (among r.0 r.1).1 in
            member_filtered (ordinary f v) (places v) a (placed a o) o

        from : (a : Addr) → Member a (filter (ordinary f v) (places v)) → Member a (keys_of es)
        from a m =
            let o = (member_filter (ordinary f v) (places v) a m).1 in
            let r = listed a o in
            subst (λ (b : Addr). Member b (keys_of es)) r.2
            (lists.all r.0 (subst (λ (ys : List Held). Member r.0 ys) (sym (ap (passed hs) tests ∙ passed_filter is_ordinary hs)) (member_filtered is_ordinary hs r.0 r.1 (ap (ordinary f v) r.2 ∙ o))))

    wanted_are : wanted_ids (values_of es) ≡ map (wanted_id f v) (keys_of es)
    wanted_are =
        ap wanted_ids (lists.values (identity f v) (λ h m. identity_is root same h (among h m).0) ∙ ap (map (identity f v)) keys_are)
        ∙ numbered f v
        ∙ ap (map (wanted_id f v)) (sym keys_are)

    given_is : (o : Option ℕ) (h : Held) → Member h hs → o ≡ given_of (wanted_id f v) (keys_of es) h.at → unwrap_or o (id_in h.shape) ≡ wanted_id f v h.at
    given_is o h m e = ap (λ (p : Option ℕ). unwrap_or p (id_in h.shape)) e ∙ go (list_any (same_addr h.at) (keys_of es)) refl
      where
        other : (b : Bool) → ordinary f v h.at ≡ b → list_any (same_addr h.at) (keys_of es) ≡ false → ordinary f v h.at ≡ false
        other false i k = i
        other true i k =
            let here = subst (λ (ys : List Addr). Member h.at ys) (sym keys_are) (in_order h.at i) in
            absurd (false≢true (sym k ∙ any_from (same_addr h.at) (keys_of es) h.at here (address_same h.at h.at refl)))

        go : (b : Bool) → list_any (same_addr h.at) (keys_of es) ≡ b → unwrap_or (cond b (Some (wanted_id f v h.at)) None) (id_in h.shape) ≡ wanted_id f v h.at
        go true k = refl
        go false k = own_id h m ∙ other_id h.at (other (ordinary f v h.at) refl k)

    pub are_wanted : (given : Addr → Option ℕ) (ids : List ℕ)
        → ((of : Addr → ℕ) → wanted_ids (values_of es) ≡ map of (keys_of es) → (a : Addr) → given a ≡ given_of of (keys_of es) a)
        → ids ≡ map (λ h. unwrap_or (given h.at) (id_in h.shape)) hs → ids ≡ map (λ h. wanted_id f v h.at) hs
    are_wanted given ids g e =
        e ∙ map_same (λ h. unwrap_or (given h.at) (id_in h.shape)) (λ h. wanted_id f v h.at) hs (λ h m. given_is (given h.at) h m (g (wanted_id f v) wanted_are h.at))
