-- The ordinary entries of a survey are those of the volume.
use Rattle.std.proofs.Common.{◌≡◌, ◌⊎◌, ℕ, zero, suc, ◌+◌, arith, inl, inr, refl, sym, ap, ◌∙◌, subst, List, [], ◌∷◌, ◌++◌, length, map, Bool, true, false, cond, not, ◌&&◌, Option, Some, None}
use Rattle.std.specs.Prelude.{is_some, slice_get}
use Rattle.std.specs.List.{filter, flat_map}
use Rattle.std.proofs.lemmas.Bool.{and_from, and_parts, false≢true, or_left, or_right}
use Rattle.udf_field.specs.declared.address.Addr.{Addr}
use Rattle.udf_file_model.specs.Address.{same_addr}
use Rattle.udf_file_model.specs.Entry.{Entry}
use Rattle.udf_file_model.specs.Listing.{Volume}
use Rattle.udf_tree_model.specs.Among.{Member}
use Rattle.udf_tree_model.specs.Counts.{is_directory_by, is_kept_directory, ordinary_entries, wanted_id}
use Rattle.udf_tree_model.specs.Chosen.{fitted, selects}
use Rattle.udf_tree_model.specs.Found.{leads_to}
use Rattle.udf_tree_model.specs.Frame.{Frame, entry_at, holder_by, is_file_set, is_holder, is_start, node_by, node_with, places, setting_of, tree_of}
use Rattle.udf_tree_model.specs.Kept.{kept, kept_graph}
use Rattle.udf_tree_model.specs.Link.{Link, is_pointer, target_of}
use Rattle.udf_tree_model.specs.Node.{Setting, Tree, node_at, node_or}
use Rattle.udf_tree_model.specs.Ordinary.{is_kept_entry, kept_entries, ordinary_directories, ordinary_files}
use Rattle.udf_tree_model.specs.Parent.{ordinary, ordinary_graph}
use Rattle.udf_tree_model.specs.Rounds.{in_round, reached}
use Rattle.udf_tree_model.specs.Won.{sound}
use Rattle.udf_tree_model.proofs.Keeping.{fitted_gives}
use Rattle.udf_tree_model.proofs.Members.{any_from, any_gives}
use Rattle.udf_tree_model.proofs.Places.{address_same, same_address}
use Rattle.udf_tree_model.proofs.Reached.{round_edge, round_gives, round_stays, round_zero, zero_round}
use Rattle.udf_tree.specs.declared.node.Node.{Node}
use Rattle.udf_tree.specs.declared.node.NodeId.{NodeId}
use Rattle.udf_tree.specs.Nodes.{IsNode, node_addresses}
use Rattle.udf_tree.specs.Survey.{IsSurvey, View}
use Rattle.udf_kept.proofs.ByIndex.{member_at}
use Rattle.udf_tree.proofs.Enrolling.{entry_kept, kept_parts}
use Rattle.udf_rules_model.specs.Integrity.{greatest, greatest_id}
use Rattle.udf_file_rules.specs.Tallied.{ordinary_along, ordinary_at, ordinary_by, tally_of}

refused : (directory start x y : Bool) → directory ≡ true → start ≡ true → cond directory (not start && x) y ≡ false
refused true true x y d s = refl
refused true false x y d s = absurd (false≢true s)
refused false start x y d s = absurd (false≢true d)

-- a stronger test filters what a weaker one left
narrowed : (p q : Addr → Bool) → ((a : Addr) → p a ≡ true → q a ≡ true) → (xs : List Addr) → filter p (filter q xs) ≡ filter p xs
narrowed p q h [] = refl
narrowed p q h (x ∷ xs) = by (q x) (p x) refl refl (narrowed p q h xs)
  where
    picked : (b c : Bool) → p x ≡ c → filter p (filter q xs) ≡ filter p xs → filter p (cond b (x ∷ filter q xs) (filter q xs)) ≡ cond b (cond c (x ∷ filter p xs) (filter p xs)) (filter p xs)
    picked true c e rest = ap (λ k. cond k (x ∷ filter p (filter q xs)) (filter p (filter q xs))) e ∙ ap (λ l. cond c (x ∷ l) l) rest
    picked false c e rest = rest

    by : (b c : Bool) → q x ≡ b → p x ≡ c → filter p (filter q xs) ≡ filter p xs → filter p (cond (q x) (x ∷ filter q xs) (filter q xs)) ≡ cond (p x) (x ∷ filter p xs) (filter p xs)
    by true c e k rest = ap (λ d. filter p (cond d (x ∷ filter q xs) (filter q xs))) e ∙ picked true c k rest ∙ sym (ap (λ d. cond d (x ∷ filter p xs) (filter p xs)) k)
    by false false e k rest = ap (λ d. filter p (cond d (x ∷ filter q xs) (filter q xs))) e ∙ rest ∙ sym (ap (λ d. cond d (x ∷ filter p xs) (filter p xs)) k)
    by false true e k rest = absurd (false≢true (sym e ∙ h x k))

module _ (f : Frame) (v : Volume) where
  abbrev s : Setting
  s = setting_of f v

  abbrev t : Tree
  t = tree_of f v

  -- a fitted FID that leads to an address
  record LeadsBy (d a : Addr) : Type 0 where
    link : Link
    fits : Member link (fitted s t d)
    names : not (is_pointer link.says) ≡ true
    leads : target_of link.says ≡ a

  leads_by : (d a : Addr) → (ordinary_graph f v).edge d a ≡ true → LeadsBy d a
  unfolding ordinary_graph
  leads_by d a h =
      let r = any_gives (λ (l : Link). not (is_pointer l.says) && leads_to a l) (fitted s t d) h in
      let b = and_parts (not (is_pointer r.0.says)) (leads_to a r.0) r.2 in
      record { link = r.0; fits = r.1; names = b.0; leads = same_address (target_of r.0.says) a b.1 }

  kept_edge : (d a : Addr) → LeadsBy d a → (kept_graph s t).edge d a ≡ true
  unfolding kept_graph
  kept_edge d a l = any_from (leads_to a) (fitted s t d) l.link l.fits (address_same (target_of l.link.says) a l.leads)

  kept_from_start : (a : Addr) → (ordinary_graph f v).start a ≡ true → (kept_graph s t).start a ≡ true
  unfolding ordinary_graph kept_graph setting_of is_start
  kept_from_start a h = or_left (same_addr a f.root) _ h

  same_places : (d : Addr) → Member d (ordinary_graph f v).places → Member d (kept_graph s t).places
  unfolding ordinary_graph kept_graph
  same_places d m = m

  kept_round : (k : ℕ) (a : Addr) → in_round (ordinary_graph f v) k a ≡ true → in_round (kept_graph s t) k a ≡ true
  kept_round zero a h = round_zero (kept_graph s t) a (kept_from_start a (zero_round (ordinary_graph f v) a h))
  kept_round (suc k) a h = by (λ d e. kept_round k d e) (round_gives (ordinary_graph f v) k a h)
    where
      by : ((d : Addr) → in_round (ordinary_graph f v) k d ≡ true → in_round (kept_graph s t) k d ≡ true)
          → (in_round (ordinary_graph f v) k a ≡ true) ⊎ ((d : Addr) × Member d (ordinary_graph f v).places × (in_round (ordinary_graph f v) k d ≡ true) × ((ordinary_graph f v).edge d a ≡ true))
          → in_round (kept_graph s t) (suc k) a ≡ true
      by rest (inl e) = round_stays (kept_graph s t) k a (rest a e)
      by rest (inr r) = round_edge (kept_graph s t) k r.0 a (same_places r.0 r.1) (rest r.0 r.2) (kept_edge r.0 a (leads_by r.0 a r.3))

  is_kept : (a : Addr) → ordinary f v a ≡ true → kept s t a ≡ true
  unfolding ordinary kept reached ordinary_graph kept_graph places setting_of
  is_kept a h = kept_round (length (places v)) a h

  -- how an ordinary entry is reached last
  abbrev Comes : Addr → Type 0
  Comes a = (same_addr a f.root ≡ true) ⊎ ((d : Addr) × LeadsBy d a)

  root_start : (a : Addr) → (ordinary_graph f v).start a ≡ true → same_addr a f.root ≡ true
  unfolding ordinary_graph
  root_start a e = e

  comes_in : (k : ℕ) (a : Addr) → in_round (ordinary_graph f v) k a ≡ true → Comes a
  comes_in zero a h = inl (root_start a (zero_round (ordinary_graph f v) a h))
  comes_in (suc k) a h = by (λ e. comes_in k a e) (round_gives (ordinary_graph f v) k a h)
    where
      by : (in_round (ordinary_graph f v) k a ≡ true → Comes a)
          → (in_round (ordinary_graph f v) k a ≡ true) ⊎ ((d : Addr) × Member d (ordinary_graph f v).places × (in_round (ordinary_graph f v) k d ≡ true) × ((ordinary_graph f v).edge d a ≡ true))
          → Comes a
      by rest (inl e) = rest e
      by rest (inr r) = inr (r.0, leads_by r.0 a r.3)

  comes : (a : Addr) → ordinary f v a ≡ true → Comes a
  unfolding ordinary reached
  comes a h = comes_in (length (ordinary_graph f v).places) a h

  -- the holder of the pointer is a start and a directory, so that no FID to it fits
  holder_starts : (a : Addr) → is_holder f v a ≡ true → s.start a ≡ true
  unfolding is_holder setting_of is_start
  holder_starts a h =
      let p = and_parts (is_some f.system) (is_file_set f v a) h in
      or_right (same_addr a f.root) _ (and_from (is_some f.system) (same_addr a f.file_set) p.0 (and_parts (same_addr a f.file_set) _ p.1).0)

  holder_directory : (a : Addr) → is_holder f v a ≡ true → (node_at t a).directory ≡ true
  unfolding is_holder node_at tree_of
  holder_directory a h = by f.system (is_file_set f v a) h
    where
      by : (o : Option Addr) (b : Bool) → (is_some o && b) ≡ true → (node_or (holder_by o b (node_by f v a (entry_at v a)))).directory ≡ true
      by None b e = absurd (false≢true e)
      by (Some system) true e = refl
      by (Some system) false e = absurd (false≢true e)

  unselected : (d a : Addr) (l : Link) → target_of l.says ≡ a → is_holder f v a ≡ true → selects s t d l ≡ true → ⊥
  unfolding selects
  unselected d a l e h sel =
      let at = subst (λ (b : Addr). is_holder f v b ≡ true) (sym e) h in
      let second = (and_parts (sound s t (target_of l.says)) _ sel).1 in
      false≢true (sym (refused _ _ _ _ (holder_directory (target_of l.says) at) (holder_starts (target_of l.says) at)) ∙ second)

  never_holder : (a : Addr) → is_kept_entry f v f.root ≡ true → ordinary f v a ≡ true → is_holder f v a ≡ false
  never_holder a root h = by (is_holder f v a) refl (comes a h)
    where
      by : (b : Bool) → is_holder f v a ≡ b → Comes a → is_holder f v a ≡ false
      by false e c = e
      by true e (inl r) =
          absurd (false≢true (sym (ap not (ap (is_holder f v) (sym (same_address a f.root r)) ∙ e)) ∙ (kept_parts f v f.root root).1))
      by true e (inr r) = absurd (unselected r.0 a r.1.link r.1.leads e (fitted_gives s t r.0 r.1.link r.1.fits).2)

  -- an ordinary entry is a kept one
  pub kept_entry : is_kept_entry f v f.root ≡ true → (a : Addr) → ordinary f v a ≡ true → is_kept_entry f v a ≡ true
  kept_entry root a h = entry_kept f v a (is_kept a h) (never_holder a root h)

  pub directory_is : (a : Addr) → is_kept_entry f v a ≡ true → (node_at t a).directory ≡ is_kept_directory f v a
  unfolding node_at tree_of is_holder node_with
  directory_is a h =
      let p = kept_parts f v a h in
      by f.system (is_file_set f v a) (entry_at v a) p.1 ∙ sym (ap (λ b. b && is_directory_by (entry_at v a)) p.0)
    where
      entry : (o : Option Entry) → (node_or (node_by f v a o)).directory ≡ is_directory_by o
      entry None = refl
      entry (Some e) = refl

      by : (o : Option Addr) (b : Bool) (e : Option Entry) → not (is_some o && b) ≡ true → (node_or (holder_by o b (node_by f v a e))).directory ≡ is_directory_by e
      by None b e n = entry e
      by (Some system) true e n = absurd (false≢true n)
      by (Some system) false e n = entry e

  pub ordinary_among : is_kept_entry f v f.root ≡ true → filter (ordinary f v) (kept_entries f v) ≡ ordinary_entries f v
  unfolding kept_entries ordinary_entries
  ordinary_among root = narrowed (ordinary f v) (is_kept_entry f v) (kept_entry root) (places v)

  -- ---- nodes beside addresses
  pub record IsThere (n : Node) (a : Addr) : Type 0 where
    pub directory : n.directory ≡ is_kept_directory f v a
    pub id : n.id ≡ wanted_id f v a

  abbrev AreThere : List Node → List Addr → Type 0
  AreThere [] [] = Unit {0}
  AreThere [] (a ∷ bs) = ⊥
  AreThere (n ∷ ns) [] = ⊥
  AreThere (n ∷ ns) (a ∷ bs) = IsThere n a × AreThere ns bs

  count_same : (p : Node → Bool) (q : Addr → Bool) → ((n : Node) (a : Addr) → IsThere n a → p n ≡ q a) → (ns : List Node) (bs : List Addr) → AreThere ns bs → length (filter p ns) ≡ length (filter q bs)
  count_same p q same [] [] h = refl
  count_same p q same [] (a ∷ bs) h = absurd h
  count_same p q same (n ∷ ns) [] h = absurd h
  count_same p q same (n ∷ ns) (a ∷ bs) h =
      ap (λ c. length (cond c (n ∷ filter p ns) (filter p ns))) (same n a h.0) ∙ lengths (q a) (count_same p q same ns bs h.1)
    where
      lengths : (c : Bool) → length (filter p ns) ≡ length (filter q bs) → length (cond c (n ∷ filter p ns) (filter p ns)) ≡ length (cond c (a ∷ filter q bs) (filter q bs))
      lengths true r = ap suc r
      lengths false r = r

  ids_same : (ns : List Node) (bs : List Addr) → AreThere ns bs → map (λ n. n.id) ns ≡ map (wanted_id f v) bs
  ids_same [] [] h = refl
  ids_same [] (a ∷ bs) h = absurd h
  ids_same (n ∷ ns) [] h = absurd h
  ids_same (n ∷ ns) (a ∷ bs) h = ap (λ k. k ∷ map (λ m. m.id) ns) h.0.id ∙ ap (λ l. wanted_id f v a ∷ l) (ids_same ns bs h.1)

  -- ---- along the kept entries
  module _ (x : View) (told : IsSurvey f v x) where
    root_there : is_kept_entry f v f.root ≡ true
    root_there =
        sym (told.nodes_are.all f.root)
        ∙ any_from (same_addr f.root) (node_addresses x.nodes) f.root (member_at (node_addresses x.nodes) x.root.0 f.root told.root_is) (address_same f.root f.root refl)

    node_of : (ns : List Node) (i : ℕ) (a : Addr) → slice_get (node_addresses ns) i ≡ Some a → (n : Node) × (slice_get ns i ≡ Some n) × (n.at ≡ a)
    node_of [] i a e = absurd (let no : None ≡ Some a = e in cc)
    node_of (n ∷ ns) zero a e = (n, refl, (let same : Some n.at ≡ Some a = e in cc))
    node_of (n ∷ ns) (suc i) a e = node_of ns i a e

    module _ (id : NodeId) (a : Addr) (there : slice_get (node_addresses x.nodes) id.0 ≡ Some a) where
      abbrev found : (n : Node) × (slice_get x.nodes id.0 ≡ Some n) × (n.at ≡ a)
      found = node_of x.nodes id.0 a there

      is_node : IsNode f v (node_addresses x.nodes) found.0
      is_node = told.nodes_are.each found.0 (member_at x.nodes id.0 found.0 found.1)

      ordinary_same : found.0.ordinary ≡ ordinary f v a
      ordinary_same = is_node.ordinary_is ∙ ap (ordinary f v) found.2

      is_there : IsThere found.0 a
      is_there = record {
        directory = is_node.directory_is ∙ directory_is found.0.at is_node.kept_is ∙ ap (is_kept_directory f v) found.2;
        id = is_node.id_is ∙ ap (wanted_id f v) found.2;
      }

    along : (ids : List NodeId) (bs : List Addr) → map (λ id. slice_get (node_addresses x.nodes) id.0) ids ≡ map Some bs → AreThere (flat_map (ordinary_at x) ids) (filter (ordinary f v) bs)
    along [] [] e = tt
    along [] (a ∷ bs) e = absurd (let no : [] ≡ Some a ∷ map Some bs = e in cc)
    along (id ∷ ids) [] e = absurd (let no : slice_get (node_addresses x.nodes) id.0 ∷ map (λ id. slice_get (node_addresses x.nodes) id.0) ids ≡ [] = e in cc)
    along (id ∷ ids) (a ∷ bs) e =
        let both : slice_get (node_addresses x.nodes) id.0 ∷ map (λ id. slice_get (node_addresses x.nodes) id.0) ids ≡ Some a ∷ map Some bs = e in
        let there : slice_get (node_addresses x.nodes) id.0 ≡ Some a = cc in
        let rest : map (λ id. slice_get (node_addresses x.nodes) id.0) ids ≡ map Some bs = cc in
        let n = (found id a there).0 in
        subst (λ (o : Option Node). AreThere (ordinary_by o ++ flat_map (ordinary_at x) ids) (filter (ordinary f v) (a ∷ bs))) (sym (found id a there).1)
        (subst (λ (b : Bool). AreThere (cond b (n ∷ []) [] ++ flat_map (ordinary_at x) ids) (filter (ordinary f v) (a ∷ bs))) (sym (ordinary_same id a there))
        (by (ordinary f v a) n (is_there id a there) (along ids bs rest)))
      where
        by : (b : Bool) (n : Node) → IsThere n a → AreThere (flat_map (ordinary_at x) ids) (filter (ordinary f v) bs)
            → AreThere (cond b (n ∷ []) [] ++ flat_map (ordinary_at x) ids) (cond b (a ∷ filter (ordinary f v) bs) (filter (ordinary f v) bs))
        by true n h r = (h, r)
        by false n h r = r

    ordinaries_there : AreThere (ordinary_along x) (ordinary_entries f v)
    unfolding ordinary_along
    ordinaries_there = subst (AreThere (flat_map (ordinary_at x) x.order)) (ordinary_among root_there) (along x.order (kept_entries f v) told.order_is)

    pub files_counted : (tally_of (ordinary_along x)).files ≡ length (ordinary_files f v)
    unfolding tally_of ordinary_files
    files_counted = count_same (λ n. not n.directory) (λ a. not (is_kept_directory f v a)) (λ n a h. ap not h.directory) (ordinary_along x) (ordinary_entries f v) ordinaries_there

    pub directories_counted : (tally_of (ordinary_along x)).directories ≡ length (ordinary_directories f v)
    unfolding tally_of ordinary_directories
    directories_counted = count_same (λ n. n.directory) (is_kept_directory f v) (λ n a h. h.directory) (ordinary_along x) (ordinary_entries f v) ordinaries_there

    pub greatest_counted : (tally_of (ordinary_along x)).greatest_id ≡ greatest_id f v
    unfolding tally_of greatest_id
    greatest_counted = ap greatest (ids_same (ordinary_along x) (ordinary_entries f v) ordinaries_there)

    lengths_same : (ns : List Node) (bs : List Addr) → AreThere ns bs → length bs ≡ length ns
    lengths_same [] [] h = refl
    lengths_same [] (a ∷ bs) h = absurd h
    lengths_same (n ∷ ns) [] h = absurd h
    lengths_same (n ∷ ns) (a ∷ bs) h = ap suc (lengths_same ns bs h.1)

    pub all_counted : length (ordinary_entries f v) ≡ (tally_of (ordinary_along x)).files + (tally_of (ordinary_along x)).directories
    unfolding tally_of
    all_counted = lengths_same (ordinary_along x) (ordinary_entries f v) ordinaries_there ∙ parted (ordinary_along x)
      where
        parted : (ns : List Node) → length ns ≡ length (filter (λ n. not n.directory) ns) + length (filter (λ n. n.directory) ns)
        parted [] = refl
        parted (n ∷ ns) = by n.directory (parted ns)
          where
            by : (b : Bool) → length ns ≡ length (filter (λ m. not m.directory) ns) + length (filter (λ m. m.directory) ns)
                → suc (length ns) ≡ length (cond (not b) (n ∷ filter (λ m. not m.directory) ns) (filter (λ m. not m.directory) ns)) + length (cond b (n ∷ filter (λ m. m.directory) ns) (filter (λ m. m.directory) ns))
            by true rest = omega (arith, rest)
            by false rest = omega (arith, rest)
