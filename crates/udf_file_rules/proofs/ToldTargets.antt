-- What the code finds of the targets of a survey is what is found of the volume.
use Rattle.std.proofs.Common.{◌≡◌, ◌<◌, ℕ, suc, Bool, true, false, not, cond, ◌&&◌, ◌||◌, List, [], ◌∷◌, ◌++◌, map, length, nat_eq, Option, Some, None, refl, sym, ap, ◌∙◌, arith}
use Rattle.std.specs.Prelude.{◌-◌, ◌==◌, nat_lt, nat_le, is_none, is_some, find, get_or, slice_get, option_map, take, drop}
use Rattle.std.specs.List.{filter, flat_map, list_any}
use Rattle.std.proofs.lemmas.Bool.{and_from, and_parts, false≢true}
use Rattle.std.proofs.lemmas.Bool.Decides.{nat_tests}
use Rattle.std.proofs.lemmas.List.{map-append}
use Rattle.std.proofs.lemmas.Option.{same_Some, slice_get-map, get_or_from_slice_get}
use Rattle.udf_field.specs.declared.address.Addr.{Addr}
use Rattle.udf_file_model.specs.Entry.{Entry}
use Rattle.udf_file_model.specs.Fid.{is_live}
use Rattle.udf_file_model.specs.Listing.{Volume, is_placed}
use Rattle.udf_file_model.specs.Scan.{Placed, fids}
use Rattle.udf_tree_model.specs.Among.{Member}
use Rattle.udf_file_model.specs.Address.{same_addr}
use Rattle.udf_tree_model.specs.Chosen.{first_of_names, fit, fitted, is_lower, named, selected, selects}
use Rattle.udf_tree_model.specs.Content.{kept_content}
use Rattle.udf_tree_model.specs.Frame.{Frame, entry_at, holder_by, is_address, is_file_set, is_holder, links_of, node_by, places, setting_of, stream_of, tree_of}
use Rattle.udf_tree_model.specs.Kept.{kept}
use Rattle.udf_tree_model.specs.Laws.{HasSoundStarts}
use Rattle.udf_tree_model.specs.Link.{Link, fid_link, fid_links, is_pointer, pointer_link, pointer_links, target_of}
use Rattle.udf_tree_model.specs.Node as tree
use Rattle.udf_tree_model.specs.Node.{Setting, Tree, is_entry, node_at, node_or}
use Rattle.udf_tree_model.specs.Ordinary.{is_kept_entry, kept_entries}
use Rattle.udf_tree_model.specs.Stated.{IsFileSetPlaced}
use Rattle.udf_tree_model.specs.Won.{kept_length, kept_links}
use Rattle.udf_tree_model.proofs.Finding.{volume_within}
use Rattle.udf_tree_model.proofs.Keeping.{kept_start}
use Rattle.udf_tree_model.proofs.Linking.{first_of_names_member, fit_member}
use Rattle.udf_tree_model.proofs.Members.{any_from, any_gives, member_filter}
use Rattle.udf_tree_model.proofs.Places.{address_same, placed_among}
use Rattle.udf_volume.specs.declared.site.FileSet.{FileSet}
use Rattle.udf_volume_model.specs.Rules as model
use Rattle.udf_rules.specs.Findings.{finding_of}
use Rattle.udf_rules.specs.declared.finding.Finding.{Finding}
use Rattle.udf_rules_model.specs.FileRules.{fids_astray, has_target, is_selected, kept_holders, pointers_astray, target_finding, target_findings, targets_at, with_pointers}
use Rattle.udf_tree.specs.declared.judge.Verdict.{Verdict}
use Rattle.udf_tree.specs.declared.node.Node.{Node}
use Rattle.udf_tree.specs.declared.node.NodeId.{NodeId}
use Rattle.udf_tree.specs.declared.stated.Stated.{Stated}
use Rattle.udf_kept.specs.Entries.{HasFileSet}
use Rattle.udf_tree.specs.Judged.{is_sound_target, judged_all, judged_links, verdict}
use Rattle.udf_found.specs.Linked.{earliers}
use Rattle.udf_tree.specs.Nodes.{node_addresses}
use Rattle.udf_tree.specs.Stated.{stated_at, stated_by}
use Rattle.udf_tree.specs.Survey.{IsSurvey, View, named_by, pointed_from, system_from}
use Rattle.udf_dues.proofs.Ascending.{places_ascend}
use Rattle.udf_found.proofs.Beginning.{holder_start}
use Rattle.udf_tree.proofs.Placing.{earliers_long}
use Rattle.udf_contents.proofs.Ruling.{links_are}
use Rattle.udf_found.proofs.Seeing.{holder_address}
use Rattle.udf_file_rules.specs.SeenLinks as seen
use Rattle.udf_file_rules.proofs.Along.{along}
use Rattle.udf_file_rules.proofs.Entry.{entry_there}
use Rattle.udf_file_rules.proofs.Interleaving.{alone, high, low, none_filtered, parted}
use Rattle.udf_file_rules.proofs.LinkPlaces.{AreMarked, IsApart, kept_marked}
use Rattle.udf_file_rules.proofs.Told.{noted, node_there}

-- ---- FIDs after a pointer
abbrev AreFids : List Link → Type 0
AreFids [] = Unit {0}
AreFids (l ∷ ls) = ((l.place == 0) ≡ false) × ((is_pointer l.says ≡ false) × AreFids ls)

past_zero : (n : ℕ) → (suc n == 0) ≡ false
past_zero n = grind (arith, nat_tests)

made_fids : (ps : List Placed) → AreFids (map fid_link ps)
made_fids [] = tt
made_fids (p ∷ ps) = (past_zero p.0, (refl, made_fids ps))

are_fids : (size : ℕ) (content : List ℕ) → AreFids (fid_links size content)
unfolding fid_links
are_fids size content = made_fids (filter (λ p. is_live p.1) (fids size content))

fids_apart : (ls : List Link) → AreFids ls → IsApart 0 ls
fids_apart [] h = refl
fids_apart (l ∷ ls) h = ap (λ b. b || list_any (λ g. g.place == 0) ls) h.0 ∙ fids_apart ls h.1.1

apart_among : (n : ℕ) (xs ys : List Link) → ((l : Link) → Member l ys → Member l xs) → IsApart n xs → IsApart n ys
apart_among n xs ys among h = by (list_any (λ g. g.place == n) ys) refl
  where
    by : (b : Bool) → list_any (λ g. g.place == n) ys ≡ b → b ≡ false
    by false q = refl
    by true q =
        let r = any_gives (λ (g : Link). g.place == n) ys q in
        absurd (false≢true (sym h ∙ any_from (λ (g : Link). g.place == n) xs r.0 (among r.0 r.1) r.2))

no_pointers : (q : Link → Bool) (ls : List Link) → AreFids ls → filter (λ l. is_pointer l.says && q l) ls ≡ []
no_pointers q [] h = refl
no_pointers q (l ∷ ls) h = ap (λ b. cond (b && q l) (l ∷ filter (λ l. is_pointer l.says && q l) ls) (filter (λ l. is_pointer l.says && q l) ls)) h.1.0 ∙ no_pointers q ls h.1.1

none_found : (ls : List Link) → IsApart 0 ls → is_none (find (λ l. nat_eq l.place 0) ls) ≡ true
none_found [] h = refl
none_found (l ∷ ls) h = by (λ k. none_found ls k) (l.place == 0) refl h
  where
    by : (IsApart 0 ls → is_none (find (λ l. nat_eq l.place 0) ls) ≡ true) → (b : Bool) → (l.place == 0) ≡ b → (b || list_any (λ g. g.place == 0) ls) ≡ false
        → is_none (cond (nat_eq l.place 0) (Some l) (find (λ l. nat_eq l.place 0) ls)) ≡ true
    by rec true e k = absurd (false≢true (sym k))
    by rec false e k = ap (λ b. is_none (cond b (Some l) (find (λ l. nat_eq l.place 0) ls))) e ∙ rec k

-- ---- what is found of the links of a holder
module _ (s : Setting) (t : Tree) (a : Addr) where
  astray : Link → Bool
  astray l = not (is_pointer l.says) && not (has_target s t l)

  fid_told : (l : Link) (o : Option ℕ) → (l.place == 0) ≡ is_pointer l.says → seen.target_of a (l.place, verdict s t a l.place (target_of l.says) o) ≡ map finding_of (cond (astray l) (target_finding a l ∷ []) [])
  unfolding seen.target_of is_sound_target astray
  fid_told l o e = ap (λ b. cond (b || has_target s t l) [] (finding_of (target_finding a l) ∷ [])) e ∙ by (is_pointer l.says) (has_target s t l)
    where
      by : (p b : Bool) → cond (p || b) [] (finding_of (target_finding a l) ∷ []) ≡ map finding_of (cond (not p && not b) (target_finding a l ∷ []) [])
      by true b = refl
      by false true = refl
      by false false = refl

  joined : (l : Link) (ls : List Link) (b : Bool) → map finding_of (cond b (target_finding a l ∷ []) []) ++ map finding_of (map (target_finding a) (filter astray ls)) ≡ map finding_of (map (target_finding a) (cond b (l ∷ filter astray ls) (filter astray ls)))
  joined l ls true = refl
  joined l ls false = refl

  fids_told : (fs : List Link) (os : List (Option ℕ)) → length os ≡ length fs → AreMarked fs → flat_map (seen.target_of a) (judged_all s t a fs os) ≡ map finding_of (map (target_finding a) (filter astray fs))
  fids_told [] os n m = refl
  fids_told (l ∷ ls) [] n m = absurd (omega (arith, n))
  fids_told (l ∷ ls) (o ∷ os) n m =
      ap (λ (xs : List Finding). xs ++ flat_map (seen.target_of a) (judged_all s t a ls os)) (fid_told l o m.0)
      ∙ ap (λ (xs : List Finding). map finding_of (cond (astray l) (target_finding a l ∷ []) []) ++ xs) (fids_told ls os (omega (arith, n)) m.1)
      ∙ joined l ls (astray l)

  links_told : AreMarked (kept_links s t a) → flat_map (seen.target_of a) (judged_all s t a (kept_links s t a) (earliers (kept_links s t a))) ≡ map finding_of (map (target_finding a) (fids_astray s t a))
  unfolding fids_astray astray
  links_told m = fids_told (kept_links s t a) (earliers (kept_links s t a)) (earliers_long [] (kept_links s t a)) m

  -- a pointer takes no room and has a name of its own: it is fitted where it is selected
  module _ (b : Addr) (ls : List Link) (are : AreFids ls) (is : kept_links s t a ≡ pointer_link b ∷ ls) where
    more : List Link
    more = filter (selects s t a) (first_of_names ([] ∷ []) ls)

    selected_is : selected s t a ≡ cond (selects s t a (pointer_link b)) (pointer_link b ∷ more) more
    unfolding selected named first_of_names more
    selected_is = ap (λ (fs : List Link). filter (selects s t a) (first_of_names [] fs)) is

    more_apart : IsApart 0 more
    unfolding more
    more_apart = apart_among 0 ls more (λ l m. first_of_names_member ([] ∷ []) ls l (member_filter (selects s t a) (first_of_names ([] ∷ []) ls) l m).0) (fids_apart ls are)

    room_for : (n : ℕ) → nat_le 0 n ≡ true
    room_for n = grind (arith, nat_tests)

    two_ways : (n : ℕ) (c : Bool) → is_none (find (λ l. nat_eq l.place 0) (fit n (cond c (pointer_link b ∷ more) more))) ≡ not (list_any (λ g. g.place == 0) (cond c (pointer_link b ∷ more) more))
    unfolding fit
    two_ways n true = ap (λ z. is_none (find (λ l. nat_eq l.place 0) (cond z (pointer_link b ∷ fit (n - 0) more) []))) (room_for n)
    two_ways n false = none_found (fit n more) (apart_among 0 more (fit n more) (fit_member n more) more_apart) ∙ sym (ap not more_apart)

    fitted_is : is_none (find (λ l. nat_eq l.place 0) (fitted s t a)) ≡ not (is_selected s t a (pointer_link b))
    unfolding fitted
    fitted_is =
        ap (λ (fs : List Link). is_none (find (λ l. nat_eq l.place 0) (fit ((node_at t a).space (kept_length s t a)) fs))) selected_is
        ∙ two_ways ((node_at t a).space (kept_length s t a)) (selects s t a (pointer_link b))
        ∙ sym (ap (λ (fs : List Link). not (list_any (λ g. g.place == 0) fs)) selected_is)

    pointers_are : pointers_astray s t a ≡ cond (not (is_selected s t a (pointer_link b))) (pointer_link b ∷ []) []
    unfolding pointers_astray
    pointers_are =
        ap (filter (λ l. is_pointer l.says && not (is_selected s t a l))) is
        ∙ ap (λ (fs : List Link). cond (not (is_selected s t a (pointer_link b))) (pointer_link b ∷ fs) fs) (no_pointers (λ l. not (is_selected s t a l)) ls are)

  pointer_told : (o : Option Addr) (ls : List Link) (p : Option NodeId) → AreFids ls → kept_links s t a ≡ pointer_links o ++ ls → is_none p ≡ is_none (find (λ l. nat_eq l.place 0) (fitted s t a))
      → seen.pointer_of a o p ≡ map finding_of (map (target_finding a) (pointers_astray s t a))
  unfolding pointers_astray
  pointer_told None ls p are is e = sym (ap (λ fs. map finding_of (map (target_finding a) fs)) (ap (filter (λ l. is_pointer l.says && not (is_selected s t a l))) is ∙ no_pointers (λ l. not (is_selected s t a l)) ls are))
  pointer_told (Some b) ls p are is e =
      by p
      ∙ ap (λ z. map finding_of (map (target_finding a) (cond z (pointer_link b ∷ []) []))) (e ∙ fitted_is b ls are is)
      ∙ sym (ap (λ fs. map finding_of (map (target_finding a) fs)) (pointers_are b ls are is))
    where
      by : (p : Option NodeId) → seen.pointer_of a (Some b) p ≡ map finding_of (map (target_finding a) (cond (is_none p) (pointer_link b ∷ []) []))
      by None = refl
      by (Some id) = refl

-- ---- a pointer among FIDs
pointer_among : (ps fs : List model.Finding) → seen.with_pointers (map finding_of ps) (map finding_of fs) ≡ map finding_of (with_pointers ps fs)
pointer_among [] fs = refl
pointer_among (p ∷ ps) [] = refl
pointer_among (p ∷ ps) (g ∷ gs) = by ((g.first == 0) && nat_lt g.second p.second)
  where
    by : (b : Bool) → take (cond b 1 0) (finding_of g ∷ map finding_of gs) ++ finding_of p ∷ drop (cond b 1 0) (finding_of g ∷ map finding_of gs) ≡ map finding_of (cond b (g ∷ p ∷ gs) (p ∷ g ∷ gs))
    by true = refl
    by false = refl

nothing_beside : (a : Addr) (o : Option Addr) (p : Option NodeId) → seen.with_pointers (seen.pointer_of a o p) [] ≡ seen.pointer_of a o p
nothing_beside a None p = refl
nothing_beside a (Some b) None = refl
nothing_beside a (Some b) (Some id) = refl

named_none : (numbers : List Addr) (q : Option NodeId) (o : Option Addr) → named_by numbers q ≡ option_map Some o → is_none q ≡ is_none o
named_none numbers None None e = refl
named_none numbers None (Some b) e = cc
named_none numbers (Some id) None e = cc
named_none numbers (Some id) (Some b) e = refl

mapped_none : (o : Option Link) → is_none (option_map (λ l. target_of l.says) o) ≡ is_none o
mapped_none None = refl
mapped_none (Some l) = refl

module _ (f : Frame) (v : Volume) where
  -- of the links of an entry
  entry_links : (a : Addr) → AreMarked (kept_links (setting_of f v) (tree_of f v) a) → (o : Option Addr) (ls : List Link) (p : Option NodeId) → AreFids ls
      → kept_links (setting_of f v) (tree_of f v) a ≡ pointer_links o ++ ls → is_none p ≡ is_none (pointed_from f v a)
      → seen.with_pointers (seen.pointer_of a o p) (seen.targets_of a (judged_links f v a)) ≡ map finding_of (targets_at f v a)
  unfolding judged_links pointed_from targets_at
  entry_links a m o ls p are is e =
      ap (λ (ps : List Finding). seen.with_pointers ps (seen.targets_of a (judged_links f v a)))
      (pointer_told (setting_of f v) (tree_of f v) a o ls p are is (e ∙ mapped_none (find (λ l. nat_eq l.place 0) (fitted (setting_of f v) (tree_of f v) a))))
      ∙ ap (λ (fs : List Finding). seen.with_pointers (map finding_of (map (target_finding a) (pointers_astray (setting_of f v) (tree_of f v) a))) fs) (links_told (setting_of f v) (tree_of f v) a m)
      ∙ pointer_among (map (target_finding a) (pointers_astray (setting_of f v) (tree_of f v) a)) (map (target_finding a) (fids_astray (setting_of f v) (tree_of f v) a))

  holder_there : (target : Addr) → f.system ≡ Some target → is_holder f v f.file_set ≡ true → kept_links (setting_of f v) (tree_of f v) f.file_set ≡ pointer_link target ∷ []
  unfolding kept_links node_at tree_of is_holder
  holder_there target named h =
      ap (λ (o : Option tree.Node). (node_or o).links (kept_length (setting_of f v) (tree_of f v) f.file_set))
      (ap (λ (o : Option Addr). holder_by o (is_file_set f v f.file_set) (node_by f v f.file_set (entry_at v f.file_set))) named
      ∙ ap (λ b. holder_by (Some target) b (node_by f v f.file_set (entry_at v f.file_set))) (and_parts (is_some f.system) (is_file_set f v f.file_set) h).1)

  -- of the file set, where it holds a pointer
  holder_told : (target : Addr) (p : Option NodeId) → f.system ≡ Some target → is_holder f v f.file_set ≡ true → is_none p ≡ is_none (pointed_from f v f.file_set)
      → seen.pointer_of f.file_set (Some target) p ≡ map finding_of (targets_at f v f.file_set)
  unfolding pointed_from targets_at fids_astray
  holder_told target p named h e =
      let is = holder_there target named h in
      let a = f.file_set in
      sym (nothing_beside a (Some target) p)
      ∙ ap (λ (ps : List Finding). seen.with_pointers ps [])
      (pointer_told (setting_of f v) (tree_of f v) a (Some target) [] p tt is (e ∙ mapped_none (find (λ l. nat_eq l.place 0) (fitted (setting_of f v) (tree_of f v) a))))
      ∙ pointer_among (map (target_finding a) (pointers_astray (setting_of f v) (tree_of f v) a)) []
      ∙ sym (ap (λ (fs : List Link). map finding_of (with_pointers (map (target_finding a) (pointers_astray (setting_of f v) (tree_of f v) a))
      (map (target_finding a) (filter (λ l. not (is_pointer l.says) && not (has_target (setting_of f v) (tree_of f v) l)) fs)))) is)

  module _ (x : View) (some : 0 < v.size) (starts : HasSoundStarts (setting_of f v) (tree_of f v)) (told : IsSurvey f v x) where
    kept_pointer : (id : NodeId) (n : Node) → slice_get x.nodes id.0 ≡ Some n → is_none (get_or x.pointers id.0 None) ≡ is_none (pointed_from f v n.at)
    kept_pointer id n h = by (slice_get x.pointers id.0) refl there
      where
        there : option_map (named_by (node_addresses x.nodes)) (slice_get x.pointers id.0) ≡ Some (option_map Some (pointed_from f v n.at))
        there =
            sym (slice_get-map (named_by (node_addresses x.nodes)) x.pointers id.0)
            ∙ noted (λ (n : Node). option_map Some (pointed_from f v n.at)) x.nodes (map (named_by (node_addresses x.nodes)) x.pointers) id n told.pointers_are h

        by : (q : Option (Option NodeId)) → slice_get x.pointers id.0 ≡ q → option_map (named_by (node_addresses x.nodes)) q ≡ Some (option_map Some (pointed_from f v n.at))
            → is_none (get_or x.pointers id.0 None) ≡ is_none (pointed_from f v n.at)
        by None k e = absurd (cc)
        by (Some p) k e =
            ap (λ (o : Option NodeId). is_none o) (get_or_from_slice_get x.pointers id.0 p None k)
            ∙ named_none (node_addresses x.nodes) p (pointed_from f v n.at) (same_Some (named_by (node_addresses x.nodes) p) (option_map Some (pointed_from f v n.at)) e)

    entry_told : (id : NodeId) (n : Node) → slice_get x.nodes id.0 ≡ Some n → seen.targets_at x id ≡ map finding_of (targets_at f v n.at)
    unfolding stated_at links_of
    entry_told id n h =
        let is = node_there f v x some starts told id n h in
        let t = entry_there f v starts n.at is.kept_is in
        let p = get_or x.pointers id.0 None in
        ap (λ (o : Option Node). seen.targets_by o (slice_get x.stated id.0) p (slice_get x.verdicts id.0)) h
        ∙ ap (λ (o : Option Stated). seen.targets_by (Some n) o p (slice_get x.verdicts id.0)) (noted (λ n. stated_at v n.at) x.nodes x.stated id n told.stated_are h)
        ∙ ap (λ (o : Option (List (ℕ × Verdict))). seen.targets_by (Some n) (Some (stated_at v n.at)) p o) (noted (λ n. judged_links f v n.at) x.nodes x.verdicts id n told.links_are h)
        ∙ ap (λ (o : Option Entry). seen.with_pointers (seen.pointer_of n.at (stated_by o).pointer p) (seen.targets_of n.at (judged_links f v n.at))) t.1.1
        ∙ entry_links n.at (kept_marked f v n.at t.1.0 t.1.1 t.0) (stream_of t.1.0.stream) (fid_links v.size (kept_content f v n.at)) p (are_fids v.size (kept_content f v n.at))
        (links_are f v n.at t.1.0 t.1.1 t.0) (kept_pointer id n h)

    below_same : (m : Addr) (id : NodeId) (n : Node) → slice_get x.nodes id.0 ≡ Some n → seen.targets_below x m id ≡ map finding_of (low (targets_at f v) m n.at)
    below_same m id n h =
        ap (λ (o : Option Node). cond (seen.is_below_by m o) (seen.targets_at x id) []) h
        ∙ ap (λ (l : List Finding). cond (is_lower n.at m) l []) (entry_told id n h)
        ∙ by (is_lower n.at m)
      where
        by : (b : Bool) → cond b (map finding_of (targets_at f v n.at)) [] ≡ map finding_of (cond b (targets_at f v n.at) [])
        by true = refl
        by false = refl

    above_same : (m : Addr) (id : NodeId) (n : Node) → slice_get x.nodes id.0 ≡ Some n → seen.targets_above x m id ≡ map finding_of (high (targets_at f v) m n.at)
    above_same m id n h =
        ap (λ (o : Option Node). cond (seen.is_below_by m o) [] (seen.targets_at x id)) h
        ∙ ap (λ (l : List Finding). cond (is_lower n.at m) [] l) (entry_told id n h)
        ∙ by (is_lower n.at m)
      where
        by : (b : Bool) → cond b [] (map finding_of (targets_at f v n.at)) ≡ map finding_of (cond b [] (targets_at f v n.at))
        by true = refl
        by false = refl

    module _ (set_placed : IsFileSetPlaced f v) where
      holders : List Addr
      holders = filter (λ a. kept (setting_of f v) (tree_of f v) a && is_holder f v a) (places v)

      never : (o : Option Addr) → f.system ≡ o → is_some o ≡ false → (a : Addr) → is_holder f v a ≡ false
      unfolding is_holder
      never o e none a = ap (λ b. b && is_file_set f v a) (ap (λ (o : Option Addr). is_some o) e ∙ none)

      falls : (b : Bool) → (b && false) ≡ false
      falls true = refl
      falls false = refl

      here : (target : Addr) → f.system ≡ Some target → is_holder f v f.file_set ≡ true
      unfolding is_holder
      here target e =
          let named : is_some f.system ≡ true = ap (λ (o : Option Addr). is_some o) e in
          let p = set_placed named in
          and_from (is_some f.system) (is_file_set f v f.file_set) named
          (and_from (same_addr f.file_set f.file_set) (is_address f.file_set && is_placed v f.file_set) (address_same f.file_set f.file_set refl) (and_from (is_address f.file_set) (is_placed v f.file_set) p.0 p.1))

      held : (target : Addr) → f.system ≡ Some target → holders ≡ f.file_set ∷ []
      unfolding holders setting_of
      held target e =
          let named : is_some f.system ≡ true = ap (λ (o : Option Addr). is_some o) e in
          let p = set_placed named in
          alone (λ a. kept (setting_of f v) (tree_of f v) a && is_holder f v a) f.file_set
          (λ a t. holder_address f v a (and_parts (kept (setting_of f v) (tree_of f v) a) (is_holder f v a) t).1)
          (and_from (kept (setting_of f v) (tree_of f v) f.file_set) (is_holder f v f.file_set)
          (kept_start (setting_of f v) (tree_of f v) (volume_within f v) starts f.file_set (holder_start f v f.file_set (here target e)).0) (here target e))
          (places v) (places_ascend v) (placed_among v f.file_set p.0 p.1)

      append_nil : {A : Type 0} (l : List A) → l ++ [] ≡ l
      append_nil [] = refl
      append_nil (y ∷ l) = ap (λ (r : List _). y ∷ r) (append_nil l)

      system_pointer : (target : Addr) → f.system ≡ Some target → is_none x.system ≡ is_none (pointed_from f v f.file_set)
      unfolding system_from
      system_pointer target e =
          named_none (node_addresses x.nodes) x.system (system_from f v) told.system_is
          ∙ ap (λ b. is_none (cond b (pointed_from f v f.file_set) None)) (here target e)

      system_told : seen.pointer_of f.file_set f.system x.system ≡ map finding_of (flat_map (targets_at f v) holders)
      unfolding holders
      system_told = by f.system refl
        where
          by : (o : Option Addr) → f.system ≡ o → seen.pointer_of f.file_set o x.system ≡ map finding_of (flat_map (targets_at f v) holders)
          by None e =
              sym (ap (λ (ys : List Addr). map finding_of (flat_map (targets_at f v) ys)) (none_filtered (λ a. kept (setting_of f v) (tree_of f v) a && is_holder f v a) (places v)
              (λ a m. ap (λ b. kept (setting_of f v) (tree_of f v) a && b) (never None e refl a) ∙ falls (kept (setting_of f v) (tree_of f v) a))))
          by (Some target) e =
              holder_told target x.system e (here target e) (system_pointer target e)
              ∙ ap (map finding_of) (sym (append_nil (targets_at f v f.file_set)))
              ∙ sym (ap (λ (ys : List Addr). map finding_of (flat_map (targets_at f v) ys)) (held target e))

      pub targets_all : seen.targets_along x f.file_set f.system ≡ map finding_of (target_findings f v)
      unfolding seen.targets_along target_findings kept_holders holders kept_entries is_kept_entry
      targets_all =
          let m = f.file_set in
          ap (λ (l : List Finding). l ++ (seen.pointer_of m f.system x.system ++ flat_map (seen.targets_above x m) x.order))
          (along x.nodes (seen.targets_below x m) (low (targets_at f v) m) (below_same m) x.order (kept_entries f v) told.order_is)
          ∙ ap (λ (l : List Finding). map finding_of (flat_map (low (targets_at f v) m) (kept_entries f v)) ++ (l ++ flat_map (seen.targets_above x m) x.order)) system_told
          ∙ ap (λ (l : List Finding). map finding_of (flat_map (low (targets_at f v) m) (kept_entries f v)) ++ (map finding_of (flat_map (targets_at f v) holders) ++ l))
          (along x.nodes (seen.targets_above x m) (high (targets_at f v) m) (above_same m) x.order (kept_entries f v) told.order_is)
          ∙ ap (λ (l : List Finding). map finding_of (flat_map (low (targets_at f v) m) (kept_entries f v)) ++ l)
          (sym (map-append finding_of (flat_map (targets_at f v) holders) (flat_map (high (targets_at f v) m) (kept_entries f v))))
          ∙ sym (map-append finding_of (flat_map (low (targets_at f v) m) (kept_entries f v)) (flat_map (targets_at f v) holders ++ flat_map (high (targets_at f v) m) (kept_entries f v)))
          ∙ ap (map finding_of) (sym (parted (targets_at f v) m (kept (setting_of f v) (tree_of f v)) (is_holder f v) (holder_address f v) (places v) (places_ascend v)))

      pub targets_told : (files : FileSet) → HasFileSet f files → seen.targets_along x files.at files.system ≡ map finding_of (target_findings f v)
      targets_told files set =
          ap (λ (a : Addr). seen.targets_along x a files.system) (sym set.file_set) ∙ ap (λ (o : Option Addr). seen.targets_along x f.file_set o) (sym set.system) ∙ targets_all
