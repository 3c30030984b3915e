-- What the code finds of the names and links of a survey is what is found of the volume.
use Rattle.std.proofs.Common.{◌≡◌, ◌<◌, ℕ, Bool, true, false, not, cond, ◌&&◌, ◌||◌, List, [], ◌∷◌, ◌++◌, map, Option, Some, None, refl, sym, ap, ◌∙◌, subst}
use Rattle.std.specs.Prelude.{◌-◌, ◌==◌, is_none, unwrap_or, find, slice_get}
use Rattle.std.specs.List.{filter, flat_map, list_any}
use Rattle.std.specs.Str.{bytes_eq}
use Rattle.std.proofs.lemmas.Bool.{and_parts, false≢true}
use Rattle.std.proofs.lemmas.List.{append_assoc}
use Rattle.std.proofs.lemmas.Option.{same_Some}
use Rattle.udf_field.specs.declared.address.Addr.{Addr}
use Rattle.udf_file_model.specs.Listing.{Volume}
use Rattle.udf_tree_model.specs.Chosen.{Rank, chosen, first_of_names, is_rank, named}
use Rattle.udf_tree_model.specs.Counts.{is_directory_by, is_kept_directory, kept_directories}
use Rattle.udf_tree_model.specs.Found.{found}
use Rattle.udf_tree_model.specs.Frame.{Frame, entry_at, is_holder, places as placed, setting_of, tree_of}
use Rattle.udf_tree_model.specs.Kept.{kept}
use Rattle.udf_tree_model.specs.Laws.{HasSoundStarts}
use Rattle.udf_tree_model.specs.Link.{Link, is_pointer, name_of, target_of}
use Rattle.udf_tree_model.specs.Node.{Setting, Tree}
use Rattle.udf_tree_model.specs.Ordinary.{is_kept_entry, kept_entries}
use Rattle.udf_tree_model.specs.Rules.{is_directory_entry, is_named}
use Rattle.udf_tree_model.specs.Won.{kept_links, sound}
use Rattle.udf_tree_model.proofs.Linking.{Distinct, first_of_names_member, name_same, same_name}
use Rattle.udf_tree_model.proofs.Members.{any_from, any_gives, same_bools}
use Rattle.udf_rules.specs.Findings.{finding_of}
use Rattle.udf_rules.specs.declared.finding.Finding.{Finding}
use Rattle.udf_rules_model.specs.FileRules.{first_of_name, is_lawful_link, name_finding, name_findings, names_at, offset_by}
use Rattle.udf_rules_model.specs.Found.{found_at}
use Rattle.udf_tree.specs.declared.judge.Verdict.{Verdict}
use Rattle.udf_tree.specs.declared.node.Node.{Node}
use Rattle.udf_tree.specs.declared.node.NodeId.{NodeId}
use Rattle.udf_found.specs.Beyond.{HoldsFileSet}
use Rattle.udf_tree.specs.Judged.{is_lawful_target, judged_all, judged_links, verdict}
use Rattle.udf_found.specs.Linked.{earliers_after, first_with}
use Rattle.udf_kept.specs.Selects.{is_rank_at}
use Rattle.udf_tree.specs.Survey.{IsSurvey, View}
use Rattle.udf_tree.proofs.Enrolling.{entry_kept}
use Rattle.udf_contents.proofs.Ruling.{places}
use Rattle.udf_found.proofs.Seeing.{file_set_plain, holder_address}
use Rattle.udf_file_rules.specs.Seen.{seen_at}
use Rattle.udf_file_rules.specs.SeenLinks as seen
use Rattle.udf_file_rules.proofs.Along.{along, guarded, narrowed}
use Rattle.udf_file_rules.proofs.Entry.{entry_there}
use Rattle.udf_file_rules.proofs.LinkPlaces.{AreMarked, IsApart, apart_at, kept_differ, kept_marked, same_place}
use Rattle.udf_file_rules.proofs.Ordinaries.{directory_is}
use Rattle.udf_file_rules.proofs.Told.{noted, node_there}

-- ---- the first of a name
-- none of some links is the first of its name where none has the place
absent : (seen : List (List ℕ)) (fs : List Link) (n : ℕ) → IsApart n fs → IsApart n (first_of_names seen fs)
absent seen fs n h = by (list_any (λ g. g.place == n) (first_of_names seen fs)) refl
  where
    by : (b : Bool) → list_any (λ g. g.place == n) (first_of_names seen fs) ≡ b → b ≡ false
    by false q = refl
    by true q =
        let r = any_gives (λ (g : Link). g.place == n) (first_of_names seen fs) q in
        absurd (false≢true (sym h ∙ any_from (λ (g : Link). g.place == n) fs r.0 (first_of_names_member seen fs r.0 r.1) r.2))

neither : (a b : Bool) → (a || b) ≡ false → (a ≡ false) × (b ≡ false)
neither true b h = absurd (false≢true (sym h))
neither false b h = (refl, h)

falls : (b : Bool) → (b && false) ≡ false
falls true = refl
falls false = refl

-- a link is the first of its name where no link before has it
first_at : (seen : List (List ℕ)) (before : List Link) (l : Link) (after : List Link) → IsApart l.place before → IsApart l.place after
    → list_any (λ g. g.place == l.place) (first_of_names seen (before ++ l ∷ after)) ≡ (not (list_any (bytes_eq (name_of l.says)) seen) && is_none (first_with (name_of l.says) before))
unfolding first_of_names first_with
first_at seen [] l after ha hb = by (list_any (bytes_eq (name_of l.says)) seen)
  where
    by : (b : Bool) → list_any (λ g. g.place == l.place) (cond b (first_of_names seen after) (l ∷ first_of_names (name_of l.says ∷ seen) after)) ≡ (not b && true)
    by true = absent seen after l.place hb
    by false = ap (λ x. x || list_any (λ g. g.place == l.place) (first_of_names (name_of l.says ∷ seen) after)) (same_place l.place)
first_at seen (g ∷ gs) l after ha hb =
    by (first_at seen gs l after p.1 hb) (first_at (name_of g.says ∷ seen) gs l after p.1 hb) (list_any (bytes_eq (name_of g.says)) seen) refl
  where
    p : ((g.place == l.place) ≡ false) × IsApart l.place gs
    p = neither (g.place == l.place) (list_any (λ h. h.place == l.place) gs) ha

    n : List ℕ
    n = name_of l.says

    came : Bool
    came = list_any (bytes_eq n) seen

    later : Option ℕ
    later = first_with n gs

    again : (c : Bool) → bytes_eq n (name_of g.says) ≡ c → list_any (bytes_eq (name_of g.says)) seen ≡ true
        → (not came && is_none later) ≡ (not came && is_none (cond c (Some (g.place - 1)) later))
    again false e q = refl
    again true e q =
        let known : came ≡ true = ap (λ (m : List ℕ). list_any (bytes_eq m) seen) (name_same n (name_of g.says) e) ∙ q in
        ap (λ b. not b && is_none later) known ∙ sym (falls (not came))

    new : (c : Bool) → (not (c || came) && is_none later) ≡ (not came && is_none (cond c (Some (g.place - 1)) later))
    new true = sym (falls (not came))
    new false = refl

    by : list_any (λ h. h.place == l.place) (first_of_names seen (gs ++ l ∷ after)) ≡ (not came && is_none later)
        → list_any (λ h. h.place == l.place) (first_of_names (name_of g.says ∷ seen) (gs ++ l ∷ after)) ≡ (not (bytes_eq n (name_of g.says) || came) && is_none later)
        → (b : Bool) → list_any (bytes_eq (name_of g.says)) seen ≡ b
        → list_any (λ h. h.place == l.place) (cond b (first_of_names seen (gs ++ l ∷ after)) (g ∷ first_of_names (name_of g.says ∷ seen) (gs ++ l ∷ after)))
        ≡ (not came && is_none (cond (bytes_eq n (name_of g.says)) (Some (g.place - 1)) later))
    by i j true q = i ∙ again (bytes_eq n (name_of g.says)) refl q
    by i j false q =
        ap (λ x. x || list_any (λ h. h.place == l.place) (first_of_names (name_of g.says ∷ seen) (gs ++ l ∷ after))) p.0 ∙ j ∙ new (bytes_eq n (name_of g.says))

turned : (m n : List ℕ) → bytes_eq m n ≡ bytes_eq n m
turned m n = same_bools (bytes_eq m n) (bytes_eq n m) (λ h. same_name n m (sym (name_same m n h))) (λ h. same_name m n (sym (name_same n m h)))

-- where the first of a name stands before a link, it is the first of all
first_before : (n : List ℕ) (before rest : List Link) (x : ℕ) → first_with n before ≡ Some x → offset_by (find (λ g. bytes_eq (name_of g.says) n) (before ++ rest)) ≡ x
unfolding first_with
first_before n [] rest x h = absurd (cc)
first_before n (g ∷ gs) rest x h =
    ap (λ b. offset_by (cond b (Some g) (find (λ k. bytes_eq (name_of k.says) n) (gs ++ rest)))) (turned (name_of g.says) n)
    ∙ by (λ e. first_before n gs rest x e) (bytes_eq n (name_of g.says)) h
  where
    by : (first_with n gs ≡ Some x → offset_by (find (λ k. bytes_eq (name_of k.says) n) (gs ++ rest)) ≡ x) → (c : Bool) → cond c (Some (g.place - 1)) (first_with n gs) ≡ Some x
        → offset_by (cond c (Some g) (find (λ k. bytes_eq (name_of k.says) n) (gs ++ rest))) ≡ x
    by rec true e = same_Some (g.place - 1) x e
    by rec false e = rec e

-- ---- what is found of the links of a kept directory
module _ (s : Setting) (t : Tree) (d : Addr) where
  same_rank : (l : Link) (o : Option Rank) → is_rank_at d l.place o ≡ is_rank d l o
  same_rank l None = refl
  same_rank l (Some x) = refl

  lawful : Link → Bool
  lawful l =
      not (found s t (target_of l.says) && is_directory_entry s t (target_of l.says))
      || (sound s t (target_of l.says) && (not (s.start (target_of l.says)) && is_rank d l (chosen s t (target_of l.says))))

  lawful_is : (l : Link) → is_lawful_target s t d l.place (target_of l.says) ≡ lawful l
  unfolding is_lawful_target lawful
  lawful_is l =
      ap (λ b. not (found s t (target_of l.says) && is_directory_entry s t (target_of l.says)) || (sound s t (target_of l.says) && (not (s.start (target_of l.says)) && b)))
      (same_rank l (chosen s t (target_of l.says)))

  unlawful : Link → Bool
  unlawful l = not (is_pointer l.says) && not (is_lawful_link s t d l)

  module _ (before : List Link) (l : Link) (after : List Link) (is : kept_links s t d ≡ before ++ l ∷ after) (marked : (l.place == 0) ≡ is_pointer l.says) (apart : IsApart l.place before × IsApart l.place after) where
    earlier : Option ℕ
    earlier = first_with (name_of l.says) before

    named_is : is_none earlier ≡ is_named s t d l
    unfolding named earlier
    named_is = sym (ap (λ (fs : List Link). list_any (λ g. g.place == l.place) (first_of_names [] fs)) is ∙ first_at [] before l after apart.0 apart.1)

    second_is : unwrap_or earlier 0 ≡ cond (is_named s t d l) 0 (first_of_name (kept_links s t d) l)
    unfolding first_of_name earlier
    second_is = by earlier refl ∙ ap (λ b. cond b 0 (first_of_name (kept_links s t d) l)) named_is
      where
        by : (o : Option ℕ) → earlier ≡ o → unwrap_or o 0 ≡ cond (is_none o) 0 (first_of_name (kept_links s t d) l)
        by None e = refl
        by (Some x) e = sym (ap (λ (fs : List Link). offset_by (find (λ g. bytes_eq (name_of g.says) (name_of l.says)) fs)) is ∙ first_before (name_of l.says) before (l ∷ after) x e)

    told : (pointer lawful : Bool) (n : ℕ) → cond (pointer || lawful) [] (seen_at 9 d (l.place - 1) n ∷ []) ≡ map finding_of (cond (not pointer && not lawful) (found_at 9 d (l.place - 1) n ∷ []) [])
    told true b n = refl
    told false true n = refl
    told false false n = refl

    link_told : seen.name_of d (l.place, verdict s t d l.place (target_of l.says) earlier) ≡ map finding_of (cond (unlawful l) (name_finding s t d l ∷ []) [])
    unfolding seen.name_of unlawful lawful
    link_told =
        ap (λ b. cond (b || (is_none earlier && is_lawful_target s t d l.place (target_of l.says))) [] (seen_at 9 d (l.place - 1) (unwrap_or earlier 0) ∷ [])) marked
        ∙ ap (λ b. cond (is_pointer l.says || (b && is_lawful_target s t d l.place (target_of l.says))) [] (seen_at 9 d (l.place - 1) (unwrap_or earlier 0) ∷ [])) named_is
        ∙ ap (λ b. cond (is_pointer l.says || (is_named s t d l && b)) [] (seen_at 9 d (l.place - 1) (unwrap_or earlier 0) ∷ [])) (lawful_is l)
        ∙ ap (λ (n : ℕ). cond (is_pointer l.says || is_lawful_link s t d l) [] (seen_at 9 d (l.place - 1) n ∷ [])) second_is
        ∙ told (is_pointer l.says) (is_lawful_link s t d l) (cond (is_named s t d l) 0 (first_of_name (kept_links s t d) l))

  joined : (l : Link) (ls : List Link) (b : Bool) → map finding_of (cond b (name_finding s t d l ∷ []) []) ++ map finding_of (map (name_finding s t d) (filter unlawful ls))
      ≡ map finding_of (map (name_finding s t d) (cond b (l ∷ filter unlawful ls) (filter unlawful ls)))
  joined l ls true = refl
  joined l ls false = refl

  links_told : (before fs : List Link) → kept_links s t d ≡ before ++ fs → AreMarked fs → Distinct (places (kept_links s t d))
      → flat_map (seen.name_of d) (judged_all s t d fs (earliers_after before fs)) ≡ map finding_of (map (name_finding s t d) (filter unlawful fs))
  unfolding earliers_after earlier
  links_told before [] is m a = refl
  links_told before (l ∷ ls) is m a =
      ap (λ (xs : List Finding). xs ++ flat_map (seen.name_of d) (judged_all s t d ls (earliers_after (before ++ l ∷ []) ls)))
      (link_told before l ls is m.0 (apart_at before l ls (subst (λ (fs : List Link). Distinct (places fs)) is a)))
      ∙ ap (λ (xs : List Finding). map finding_of (cond (unlawful l) (name_finding s t d l ∷ []) []) ++ xs) (links_told (before ++ l ∷ []) ls (is ∙ sym (append_assoc before (l ∷ []) ls)) m.1 a)
      ∙ joined l ls (unlawful l)

  directory_told : AreMarked (kept_links s t d) → Distinct (places (kept_links s t d))
      → flat_map (seen.name_of d) (judged_all s t d (kept_links s t d) (earliers_after [] (kept_links s t d))) ≡ map finding_of (names_at s t d)
  unfolding names_at unlawful
  directory_told m a = links_told [] (kept_links s t d) refl m a

module _ (f : Frame) (v : Volume) (x : View) (some : 0 < v.size) (starts : HasSoundStarts (setting_of f v) (tree_of f v)) (set : HoldsFileSet f v) (told : IsSurvey f v x) where
  -- a kept directory is a kept entry
  directory_kept : (a : Addr) → is_kept_directory f v a ≡ true → is_kept_entry f v a ≡ true
  directory_kept a h = let p = and_parts (kept (setting_of f v) (tree_of f v) a) (is_directory_by (entry_at v a)) h in entry_kept f v a p.0 (by (is_holder f v a) refl p.1)
    where
      by : (b : Bool) → is_holder f v a ≡ b → is_directory_by (entry_at v a) ≡ true → is_holder f v a ≡ false
      by false q e = q
      by true q e = absurd (false≢true (sym (ap is_directory_by (ap (entry_at v) (holder_address f v a q) ∙ (file_set_plain f v set).0)) ∙ e))

  names_same : (id : NodeId) (n : Node) → slice_get x.nodes id.0 ≡ Some n
      → seen.names_at x id ≡ map finding_of (cond (is_kept_directory f v n.at) (names_at (setting_of f v) (tree_of f v) n.at) [])
  unfolding judged_links
  names_same id n h =
      let is = node_there f v x some starts told id n h in
      let t = entry_there f v starts n.at is.kept_is in
      ap (λ (o : Option Node). seen.names_by o (slice_get x.verdicts id.0)) h
      ∙ ap (λ (o : Option (List (ℕ × Verdict))). seen.names_by (Some n) o) (noted (λ n. judged_links f v n.at) x.nodes x.verdicts id n told.links_are h)
      ∙ ap (λ b. cond b (seen.names_of n.at (judged_links f v n.at)) []) (is.directory_is ∙ directory_is f v n.at is.kept_is)
      ∙ by (kept_marked f v n.at t.1.0 t.1.1 t.0) (kept_differ f v n.at t.1.0 t.1.1 t.0) (is_kept_directory f v n.at)
    where
      by : AreMarked (kept_links (setting_of f v) (tree_of f v) n.at) → Distinct (places (kept_links (setting_of f v) (tree_of f v) n.at)) → (b : Bool)
          → cond b (seen.names_of n.at (judged_links f v n.at)) [] ≡ map finding_of (cond b (names_at (setting_of f v) (tree_of f v) n.at) [])
      by m a true = directory_told (setting_of f v) (tree_of f v) n.at m a
      by m a false = refl

  pub names_told : seen.names_along x ≡ map finding_of (name_findings f v)
  unfolding seen.names_along name_findings kept_directories kept_entries
  names_told =
      along x.nodes (seen.names_at x) (λ a. cond (is_kept_directory f v a) (names_at (setting_of f v) (tree_of f v) a) []) names_same x.order (kept_entries f v) told.order_is
      ∙ ap (map finding_of)
      (sym (guarded (is_kept_directory f v) (names_at (setting_of f v) (tree_of f v)) (kept_entries f v))
      ∙ ap (flat_map (names_at (setting_of f v) (tree_of f v))) (narrowed (is_kept_directory f v) (is_kept_entry f v) directory_kept (placed v)))
