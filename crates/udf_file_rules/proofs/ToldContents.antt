-- What the code finds of identifiers and of contents is what is found of the volume.
use Rattle.std.proofs.Common.{◌≡◌, ℕ, zero, suc, Bool, true, false, not, cond, ◌&&◌, List, [], ◌∷◌, map, length, Option, Some, None, refl, sym, ap, ◌∙◌, subst}
use Rattle.std.specs.Prelude.{◌||◌, ◌==◌, ◌<◌, get_or, slice_get}
use Rattle.std.specs.List.{filter, flat_map}
use Rattle.std.proofs.lemmas.Bool.{and_parts}
use Rattle.udf_field.specs.declared.address.Addr.{Addr}
use Rattle.udf_file_model.specs.Address.{same_addr}
use Rattle.udf_file_model.specs.Entry.{Entry}
use Rattle.udf_file_model.specs.Listing.{Volume}
use Rattle.udf_tree_model.specs.Content.{content_stays, kept_content, mended_content}
use Rattle.udf_tree_model.specs.Counts.{id_by, id_of, is_directory_by, is_kept_directory, kept_directories, ordinary_entries, wanted_id}
use Rattle.udf_tree_model.specs.Frame.{Frame, entry_at, is_address, is_file_set, is_holder, places, setting_of, tree_of}
use Rattle.udf_tree_model.specs.Kept.{kept}
use Rattle.udf_tree_model.specs.Laws.{HasSoundStarts}
use Rattle.udf_tree_model.specs.Ordinary.{is_kept_entry, kept_entries}
use Rattle.udf_tree_model.specs.Parent.{ordinary}
use Rattle.udf_tree_model.specs.Rules.{names_hold, targets_hold}
use Rattle.udf_tree_model.proofs.Places.{same_address}
use Rattle.udf_volume_model.specs.Rules as model
use Rattle.udf_rules.specs.Findings.{finding_of}
use Rattle.udf_rules.specs.declared.finding.Finding.{Finding}
use Rattle.udf_rules_model.specs.FileRules.{content_findings, content_is_whole, identifier_findings}
use Rattle.udf_rules_model.specs.Found.{found_at, unless}
use Rattle.udf_tree.specs.declared.kept_contents.KeptContent.{KeptContent}
use Rattle.udf_tree.specs.declared.node.Node.{Node}
use Rattle.udf_tree.specs.declared.node.NodeId.{NodeId}
use Rattle.udf_tree.specs.declared.stated.Stated.{Stated}
use Rattle.udf_found.specs.Beyond.{HoldsFileSet}
use Rattle.udf_tree.specs.KeptContents.{content_to_keep, kept_content_of}
use Rattle.udf_tree.specs.Nodes.{IsNode, node_addresses}
use Rattle.udf_tree.specs.Stated.{stated_at, stated_by}
use Rattle.udf_tree.specs.Survey.{IsSurvey, View, wanted_content}
use Rattle.udf_tree.proofs.Enrolling.{entry_kept, kept_parts}
use Rattle.udf_found.proofs.Seeing.{file_set_plain}
use Rattle.udf_file_rules.specs.Seen as seen
use Rattle.udf_file_rules.specs.SeenContents as seen_contents
use Rattle.udf_file_rules.proofs.Along.{address_there, along, guarded, narrowed}
use Rattle.udf_file_rules.proofs.Entry.{entry_there}
use Rattle.udf_file_rules.proofs.Ordinaries.{directory_is, ordinary_among}
use Rattle.udf_file_rules.proofs.Told.{mapped, node_there, noted, stated_there}

pub got : {A : Type 0} (xs : List A) (i : ℕ) (d y : A) → slice_get xs i ≡ Some y → get_or xs i d ≡ y
got [] i d y e = absurd (cc)
got (x ∷ xs) zero d y e = cc
got (x ∷ xs) (suc i) d y e = got xs i d y e

-- a kept directory is a kept entry: the file set is no entry
pub directory_kept : (f : Frame) (v : Volume) → HoldsFileSet f v → (a : Addr) → is_kept_directory f v a ≡ true → is_kept_entry f v a ≡ true
unfolding is_holder
directory_kept f v set a h =
    let p = and_parts (kept (setting_of f v) (tree_of f v) a) (is_directory_by (entry_at v a)) h in
    entry_kept f v a p.0 (by (is_holder f v a) refl p.1)
  where
    by : (b : Bool) → is_holder f v a ≡ b → is_directory_by (entry_at v a) ≡ true → is_holder f v a ≡ false
    by false e d = e
    by true e d =
        let q = (and_parts _ (is_file_set f v a) e).1 in
        let at : a ≡ f.file_set = same_address a f.file_set (and_parts (same_addr a f.file_set) _ q).0 in
        absurd (let never : false ≡ true = sym (ap (λ (b : Addr). is_directory_by (entry_at v b)) at ∙ ap is_directory_by (file_set_plain f v set).0) ∙ d in cc)

module _ (f : Frame) (v : Volume) (x : View) (some : 0 < v.size) (starts : HasSoundStarts (setting_of f v) (tree_of f v)) (told : IsSurvey f v x) where
  root_kept : is_kept_entry f v f.root ≡ true
  root_kept =
      let t = address_there x.nodes x.root.0 f.root told.root_is in
      subst (λ (a : Addr). is_kept_entry f v a ≡ true) t.1.1 (node_there f v x some starts told x.root t.0 t.1.0).kept_is

  abbrev identifier_there : Addr → List model.Finding
  identifier_there a = unless (id_of v a == wanted_id f v a) (found_at 11 a (id_of v a) (wanted_id f v a))

  same_id : (o : Option Entry) → (stated_by o).id ≡ id_by o
  same_id None = refl
  same_id (Some e) = refl

  identifier_by : (b : Bool) (n : Node) (id wanted : ℕ) → cond (not b || (id == wanted)) [] (seen.seen_at 11 n.at id wanted ∷ [])
      ≡ map finding_of (cond b (unless (id == wanted) (found_at 11 n.at id wanted)) [])
  identifier_by true n id wanted = mapped (id == wanted) (found_at 11 n.at id wanted)
  identifier_by false n id wanted = refl

  identifier_same : (id : NodeId) (n : Node) → slice_get x.nodes id.0 ≡ Some n
      → seen.identifier_at x id ≡ map finding_of (cond (ordinary f v n.at) (identifier_there n.at) [])
  unfolding seen.identifier_of stated_at
  identifier_same id n h =
      let is = node_there f v x some starts told id n h in
      ap (λ (o : Option Node). seen.identifier_by o (slice_get x.stated id.0)) h
      ∙ ap (λ (o : Option Stated). seen.identifier_by (Some n) o) (stated_there f v x some starts told id n h)
      ∙ ap (λ (b : Bool). cond (not b || ((stated_by (entry_at v n.at)).id == n.id)) [] (seen.seen_at 11 n.at (stated_by (entry_at v n.at)).id n.id ∷ [])) is.ordinary_is
      ∙ ap (λ (k : ℕ). cond (not (ordinary f v n.at) || (k == n.id)) [] (seen.seen_at 11 n.at k n.id ∷ [])) (same_id (entry_at v n.at))
      ∙ ap (λ (k : ℕ). cond (not (ordinary f v n.at) || (id_of v n.at == k)) [] (seen.seen_at 11 n.at (id_of v n.at) k ∷ [])) is.id_is
      ∙ identifier_by (ordinary f v n.at) n (id_of v n.at) (wanted_id f v n.at)

  pub identifiers_told : seen.identifiers_along x ≡ map finding_of (identifier_findings f v)
  unfolding seen.identifiers_along identifier_findings
  identifiers_told =
      along x.nodes (seen.identifier_at x) (λ a. cond (ordinary f v a) (identifier_there a) []) identifier_same x.order (kept_entries f v) told.order_is
      ∙ ap (map finding_of) (sym (guarded (ordinary f v) identifier_there (kept_entries f v)) ∙ ap (flat_map identifier_there) (ordinary_among f v root_kept))

  module _ (set : HoldsFileSet f v) where
    pub directories_among : filter (is_kept_directory f v) (kept_entries f v) ≡ kept_directories f v
    unfolding kept_entries kept_directories
    directories_among = narrowed (is_kept_directory f v) (is_kept_entry f v) (directory_kept f v set) (places v)

    abbrev content_there : Addr → List model.Finding
    content_there d = unless (content_is_whole f v d) (found_at 8 d (length (kept_content f v d)) (length (mended_content f v d)))

    -- the mended content of a directory whose content is not whole
    stays_whole : (d : Addr) → content_is_whole f v d ≡ false → content_stays f v d ≡ false
    unfolding content_stays content_is_whole
    stays_whole d h =
        ap (λ b. targets_hold (setting_of f v) (tree_of f v) d && (names_hold (setting_of f v) (tree_of f v) d && b)) h
        ∙ never (targets_hold (setting_of f v) (tree_of f v) d) (names_hold (setting_of f v) (tree_of f v) d)
      where
        never : (a b : Bool) → (a && (b && false)) ≡ false
        never true true = refl
        never true false = refl
        never false b = refl

    bytes_are : (n : Node) → n.directory ≡ true → content_is_whole f v n.at ≡ false
        → seen_contents.bytes_after (content_to_keep f v n.at) (wanted_content f v n) ≡ length (mended_content f v n.at)
    unfolding wanted_content
    bytes_are n d h =
        ap (λ (b : Bool). seen_contents.bytes_after (content_to_keep f v n.at) (cond (b && not (content_stays f v n.at)) (Some (mended_content f v n.at)) None)) d
        ∙ ap (λ (b : Bool). seen_contents.bytes_after (content_to_keep f v n.at) (cond (not b) (Some (mended_content f v n.at)) None)) (stays_whole n.at h)

    content_by : (n : Node) (b w : Bool) → n.directory ≡ b → content_is_whole f v n.at ≡ w
        → seen_contents.content_by (Some n) (Some (kept_content_of f v n)) (wanted_content f v n) ≡ map finding_of (cond b (content_there n.at) [])
    unfolding kept_content_of content_is_whole
    content_by n false w d h = ap (λ (b : Bool). seen_contents.content_by (Some n) (Some (cond b (Some (content_to_keep f v n.at)) None)) (wanted_content f v n)) d
    content_by n true true d h =
        ap (λ (b : Bool). seen_contents.content_by (Some n) (Some (cond b (Some (content_to_keep f v n.at)) None)) (wanted_content f v n)) d
        ∙ ap (λ (b : Bool). cond b [] (seen.seen_at 8 n.at (length (kept_content f v n.at)) (seen_contents.bytes_after (content_to_keep f v n.at) (wanted_content f v n)) ∷ [])) h
        ∙ sym (ap (λ (b : Bool). map finding_of (unless b (found_at 8 n.at (length (kept_content f v n.at)) (length (mended_content f v n.at))))) h)
    content_by n true false d h =
        ap (λ (b : Bool). seen_contents.content_by (Some n) (Some (cond b (Some (content_to_keep f v n.at)) None)) (wanted_content f v n)) d
        ∙ ap (λ (b : Bool). cond b [] (seen.seen_at 8 n.at (length (kept_content f v n.at)) (seen_contents.bytes_after (content_to_keep f v n.at) (wanted_content f v n)) ∷ [])) h
        ∙ ap (λ (k : ℕ). seen.seen_at 8 n.at (length (kept_content f v n.at)) k ∷ []) (bytes_are n d h)
        ∙ sym (ap (λ (b : Bool). map finding_of (unless b (found_at 8 n.at (length (kept_content f v n.at)) (length (mended_content f v n.at))))) h)

    content_same : (id : NodeId) (n : Node) → slice_get x.nodes id.0 ≡ Some n
        → seen_contents.content_at x id ≡ map finding_of (cond (is_kept_directory f v n.at) (content_there n.at) [])
    content_same id n h =
        let is = node_there f v x some starts told id n h in
        let directory : n.directory ≡ is_kept_directory f v n.at = is.directory_is ∙ directory_is f v n.at is.kept_is in
        ap (λ (o : Option Node). seen_contents.content_by o (slice_get x.kept_contents id.0) (get_or x.contents id.0 None)) h
        ∙ ap (λ (o : Option (Option KeptContent)). seen_contents.content_by (Some n) o (get_or x.contents id.0 None)) (noted (kept_content_of f v) x.nodes x.kept_contents id n told.kept_contents_are h)
        ∙ ap (λ (o : Option (List ℕ)). seen_contents.content_by (Some n) (Some (kept_content_of f v n)) o)
        (got x.contents id.0 None (wanted_content f v n) (noted (wanted_content f v) x.nodes x.contents id n told.contents_are h))
        ∙ content_by n (is_kept_directory f v n.at) (content_is_whole f v n.at) directory refl

    pub contents_told : seen_contents.contents_along x ≡ map finding_of (content_findings f v)
    unfolding seen_contents.contents_along content_findings
    contents_told =
        along x.nodes (seen_contents.content_at x) (λ a. cond (is_kept_directory f v a) (content_there a) []) content_same x.order (kept_entries f v) told.order_is
        ∙ ap (map finding_of) (sym (guarded (is_kept_directory f v) content_there (kept_entries f v)) ∙ ap (flat_map content_there) directories_among)
