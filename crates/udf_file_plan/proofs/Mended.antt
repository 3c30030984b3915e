-- What is put for a kept entry is its mend.
use Rattle.std.proofs.Common.{◌≡◌, ◌≤◌, ℕ, Bool, true, false, not, cond, ◌&&◌, ◌==◌, List, [], ◌∷◌, ◌++◌, map, length, take, Option, Some, None, refl, sym, ap, ◌∙◌, subst}
use Rattle.std.specs.Prelude.{is_some, min}
use Rattle.udf_field.specs.declared.address.Addr.{Addr}
use Rattle.udf_model.specs.Bytes.{number_at}
use Rattle.udf_file_model.specs.Content.{block_at, content}
use Rattle.udf_file_model.specs.CutBody.{cut_body}
use Rattle.udf_file_model.specs.Entry.{Entry, descriptor_bytes, entry_in, is_directory}
use Rattle.udf_file_model.specs.Listing.{Volume, descriptors_in, descriptors_of, list_for}
use Rattle.udf_file_model.specs.Pieces.{extents_of, runs_of}
use Rattle.udf_file_model.specs.Wanted.{Wanted, own}
use Rattle.udf_tree_model.specs.Claimed.{list_stays, mended_length, mended_list}
use Rattle.udf_tree_model.specs.Content.{content_stays, fitted_bytes, kept_content, mended_content, parent_fid}
use Rattle.udf_tree_model.specs.Chosen.{fitted}
use Rattle.udf_tree_model.specs.Counts.{wanted_id, wanted_links}
use Rattle.udf_tree_model.specs.Frame.{Frame, content_to, entry_at, setting_of, tree_of}
use Rattle.udf_tree_model.specs.Ordinary.{is_kept_entry}
use Rattle.udf_tree_model.specs.Won.{kept_length}
use Rattle.udf_tree.specs.declared.node.Node.{Node}
use Rattle.udf_tree.specs.declared.node.NodeId.{NodeId}
use Rattle.udf_tree.specs.declared.stated.Stated.{Stated}
use Rattle.udf_tree.specs.Survey.{wanted_content}
use Rattle.udf_file_mends.specs.Mends.{mend_by, mend_of, mended_blocks, mended_entry, sited_entry, sited_extent}
use Rattle.udf_file_mends.specs.Repairable.{IsRepairable}
use Rattle.udf_file_mends.specs.Wanted.{cut_wanted, loses_pointer, wanted}
use Rattle.udf_file_mends.proofs.Held as held
use Rattle.udf_file_plan.specs.Chain.{chain, extents_left}
use Rattle.udf_file_plan.specs.Node.{cut_left, given_by, mended_or, values_by}
use Rattle.udf_file_plan.specs.Parts.{body_left, bytes_or, content_left, embedded_left, first_further, listed_left}
use Rattle.udf_file_mends.proofs.Fitting as fitting
use Rattle.udf_file_plan.proofs.Cutted as cutted

-- what is wanted, part by part
abbrev pub made_of : ℕ → ℕ → ℕ → ℕ → Bool → List ℕ → Wanted
made_of i o l d c b = record { information = i; object_size = o; links = l; id = d; clear = c; body = b }

pub made_same : (i i' o o' l l' d d' : ℕ) (c c' : Bool) (b b' : List ℕ) → i ≡ i' → o ≡ o' → l ≡ l' → d ≡ d' → c ≡ c' → b ≡ b'
    → made_of i o l d c b ≡ made_of i' o' l' d' c' b'
made_same i i' o o' l l' d d' c c' b b' ei eo el ed ec eb =
    ap (λ z. made_of z o l d c b) ei ∙ ap (λ z. made_of i' z l d c b) eo ∙ ap (λ z. made_of i' o' z d c b) el ∙ ap (λ z. made_of i' o' l' z c b) ed
    ∙ ap (λ z. made_of i' o' l' d' z b) ec ∙ ap (λ z. made_of i' o' l' d' c' z) eb

module _ (f : Frame) (v : Volume) (ok : IsRepairable f v) (a : Addr) (e : Entry) (kept : is_kept_entry f v a ≡ true) (reads : entry_at v a ≡ Some e) where
  abbrev block : List ℕ
  block = block_at v a

  abbrev is : entry_in e.header block ≡ e
  is = held.is_entry f v ok a e kept reads

  module _ (n : Node) (s : Stated) (p : Option NodeId) (links : n.links ≡ wanted_links f v a) (id : n.id ≡ wanted_id f v a)
      (clear : (is_some s.pointer && not (is_some p)) ≡ loses_pointer f v a) where
    -- where the list stays
    pub wanted_stays : list_stays f v a e ≡ true → values_by n s p (own e.header block) ≡ wanted f v a e block
    unfolding wanted
    wanted_stays h =
        made_same _ _ _ _ _ _ _ _ _ _ _ _ (ap (λ (z : Entry). z.information) is ∙ sym (ap (λ t. cond t e.information (mended_length f v a e)) h))
        (sym (ap (λ t. cond t (number_at 8 block 64) (mended_length f v a e)) h)) links id clear
        (ap (λ (z : Entry). z.body) is ∙ sym (ap (λ t. cond t e.body (cut_wanted f v a e)) h))

    -- where it is cut
    pub wanted_cut : (bytes : ℕ) (body : List ℕ) → list_stays f v a e ≡ false → bytes ≡ mended_length f v a e → body ≡ cut_wanted f v a e
        → record (values_by n s p (own e.header block)) { information = bytes; object_size = bytes; body = body } ≡ wanted f v a e block
    unfolding wanted
    wanted_cut bytes body h many left =
        made_same _ _ _ _ _ _ _ _ _ _ _ _ (many ∙ sym (ap (λ t. cond t e.information (mended_length f v a e)) h))
        (many ∙ sym (ap (λ t. cond t (number_at 8 block 64) (mended_length f v a e)) h)) links id clear
        (left ∙ sym (ap (λ t. cond t e.body (cut_wanted f v a e)) h))

  pub mend_stays : (w : Wanted) (header : ℕ) → list_stays f v a e ≡ true → header ≡ e.header → w ≡ wanted f v a e block → (a, mended_entry a.block header w block) ∷ [] ≡ mend_of f v a
  unfolding mend_of
  mend_stays w header h at is =
      ap (λ k. (a, mended_entry a.block k w block) ∷ []) at ∙ ap (λ z. (a, mended_entry a.block e.header z block) ∷ []) is
      ∙ sym (ap (mend_by f v a) reads ∙ ap (λ t. sited_entry f v a e ∷ cond t [] (mended_blocks f v a e)) h)

  abbrev given : Option (List ℕ)
  given = cond (is_directory e) (Some (mended_content f v a)) None

  kept_whole : is_directory e ≡ true → content v e (runs_of (list_for v a e)) (kept_length (setting_of f v) (tree_of f v) a) ≡ kept_content f v a
  unfolding content_to
  kept_whole h =
      sym (held.content_is f v ok a e kept reads ∙ ap (λ t. cond t (content v e (runs_of (list_for v a e)) (kept_length (setting_of f v) (tree_of f v) a)) []) h)

  kept_stays : content_stays f v a ≡ true → kept_content f v a ≡ mended_content f v a
  unfolding mended_content
  kept_stays h = sym (ap (λ t. cond t (kept_content f v a) (parent_fid f v a ++ fitted_bytes (fitted (setting_of f v) (tree_of f v) a))) h)

  anew : is_directory e ≡ true → (c : Bool) → content_stays f v a ≡ c
      → mended_or (content v e (runs_of (list_for v a e)) (kept_length (setting_of f v) (tree_of f v) a)) (cond (not (content_stays f v a)) (Some (mended_content f v a)) None) ≡ mended_content f v a
  anew h true k =
      ap (λ b. mended_or (content v e (runs_of (list_for v a e)) (kept_length (setting_of f v) (tree_of f v) a)) (cond (not b) (Some (mended_content f v a)) None)) k ∙ kept_whole h ∙ kept_stays k
  anew h false k = ap (λ b. mended_or (content v e (runs_of (list_for v a e)) (kept_length (setting_of f v) (tree_of f v) a)) (cond (not b) (Some (mended_content f v a)) None)) k

  -- the content that is given
  pub given_is : (n : Node) (m : Option (List ℕ)) → n.at ≡ a → n.directory ≡ is_directory e → n.kept_length ≡ kept_length (setting_of f v) (tree_of f v) a → m ≡ wanted_content f v n
      → given_by v a e n m ≡ cond (is_directory e) (Some (mended_content f v a)) None
  unfolding wanted_content
  given_is n m at directory long is =
      ap (λ d. cond d (Some (mended_or (content v e (runs_of (list_for v a e)) n.kept_length) m)) None) directory
      ∙ ap (λ k. cond (is_directory e) (Some (mended_or (content v e (runs_of (list_for v a e)) k) m)) None) long
      ∙ ap (λ o. cond (is_directory e) (Some (mended_or whole o)) None)
      (is ∙ ap (λ d. cond (d && not (content_stays f v n.at)) (Some (mended_content f v n.at)) None) directory
      ∙ ap (λ x. cond (is_directory e && not (content_stays f v x)) (Some (mended_content f v x)) None) at)
      ∙ by (is_directory e) refl
    where
      whole : List ℕ
      whole = content v e (runs_of (list_for v a e)) (kept_length (setting_of f v) (tree_of f v) a)

      by : (d : Bool) → is_directory e ≡ d → cond d (Some (mended_or (content v e (runs_of (list_for v a e)) (kept_length (setting_of f v) (tree_of f v) a)) (cond (d && not (content_stays f v a)) (Some (mended_content f v a)) None))) None
          ≡ cond d (Some (mended_content f v a)) None
      by false h = refl
      by true h = ap Some (anew h (content_stays f v a) refl)

  pub bytes_is : (s : Stated) (n : Node) (least : ℕ) → least ≡ min e.information (kept_length (setting_of f v) (tree_of f v) a)
      → bytes_or least (cond (is_directory e) (Some (mended_content f v a)) None) ≡ mended_length f v a e
  unfolding mended_length
  bytes_is s n least is = by (is_directory e)
    where
      by : (d : Bool) → bytes_or least (cond d (Some (mended_content f v a)) None) ≡ cond d (length (mended_content f v a)) (min e.information (kept_length (setting_of f v) (tree_of f v) a))
      by true = refl
      by false = is

  pub body_is : body_left e.kind a e.body (mended_length f v a e) (cond (is_directory e) (Some (mended_content f v a)) None) ≡ cut_wanted f v a e
  unfolding body_left cut_wanted
  body_is = ap (λ z. cond (e.kind == 3) z (cut_body e.kind a (mended_length f v a e) e.body)) (by (is_directory e))
    where
      by : (d : Bool) → embedded_left e.body (mended_length f v a e) (cond d (Some (mended_content f v a)) None) ≡ cond d (mended_content f v a) (take (mended_length f v a e) e.body)
      by true = refl
      by false = refl

  -- what is put where the list is cut
  pub mend_cut : (w : Wanted) (bytes : ℕ) (q : Option (List ℕ)) → list_stays f v a e ≡ false → bytes_or bytes q ≡ mended_length f v a e → q ≡ cond (is_directory e) (Some (mended_content f v a)) None
      → record w { information = mended_length f v a e; object_size = mended_length f v a e; body = cut_wanted f v a e } ≡ wanted f v a e block
      → cut_left v a e w bytes q ≡ mend_of f v a
  unfolding mend_of mended_blocks
  mend_cut w bytes q h many gives is =
      let ml = mended_length f v a e in
      let runs = runs_of (list_for v a e) in
      let x = length (extents_of (list_for v a e)) in
      ap (λ k. listed_left v a e w x k q ++ content_left v runs q) many
      ∙ ap (λ z. listed_left v a e w x ml z ++ content_left v runs z) gives
      ∙ ap (λ b. ((a, mended_entry a.block e.header (record w { information = ml; object_size = ml; body = b }) block)
      ∷ extents_left v e.kind (chain (descriptors_in v e.kind) x (first_further ml (descriptors_of a e)))) ++ content_left v runs given) body_is
      ∙ ap (λ z. ((a, mended_entry a.block e.header z block) ∷ extents_left v e.kind (chain (descriptors_in v e.kind) x (first_further ml (descriptors_of a e)))) ++ content_left v runs given) is
      ∙ ap (λ z. (sited_entry f v a e ∷ z) ++ content_left v runs given) (cutted.extents_are f v ok a e kept reads h)
      ∙ ap (λ z. sited_entry f v a e ∷ (map (sited_extent f v a e) (extents_of (mended_list f v a e)) ++ z)) (cutted.content_is f v ok a e kept reads h)
      ∙ sym (ap (mend_by f v a) reads ∙ ap (λ t. sited_entry f v a e ∷ cond t [] (mended_blocks f v a e)) h)

  -- the body that is left has room
  pub left_fits : list_stays f v a e ≡ false → length (cut_wanted f v a e) ≤ descriptor_bytes e.header block
  unfolding wanted
  left_fits h =
      let fits = fitting.wanted_fits f v ok a e kept reads in
      subst (λ (t : Bool). length (cond t e.body (cut_wanted f v a e)) ≤ descriptor_bytes e.header block) h fits.body
