-- Each rule holds exactly where nothing is found of it.
use Rattle.std.proofs.Common.{◌≡◌, ℕ, Bool, true, false, not, cond, ◌&&◌, List, [], ◌∷◌, ◌++◌, length, map, refl, sym, ap, ◌∙◌, Option, Some, None}
use Rattle.std.specs.Prelude.{◌==◌, ◌||◌, min, nat_le}
use Rattle.std.specs.List.{filter, flat_map, list_all}
use Rattle.udf_field.specs.declared.address.Addr.{Addr}
use Rattle.udf_field.specs.declared.address.Short.{Short}
use Rattle.udf_field.specs.declared.address.Span.{Span}
use Rattle.udf_file_model.specs.Address.{addr}
use Rattle.udf_file_model.specs.Entry.{Entry}
use Rattle.udf_file_model.specs.Listing.{Volume}
use Rattle.udf_volume_model.specs.Rules.{Finding}
use Rattle.udf_tree_model.specs.Claimed.{allocation_holds}
use Rattle.udf_tree_model.specs.Content.{kept_content, mended_content}
use Rattle.udf_tree_model.specs.Counts.{id_of, kept_directories, ordinary_entries, wanted_id, wanted_links}
use Rattle.udf_tree_model.specs.Frame.{Frame, entry_at, setting_of, tree_of}
use Rattle.udf_tree_model.specs.Link.{Link, is_pointer}
use Rattle.udf_tree_model.specs.Node.{Setting, Tree}
use Rattle.udf_tree_model.specs.Ordinary.{kept_entries}
use Rattle.udf_tree_model.specs.Rules.{targets_hold}
use Rattle.udf_tree_model.specs.Won.{kept_length, kept_links}
use Rattle.udf_rules_model.specs.Bitmap.{bitmap_findings, bitmap_findings_by, bitmap_holds, bitmap_rule, bitmap_rule_by, free_blocks, wrong_in}
use Rattle.udf_rules_model.specs.FileRules.{allocation_by, allocation_findings, allocation_rule, allocation_rule_by, content_findings, content_is_whole, content_rule, count_findings, count_rule, counts_by, fids_astray, has_target, identifier_findings, identifier_rule, is_lawful_link, is_selected, kept_holders, links_by, name_finding, name_findings, names_at, names_lawful, names_rule, pointers_astray, pointers_hold, target_finding, target_findings, targets_at, targets_rule}
use Rattle.udf_rules_model.specs.Found.{found_at, is_nothing}
use Rattle.udf_rules_model.specs.Integrity.{integrity_findings, integrity_holds}
use Rattle.udf_rules_model.specs.Recognition.{Recognition, recognition_findings, recognition_holds}
use Rattle.udf_rules_model.proofs.Nothing.{append_nil, commute, filter_nil, flat_map_nil, map_nil, neither, pointers_nil, unless_both, unless_nil}

module _ (s : Setting) (t : Tree) (a : Addr) where
  fids_are : is_nothing (fids_astray s t a) ≡ targets_hold s t a
  unfolding fids_astray targets_hold
  fids_are =
      filter_nil (λ l. not (is_pointer l.says) && not (has_target s t l)) (λ l. is_pointer l.says || has_target s t l)
      (λ l. neither (is_pointer l.says) (has_target s t l)) (kept_links s t a)

  pointers_are : is_nothing (pointers_astray s t a) ≡ pointers_hold s t a
  unfolding pointers_astray
  pointers_are =
      filter_nil (λ l. is_pointer l.says && not (is_selected s t a l)) (λ l. not (is_pointer l.says) || is_selected s t a l)
      (λ l. unless_both (is_pointer l.says) (is_selected s t a l)) (kept_links s t a)

  names_are : is_nothing (names_at s t a) ≡ names_lawful s t a
  unfolding names_at names_lawful
  names_are =
      map_nil (name_finding s t a) (filter (λ l. not (is_pointer l.says) && not (is_lawful_link s t a l)) (kept_links s t a))
      ∙ filter_nil (λ l. not (is_pointer l.says) && not (is_lawful_link s t a l)) (λ l. is_pointer l.says || is_lawful_link s t a l)
      (λ l. neither (is_pointer l.says) (is_lawful_link s t a l)) (kept_links s t a)

module _ (f : Frame) (v : Volume) where
  targets_there : (a : Addr) → is_nothing (targets_at f v a) ≡ (targets_hold (setting_of f v) (tree_of f v) a && pointers_hold (setting_of f v) (tree_of f v) a)
  unfolding targets_at
  targets_there a =
      let s = setting_of f v in
      let t = tree_of f v in
      pointers_nil (map (target_finding a) (pointers_astray s t a)) (map (target_finding a) (fids_astray s t a))
      ∙ ap (λ b. b && is_nothing (map (target_finding a) (fids_astray s t a))) (map_nil (target_finding a) (pointers_astray s t a) ∙ pointers_are s t a)
      ∙ ap (λ b. pointers_hold s t a && b) (map_nil (target_finding a) (fids_astray s t a) ∙ fids_are s t a)
      ∙ commute (pointers_hold s t a) (targets_hold s t a)

  pub targets : is_nothing (target_findings f v) ≡ targets_rule f v
  unfolding target_findings targets_rule
  targets =
      flat_map_nil (targets_at f v) (λ a. targets_hold (setting_of f v) (tree_of f v) a && pointers_hold (setting_of f v) (tree_of f v) a)
      targets_there (kept_holders f v)

  allocation_there : (a : Addr) (o : Option Entry) → is_nothing (allocation_by f v a o) ≡ allocation_rule_by f v a o
  allocation_there a None = refl
  allocation_there a (Some e) =
      unless_nil (allocation_holds f v a e) (found_at 7 a e.information (min e.information (kept_length (setting_of f v) (tree_of f v) a)))

  pub allocation : is_nothing (allocation_findings f v) ≡ allocation_rule f v
  unfolding allocation_findings allocation_rule
  allocation =
      flat_map_nil (λ a. allocation_by f v a (entry_at v a)) (λ a. allocation_rule_by f v a (entry_at v a))
      (λ a. allocation_there a (entry_at v a)) (kept_entries f v)

  pub contents : is_nothing (content_findings f v) ≡ content_rule f v
  unfolding content_findings content_rule
  contents =
      flat_map_nil _ (content_is_whole f v)
      (λ d. unless_nil (content_is_whole f v d) (found_at 8 d (length (kept_content f v d)) (length (mended_content f v d)))) (kept_directories f v)

  pub names : is_nothing (name_findings f v) ≡ names_rule f v
  unfolding name_findings names_rule
  names =
      flat_map_nil (names_at (setting_of f v) (tree_of f v)) (names_lawful (setting_of f v) (tree_of f v))
      (λ d. names_are (setting_of f v) (tree_of f v) d) (kept_directories f v)

  pub counts : is_nothing (count_findings f v) ≡ count_rule f v
  unfolding count_findings count_rule
  counts =
      flat_map_nil _ (λ a. counts_by f v a (entry_at v a))
      (λ a. unless_nil (counts_by f v a (entry_at v a)) (found_at 10 a (links_by (entry_at v a)) (wanted_links f v a))) (kept_entries f v)

  pub identifiers : is_nothing (identifier_findings f v) ≡ identifier_rule f v
  unfolding identifier_findings identifier_rule
  identifiers =
      flat_map_nil _ (λ a. id_of v a == wanted_id f v a)
      (λ a. unless_nil (id_of v a == wanted_id f v a) (found_at 11 a (id_of v a) (wanted_id f v a))) (ordinary_entries f v)

  pub bitmap : (blocks : ℕ) (o : Option Short) → is_nothing (bitmap_findings f v blocks o) ≡ bitmap_rule f v blocks o
  unfolding bitmap_findings bitmap_rule
  bitmap blocks None = refl
  bitmap blocks (Some extent) =
      unless_nil (bitmap_holds f v blocks extent) (found_at 12 (addr 0 0) (wrong_in f v blocks extent) (free_blocks f v blocks))

  pub integrity : (blocks : ℕ) (o : Option Short) (extent : Span) → is_nothing (integrity_findings f v blocks o extent) ≡ integrity_holds f v blocks o extent
  unfolding integrity_findings
  integrity blocks o extent = unless_nil (integrity_holds f v blocks o extent) _

pub recognition : (r : Recognition) (partition : List ℕ) → is_nothing (recognition_findings r partition) ≡ recognition_holds r
unfolding recognition_findings
recognition r partition = unless_nil (recognition_holds r) _
