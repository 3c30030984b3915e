-- Volumes whose files break no rule.
use Rattle.std.specs.Prelude.{◌≡◌, true, None}
use Rattle.udf_field.specs.declared.address.Addr.{Addr}
use Rattle.udf_file_model.specs.Listing.{Volume}
use Rattle.udf_tree_model.specs.Frame.{Frame, entry_at, is_holder}
use Rattle.udf_file_mends.specs.Repairable.{IsRepairable}
use Rattle.udf_rules_model.specs.FileRules.{allocation_rule, content_rule, names_rule, targets_rule}

-- no rule on targets, allocation, contents, and names and links is broken; and the file set is no entry
pub record IsLawful (f : Frame) (v : Volume) : Type 0 where
  pub repairable : IsRepairable f v
  pub set : (a : Addr) → is_holder f v a ≡ true → entry_at v a ≡ None
  pub targets : targets_rule f v ≡ true
  pub allocation : allocation_rule f v ≡ true
  pub contents : content_rule f v ≡ true
  pub names : names_rule f v ≡ true
