-- Two volumes whose kept entries are the same: a volume and its mended one.
use Rattle.std.specs.Prelude.{◌≡◌, ◌≤◌, true}
use Rattle.udf_field.specs.declared.address.Addr.{Addr}
use Rattle.udf_file_model.specs.Listing.{Volume}
use Rattle.udf_tree_model.specs.Chosen.{fitted}
use Rattle.udf_tree_model.specs.Content.{mended_content}
use Rattle.udf_tree_model.specs.Counts.{high_count, id_of, is_kept_directory, is_stream, wanted_id, wanted_links}
use Rattle.udf_tree_model.specs.Frame.{Frame, entry_at, places, setting_of, tree_of}
use Rattle.udf_tree_model.specs.Mended.{said}
use Rattle.udf_tree_model.specs.Ordinary.{is_kept_entry}
use Rattle.udf_tree_model.specs.Parent.{ordinary}
use Rattle.udf_rules_model.specs.FileRules.{links_by}

-- the same entries are kept, as directories, as stream directories and as ordinary ones; the fitted links of each directory say the
-- same, and its mended content is the same
pub record AreAlike (f g : Frame) (v w : Volume) : Type 0 where
  pub root : g.root ≡ f.root
  pub size : w.size ≡ v.size
  pub places : places w ≡ places v
  pub entries : (a : Addr) → is_kept_entry g w a ≡ is_kept_entry f v a
  pub directories : (a : Addr) → is_kept_directory g w a ≡ is_kept_directory f v a
  pub streams : (a : Addr) → is_stream g w a ≡ is_stream f v a
  pub ordinary : (a : Addr) → ordinary g w a ≡ ordinary f v a
  pub fitted : (a : Addr) → is_kept_directory f v a ≡ true → said (fitted (setting_of g w) (tree_of g w) a) ≡ said (fitted (setting_of f v) (tree_of f v) a)
  pub contents : (a : Addr) → is_kept_directory f v a ≡ true → mended_content g w a ≡ mended_content f v a

-- each kept entry states in the second volume what is wanted of it in the first, and has a link
pub record StatesWanted (f : Frame) (v w : Volume) : Type 0 where
  pub links : (a : Addr) → is_kept_entry f v a ≡ true → links_by (entry_at w a) ≡ wanted_links f v a
  pub ids : (a : Addr) → ordinary f v a ≡ true → id_of w a ≡ wanted_id f v a
  pub linked : (a : Addr) → is_kept_entry f v a ≡ true → 1 ≤ high_count f v a
