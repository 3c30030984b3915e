-- Kept entries are there.
use Rattle.std.proofs.Common.{◌≡◌, Bool, true, false, not, ◌&&◌, cond, Option, Some, None, refl, sym, ap, ◌∙◌}
use Rattle.std.specs.Prelude.{is_some}
use Rattle.std.proofs.lemmas.Bool.{and_parts}
use Rattle.udf_field.specs.declared.address.Addr.{Addr}
use Rattle.udf_file_model.specs.Entry.{Entry}
use Rattle.udf_file_model.specs.Listing.{Volume}
use Rattle.udf_tree_model.specs.Found.{found}
use Rattle.udf_tree_model.specs.Frame.{Frame, entry_at, holder_by, holder_node, is_file_set, is_holder, node_by, node_with, setting_of, tree_of}
use Rattle.udf_tree_model.specs.Laws.{HasSoundStarts}
use Rattle.udf_tree_model.specs.Node.{Node, readable}
use Rattle.udf_tree_model.specs.Ordinary.{is_kept_entry}
use Rattle.udf_tree_model.proofs.Finding.{found_readable, volume_within}
use Rattle.udf_tree_model.proofs.Keeping.{kept_sound, sound_found}
use Rattle.udf_tree.proofs.Enrolling.{kept_parts}

-- what is readable and not the file set is an entry
there_by : (f : Frame) (v : Volume) (a : Addr) (o : Option Entry) → entry_at v a ≡ o → is_holder f v a ≡ false → readable (tree_of f v) a ≡ true → (e : Entry) × (entry_at v a ≡ Some e)
unfolding readable tree_of is_holder
there_by f v a (Some e) is other there = (e, is)
there_by f v a None is other there = absurd (let no : false ≡ true = sym nothing ∙ there in cc)
  where
    by : (s : Option Addr) (b : Bool) → (is_some s && b) ≡ false → is_some (holder_by s b None) ≡ false
    by None b e = refl
    by (Some x) true e = absurd (cc)
    by (Some x) false e = refl

    nothing : readable (tree_of f v) a ≡ false
    nothing =
        ap (λ (o : Option Entry). is_some (holder_by f.system (is_file_set f v a) (node_by f v a o))) is
        ∙ by f.system (is_file_set f v a) other

not_true : (b : Bool) → not b ≡ true → b ≡ false
not_true true e = absurd (cc)
not_true false e = refl

-- a kept entry is readable
pub entry_there : (f : Frame) (v : Volume) → HasSoundStarts (setting_of f v) (tree_of f v) → (a : Addr) → is_kept_entry f v a ≡ true
    → (is_holder f v a ≡ false) × ((e : Entry) × (entry_at v a ≡ Some e))
entry_there f v starts a h =
    let p = kept_parts f v a h in
    let s = setting_of f v in
    let t = tree_of f v in
    let other = not_true (is_holder f v a) p.1 in
    (other, there_by f v a (entry_at v a) refl other (found_readable s t (volume_within f v) a (sound_found s t a (kept_sound s t (volume_within f v) starts a p.0))))
