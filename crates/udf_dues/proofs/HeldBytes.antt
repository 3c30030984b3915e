-- What was read of held entries is bytes.
use Rattle.std.proofs.Common.{◌≡◌, ℕ, ◌≤◌, List, [], Bool, true, false, cond, take, ◌==◌, Option, Some, None, refl, sym, ap, ◌∙◌, subst, arith}
use Rattle.std.specs.Prelude.{is_some, min}
use Rattle.std.proofs.lemmas.Bool.{false≢true}
use Rattle.std.proofs.lemmas.List.{take-take}
use Rattle.udf_field.specs.declared.address.Addr.{Addr}
use Rattle.udf_model.specs.Bytes.{IsBytes}
use Rattle.udf_model.specs.Size.{is_size}
use Rattle.udf_model.proofs.Parts.{take_is_bytes}
use Rattle.udf_file_model.specs.Content.{block_at, content, runs_bytes}
use Rattle.udf_file_model.specs.Entry.{Entry, is_directory}
use Rattle.udf_file_model.specs.Pieces.{runs_of}
use Rattle.udf_file_model.specs.Listing.{Volume, good_length, list_for}
use Rattle.udf_tree_model.specs.Content.{content_by, kept_content}
use Rattle.udf_tree_model.specs.Frame.{Frame, content_to, setting_of, tree_of}
use Rattle.udf_tree_model.specs.Won.{kept_length}
use Rattle.udf_tree_model.proofs.Stating.{length_is}
use Rattle.udf_tree_model.proofs.Winning.{kept_within}
use Rattle.udf_entry.proofs.Told.{size_bounds}
use Rattle.udf_held.specs.declared.held.Held.{Held}
use Rattle.udf_found.specs.declared.shape.Shape.{Shape}
use Rattle.udf_dues.specs.Counts.{AreOfBytes}
use Rattle.udf_held.specs.Held.{AreHeldOf}
use Rattle.udf_found.specs.Shape.{IsShaped}
use Rattle.udf_found.specs.Target.{linking}

-- fewer bytes of a content are bytes where more are
fewer : (v : Volume) (a : Addr) (e : Entry) (n : ℕ) → n ≤ good_length v a e → IsBytes (linking v a e) → IsBytes (content_to v e (list_for v a e) n)
unfolding content_to content
fewer v a e n l h = by (is_directory e) h
  where
    whole : List ℕ
    whole = cond (e.kind == 3) e.body (runs_bytes v (runs_of (list_for v a e)))

    by : (b : Bool) → IsBytes (cond b (take (min (good_length v a e) e.information) whole) []) → IsBytes (cond b (take (min n e.information) whole) [])
    by false k = k
    by true k =
        subst IsBytes (take-take (min n e.information) (min (good_length v a e) e.information) whole (omega (arith, l))) (take_is_bytes (min n e.information) (take (min (good_length v a e) e.information) whole) k)

module _ (f : Frame) (v : Volume) (size : is_size v.size ≡ true) (hs : List Held) (held : AreHeldOf f v hs) where
  shaped : (h : Held) → is_some h.shape ≡ true → IsShaped f v h.at h.shape → IsBytes (block_at v h.at) × IsBytes (kept_content f v h.at)
  unfolding kept_content
  shaped h some k = by h.shape refl k
    where
      by : (o : Option Shape) → h.shape ≡ o → IsShaped f v h.at o → IsBytes (block_at v h.at) × IsBytes (kept_content f v h.at)
      by None e i = absurd (false≢true (sym (ap (λ (o : Option Shape). is_some o) e) ∙ some))
      by (Some s) e (other, x, there, is) =
          let low = (size_bounds v.size size).0 in
          let within = kept_within (setting_of f v) (tree_of f v) h.at in
          let l = length_is f v h.at x there other (omega (arith, low)) in
          (is.block_bytes, subst IsBytes (sym (ap (content_by f v h.at) there)) (fewer v h.at x (kept_length (setting_of f v) (tree_of f v) h.at) (omega (arith, within, l)) is.content_bytes))

  pub held_bytes : AreOfBytes f v hs
  held_bytes = record {
    blocks = λ h m some. (shaped h some (held.each_of h m).shape).0;
    contents = λ h m some. (shaped h some (held.each_of h m).shape).1;
  }
