-- A mended file has the bytes that it had, up to its new information length.
use Rattle.std.proofs.Common.{◌≡◌, ℕ, ◌<◌, Bool, true, false, cond, List, length, take, refl, sym, ap, ◌∙◌, arith}
use Rattle.std.specs.Prelude.{◌==◌, min}
use Rattle.std.proofs.lemmas.List.{take-take}
use Rattle.udf_field.specs.declared.address.Addr.{Addr}
use Rattle.udf_file_model.specs.Content.{block_at, block_by, content, runs_bytes}
use Rattle.udf_file_model.specs.Entry.{Entry, is_directory}
use Rattle.udf_file_model.specs.Listing.{Volume, list_for, with_disk}
use Rattle.udf_file_model.specs.Pieces.{Piece, runs_of}
use Rattle.udf_file_model.specs.Wanted.{Wanted}
use Rattle.udf_tree_model.specs.Claimed.{list_stays, mended_length, mended_list}
use Rattle.udf_tree_model.specs.Frame.{Frame}
use Rattle.udf_file_mends.specs.Repairable.{IsMendOn}
use Rattle.udf_file_mends.specs.Wanted.{entry_after, wanted}
use Rattle.udf_file_mends.proofs.Cuts as cuts
use Rattle.udf_file_mends.proofs.Disk as disks
use Rattle.udf_file_mends.proofs.Rereads as rereads
use Rattle.udf_file_mends.proofs.Sites.{data_site, data_sites}
use Rattle.udf_file_mends.proofs.Runs.{Whole, cut_bytes, runs_same}

module _ (f : Frame) (v : Volume) (disk : ℕ → List ℕ) (a : Addr) (e : Entry) (m : IsMendOn f v disk a e) (file : is_directory e ≡ false) where
  abbrev pub other : Volume
  other = with_disk v disk

  abbrev want : Wanted
  want = wanted f v a e (block_at v a)

  abbrev pub new : Entry
  new = entry_after f v a e

  abbrev pub xs : List Piece
  xs = list_for v a e

  abbrev pub left : List Piece
  left = mended_list f v a e

  abbrev b : ℕ
  b = mended_length f v a e

  some : 0 < v.size
  some = rereads.some f v disk a e m

  stand : Whole v disk some (data_sites v.size xs)
  stand x i =
      let n = disks.named_by (v.place x) (disks.list_placed f v some a e x (data_site v.size xs x i)) in
      ap (λ o. length (block_by v.disk o)) n.1 ∙ m.repairable.whole x n.0 n.1

  stays_data : list_stays f v a e ≡ true → (n : ℕ) → content other new (runs_of left) n ≡ content v e (runs_of xs) (min n new.information)
  unfolding content
  stays_data h n =
      let list = rereads.stays_list f v disk a e m h in
      let body = rereads.same_body f v disk a e m h in
      let information = rereads.same_information f v disk a e m h in
      let runs = runs_same v disk some xs (λ x i. rereads.block_stays f v disk a e m h x (data_site v.size xs x i)) in
      ap (λ l. take (min n want.information) (cond (e.kind == 3) l (runs_bytes other (runs_of left)))) body
      ∙ ap (λ l. take (min n want.information) (cond (e.kind == 3) e.body (runs_bytes other (runs_of l)))) list
      ∙ ap (λ l. take (min n want.information) (cond (e.kind == 3) e.body l)) runs
      ∙ ap (λ k. take k (cond (e.kind == 3) e.body (runs_bytes v (runs_of xs)))) (let z : min n want.information ≡ min (min n want.information) e.information = omega (arith, information) in z)

  cut_data : list_stays f v a e ≡ false → (n : ℕ) → content other new (runs_of left) n ≡ content v e (runs_of xs) (min n new.information)
  unfolding content
  cut_data h n =
      ap (λ k. take k (cond (e.kind == 3) want.body (runs_bytes other (runs_of left)))) short
      ∙ by (e.kind == 3) refl
      ∙ ap (λ k. take k (cond (e.kind == 3) e.body (runs_bytes v (runs_of xs)))) (let z : min n b ≡ min (min n want.information) e.information = omega (arith, information, cuts.file_length f v disk a e m h file) in z)
    where
      information : want.information ≡ b
      information = cuts.new_information f v disk a e m h

      short : min n want.information ≡ min n b
      short = omega (arith, information)

      listed : (e.kind == 3) ≡ false → runs_bytes other (runs_of left) ≡ take b (runs_bytes v (runs_of xs))
      listed plain =
          runs_same v disk some left (λ x i. disks.file_block f v disk a e m h file x i)
          ∙ ap (λ l. runs_bytes v (runs_of l)) (cuts.cut_left f v disk a e m h)
          ∙ cut_bytes v disk some xs b (cuts.within f v disk a e m h plain) stand

      by : (t : Bool) → (e.kind == 3) ≡ t → take (min n b) (cond (e.kind == 3) want.body (runs_bytes other (runs_of left))) ≡ take (min n b) (cond (e.kind == 3) e.body (runs_bytes v (runs_of xs)))
      by true k =
          ap (λ c. take (min n b) (cond c want.body (runs_bytes other (runs_of left)))) k
          ∙ ap (take (min n b)) (cuts.new_body f v disk a e m h ∙ cuts.file_wanted f v disk a e m h k file)
          ∙ take-take (min n b) b e.body (omega arith)
          ∙ sym (ap (λ c. take (min n b) (cond c e.body (runs_bytes v (runs_of xs)))) k)
      by false k =
          ap (λ c. take (min n b) (cond c want.body (runs_bytes other (runs_of left)))) k
          ∙ ap (take (min n b)) (listed k)
          ∙ take-take (min n b) b (runs_bytes v (runs_of xs)) (omega arith)
          ∙ sym (ap (λ c. take (min n b) (cond c e.body (runs_bytes v (runs_of xs)))) k)

  pub file_data : (n : ℕ) → content other new (runs_of left) n ≡ content v e (runs_of xs) (min n new.information)
  file_data n = by (list_stays f v a e) refl
    where
      by : (t : Bool) → list_stays f v a e ≡ t → content other new (runs_of left) n ≡ content v e (runs_of xs) (min n new.information)
      by true h = stays_data h n
      by false h = cut_data h n
