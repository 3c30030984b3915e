-- The list that was read is the list of the definitions.
use Rattle.std.proofs.Common.{◌≡◌, ℕ, Bool, true, false, cond, ◌||◌, ◌==◌, ◌*◌, ◌≤◌, List, [], Some, None, arith, ◌∙◌, ap, refl, length}
use Rattle.std.proofs.lemmas.Bool.Decides.{nat_tests}
use Rattle.udf_model.specs.Size.{is_size}
use Rattle.udf_field.specs.declared.address.Addr.{Addr}
use Rattle.udf_file_model.specs.Address.{Places}
use Rattle.udf_file_model.specs.Entry.{Entry, entry_of, is_directory}
use Rattle.udf_file_model.specs.Descriptors.{Descriptor, descriptors}
use Rattle.udf_file_model.specs.Pieces.{flat, bytes_in}
use Rattle.udf_file_model.specs.Front.{Past, nothing_yet}
use Rattle.udf_file_model.specs.Listing.{Volume, Listing, volume_of, is_extent, descriptors_in, rules_for, flat_for, list_for, is_good_for, good_length, listing, listing_by, listing_at}
use Rattle.udf_entry.specs.Outcome.{Outcome, outcome, ended}
use Rattle.udf_entry.specs.declared.rules.Rules.{Rules}
use Rattle.udf_entry.specs.declared.reading.Reading.{Reading}
use Rattle.udf_entry.specs.ReadingView.{past_of, rules_seen}

-- a block size is one of four
pub size_bounds : (n : ℕ) → is_size n ≡ true → (512 ≤ n) × (n ≤ 4096)
unfolding is_size
size_bounds n h = choose (n == 512) (n == 1024) (n == 2048) (n == 4096) refl refl refl refl h
  where
    same : (m : ℕ) → (n == m) ≡ true → n ≡ m
    same m e = grind (arith, nat_tests)

    choose : (a b c d : Bool) → (n == 512) ≡ a → (n == 1024) ≡ b → (n == 2048) ≡ c → (n == 4096) ≡ d → (a || (b || (c || d))) ≡ true → (512 ≤ n) × (n ≤ 4096)
    choose true b c d e f g i h = let s = same 512 e in (omega arith, omega arith)
    choose false true c d e f g i h = let s = same 1024 f in (omega arith, omega arith)
    choose false false true d e f g i h = let s = same 2048 g in (omega arith, omega arith)
    choose false false false true e f g i h = let s = same 4096 i in (omega arith, omega arith)
    choose false false false false e f g i h = absurd (cc)

abbrev told : Past → ℕ → Bool → Listing
told past bytes good = record { runs = past.runs; extents = past.extents; good_length = bytes; good = good }

-- what is read from nothing on is the list
told_list : (v : Volume) (a : Addr) (e : Entry) (past : Past) (good : Bool)
    → ended past good ≡ outcome (rules_for v a e) (is_extent v) nothing_yet (flat_for v a e)
    → told past (cond (e.kind == 3) (length e.body) (bytes_in past.runs)) good ≡ listing v a e
unfolding outcome listing list_for is_good_for good_length
told_list v a e past good h =
    let make : List Descriptor → List Addr → Bool → Listing = λ x y z. record { runs = x; extents = y; good_length = cond (e.kind == 3) (length e.body) (bytes_in x); good = z } in
    ap (λ o. make o.runs o.extents o.good) h

same_listing : (list : Listing) (past : Past) (bytes : ℕ) (good : Bool) → list.runs ≡ past.runs → list.extents ≡ past.extents
    → list.good_length ≡ bytes → list.good ≡ good → list ≡ told past bytes good
same_listing list past bytes good p q r s =
    let make : List Descriptor → List Addr → ℕ → Bool → Listing = λ x y n g. record { runs = x; extents = y; good_length = n; good = g } in
    ap (λ x. make x list.extents list.good_length list.good) p ∙ ap (λ x. make past.runs x list.good_length list.good) q
    ∙ ap (λ x. make past.runs past.extents x list.good) r ∙ ap (λ x. make past.runs past.extents bytes x) s

module _ (image : List ℕ) (place : Places) (size : ℕ) (a : Addr) (block : List ℕ) where
  pub none_is : None ≡ entry_of a.block block → (list : Listing) → list ≡ record { runs = []; extents = []; good_length = 0; good = true }
      → list ≡ listing_at (volume_of size image place) a block
  unfolding listing_at
  none_is h list e = e ∙ ap (listing_by (volume_of size image place) a) h

  abbrev read : Rules → Past → ℕ → List ℕ → Outcome
  read rules past kind body =
      outcome (rules_seen rules place) (is_extent (volume_of rules.size image place)) past
      (flat (descriptors_in (volume_of rules.size image place) kind) (2 * (volume_of rules.size image place).blocks) (descriptors kind rules.own body))

  rules_are : Bool → ℕ → Rules
  rules_are directory information = record { size = size; own = a; directory = directory; information = information }

  pub list_is : (e : Entry) (directory : Bool) (information kind : ℕ) (body : List ℕ) (start reading : Reading) (good : Bool) (list : Listing) (rules : Rules)
      → Some e ≡ entry_of a.block block → directory ≡ is_directory e → information ≡ e.information → kind ≡ e.kind → body ≡ e.body
      → rules ≡ record { size = size; own = a; directory = directory; information = information }
      → start.rules ≡ rules → past_of start ≡ nothing_yet → ended (past_of reading) good ≡ read start.rules (past_of start) kind body
      → list.runs ≡ (past_of reading).runs → list.extents ≡ (past_of reading).extents
      → list.good_length ≡ cond (kind == 3) (length body) (bytes_in (past_of reading).runs) → list.good ≡ good
      → list ≡ listing_at (volume_of size image place) a block
  unfolding listing_at rules_are rules_for flat_for
  list_is e directory information kind body start reading good list rules reads dir info of_kind of_body are same past outcome_is runs extents many ok =
      let v = volume_of size image place in
      let one : ended (past_of reading) good ≡ read (rules_are (is_directory e) e.information) nothing_yet e.kind e.body =
      outcome_is ∙ ap (λ z. read z (past_of start) kind body) (same ∙ are)
      ∙ ap (λ z. read (rules_are z information) (past_of start) kind body) dir
      ∙ ap (λ z. read (rules_are (is_directory e) z) (past_of start) kind body) info
      ∙ ap (λ z. read (rules_are (is_directory e) e.information) z kind body) past
      ∙ ap (λ z. read (rules_are (is_directory e) e.information) nothing_yet z body) of_kind
      ∙ ap (λ z. read (rules_are (is_directory e) e.information) nothing_yet e.kind z) of_body in
      let sum = bytes_in (past_of reading).runs in
      let bytes_is : list.good_length ≡ cond (e.kind == 3) (length e.body) sum =
      many ∙ ap (λ k. cond (k == 3) (length body) sum) of_kind ∙ ap (λ l. cond (e.kind == 3) (length l) sum) of_body in
      same_listing list (past_of reading) (cond (e.kind == 3) (length e.body) sum) good runs extents bytes_is ok
      ∙ told_list v a e (past_of reading) good one
      ∙ ap (listing_by v a) reads
