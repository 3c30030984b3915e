-- An allocation extent with other descriptors is read with them.
use Rattle.std.proofs.Common.{◌≡◌, ℕ, Bool, true, false, cond, ◌+◌, ◌^◌, ◌<◌, ◌≤◌, ◌==◌, ◌&&◌, nat_le, inl, Some, None, List, length, take, drop, arith, sym, ◌∙◌, ap, refl}
use Rattle.std.proofs.lemmas.Bool.Decides.{nat_tests}
use Rattle.std.proofs.lemmas.List.{drop-drop, length-take-le, length-drop}
use Rattle.udf_model.specs.Bytes.{IsBytes, number_at, with_number, written_at}
use Rattle.udf_model.specs.Tag.{id_at, is_id, identifier, is_whole, location, retagged}
use Rattle.udf_model.proofs.Retagged.{retagged_body, retagged_id, retagged_length}
use Rattle.udf_model.proofs.Written.{number_apart, number_back, number_length, number_stays, number_is_bytes, written_back, written_is_bytes, written_length}
use Rattle.udf_file_model.specs.Entry.{extent_body}
use Rattle.udf_file_model.proofs.Numbers.{number_retagged}
use Rattle.udf_file_model.specs.CutBody.{extent_with}

-- what a whole allocation extent is known by
pub record OpenExtent (block old : List ℕ) : Type 0 where
  pub named : identifier block ≡ 258
  pub room : 24 + length old ≤ length block
  pub bytes : number_at 4 block 20 ≡ length old

pub extent_opened : (at : ℕ) (block old : List ℕ) → extent_body at block ≡ Some old → OpenExtent block old
unfolding extent_body id_at
extent_opened at block old e = choose (is_whole block && (location block == at)) (nat_le (24 + number_at 4 block 20) (length block)) refl e
  where
    no_some : None ≡ Some old → ⊥
    no_some e = cc

    same : (x : List ℕ) → Some x ≡ Some old → x ≡ old
    same x e = cc

    number : (a b : ℕ) → (a == b) ≡ true → a ≡ b
    number a b t = grind (arith, nat_tests)

    below : (a b : ℕ) → nat_le a b ≡ true → a ≤ b
    below a b t = grind (arith, nat_tests)

    by_id : (i : Bool) → (identifier block == 258) ≡ i → (r : Bool) → nat_le (24 + number_at 4 block 20) (length block) ≡ r
        → cond (i && r) (Some (take (number_at 4 block 20) (drop 24 block))) None ≡ Some old → OpenExtent block old
    by_id true p true q e =
        let s = same (take (number_at 4 block 20) (drop 24 block)) e in
        let fit = below (24 + number_at 4 block 20) (length block) q in
        let long : length (take (number_at 4 block 20) (drop 24 block)) ≡ number_at 4 block 20 = length-take-le (number_at 4 block 20) (drop 24 block) (omega (arith, fit, length-drop 24 block)) in
        record { named = number (identifier block) 258 p; room = omega (arith, fit, ap length s, long); bytes = sym long ∙ ap length s }
    by_id true p false q e = absurd (no_some e)
    by_id false p r q e = absurd (no_some e)

    choose : (t r : Bool) → nat_le (24 + number_at 4 block 20) (length block) ≡ r
        → cond (is_id 258 (cond t (Some (identifier block)) None) && r) (Some (take (number_at 4 block 20) (drop 24 block))) None ≡ Some old → OpenExtent block old
    choose false r q e = absurd (no_some e)
    choose true r q e = by_id (identifier block == 258) refl r q e

module _ (at : ℕ) (body block old : List ℕ) (all : IsBytes block) (most : length block ≤ 4096) (low : at < 2 ^ 32) (open_ : OpenExtent block old)
    (bytes : IsBytes body) (shorter : length body ≤ length old) where
  abbrev numbered : List ℕ
  numbered = with_number 4 20 (length body) block

  numbered_length : length numbered ≡ length block
  numbered_length = number_length 4 20 (length body) block (omega (arith, open_.room))

  abbrev area : List ℕ
  area = written_at 24 body numbered

  area_length : length area ≡ length block
  area_length = written_length 24 body numbered (omega (arith, numbered_length, open_.room)) ∙ numbered_length

  area_is_bytes : IsBytes area
  area_is_bytes = written_is_bytes 24 body numbered bytes (number_is_bytes 4 20 (length body) block all)

  abbrev new : List ℕ
  new = extent_with at body block

  new_id : id_at at new ≡ Some 258
  unfolding extent_with
  new_id =
      retagged_id at (8 + length body) area area_is_bytes (omega (arith, area_length, open_.room)) (omega (arith, open_.room, most)) low
      ∙ ap Some (
      number_apart 24 (length body) 2 0 body numbered refl (omega (arith, numbered_length, open_.room)) (inl (omega arith))
      ∙ number_stays 4 20 (length body) 2 0 block (omega (arith, open_.room)) (inl (omega arith))
      ∙ open_.named)

  new_bytes : number_at 4 new 20 ≡ length body
  unfolding extent_with
  new_bytes =
      number_retagged 4 20 at (8 + length body) area (omega (arith, area_length, open_.room)) (omega arith)
      ∙ number_apart 24 (length body) 4 20 body numbered refl (omega (arith, numbered_length, open_.room)) (inl (omega arith))
      ∙ number_back 4 20 (length body) block (omega (arith, open_.room)) (omega (arith, open_.room, most))

  pub new_extent_length : length new ≡ length block
  unfolding extent_with
  new_extent_length = retagged_length at (8 + length body) area (omega (arith, area_length, open_.room)) ∙ area_length

  there : take (length body) (drop 24 new) ≡ body
  unfolding extent_with
  there =
      ap (take (length body)) (
      sym (drop-drop 8 16 (retagged at (8 + length body) area))
      ∙ ap (drop 8) (retagged_body at (8 + length body) area (omega (arith, area_length, open_.room)))
      ∙ drop-drop 8 16 area)
      ∙ written_back 24 (length body) body numbered refl (omega (arith, numbered_length, open_.room))

  -- the extent is read with its new descriptors
  pub new_extent : extent_body at new ≡ Some body
  unfolding extent_body
  new_extent =
      let fit : nat_le (24 + number_at 4 new 20) (length new) ≡ true = within (omega (arith, new_bytes, new_extent_length, shorter, open_.room)) in
      ap (λ q. cond (is_id 258 q && nat_le (24 + number_at 4 new 20) (length new)) (Some (take (number_at 4 new 20) (drop 24 new))) None) new_id
      ∙ ap (λ t. cond t (Some (take (number_at 4 new 20) (drop 24 new))) None) fit
      ∙ ap (λ n. Some (take n (drop 24 new))) new_bytes
      ∙ ap Some there
    where
      within : {a b : ℕ} → a ≤ b → nat_le a b ≡ true
      within h = grind (arith, nat_tests)
