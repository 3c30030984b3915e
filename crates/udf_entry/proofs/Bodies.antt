-- The descriptors of a body, as the code reads them.
use Rattle.std.proofs.Common.{◌≡◌, ℕ, Bool, true, false, ◌+◌, ◌<◌, ◌≤◌, List, ◌∷◌, length, sym, ◌∙◌, ap, subst}
use Rattle.udf_field.specs.declared.address.Addr.{Addr}
use Rattle.udf_file_model.specs.Descriptors.{Descriptor, descriptor_at, descriptor_count, descriptors, descriptors_from}
use Rattle.udf_file_model.specs.Pieces.{Piece, Extent, pieces}
use Rattle.udf_file_model.specs.Front.{Rules, Past, run_passes, run_front, with_run}
use Rattle.udf_entry.specs.Outcome.{outcome, ended, with_front}
use Rattle.udf_entry.proofs.Walking.{InBody, body_ends, body_done, body_onward, body_fails, body_goes_on}

module _ (r : Rules) (kind : ℕ) (holder : Addr) (body : List ℕ) (n : ℕ) (first : Past) where
  abbrev at : ℕ → Descriptor
  at i = descriptor_at kind holder body i

  whole_body : n ≡ descriptor_count kind (length body) → descriptors_from at 0 n ≡ descriptors kind holder body
  unfolding descriptors
  whole_body e = ap (descriptors_from at 0) e

  pub ends_here : (past : Past) (i : ℕ) (d : Descriptor) → n ≡ descriptor_count kind (length body) → i < n → InBody r at n first past i
      → d ≡ at i → d.length ≡ 0 → (k : Addr → List Piece) (whole : Addr → Bool)
      → ended past true ≡ outcome r whole first (pieces k (descriptors kind holder body))
  ends_here past i d e h walk is zero k whole =
      body_ends r at n first past i h walk (ap (λ x. x.length) (sym is) ∙ zero) k whole ∙ ap (λ l. outcome r whole first (pieces k l)) (whole_body e)

  pub all_read : (past : Past) (i : ℕ) → n ≡ descriptor_count kind (length body) → n ≤ i → InBody r at n first past i
      → (k : Addr → List Piece) (whole : Addr → Bool) → ended past true ≡ outcome r whole first (pieces k (descriptors kind holder body))
  all_read past i e h walk k whole =
      body_done r at n first past i h walk k whole ∙ ap (λ l. outcome r whole first (pieces k l)) (whole_body e)

  pub goes_onward : (past : Past) (i : ℕ) (d : Descriptor) → n ≡ descriptor_count kind (length body) → i < n → InBody r at n first past i
      → d ≡ at i → (d.length ≡ 0 → ⊥) → d.kind ≡ 3 → (k : Addr → List Piece) (whole : Addr → Bool)
      → outcome r whole past (Extent d.at ∷ k d.at) ≡ outcome r whole first (pieces k (descriptors kind holder body))
  goes_onward past i d e h walk is some on k whole =
      ap (λ x. outcome r whole past (Extent x.at ∷ k x.at)) is
      ∙ body_onward r at n first past i h walk (λ z. some (ap (λ x. x.length) is ∙ z)) (ap (λ x. x.kind) (sym is) ∙ on) k whole
      ∙ ap (λ l. outcome r whole first (pieces k l)) (whole_body e)

  pub fails_here : (q : Rules) (past : Past) (i : ℕ) (d : Descriptor) (after : Past) → n ≡ descriptor_count kind (length body) → i < n
      → InBody r at n first past i → d ≡ at i → (d.length ≡ 0 → ⊥) → (d.kind ≡ 3 → ⊥) → q ≡ r → false ≡ run_passes q past d
      → after ≡ with_front past (run_front q past d) → (k : Addr → List Piece) (whole : Addr → Bool)
      → ended after false ≡ outcome r whole first (pieces k (descriptors kind holder body))
  fails_here q past i d after e h walk is some here same fails front k whole =
      let f : after ≡ with_front past (run_front r past (at i)) =
      front ∙ ap (λ x. with_front past (run_front x past d)) same ∙ ap (λ x. with_front past (run_front r past x)) is in
      let p : run_passes r past (at i) ≡ false = sym (ap (λ x. run_passes r past x) is) ∙ sym (ap (λ x. run_passes x past d) same) ∙ sym fails in
      ap (λ x. ended x false) f
      ∙ body_fails r at n first past i h walk (λ z. some (ap (λ x. x.length) is ∙ z)) (λ z. here (ap (λ x. x.kind) is ∙ z)) p k whole
      ∙ ap (λ l. outcome r whole first (pieces k l)) (whole_body e)

  pub goes_on : (q : Rules) (past : Past) (i : ℕ) (d : Descriptor) (after : Past) → i < n
      → InBody r at n first past i → d ≡ at i → (d.length ≡ 0 → ⊥) → (d.kind ≡ 3 → ⊥) → q ≡ r → true ≡ run_passes q past d
      → after ≡ with_run past d → InBody r at n first after (i + 1)
  goes_on q past i d after h walk is some here same passes run =
      let f : after ≡ with_run past (at i) = run ∙ ap (with_run past) is in
      let p : run_passes r past (at i) ≡ true = sym (ap (λ x. run_passes r past x) is) ∙ sym (ap (λ x. run_passes x past d) same) ∙ sym passes in
      let P : Past → Type 0 = λ x. InBody r at n first x (i + 1) in
      subst P (sym f) (body_goes_on r at n first past i h walk (λ z. some (ap (λ x. x.length) is ∙ z)) (λ z. here (ap (λ x. x.kind) is ∙ z)) p)
