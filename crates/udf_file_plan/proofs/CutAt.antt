-- Where a cut of a body ends, by its bytes.
use Rattle.std.proofs.Common.{◌≡◌, ℕ, ◌+◌, ◌-◌, ◌<◌, ◌≤◌, List, length, Some, sym, ◌∙◌, ap, subst}
use Rattle.udf_field.specs.declared.address.Addr.{Addr}
use Rattle.udf_file_model.specs.Cut.{onward}
use Rattle.udf_file_model.specs.Descriptors.{Descriptor, descriptor_at, descriptor_count, descriptors, descriptors_from}
use Rattle.udf_file_plan.specs.Cuts.{EndsWithin}
use Rattle.udf_file_plan.proofs.Cutting.{CutSoFar, ends_zero, ends_done, ends_here, goes_beyond, goes_on}

module _ (kind : ℕ) (holder : Addr) (body : List ℕ) (n b : ℕ) (many : n ≡ descriptor_count kind (length body)) where
  abbrev at : ℕ → Descriptor
  at i = descriptor_at kind holder body i

  whole_is : descriptors_from at 0 n ≡ descriptors kind holder body
  unfolding descriptors
  whole_is = ap (descriptors_from at 0) many

  abbrev So : ℕ → ℕ → Type 0
  So left i = CutSoFar (descriptor_at kind holder body) n b left i

  module _ (left i : ℕ) (so : So left i) where
    pub done : n ≡ i → EndsWithin b (descriptors kind holder body) n 0
    done e = subst (λ (ds : List Descriptor). EndsWithin b ds n 0) whole_is (ends_done at n b left i e so)

    module _ (h : i < n) (d : Descriptor) (is : d ≡ descriptor_at kind holder body i) where
      pub zero_here : d.length ≡ 0 → EndsWithin b (descriptors kind holder body) i 0
      zero_here z = subst (λ (ds : List Descriptor). EndsWithin b ds i 0) whole_is (ends_zero at n b left i h (ap (λ x. x.length) (sym is) ∙ z) so)

      module _ (some : d.length ≡ 0 → ⊥) where
        here_some : (at i).length ≡ 0 → ⊥
        here_some z = some (ap (λ x. x.length) is ∙ z)

        pub beyond : d.kind ≡ 3 → onward b (descriptors kind holder body) ≡ Some (record { next = d.at; left = left })
        beyond k =
            ap (onward b) (sym whole_is) ∙ goes_beyond at n b left i h here_some (ap (λ x. x.kind) (sym is) ∙ k) so
            ∙ ap (λ (x : Descriptor). Some (record { next = x.at; left = left })) (sym is)

        module _ (other : d.kind ≡ 3 → ⊥) where
          here_other : (at i).kind ≡ 3 → ⊥
          here_other k = other (ap (λ x. x.kind) is ∙ k)

          pub within : left ≤ d.length → EndsWithin b (descriptors kind holder body) (i + 1) left
          within low =
              subst (λ (ds : List Descriptor). EndsWithin b ds (i + 1) left) whole_is
              (ends_here at n b left i h here_some here_other (subst (λ (x : Descriptor). left ≤ x.length) is low) so)

          pub further : d.length < left → So (left - d.length) (i + 1)
          further low =
              subst (λ (x : Descriptor). So (left - x.length) (i + 1)) (sym is)
              (goes_on at n b left i h here_some here_other (subst (λ (x : Descriptor). x.length < left) is low) so)
