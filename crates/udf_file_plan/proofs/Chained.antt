-- The chain of allocation extents through which a cut goes, one put after another.
use Rattle.std.proofs.Common.{◌≡◌, ℕ, zero, suc, ◌+◌, ◌-◌, ◌<◌, ◌≤◌, List, [], ◌∷◌, ◌++◌, Option, Some, None, arith, refl, sym, ap, ◌∙◌, append-nil, append_assoc}
use Rattle.udf_field.specs.declared.address.Addr.{Addr}
use Rattle.udf_file_model.specs.Cut.{Onward, onward}
use Rattle.udf_file_model.specs.Descriptors.{Descriptor}
use Rattle.udf_file_model.specs.Listing.{Volume, descriptors_in}
use Rattle.udf_file_plan.specs.Base.{PutsOf}
use Rattle.udf_file_plan.specs.Chain.{chain, extent_left, extents_left}
use Rattle.udf_file_plan.proofs.Puts.{puts_none, puts_both, puts_as}

chain_zero : (at : Addr → List Descriptor) (o : Option Onward) → chain at 0 o ≡ []
unfolding chain
chain_zero at o = refl

pub chain_none : (at : Addr → List Descriptor) (n : ℕ) → chain at n None ≡ []
unfolding chain
chain_none at zero = refl
chain_none at (suc n) = refl

pub chain_some : (at : Addr → List Descriptor) (n : ℕ) (o : Onward) → chain at (suc n) (Some o) ≡ o ∷ chain at n (onward o.left (at o.next))
unfolding chain
chain_some at n o = refl

extents_joined : (v : Volume) (kind : ℕ) (xs ys : List Onward) → extents_left v kind (xs ++ ys) ≡ extents_left v kind xs ++ extents_left v kind ys
extents_joined v kind [] ys = refl
extents_joined v kind (x ∷ xs) ys = ap (λ z. extent_left v kind x ∷ z) (extents_joined v kind xs ys)

module _ (v : Volume) (kind many : ℕ) (first : Option Onward) (base : List (ℕ × List ℕ)) where
  abbrev at : Addr → List Descriptor
  at = descriptors_in v kind

  -- so many of at most as many were put, and the next is this
  pub record ChainPut (now : List (ℕ × List ℕ)) (next : Option Onward) (i : ℕ) : Type 0 where
    pub done : List Onward
    pub split : chain (descriptors_in v kind) many first ≡ done ++ chain (descriptors_in v kind) (many - i) next
    pub put : PutsOf v base now (extents_left v kind done)

  pub chain_begins : ChainPut base first 0
  chain_begins = record {
    done = [];
    split = let e : many ≡ many - 0 = omega arith in ap (λ n. chain at n first) e;
    put = puts_none v base;
  }

  ends : (now : List (ℕ × List ℕ)) (next : Option Onward) (i : ℕ) (so : ChainPut now next i) → chain at (many - i) next ≡ []
      → PutsOf v base now (extents_left v kind (chain (descriptors_in v kind) many first))
  ends now next i so e =
      puts_as v base now (extents_left v kind so.done) _ so.put (ap (extents_left v kind) (sym (so.split ∙ ap (λ z. so.done ++ z) e ∙ append-nil so.done)))

  pub chain_stops : (now : List (ℕ × List ℕ)) (next : Option Onward) (i : ℕ) → ChainPut now next i → next ≡ None
      → PutsOf v base now (extents_left v kind (chain (descriptors_in v kind) many first))
  chain_stops now next i so e = ends now next i so (ap (chain at (many - i)) e ∙ chain_none at (many - i))

  pub chain_ends : (now : List (ℕ × List ℕ)) (next : Option Onward) (i : ℕ) → ChainPut now next i → many ≤ i
      → PutsOf v base now (extents_left v kind (chain (descriptors_in v kind) many first))
  chain_ends now next i so h =
      ends now next i so ((let e : many - i ≡ 0 = omega arith in ap (λ n. chain at n next) e) ∙ chain_zero at next)

  pub chain_goes_on : (now after : List (ℕ × List ℕ)) (next later : Option Onward) (o : Onward) (i : ℕ) → ChainPut now next i → i < many → next ≡ Some o
      → PutsOf v now after (extents_left v kind (o ∷ [])) → later ≡ onward o.left (descriptors_in v kind o.next) → ChainPut after later (i + 1)
  chain_goes_on now after next later o i so h is put on = record {
    done = so.done ++ (o ∷ []);
    split = so.split
        ∙ ap (λ z. so.done ++ z) (
        (let e : many - i ≡ suc (many - (i + 1)) = omega arith in ap (λ n. chain at n next) e) ∙ ap (chain at (suc (many - (i + 1)))) is
        ∙ chain_some at (many - (i + 1)) o ∙ ap (λ l. o ∷ chain at (many - (i + 1)) l) (sym on))
        ∙ sym (append_assoc so.done (o ∷ []) (chain at (many - (i + 1)) later));
    put = puts_as v base after (extents_left v kind so.done ++ extents_left v kind (o ∷ [])) (extents_left v kind (so.done ++ (o ∷ [])))
        (puts_both v base now after (extents_left v kind so.done) (extents_left v kind (o ∷ [])) so.put put)
        (sym (extents_joined v kind so.done (o ∷ [])));
  }
