-- A content that is put over the blocks of descriptors, one after another.
use Rattle.std.proofs.Common.{◌≡◌, ℕ, zero, suc, ◌+◌, ◌≤◌, List, [], ◌∷◌, ◌++◌, length, take, drop, Some, ◌⊎◌, inl, inr, arith, refl, sym, ap, ◌∙◌, append-nil, append_assoc}
use Rattle.std.specs.Prelude.{slice_get, min}
use Rattle.std.proofs.lemmas.List.{take_all}
use Rattle.udf_file_model.specs.Descriptors.{Descriptor}
use Rattle.udf_file_model.specs.Listing.{Volume}
use Rattle.udf_file_mends.specs.Spread.{Sited}
use Rattle.udf_file_plan.specs.Base.{PutsOf}
use Rattle.udf_file_plan.specs.Over.{spread_at, spread_over}
use Rattle.udf_file_plan.proofs.Puts.{puts_none, puts_both, puts_as}

over_nil : (v : Volume) (content : List ℕ) → spread_over v [] content ≡ []
unfolding spread_over
over_nil v content = refl

over_more : (v : Volume) (d : Descriptor) (ds : List Descriptor) (content : List ℕ)
    → spread_over v (d ∷ ds) content ≡ spread_at v d.at.part d.at.block (take d.length content) ++ spread_over v ds (drop d.length content)
unfolding spread_over
over_more v d ds content = refl

-- what stands at an index is what is first behind it
drop_there : (ds : List Descriptor) (i : ℕ) (d : Descriptor) → slice_get ds i ≡ Some d → drop i ds ≡ d ∷ drop (i + 1) ds
drop_there [] i d e = cc
drop_there (x ∷ ds) zero d e = let s : x ≡ d = cc in ap (λ y. y ∷ ds) s
drop_there (x ∷ ds) (suc i) d e = drop_there ds i d e ∙ (let z : suc (i + 1) ≡ suc i + 1 = omega arith in ap (λ k. d ∷ drop k (x ∷ ds)) z)

drop_end : (ds : List Descriptor) (i : ℕ) → length ds ≤ i → drop i ds ≡ []
drop_end [] zero h = refl
drop_end [] (suc i) h = refl
drop_end (x ∷ ds) zero h = absurd (omega (arith, h))
drop_end (x ∷ ds) (suc i) h = drop_end ds i (omega (arith, h))

-- as much of a list as there is
pub take_least : (n m : ℕ) (xs : List ℕ) → m ≡ min (length xs) n → take m xs ≡ take n xs
take_least n m xs e = by (either n (length xs))
  where
    either : (a b : ℕ) → (a ≤ b) ⊎ (b ≤ a)
    either zero b = inl (omega arith)
    either (suc a) zero = inr (omega arith)
    either (suc a) (suc b) = by_less (either a b)
      where
        by_less : (a ≤ b) ⊎ (b ≤ a) → (suc a ≤ suc b) ⊎ (suc b ≤ suc a)
        by_less (inl h) = inl (omega (arith, h))
        by_less (inr h) = inr (omega (arith, h))

    by : (n ≤ length xs) ⊎ (length xs ≤ n) → take m xs ≡ take n xs
    by (inl h) = let z : m ≡ n = omega (arith, e, h) in ap (λ k. take k xs) z
    by (inr h) = take_all m xs (omega (arith, e, h)) ∙ sym (take_all n xs h)

pub drop_least : (n m : ℕ) (xs : List ℕ) → m ≡ min (length xs) n → drop m xs ≡ drop n xs
drop_least n m xs e = go m n xs e
  where
    go : (m n : ℕ) (xs : List ℕ) → m ≡ min (length xs) n → drop m xs ≡ drop n xs
    go zero zero xs e = refl
    go zero (suc n) [] e = refl
    go zero (suc n) (x ∷ xs) e = absurd (omega (arith, e))
    go (suc m) zero xs e = absurd (omega (arith, e))
    go (suc m) (suc n) [] e = refl
    go (suc m) (suc n) (x ∷ xs) e = go m n xs (omega (arith, e))

module _ (v : Volume) (ds : List Descriptor) (content : List ℕ) (base : List (ℕ × List ℕ)) where
  -- over the first so many descriptors it was put, and so much of it is left
  pub record ContentPut (now : List (ℕ × List ℕ)) (left : List ℕ) (i : ℕ) : Type 0 where
    pub done : List Sited
    pub split : spread_over v ds content ≡ done ++ spread_over v (drop i ds) left
    pub put : PutsOf v base now done

  pub content_begins : ContentPut base content 0
  content_begins = record { done = []; split = refl; put = puts_none v base }

  pub content_ends : (now : List (ℕ × List ℕ)) (left : List ℕ) (i : ℕ) → ContentPut now left i → length ds ≤ i → PutsOf v base now (spread_over v ds content)
  content_ends now left i so h =
      puts_as v base now so.done _ so.put
      (sym (so.split ∙ ap (λ l. so.done ++ spread_over v l left) (drop_end ds i h) ∙ ap (λ z. so.done ++ z) (over_nil v left) ∙ append-nil so.done))

  pub content_goes_on : (now after : List (ℕ × List ℕ)) (left front rest : List ℕ) (i : ℕ) (d : Descriptor) → ContentPut now left i → slice_get ds i ≡ Some d
      → front ≡ take d.length left → rest ≡ drop d.length left → PutsOf v now after (spread_at v d.at.part d.at.block front) → ContentPut after rest (i + 1)
  content_goes_on now after left front rest i d so there first second put = record {
    done = so.done ++ spread_at v d.at.part d.at.block front;
    split = so.split ∙ ap (λ l. so.done ++ spread_over v l left) (drop_there ds i d there) ∙ ap (λ z. so.done ++ z) (over_more v d (drop (i + 1) ds) left)
        ∙ ap (λ b. so.done ++ (spread_at v d.at.part d.at.block b ++ spread_over v (drop (i + 1) ds) (drop d.length left))) (sym first)
        ∙ ap (λ b. so.done ++ (spread_at v d.at.part d.at.block front ++ spread_over v (drop (i + 1) ds) b)) (sym second)
        ∙ sym (append_assoc so.done (spread_at v d.at.part d.at.block front) (spread_over v (drop (i + 1) ds) rest));
    put = puts_both v base now after so.done (spread_at v d.at.part d.at.block front) so.put put;
  }
