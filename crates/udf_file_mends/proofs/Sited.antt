-- Blocks at the sectors of their addresses: the first at an address is the one that is looked up there.
use Rattle.std.proofs.Common.{◌≡◌, ℕ, List, [], ◌∷◌, ◌++◌, map, Bool, true, false, cond, Option, Some, None, refl, sym, ap, ◌∙◌, inl, inr, arith, subst, append_assoc}
use Rattle.std.specs.Prelude.{◌==◌}
use Rattle.std.proofs.lemmas.Bool.Decides.{nat_tests}
use Rattle.udf_field.specs.declared.address.Addr.{Addr}
use Rattle.udf_file_model.specs.Listing.{Volume}
use Rattle.udf_volume_model.specs.Edits.{look}
use Rattle.udf_tree_model.proofs.Members.{Member, member_map}
use Rattle.udf_tree_model.proofs.Linking.{Distinct}
use Rattle.udf_file_mends.specs.Mends.{edit_by, edits_of}
use Rattle.udf_file_mends.specs.Spread.{Sited}

same_number : (n : ℕ) → (n == n) ≡ true
same_number n = grind (arith, nat_tests)

number_is : (m n : ℕ) → (m == n) ≡ true → m ≡ n
number_is m n t = grind (arith, nat_tests)

-- the addresses of blocks
abbrev pub sites : List Sited → List Addr
sites bs = map (λ b. b.0) bs

-- different addresses have different sectors
abbrev pub AreApart : Volume → Type 0
AreApart v = (x y : Addr) (n : ℕ) → v.place x ≡ Some n → v.place y ≡ Some n → x ≡ y

-- edits after edits count where none before is at the sector
pub look_joined : (n : ℕ) (xs ys : List (ℕ × List ℕ)) (block : List ℕ) → look n (xs ++ ys) block ≡ look n xs (look n ys block)
unfolding look
look_joined n [] ys block = refl
look_joined n (x ∷ xs) ys block = ap (λ r. cond (n == x.0) x.1 r) (look_joined n xs ys block)

-- what was put is put again
pub look_again : (n : ℕ) (xs : List (ℕ × List ℕ)) (block : List ℕ) → look n xs (look n xs block) ≡ look n xs block
unfolding look
look_again n [] block = refl
look_again n (x ∷ xs) block = by (n == x.0) (look_again n xs block)
  where
    by : (t : Bool) → look n xs (look n xs block) ≡ look n xs block → cond t x.1 (look n xs (cond t x.1 (look n xs block))) ≡ cond t x.1 (look n xs block)
    by true h = refl
    by false h = h

-- no block at a sector at which none of the addresses stands
pub look_absent : (v : Volume) (n : ℕ) (bs : List Sited) (block : List ℕ) → ((c : Sited) → Member c bs → v.place c.0 ≡ Some n → ⊥) → look n (edits_of v bs) block ≡ block
unfolding edits_of look
look_absent v n [] block off = refl
look_absent v n (c ∷ cs) block off =
    look_joined n (edit_by c.1 (v.place c.0)) (edits_of v cs) block ∙ step (v.place c.0) refl ∙ look_absent v n cs block (λ d m. off d (inr m))
  where
    at : (m : ℕ) → v.place c.0 ≡ Some m → (t : Bool) → (n == m) ≡ t → cond t c.1 (look n (edits_of v cs) block) ≡ look n (edits_of v cs) block
    at m e true t = absurd (off c (inl refl) (e ∙ ap Some (sym (number_is n m t))))
    at m e false t = refl

    step : (o : Option ℕ) → v.place c.0 ≡ o → look n (edit_by c.1 o) (look n (edits_of v cs) block) ≡ look n (edits_of v cs) block
    step None e = refl
    step (Some m) e = at m e (n == m) refl

module _ (v : Volume) (apart : AreApart v) (x : Addr) (n : ℕ) (place : v.place x ≡ Some n) where
  step_off : (c : Sited) (block : List ℕ) → (c.0 ≡ x → ⊥) → look n (edit_by c.1 (v.place c.0)) block ≡ block
  unfolding look
  step_off c block off = by (v.place c.0) refl
    where
      at : (m : ℕ) → v.place c.0 ≡ Some m → (t : Bool) → (n == m) ≡ t → cond t c.1 block ≡ block
      at m e true t = absurd (off (apart c.0 x n (e ∙ ap Some (sym (number_is n m t))) place))
      at m e false t = refl

      by : (o : Option ℕ) → v.place c.0 ≡ o → look n (edit_by c.1 o) block ≡ block
      by None e = refl
      by (Some m) e = at m e (n == m) refl

  step_here : (c : Sited) (block : List ℕ) → c.0 ≡ x → look n (edit_by c.1 (v.place c.0)) block ≡ c.1
  unfolding look
  step_here c block here =
      ap (λ o. look n (edit_by c.1 o) block) (ap v.place here ∙ place) ∙ ap (λ t. cond t c.1 block) (same_number n)

  -- off the addresses of the blocks nothing changes
  pub look_off : (bs : List Sited) (block : List ℕ) → (Member x (sites bs) → ⊥) → look n (edits_of v bs) block ≡ block
  unfolding edits_of look
  look_off [] block off = refl
  look_off (c ∷ cs) block off =
      look_joined n (edit_by c.1 (v.place c.0)) (edits_of v cs) block
      ∙ step_off c (look n (edits_of v cs) block) (λ e. off (inl (sym e)))
      ∙ look_off cs block (λ m. off (inr m))

  -- of blocks at different addresses the one at this address is found
  pub look_there : (bs : List Sited) (block : List ℕ) → Distinct (sites bs) → (c : Sited) → Member c bs → c.0 ≡ x → look n (edits_of v bs) block ≡ c.1
  unfolding edits_of look
  look_there [] block d c m e = absurd m
  look_there (b ∷ bs) block d c (inl i) e =
      look_joined n (edit_by b.1 (v.place b.0)) (edits_of v bs) block
      ∙ step_here b (look n (edits_of v bs) block) (ap (λ (z : Sited). z.0) (sym i) ∙ e)
      ∙ ap (λ (z : Sited). z.1) (sym i)
  look_there (b ∷ bs) block d c (inr i) e =
      look_joined n (edit_by b.1 (v.place b.0)) (edits_of v bs) block
      ∙ step_off b (look n (edits_of v bs) block) (λ k. d.0 (subst (λ z. Member z (sites bs)) (e ∙ sym k) (member_map (λ (z : Sited). z.0) bs c i)))
      ∙ look_there bs block d.1 c i e

  -- what stands before counts first
  edits_joined : (bs cs : List Sited) → edits_of v (bs ++ cs) ≡ edits_of v bs ++ edits_of v cs
  unfolding edits_of
  edits_joined [] cs = refl
  edits_joined (b ∷ bs) cs = ap (λ z. edit_by b.1 (v.place b.0) ++ z) (edits_joined bs cs) ∙ sym (append_assoc (edit_by b.1 (v.place b.0)) (edits_of v bs) (edits_of v cs))

  pub look_before : (bs cs : List Sited) (block : List ℕ) → Distinct (sites bs) → (c : Sited) → Member c bs → c.0 ≡ x → look n (edits_of v (bs ++ cs)) block ≡ c.1
  look_before bs cs block d c m e =
      ap (λ z. look n z block) (edits_joined bs cs) ∙ look_joined n (edits_of v bs) (edits_of v cs) block ∙ look_there bs (look n (edits_of v cs) block) d c m e

  pub look_first : (c : Sited) (cs : List Sited) (block : List ℕ) → c.0 ≡ x → look n (edits_of v (c ∷ cs)) block ≡ c.1
  unfolding edits_of
  look_first c cs block e = look_joined n (edit_by c.1 (v.place c.0)) (edits_of v cs) block ∙ step_here c (look n (edits_of v cs) block) e

  -- blocks before, none of which is at the address, hide none
  pub look_past : (bs cs : List Sited) (block : List ℕ) → (Member x (sites bs) → ⊥) → look n (edits_of v (bs ++ cs)) block ≡ look n (edits_of v cs) block
  unfolding edits_of look
  look_past [] cs block off = refl
  look_past (b ∷ bs) cs block off =
      look_joined n (edit_by b.1 (v.place b.0)) (edits_of v (bs ++ cs)) block
      ∙ step_off b (look n (edits_of v (bs ++ cs)) block) (λ e. off (inl (sym e)))
      ∙ look_past bs cs block (λ m. off (inr m))
