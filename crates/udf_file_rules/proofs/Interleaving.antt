-- Among kept entries in the order of addresses the file set stands after those below it and before the others.
use Rattle.std.proofs.Common.{◌≡◌, Bool, true, false, not, cond, ◌&&◌, List, [], ◌∷◌, ◌++◌, refl, sym, ap, ◌∙◌, subst, inl, inr, arith}
use Rattle.std.specs.List.{filter, flat_map}
use Rattle.std.proofs.lemmas.Bool.{false≢true}
use Rattle.std.proofs.lemmas.Bool.Decides.{nat_tests}
use Rattle.std.proofs.lemmas.List.{append_assoc}
use Rattle.udf_field.specs.declared.address.Addr.{Addr}
use Rattle.udf_tree_model.specs.Among.{Member}
use Rattle.udf_tree_model.specs.Chosen.{is_lower}
use Rattle.udf_tree_model.proofs.Members.{member_filter}
use Rattle.udf_dues.proofs.Ascending.{Ascending, not_lower_itself}

pub none_filtered : {A : Type 0} (p : A → Bool) (xs : List A) → ((a : A) → Member a xs → p a ≡ false) → filter p xs ≡ []
none_filtered p [] h = refl
none_filtered p (x ∷ xs) h = ap (λ b. cond b (x ∷ filter p xs) (filter p xs)) (h x (inl refl)) ∙ none_filtered p xs (λ a m. h a (inr m))

none_mapped : {A B : Type 0} (g : A → List B) (xs : List A) → ((a : A) → Member a xs → g a ≡ []) → flat_map g xs ≡ []
none_mapped g [] h = refl
none_mapped g (x ∷ xs) h = ap (λ (l : List _). l ++ flat_map g xs) (h x (inl refl)) ∙ none_mapped g xs (λ a m. h a (inr m))

not_true : (b : Bool) → (b ≡ true → ⊥) → b ≡ false
not_true true h = absurd (h refl)
not_true false h = refl

-- what is not below an address has nothing below that after it
still_above : (m x b : Addr) → is_lower x m ≡ false → is_lower x b ≡ true → is_lower b m ≡ false
still_above m x b h l = grind (arith, nat_tests)

-- of a list in order the one that passes a test
pub alone : (p : Addr → Bool) (m : Addr) → ((a : Addr) → p a ≡ true → a ≡ m) → p m ≡ true → (xs : List Addr) → Ascending xs → Member m xs → filter p xs ≡ m ∷ []
alone p m only is [] up at = absurd at
alone p m only is (x ∷ xs) up (inl e) =
    ap (λ b. cond b (x ∷ filter p xs) (filter p xs)) (ap p (sym e) ∙ is)
    ∙ ap (λ (l : List Addr). x ∷ l) (none_filtered p xs (λ a k. not_true (p a) (λ t. false≢true (sym (not_lower_itself x) ∙ subst (λ (y : Addr). is_lower x y ≡ true) (only a t ∙ e) (up.0 a k)))))
    ∙ ap (λ (y : Addr). y ∷ []) (sym e)
alone p m only is (x ∷ xs) up (inr k) =
    ap (λ b. cond b (x ∷ filter p xs) (filter p xs)) (not_true (p x) (λ t. false≢true (sym (not_lower_itself m) ∙ subst (λ (y : Addr). is_lower y m ≡ true) (only x t) (up.0 m k))))
    ∙ alone p m only is xs up.1 k

-- what is found of those below an address, and of the others
abbrev pub low : {B : Type 0} → (Addr → List B) → Addr → Addr → List B
low h m a = cond (is_lower a m) (h a) []

abbrev pub high : {B : Type 0} → (Addr → List B) → Addr → Addr → List B
high h m a = cond (is_lower a m) [] (h a)

-- what is kept and holds no pointer of the volume, and what does
abbrev pub entries_among : (Addr → Bool) → (Addr → Bool) → List Addr → List Addr
entries_among k holder xs = filter (λ a. k a && not (holder a)) xs

abbrev pub holders_among : (Addr → Bool) → (Addr → Bool) → List Addr → List Addr
holders_among k holder xs = filter (λ a. k a && holder a) xs

module _ {B : Type 0} (h : Addr → List B) (m : Addr) (k holder : Addr → Bool) (only : (a : Addr) → holder a ≡ true → a ≡ m) where
  none_low : (x : Addr) (xs : List Addr) → is_lower x m ≡ false → ((b : Addr) → Member b xs → is_lower x b ≡ true) → flat_map (low h m) (entries_among k holder xs) ≡ []
  none_low x xs above up =
      none_mapped (low h m) (entries_among k holder xs) (λ a n. ap (λ b. cond b (h a) []) (still_above m x a above (up a (member_filter (λ a. k a && not (holder a)) xs a n).0)))

  both : (a b : Bool) → (a && b) ≡ true → b ≡ true
  both true b e = e
  both false b e = absurd (false≢true e)

  none_holds : (x : Addr) (xs : List Addr) → is_lower x m ≡ false → ((b : Addr) → Member b xs → is_lower x b ≡ true) → holders_among k holder xs ≡ []
  none_holds x xs above up =
      none_filtered (λ a. k a && holder a) xs (λ a n. not_true (k a && holder a) (λ t.
      false≢true (sym above ∙ subst (λ (y : Addr). is_lower x y ≡ true) (only a (both (k a) (holder a) t)) (up a n))))

  pub parted : (xs : List Addr) → Ascending xs → flat_map h (filter k xs) ≡ flat_map (low h m) (entries_among k holder xs) ++ (flat_map h (holders_among k holder xs) ++ flat_map (high h m) (entries_among k holder xs))
  parted [] up = refl
  parted (x ∷ xs) up = front (k x) ∙ sym (put (parted xs up.1) (k x) (holder x) (is_lower x m) refl refl refl)
    where
      put : flat_map h (filter k xs) ≡ flat_map (low h m) (entries_among k holder xs) ++ (flat_map h (holders_among k holder xs) ++ flat_map (high h m) (entries_among k holder xs))
          → (a b c : Bool) → k x ≡ a → holder x ≡ b → is_lower x m ≡ c
          → flat_map (low h m) (cond (a && not b) (x ∷ entries_among k holder xs) (entries_among k holder xs)) ++ (flat_map h (cond (a && b) (x ∷ holders_among k holder xs) (holders_among k holder xs)) ++ flat_map (high h m) (cond (a && not b) (x ∷ entries_among k holder xs) (entries_among k holder xs)))
          ≡ cond a (h x) [] ++ flat_map h (filter k xs)
      put rec false b c ka hb lc = sym rec
      put rec true true c ka hb lc =
          let here : is_lower x m ≡ false = ap (is_lower x) (sym (only x hb)) ∙ not_lower_itself x in
          ap (λ (l : List B). l ++ ((h x ++ flat_map h (holders_among k holder xs)) ++ flat_map (high h m) (entries_among k holder xs))) (none_low x xs here up.0)
          ∙ append_assoc (h x) (flat_map h (holders_among k holder xs)) (flat_map (high h m) (entries_among k holder xs))
          ∙ ap (λ (l : List B). h x ++ (l ++ (flat_map h (holders_among k holder xs) ++ flat_map (high h m) (entries_among k holder xs)))) (sym (none_low x xs here up.0))
          ∙ ap (λ (l : List B). h x ++ l) (sym rec)
      put rec true false true ka hb lc =
          ap (λ z. (cond z (h x) [] ++ flat_map (low h m) (entries_among k holder xs)) ++ (flat_map h (holders_among k holder xs) ++ (cond z [] (h x) ++ flat_map (high h m) (entries_among k holder xs)))) lc
          ∙ append_assoc (h x) (flat_map (low h m) (entries_among k holder xs)) (flat_map h (holders_among k holder xs) ++ flat_map (high h m) (entries_among k holder xs))
          ∙ ap (λ (l : List B). h x ++ l) (sym rec)
      put rec true false false ka hb lc =
          ap (λ z. (cond z (h x) [] ++ flat_map (low h m) (entries_among k holder xs)) ++ (flat_map h (holders_among k holder xs) ++ (cond z [] (h x) ++ flat_map (high h m) (entries_among k holder xs)))) lc
          ∙ ap (λ (l : List B). l ++ (flat_map h (holders_among k holder xs) ++ (h x ++ flat_map (high h m) (entries_among k holder xs)))) (none_low x xs lc up.0)
          ∙ ap (λ (ys : List Addr). flat_map h ys ++ (h x ++ flat_map (high h m) (entries_among k holder xs))) (none_holds x xs lc up.0)
          ∙ sym (ap (λ (l : List B). h x ++ l) (rec ∙ ap (λ (l : List B). l ++ (flat_map h (holders_among k holder xs) ++ flat_map (high h m) (entries_among k holder xs))) (none_low x xs lc up.0)
          ∙ ap (λ (ys : List Addr). flat_map h ys ++ flat_map (high h m) (entries_among k holder xs)) (none_holds x xs lc up.0)))

      front : (a : Bool) → flat_map h (cond a (x ∷ filter k xs) (filter k xs)) ≡ cond a (h x) [] ++ flat_map h (filter k xs)
      front true = refl
      front false = refl
