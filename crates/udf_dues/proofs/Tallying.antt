-- Counts of links, one link after another.
use Rattle.std.proofs.Common.{◌≡◌, ℕ, zero, suc, ◌+◌, ◌<◌, List, [], ◌∷◌, ◌++◌, length, take, get_or, set, replicate, Bool, true, false, cond, ◌&&◌, nat_eq, refl, sym, ap, ◌∙◌, subst, arith, eqb-true, Option, Some, None}
use Rattle.std.specs.Prelude.{IfOk, Result, Ok, Err, count_by, min, slice_get}
use Rattle.std.specs.List.{flat_map}
use Rattle.std.proofs.lemmas.Bool.{eqb-false}
use Rattle.std.proofs.lemmas.Bool.Decides.{nat_tests}
use Rattle.std.proofs.lemmas.List.{append-nil, append_assoc, get_or-set_other, get_or-set_same, length-set, take_more}
use Rattle.std.proofs.lemmas.List.Sums.{sum_by_push}
use Rattle.std.proofs.lemmas.Option.{get_or_from_slice_get}
use Rattle.udf_field.specs.declared.address.Addr.{Addr}
use Rattle.udf_dues.specs.declared.counts.Count.{Count}
use Rattle.udf_kept.specs.declared.fitted.Fitted.{Fitted}
use Rattle.udf_kept.specs.declared.fitted.Selected.{Selected}
use Rattle.udf_held.specs.declared.held.Held.{Held}
use Rattle.udf_dues.specs.Marks.{AreMarked, Mark, fid_mark, is_high, is_low, is_pointer_choice, marks_at, marks_below, marks_by, no_count, own_marks, parent_marks}

-- ---- one element more of a list by indexes
front_at : {X : Type 0} (xs : List X) (x d : X) (i : ℕ) → i < length xs → get_or (xs ++ x ∷ []) i d ≡ get_or xs i d
front_at [] x d i l = absurd (omega (arith, l))
front_at (y ∷ ys) x d zero l = refl
front_at (y ∷ ys) x d (suc i) l = front_at ys x d i (omega (arith, l))

end_at : {X : Type 0} (xs : List X) (x d : X) → get_or (xs ++ x ∷ []) (length xs) d ≡ x
end_at [] x d = refl
end_at (y ∷ ys) x d = end_at ys x d

pub put_next : {X : Type 0} (d : X) (hs : List Held) (P : ℕ → Held → X) (i : ℕ) (h : Held) (old new : List X) (p : X) → h ≡ get_or hs i h → length old ≡ i → new ≡ old ++ p ∷ [] → p ≡ P i h
    → ((j : ℕ) (k : Held) → j < i → slice_get hs j ≡ Some k → get_or old j d ≡ P j k) → (j : ℕ) (k : Held) → j < i + 1 → slice_get hs j ≡ Some k → get_or new j d ≡ P j k
put_next d hs P i h old new p e long now is was j k l there = ap (λ ys. get_or ys j d) now ∙ go (nat_eq j i) refl
  where
    go : (b : Bool) → nat_eq j i ≡ b → get_or (old ++ p ∷ []) j d ≡ P j k
    go true t =
        let same : j ≡ i = eqb-true j i t in
        let here : h ≡ k = e ∙ get_or_from_slice_get hs i k h (sym (ap (slice_get hs) same) ∙ there) in
        ap (λ n. get_or (old ++ p ∷ []) n d) (same ∙ sym long) ∙ end_at old p d ∙ is ∙ ap (λ (n : ℕ). P n h) (sym same) ∙ ap (P j) here
    go false t =
        let low : j < i = between (eqb-false j i t) in
        front_at old p d j (omega (arith, low, long)) ∙ was j k low there
      where
        between : (j ≡ i → ⊥) → j < i
        between apart = omega (arith, l, apart)

-- ---- one link more
cap : (x : ℕ) → min 65535 (min 65535 x + 1) ≡ min 65535 (x + 1)
cap x = grind (arith, nat_tests)

count_push : (p : Mark → Bool) (ms : List Mark) (m : Mark) → count_by p (ms ++ m ∷ []) ≡ count_by p ms + cond (p m) 1 0
count_push p ms m = sum_by_push (λ n. cond (p n) 1 0) ms m

-- a mark that counts, and one that does not
counted : (p : Mark → Bool) (ms : List Mark) (m : Mark) (old new : ℕ) → p m ≡ true → old ≡ min 65535 (count_by p ms) → new ≡ min 65535 (old + 1) → new ≡ min 65535 (count_by p (ms ++ m ∷ []))
counted p ms m old new t was now =
    now ∙ ap (λ n. min 65535 (n + 1)) was ∙ cap (count_by p ms) ∙ ap (λ b. min 65535 (count_by p ms + cond b 1 0)) (sym t) ∙ ap (min 65535) (sym (count_push p ms m))

uncounted : (p : Mark → Bool) (ms : List Mark) (m : Mark) (old : ℕ) → p m ≡ false → old ≡ min 65535 (count_by p ms) → old ≡ min 65535 (count_by p (ms ++ m ∷ []))
uncounted p ms m old t was = was ∙ ap (min 65535) (sym (zero_more (count_by p ms))) ∙ ap (λ b. min 65535 (count_by p ms + cond b 1 0)) (sym t) ∙ ap (min 65535) (sym (count_push p ms m))
  where
    zero_more : (n : ℕ) → n + 0 ≡ n
    zero_more n = omega arith

itself : (n : ℕ) → nat_eq n n ≡ true
itself n = grind (arith, nat_tests)

module _ (ms : List Mark) (cs : List Count) (i : ℕ) (m : Mark) (to : m.to ≡ i) where
  pub mark_left : (i < length cs → ⊥) → AreMarked ms cs → AreMarked (ms ++ m ∷ []) cs
  mark_left over h = record {
    low = λ j l. uncounted (is_low j) ms m _ (ap (λ b. b && m.low) (apart j l)) (h.low j l);
    high = λ j l. uncounted (is_high j) ms m _ (apart j l) (h.high j l);
  }
    where
      apart : (j : ℕ) → j < length cs → nat_eq m.to j ≡ false
      apart j l = by (nat_eq m.to j) refl
        where
          by : (b : Bool) → nat_eq m.to j ≡ b → nat_eq m.to j ≡ false
          by false e = e
          by true e = let same : m.to ≡ j = eqb-true m.to j e in absurd (over (omega (arith, l, same, to)))

  pub mark_taken : (c : Count) → i < length cs → c.low ≡ cond m.low (min 65535 ((get_or cs i no_count).low + 1)) (get_or cs i no_count).low → c.high ≡ min 65535 ((get_or cs i no_count).high + 1)
      → AreMarked ms cs → AreMarked (ms ++ m ∷ []) (set cs i c)
  mark_taken c l low high h = record {
    low = λ j k. lows j (omega (arith, k, length-set cs i c)) (nat_eq m.to j) refl;
    high = λ j k. highs j (omega (arith, k, length-set cs i c)) (nat_eq m.to j) refl;
  }
    where
      here : (j : ℕ) → nat_eq m.to j ≡ true → get_or (set cs i c) j no_count ≡ c
      here j t = ap (λ n. get_or (set cs i c) n no_count) (sym (eqb-true m.to j t) ∙ to) ∙ get_or-set_same cs i c no_count l

      there : (j : ℕ) → nat_eq m.to j ≡ false → get_or (set cs i c) j no_count ≡ get_or cs j no_count
      there j t = get_or-set_other cs i j c no_count (λ e. eqb-false m.to j t (to ∙ sym e))

      same : (j : ℕ) → nat_eq m.to j ≡ true → i ≡ j
      same j t = sym to ∙ eqb-true m.to j t

      low_by : (j : ℕ) → j < length cs → nat_eq m.to j ≡ true → (b : Bool) → m.low ≡ b → c.low ≡ cond b (min 65535 ((get_or cs i no_count).low + 1)) (get_or cs i no_count).low
          → c.low ≡ min 65535 (count_by (is_low j) (ms ++ m ∷ []))
      low_by j k t true e is =
          counted (is_low j) ms m (get_or cs j no_count).low c.low (ap (λ b. b && m.low) t ∙ e) (h.low j k) (is ∙ ap (λ n. min 65535 ((get_or cs n no_count).low + 1)) (same j t))
      low_by j k t false e is =
          uncounted (is_low j) ms m c.low (ap (λ b. b && m.low) t ∙ e) (is ∙ ap (λ n. (get_or cs n no_count).low) (same j t) ∙ h.low j k)

      lows : (j : ℕ) → j < length cs → (b : Bool) → nat_eq m.to j ≡ b → (get_or (set cs i c) j no_count).low ≡ min 65535 (count_by (is_low j) (ms ++ m ∷ []))
      lows j k true t = ap (λ (x : Count). x.low) (here j t) ∙ low_by j k t m.low refl low
      lows j k false t = ap (λ (x : Count). x.low) (there j t) ∙ uncounted (is_low j) ms m _ (ap (λ b. b && m.low) t) (h.low j k)

      highs : (j : ℕ) → j < length cs → (b : Bool) → nat_eq m.to j ≡ b → (get_or (set cs i c) j no_count).high ≡ min 65535 (count_by (is_high j) (ms ++ m ∷ []))
      highs j k true t =
          ap (λ (x : Count). x.high) (here j t) ∙ counted (is_high j) ms m (get_or cs j no_count).high c.high t (h.high j k) (high ∙ ap (λ n. min 65535 ((get_or cs n no_count).high + 1)) (same j t))
      highs j k false t = ap (λ (x : Count). x.high) (there j t) ∙ uncounted (is_high j) ms m _ t (h.high j k)

pub no_mark : (ms xs : List Mark) (cs : List Count) → xs ≡ [] → AreMarked ms cs → AreMarked (ms ++ xs) cs
no_mark ms xs cs e h = subst (λ (ys : List Mark). AreMarked ys cs) (sym (ap (λ (ys : List Mark). ms ++ ys) e ∙ append-nil ms)) h

pub marks_joined : (ms xs ys zs : List Mark) (cs : List Count) → zs ≡ xs ++ ys → AreMarked ((ms ++ xs) ++ ys) cs → AreMarked (ms ++ zs) cs
marks_joined ms xs ys zs cs e h = subst (λ (us : List Mark). AreMarked us cs) (append_assoc ms xs ys ∙ ap (λ (us : List Mark). ms ++ us) (sym e)) h

none_yet : (n j : ℕ) → get_or (replicate n no_count) j no_count ≡ no_count
none_yet zero j = refl
none_yet (suc n) zero = refl
none_yet (suc n) (suc j) = none_yet n j

pub marks_begin : (n : ℕ) (cs : List Count) → cs ≡ replicate n no_count → AreMarked [] cs
marks_begin n cs e = subst (AreMarked []) (sym e) (record {
  low = λ j l. ap (λ (c : Count). c.low) (none_yet n j);
  high = λ j l. ap (λ (c : Count). c.high) (none_yet n j);
})

-- ---- the links of an entry
pub fids_more : (fs : List Fitted) (i : ℕ) (d : Fitted) → i < length fs → flat_map fid_mark (take (i + 1) fs) ≡ flat_map fid_mark (take i fs) ++ fid_mark (get_or fs i d)
fids_more fs i d l = ap (flat_map fid_mark) (take_more fs i d l) ∙ flat_end (take i fs) (get_or fs i d)
  where
    flat_end : (xs : List Fitted) (x : Fitted) → flat_map fid_mark (xs ++ x ∷ []) ≡ flat_map fid_mark xs ++ fid_mark x
    flat_end [] x = append-nil (fid_mark x)
    flat_end (y ∷ ys) x = ap (λ (ms : List Mark). fid_mark y ++ ms) (flat_end ys x) ∙ sym (append_assoc (fid_mark y) (flat_map fid_mark ys) (fid_mark x))

pub no_parent : (position : Addr → Option ℕ) (xs : List Selected) (i : ℕ) (p : Option Addr) → p ≡ None → marks_at position xs i p ≡ []
unfolding marks_at
no_parent position xs i p e = ap (λ (o : Option Addr). marks_by position i o (slice_get xs i)) e

pub no_entry : (position : Addr → Option ℕ) (xs : List Selected) (i : ℕ) (p : Option Addr) → slice_get xs i ≡ None → marks_at position xs i p ≡ []
unfolding marks_at
no_entry position xs i p e = ap (marks_by position i p) e ∙ by p
  where
    by : (o : Option Addr) → marks_by position i o None ≡ []
    by None = refl
    by (Some a) = refl

pub directory_marks : (position : Addr → Option ℕ) (xs : List Selected) (i : ℕ) (p : Option Addr) (a : Addr) (x : Selected) → p ≡ Some a → slice_get xs i ≡ Some x
    → marks_at position xs i p ≡ flat_map fid_mark x.fitted.items ++ (parent_marks (is_pointer_choice x.chosen) (position a) ++ own_marks (is_pointer_choice x.chosen) i)
unfolding marks_at
directory_marks position xs i p a x e k = ap (λ (o : Option Addr). marks_by position i o (slice_get xs i)) e ∙ ap (marks_by position i (Some a)) k

pub marks_next : (position : Addr → Option ℕ) (xs : List Selected) (ps : List (Option Addr)) (i : ℕ) (p : Option Addr) → p ≡ get_or ps i None
    → marks_below position xs ps (i + 1) ≡ marks_below position xs ps i ++ marks_at position xs i p
unfolding marks_below
marks_next position xs ps i p e =
    ap (marks_below position xs ps) one ∙ ap (λ (o : Option Addr). marks_below position xs ps i ++ marks_at position xs i o) (sym e)
  where
    one : i + 1 ≡ suc i
    one = omega arith

-- what is counted of a directory, in the terms of the code
pub directory_counted : (position : Addr → Option ℕ) (xs : List Selected) (i : ℕ) (p : Option Addr) (a : Addr) (x : Selected) (fs : List Fitted) (stream : Bool) (to : Option ℕ) (ms : List Mark) (cs : List Count)
    → p ≡ Some a → slice_get xs i ≡ Some x → fs ≡ x.fitted.items → stream ≡ is_pointer_choice x.chosen → to ≡ position a
    → AreMarked (((ms ++ flat_map fid_mark fs) ++ parent_marks stream to) ++ own_marks stream i) cs → AreMarked (ms ++ marks_at position xs i p) cs
directory_counted position xs i p a x fs stream to ms cs e k f s t h = subst (λ (us : List Mark). AreMarked us cs) joined h
  where
    fids : List Mark
    fids = flat_map fid_mark fs

    same : fids ++ (parent_marks stream to ++ own_marks stream i) ≡ marks_at position xs i p
    same =
        ap (λ gs. flat_map fid_mark gs ++ (parent_marks stream to ++ own_marks stream i)) f
        ∙ ap (λ b. flat_map fid_mark x.fitted.items ++ (parent_marks b to ++ own_marks b i)) s
        ∙ ap (λ o. flat_map fid_mark x.fitted.items ++ (parent_marks (is_pointer_choice x.chosen) o ++ own_marks (is_pointer_choice x.chosen) i)) t
        ∙ sym (directory_marks position xs i p a x e k)

    joined : ((ms ++ fids) ++ parent_marks stream to) ++ own_marks stream i ≡ ms ++ marks_at position xs i p
    joined =
        append_assoc (ms ++ fids) (parent_marks stream to) (own_marks stream i)
        ∙ append_assoc ms fids (parent_marks stream to ++ own_marks stream i)
        ∙ ap (λ (us : List Mark). ms ++ us) same

pub none_below : (position : Addr → Option ℕ) (xs : List Selected) (ps : List (Option Addr)) (n : ℕ) (cs : List Count) → cs ≡ replicate n no_count → AreMarked (marks_below position xs ps 0) cs
unfolding marks_below
none_below position xs ps n cs e = marks_begin n cs e

pub from_both : {X Y : Type 0} (r : Result X Y) (P Q R : X → Type 0) → ((x : X) → P x → Q x → R x) → IfOk r P → IfOk r Q → IfOk r R
from_both (Ok x) P Q R f p q = f x p q
from_both (Err e) P Q R f p q = tt
