-- The scan takes each FID that it should, and no other.
use Rattle.std.proofs.Common.{◌≡◌, ℕ, zero, suc, ◌+◌, ◌-◌, ◌%◌, ◌<◌, ◌≤◌, ◌⊎◌, inl, inr, Option, Some, None, List, [], ◌∷◌, length, drop, get_or, arith, sym, ◌∙◌, ap, refl, subst, length-append, length-drop}
use Rattle.std.specs.Prelude.{AllPairs, Any, Contains}
use Rattle.std.specs.List.{AllByRecursion}
use Rattle.std.proofs.lemmas.Bool.{cases_lt}
use Rattle.std.proofs.lemmas.List.{drop-drop}
use Rattle.std.proofs.lemmas.List.Elements.{All-from_recursion, recursion_from_All}
use Rattle.udf_file_model.specs.Fid.{IsFid, Begins, fid_at}
use Rattle.udf_file_model.specs.Scan.{Placed, IsScan, taken, fids_from, fids}
use Rattle.udf_file_model.proofs.Fids.{found_begins, begins_found, is_long, is_by_four}

-- from an offset on, each FID stands behind the one before
abbrev pub Ordered : ℕ → List Placed → Type 0
Ordered o [] = Unit {0}
Ordered o (p ∷ ps) = (o ≤ p.0) × Ordered (p.0 + length p.1) ps

lower : (o n : ℕ) (ps : List Placed) → n ≤ o → Ordered o ps → Ordered n ps
lower o n [] h r = tt
lower o n (p ∷ ps) h r = (omega (arith, r.0), r.1)

in_order : (size at n : ℕ) (bytes : List ℕ) → Ordered (at + n) (fids_from size at n bytes)
unfolding fids_from taken
in_order size at zero [] = tt
in_order size at (suc n) [] = tt
in_order size at (suc n) (byte ∷ bytes) = lower (suc at + n) (at + suc n) _ (omega arith) (in_order size (suc at) n bytes)
in_order size at zero (byte ∷ bytes) = by (fid_at size (byte ∷ bytes)) (λ n. in_order size (suc at) n bytes)
  where
    by : (o : Option (List ℕ)) → ((n : ℕ) → Ordered (suc at + n) (fids_from size (suc at) n bytes))
        → Ordered (at + 0) (taken at o (λ n. fids_from size (suc at) n bytes))
    by None rest = lower (suc at + 3) (at + 0) _ (omega arith) (rest 3)
    by (Some fid) rest = (omega arith, lower (suc at + (length fid - 1)) (at + length fid) _ (omega arith) (rest (length fid - 1)))

above : (o : ℕ) (ps : List Placed) (k : ℕ) (d : Placed) → Ordered o ps → k < length ps → o ≤ (get_or ps k d).0
above o [] k d r h = absurd (omega arith)
above o (p ∷ ps) zero d r h = r.0
above o (p ∷ ps) (suc k) d r h = omega (arith, r.0, above (p.0 + length p.1) ps k d r.1 (omega arith))

pairs : (o : ℕ) (ps : List Placed) → Ordered o ps → (i j : ℕ) (d : Placed) → i < j → j < length ps
    → (get_or ps i d).0 + length (get_or ps i d).1 ≤ (get_or ps j d).0
pairs o [] r i j d h k = absurd (omega arith)
pairs o (p ∷ ps) r i zero d h k = absurd (omega arith)
pairs o (p ∷ ps) r zero (suc j) d h k = above (p.0 + length p.1) ps j d r.1 (omega arith)
pairs o (p ∷ ps) r (suc i) (suc j) d h k = pairs (p.0 + length p.1) ps r.1 i j d (omega arith) (omega arith)

pub ordered_from : (o : ℕ) (ps : List Placed) → ((k : ℕ) (d : Placed) → k < length ps → o ≤ (get_or ps k d).0)
    → AllPairs (λ p q. p.0 + length p.1 ≤ q.0) ps → Ordered o ps
ordered_from o [] h r = tt
ordered_from o (p ∷ ps) h r =
    (h 0 p (omega arith), ordered_from (p.0 + length p.1) ps (λ k d l. r 0 (suc k) d (omega arith) (omega arith)) (λ i j d a b. r (suc i) (suc j) d (omega arith) (omega arith)))

same_placed : (x y : ℕ) (f g : List ℕ) → x ≡ y → f ≡ g → ◌≡◌ {A = Placed} (x, f) (y, g)
same_placed x y f g e h = ap (λ z. let t : Placed = (z, f) in t) e ∙ ap (λ z. let t : Placed = (y, z) in t) h

some : (x y : List ℕ) → Some x ≡ Some y → x ≡ y
some x y e = cc

clash : (f : List ℕ) → None ≡ Some f → ⊥
clash f e = cc

module _ (size : ℕ) (content : List ℕ) where
  abbrev pub Stands : Placed → Type 0
  Stands p = (p.0 % 4 ≡ 0) × Begins size (drop p.0 content) p.1

  on : (at byte : ℕ) (bytes : List ℕ) → byte ∷ bytes ≡ drop at content → bytes ≡ drop (suc at) content
  on at byte bytes e = ap (drop 1) e ∙ drop-drop 1 at content ∙ ap (λ k. drop k content) (let s : at + 1 ≡ suc at = omega arith in s)

  stand : (at n : ℕ) (bytes : List ℕ) → bytes ≡ drop at content → (at + n) % 4 ≡ 0 → AllByRecursion Stands (fids_from size at n bytes)
  unfolding fids_from taken
  stand at zero [] e m = tt
  stand at (suc n) [] e m = tt
  stand at (suc n) (byte ∷ bytes) e m = stand (suc at) n bytes (on at byte bytes e) (omega arith)
  stand at zero (byte ∷ bytes) e m = by (fid_at size (byte ∷ bytes)) refl (λ n k. stand (suc at) n bytes (on at byte bytes e) k)
    where
      by : (o : Option (List ℕ)) → fid_at size (byte ∷ bytes) ≡ o → ((n : ℕ) → (suc at + n) % 4 ≡ 0 → AllByRecursion Stands (fids_from size (suc at) n bytes))
          → AllByRecursion Stands (taken at o (λ n. fids_from size (suc at) n bytes))
      by None found rest = rest 3 (omega arith)
      by (Some fid) found rest =
          let b : Begins size (byte ∷ bytes) fid = found_begins size (byte ∷ bytes) fid found in
          ((omega arith, subst (λ xs. Begins size xs fid) e b), rest (length fid - 1) (omega (arith, is_long size fid b.is, is_by_four size fid b.is)))

  -- a FID is listed, or begins within a listed one
  abbrev pub IsTaken : ℕ → List ℕ → List Placed → Type 0
  IsTaken o f ps = Contains ps (o, f) ⊎ Any (λ p. (p.0 < o) × (o < p.0 + length p.1)) ps

  later : (o : ℕ) (f : List ℕ) (p : Placed) (ps : List Placed) → IsTaken o f ps → IsTaken o f (p ∷ ps)
  later o f p ps (inl (k, h, e)) = inl (suc k, omega arith, e)
  later o f p ps (inr (k, x, h, e, w)) = inr (suc k, x, omega arith, e, w)

  -- past the end nothing begins
  none_past : (o : ℕ) (f : List ℕ) → length content ≤ o → Begins size (drop o content) f → ⊥
  none_past o f h b =
      let l = ap length b.split in
      omega (arith, length-append f b.rest, length-drop o content, is_long size f b.is, l)

  all_taken : (at n : ℕ) (bytes : List ℕ) → bytes ≡ drop at content → (at + n) % 4 ≡ 0
      → (o : ℕ) (f : List ℕ) → at + n ≤ o → o % 4 ≡ 0 → Begins size (drop o content) f → IsTaken o f (fids_from size at n bytes)
  unfolding fids_from taken
  all_taken at zero [] e m o f h k b = absurd (none_past o f (omega (arith, ap length e, length-drop at content)) b)
  all_taken at (suc n) [] e m o f h k b = absurd (none_past o f (omega (arith, ap length e, length-drop at content)) b)
  all_taken at (suc n) (byte ∷ bytes) e m o f h k b = all_taken (suc at) n bytes (on at byte bytes e) (omega arith) o f (omega arith) k b
  all_taken at zero (byte ∷ bytes) e m o f h k b =
      by (fid_at size (byte ∷ bytes)) refl (λ n j l. all_taken (suc at) n bytes (on at byte bytes e) j o f l k b)
    where
      here : o ≡ at → fid_at size (byte ∷ bytes) ≡ Some f
      here s = ap (fid_at size) (e ∙ ap (λ j. drop j content) (sym s)) ∙ begins_found size (drop o content) f b

      by : (q : Option (List ℕ)) → fid_at size (byte ∷ bytes) ≡ q
          → ((n : ℕ) → (suc at + n) % 4 ≡ 0 → suc at + n ≤ o → IsTaken o f (fids_from size (suc at) n bytes))
          → IsTaken o f (taken at q (λ n. fids_from size (suc at) n bytes))
      by None found rest = near (cases_lt o (at + 4))
        where
          near : (o < at + 4) ⊎ (at + 4 ≤ o) → IsTaken o f (fids_from size (suc at) 3 bytes)
          near (inl l) = absurd (clash f (sym found ∙ here (omega arith)))
          near (inr l) = rest 3 (omega arith) (omega arith)
      by (Some g) found rest = near (cases_lt o (at + length g)) (cases_lt at o)
        where
          g_fid : IsFid size g
          g_fid = (found_begins size (byte ∷ bytes) g found).is

          same : o ≡ at → ◌≡◌ {A = Placed} (at, g) (o, f)
          same s = same_placed at o g f (sym s) (some g f (sym found ∙ here s))

          near : (o < at + length g) ⊎ (at + length g ≤ o) → (at < o) ⊎ (o ≤ at) → IsTaken o f ((at, g) ∷ fids_from size (suc at) (length g - 1) bytes)
          near (inl l) (inl s) = inr (0, (at, g), omega arith, refl, (s, l))
          near (inl l) (inr s) = inl (0, omega arith, same (omega arith))
          near (inr l) s = later o f (at, g) _ (rest (length g - 1) (omega (arith, is_long size g g_fid, is_by_four size g g_fid)) (omega (arith, is_long size g g_fid)))

  pub is_scan : IsScan size content (fids size content)
  is_scan = record {
    whole = All-from_recursion Stands (fids size content) (stand 0 0 content refl refl);
    apart = pairs 0 (fids size content) (in_order size 0 0 content);
    complete = λ o f k b. all_taken 0 0 content refl refl o f (omega arith) k b;
  }

  -- and it is the one such list
  abbrev IsComplete : ℕ → List Placed → Type 0
  IsComplete o ps = (x : ℕ) (f : List ℕ) → o ≤ x → x % 4 ≡ 0 → Begins size (drop x content) f → IsTaken x f ps

  none_left : (at n : ℕ) (ps : List Placed) → length content ≤ at → AllByRecursion Stands ps → Ordered (at + n) ps → [] ≡ ps
  none_left at n [] h s r = refl
  none_left at n (p ∷ ps) h s r = absurd (none_past p.0 p.1 (omega (arith, r.0)) (s.0).1)

  -- where no FID begins, the first listed one stands four bytes later or behind
  skipped : (at : ℕ) (ps : List Placed) → at % 4 ≡ 0 → fid_at size (drop at content) ≡ None → AllByRecursion Stands ps → Ordered (at + 0) ps → Ordered (suc at + 3) ps
  skipped at [] m none s r = tt
  skipped at (p ∷ ps) m none s r = (by (cases_lt p.0 (at + 4)), r.1)
    where
      by : (p.0 < at + 4) ⊎ (at + 4 ≤ p.0) → suc at + 3 ≤ p.0
      by (inr l) = omega arith
      by (inl l) =
          let here : p.0 ≡ at = omega (arith, r.0, (s.0).0) in
          absurd (clash p.1 (sym none ∙ ap (λ k. fid_at size (drop k content)) (sym here) ∙ begins_found size (drop p.0 content) p.1 (s.0).1))

  none_in : (x : ℕ) (f : List ℕ) → IsTaken x f [] → ⊥
  none_in x f (inl (k, h, e)) = omega arith
  none_in x f (inr (k, y, h, e, w)) = omega arith

  -- the FID that begins at the first offset is listed first
  first_listed : (at : ℕ) (g : List ℕ) (p : Placed) (ps : List Placed) → 0 < length p.1 → Ordered (at + 0) (p ∷ ps) → IsTaken at g (p ∷ ps) → ◌≡◌ {A = Placed} p (at, g)
  first_listed at g p ps l r (inl (zero, h, e)) = e
  first_listed at g p ps l r (inl (suc k, h, e)) =
      absurd (let a = above (p.0 + length p.1) ps k (at, g) r.1 (omega arith) in let n = ap (λ (z : Placed). z.0) e in omega (arith, r.0))
  first_listed at g p ps l r (inr (k, y, h, e, w)) =
      absurd (let a = above (at + 0) (p ∷ ps) k y r h in let n = ap (λ (z : Placed). z.0) e in omega (arith, w.0))

  behind : (x : ℕ) (f : List ℕ) (p : Placed) (ps : List Placed) → 0 < length p.1 → p.0 + length p.1 ≤ x → IsTaken x f (p ∷ ps) → IsTaken x f ps
  behind x f p ps l h (inl (zero, k, e)) = absurd (let n = ap (λ (z : Placed). z.0) e in omega arith)
  behind x f p ps l h (inl (suc j, k, e)) = inl (j, omega arith, e)
  behind x f p ps l h (inr (zero, y, k, e, w)) = absurd (let n = ap (λ (z : Placed). z.0 + length z.1) e in omega (arith, w.1))
  behind x f p ps l h (inr (suc j, y, k, e, w)) = inr (j, y, omega arith, e, w)

  one_list : (at n : ℕ) (bytes : List ℕ) → bytes ≡ drop at content → (at + n) % 4 ≡ 0
      → (ps : List Placed) → AllByRecursion Stands ps → Ordered (at + n) ps → IsComplete (at + n) ps → fids_from size at n bytes ≡ ps
  unfolding fids_from taken
  one_list at zero [] e m ps s r all = none_left at zero ps (omega (arith, ap length e, length-drop at content)) s r
  one_list at (suc n) [] e m ps s r all = none_left at (suc n) ps (omega (arith, ap length e, length-drop at content)) s r
  one_list at (suc n) (byte ∷ bytes) e m ps s r all =
      one_list (suc at) n bytes (on at byte bytes e) (omega arith) ps s (lower (at + suc n) (suc at + n) ps (omega arith) r)
      (λ x f h. all x f (omega arith))
  one_list at zero (byte ∷ bytes) e m ps s r all =
      by (fid_at size (byte ∷ bytes)) refl ps s r all (λ n. one_list (suc at) n bytes (on at byte bytes e))
    where
      by : (q : Option (List ℕ)) → fid_at size (byte ∷ bytes) ≡ q
          → (qs : List Placed) → AllByRecursion Stands qs → Ordered (at + 0) qs → IsComplete (at + 0) qs
          → ((n : ℕ) → (suc at + n) % 4 ≡ 0 → (rs : List Placed) → AllByRecursion Stands rs → Ordered (suc at + n) rs → IsComplete (suc at + n) rs
          → fids_from size (suc at) n bytes ≡ rs)
          → taken at q (λ n. fids_from size (suc at) n bytes) ≡ qs
      by None found qs t o c rest =
          rest 3 (omega arith) qs t (skipped at qs (omega arith) (ap (fid_at size) (sym e) ∙ found) t o) (λ x f h. c x f (omega arith))
      by (Some g) found [] t o c rest =
          absurd (none_in at g (c at g (omega arith) (omega arith) (subst (λ xs. Begins size xs g) e (found_begins size (byte ∷ bytes) g found))))
      by (Some g) found (p ∷ qs) t o c rest =
          ap (λ (z : Placed). z ∷ fids_from size (suc at) (length g - 1) bytes) (sym same)
          ∙ ap (λ (zs : List Placed). p ∷ zs)
          (rest (length g - 1) (omega (arith, is_by_four size g g_begins.is, is_long size g g_begins.is)) qs t.1 (lower (p.0 + length p.1) (suc at + (length g - 1)) qs (omega (arith, starts, long, p_some)) o.1)
          (λ x f h k b. behind x f p qs p_some (omega (arith, starts, long, p_some)) (c x f (omega (arith, is_long size g g_begins.is)) k b)))
        where
          g_begins : Begins size (byte ∷ bytes) g
          g_begins = found_begins size (byte ∷ bytes) g found

          p_some : 0 < length p.1
          p_some = omega (arith, is_long size p.1 ((t.0).1).is)

          same : ◌≡◌ {A = Placed} p (at, g)
          same = first_listed at g p qs p_some o (c at g (omega arith) (omega arith) (subst (λ xs. Begins size xs g) e g_begins))

          starts : p.0 ≡ at
          starts = ap (λ (z : Placed). z.0) same

          long : length p.1 ≡ length g
          long = ap (λ (z : Placed). length z.1) same

  pub only_scan : (list : List Placed) → IsScan size content list → list ≡ fids size content
  only_scan list is =
      sym (one_list 0 0 content refl refl list (recursion_from_All Stands list is.whole)
      (ordered_from 0 list (λ k d h. omega arith) is.apart) (λ x f h k b. is.complete x f k b))
