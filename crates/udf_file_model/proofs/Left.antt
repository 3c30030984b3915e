-- What a cut leaves of the allocation extents through which it goes.
use Rattle.std.proofs.Common.{◌≡◌, ℕ, zero, suc, Bool, true, false, cond, ◌+◌, ◌-◌, ◌<◌, ◌≤◌, ◌==◌, ◌||◌, nat_lt, inl, inr, Option, Some, None, List, [], ◌∷◌, arith, sym, ◌∙◌, ap, refl, subst}
use Rattle.std.specs.Prelude.{not}
use Rattle.std.proofs.lemmas.Bool.Decides.{nat_tests}
use Rattle.udf_field.specs.declared.address.Addr.{Addr}
use Rattle.udf_file_model.specs.Address.{same_addr}
use Rattle.udf_file_model.specs.Descriptors.{Descriptor}
use Rattle.udf_file_model.specs.Pieces.{Piece, Extent, Blocks, bytes_in, pieces, further, IsAmong, size_of}
use Rattle.udf_file_model.specs.Front.{Rules, Past, nothing_yet, stood, is_new, extent_passes, run_passes, with_run, with_extent, good_front, is_good}
use Rattle.udf_file_model.specs.Cut.{cut_pieces, trim, Onward, onward, HasRoom, with_information, left_on, left_in}
use Rattle.udf_file_model.proofs.Trimmed.{trimmed, trim_on, trim_at}
use Rattle.udf_file_model.proofs.Trimming.{size_blocks, size_extent, size_nil, pieces_nil, pieces_more, pieces_over, further_suc, flat_trim, same_means}
use Rattle.udf_file_model.proofs.CutLaws.{both, cut_good}
use Rattle.udf_file_model.proofs.CutReads.{whole_agree, cut_front, good_good}
use Rattle.udf_file_model.proofs.Once.{come_once, front_fits}

abbrev pub by_left : List Descriptor → Option ℕ → List Descriptor
by_left ds None = ds
by_left ds (Some l) = trim l ds

-- the trimmed extents are those that are left
pub left_trimmed : (at : Addr → List Descriptor) (n b : ℕ) (ds : List Descriptor) (y : Addr) → trimmed at n b ds y ≡ by_left (at y) (left_in at n b ds y)
unfolding trimmed left_in
left_trimmed at zero b ds y = refl
left_trimmed at (suc n) b ds y = by_on (onward b ds) (λ o. left_trimmed at n o.left (at o.next) y)
  where
    by_on : (q : Option Onward) → ((o : Onward) → trimmed at n o.left (at o.next) y ≡ by_left (at y) (left_in at n o.left (at o.next) y))
        → trim_on at q (λ o. trimmed at n o.left (at o.next)) y ≡ by_left (at y) (left_on y q (λ o. left_in at n o.left (at o.next) y))
    by_on None on = unfold trim_on left_on in refl
    by_on (Some o) on = unfold trim_on trim_at left_on in here (same_addr y o.next) refl
      where
        here : (t : Bool) → same_addr y o.next ≡ t
            → cond t (trim o.left (at o.next)) (trimmed at n o.left (at o.next) y) ≡ by_left (at y) (cond t (Some o.left) (left_in at n o.left (at o.next) y))
        here true e = ap (λ z. trim o.left (at z)) (sym (same_means y o.next e))
        here false e = on o

below : (m n : ℕ) → nat_lt m n ≡ true → m < n
below m n h = grind (arith, nat_tests)

above : (m n : ℕ) → nat_lt m n ≡ false → n ≤ m
above m n h = grind (arith, nat_tests)

-- what is left where a cut goes on
pub onward_fits : (k : Addr → List Piece) (ds : List Descriptor) (b : ℕ) (o : Onward) → 0 < b → b ≤ size_of (pieces k ds) → onward b ds ≡ Some o
    → (0 < o.left) × (o.left ≤ size_of (k o.next))
unfolding onward
onward_fits k [] b o p h e = absurd (omega (arith, p, h, ap size_of (pieces_nil k), size_nil))
onward_fits k (d ∷ ds) b o p h e = choose (d.kind == 3) (nat_lt d.length b) refl refl e (λ x y z. onward_fits k ds (b - d.length) o x y z)
  where
    no_some : None ≡ Some o → ⊥
    no_some e = cc

    same : (z : Onward) → Some z ≡ Some o → z ≡ o
    same z e = cc

    choose : (m l : Bool) → (d.kind == 3) ≡ m → nat_lt d.length b ≡ l → cond m (Some (record { next = d.at; left = b })) (cond l (onward (b - d.length) ds) None) ≡ Some o
        → (0 < b - d.length → b - d.length ≤ size_of (pieces k ds) → onward (b - d.length) ds ≡ Some o → (0 < o.left) × (o.left ≤ size_of (k o.next)))
        → (0 < o.left) × (o.left ≤ size_of (k o.next))
    choose true l q r e on =
        let P : Onward → Type 0 = λ z. (0 < z.left) × (z.left ≤ size_of (k z.next)) in
        let z = ap size_of (pieces_more k d ds q) ∙ size_extent d.at (k d.at) in
        let there : P (record { next = d.at; left = b }) = (p, omega (arith, h, z)) in
        subst P (same (record { next = d.at; left = b }) e) there
    choose false true q r e on =
        let z = ap size_of (pieces_over k d ds q) ∙ size_blocks d (pieces k ds) in
        let l = below d.length b r in
        on (omega arith) (omega (arith, h, z)) e
    choose false false q r e on = absurd (no_some e)

-- a cut that goes on nowhere ends in the body
pub inside_fits : (k : Addr → List Piece) (ds : List Descriptor) (b : ℕ) → 0 < b → b ≤ size_of (pieces k ds) → onward b ds ≡ None → b ≤ bytes_in ds
unfolding onward
inside_fits k [] b p h e = absurd (omega (arith, p, h, ap size_of (pieces_nil k), size_nil))
inside_fits k (d ∷ ds) b p h e = choose (d.kind == 3) (nat_lt d.length b) refl refl e (λ x y z. inside_fits k ds (b - d.length) x y z)
  where
    some_none : (z : Onward) → Some z ≡ None → ⊥
    some_none z e = cc

    choose : (m l : Bool) → (d.kind == 3) ≡ m → nat_lt d.length b ≡ l → cond m (Some (record { next = d.at; left = b })) (cond l (onward (b - d.length) ds) None) ≡ None
        → (0 < b - d.length → b - d.length ≤ size_of (pieces k ds) → onward (b - d.length) ds ≡ None → b - d.length ≤ bytes_in ds)
        → b ≤ d.length + bytes_in ds
    choose true l q r e on = absurd (some_none (record { next = d.at; left = b }) e)
    choose false true q r e on =
        let z = ap size_of (pieces_over k d ds q) ∙ size_blocks d (pieces k ds) in
        let l = below d.length b r in
        let m = on (omega arith) (omega (arith, h, z)) e in
        omega (arith, m)
    choose false false q r e on = let l = above d.length b r in omega (arith, l)

-- the bytes that are left of a body fit it
pub record FitsBody (l : ℕ) (ds : List Descriptor) : Type 0 where
  pub some : 0 < l
  pub within : onward l ds ≡ None → l ≤ bytes_in ds

pub left_fits : (at : Addr → List Descriptor) (n b : ℕ) (ds : List Descriptor) (y : Addr) (l : ℕ) → 0 < b → b ≤ size_of (pieces (further at n) ds)
    → left_in at n b ds y ≡ Some l → FitsBody l (at y)
unfolding left_in
left_fits at zero b ds y l p h e = absurd (no_some e)
  where
    no_some : None ≡ Some l → ⊥
    no_some e = cc
left_fits at (suc n) b ds y l p h e = by_on (onward b ds) refl e (λ o x z w. left_fits at n o.left (at o.next) y l x z w)
  where
    no_some : None ≡ Some l → ⊥
    no_some e = cc

    same : (z : ℕ) → Some z ≡ Some l → z ≡ l
    same z e = cc

    by_on : (q : Option Onward) → onward b ds ≡ q → left_on y q (λ o. left_in at n o.left (at o.next) y) ≡ Some l
        → ((o : Onward) → 0 < o.left → o.left ≤ size_of (pieces (further at n) (at o.next)) → left_in at n o.left (at o.next) y ≡ Some l → FitsBody l (at y))
        → FitsBody l (at y)
    by_on None q e on = unfold left_on in absurd (no_some e)
    by_on (Some o) q e on = unfold left_on in here (same_addr y o.next) refl e
      where
        fit : (0 < o.left) × (o.left ≤ size_of (further at (suc n) o.next))
        fit = onward_fits (further at (suc n)) ds b o p h q

        fits : o.left ≤ size_of (pieces (further at n) (at o.next))
        fits = omega (arith, fit.1, ap size_of (further_suc at n o.next))

        here : (t : Bool) → same_addr y o.next ≡ t → cond t (Some o.left) (left_in at n o.left (at o.next) y) ≡ Some l → FitsBody l (at y)
        here true t e =
            let P : ℕ → Type 0 = λ z. FitsBody z (at o.next) in
            let Q : Addr → Type 0 = λ z. FitsBody l (at z) in
            let one : FitsBody o.left (at o.next) = record { some = fit.0; within = λ z. inside_fits (further at n) (at o.next) o.left fit.0 fits z } in
            subst Q (sym (same_means y o.next t)) (subst P (same o.left e) one)
        here false t e = on o fit.0 fits e

-- an extent of a good list
pub record Listed (r : Rules) (whole : Addr → Bool) (y : Addr) : Type 0 where
  pub placed : r.placed y ≡ true
  pub is_whole : whole y ≡ true
  pub off : same_addr r.own y ≡ false

pub among_good : (r : Rules) (whole : Addr → Bool) (ps : List Piece) (past : Past) (y : Addr) → is_good r whole past ps ≡ true → IsAmong y ps → Listed r whole y
unfolding is_good is_new stood
among_good r whole [] past y g i = absurd i
among_good r whole (Extent x ∷ rest) past y g (inr i) =
    among_good r whole rest (with_extent past x) y (both (extent_passes r whole past x) (is_good r whole (with_extent past x) rest) g).1 i
among_good r whole (Extent x ∷ rest) past y g (inl e) =
    let t = both (extent_passes r whole past x) (is_good r whole (with_extent past x) rest) g in
    let u = both (is_new r past x) (whole x) t.0 in
    let w = both (r.placed x) (not (stood r.size r.own past x)) u.0 in
    let P : Addr → Type 0 = λ z. Listed r whole z in
    let here : Listed r whole x = record { placed = w.0; is_whole = u.1; off = first (same_addr r.own x) _ w.1 } in
    subst P e here
  where
    first : (a b : Bool) → not (a || b) ≡ true → a ≡ false
    first true b h = absurd (cc)
    first false b h = refl
among_good r whole (Blocks d ∷ rest) past y g i =
    among_good r whole rest (with_run past d) y (both (run_passes r past d) (is_good r whole (with_run past d) rest) g).1 i

-- what a cut of an entry and its extents leaves is the cut list, and all of it is good
pub record CutReads (r : Rules) (other : Addr → Bool) (at : Addr → List Descriptor) (n b : ℕ) (ds : List Descriptor) (xs : List Piece) : Type 0 where
  pub flat_is : pieces (further (trimmed at n b ds) n) (trim b ds) ≡ cut_pieces b xs
  pub good : is_good (with_information r b) other nothing_yet (cut_pieces b xs) ≡ true

pub cut_is_read : (r : Rules) (whole : Addr → Bool) → 0 < r.size → (other : Addr → Bool) (at : Addr → List Descriptor) (n : ℕ) (ds : List Descriptor) (b : ℕ) → 0 < b
    → b ≤ size_of (good_front r whole nothing_yet (pieces (further at n) ds))
    → HasRoom r nothing_yet b (good_front r whole nothing_yet (pieces (further at n) ds))
    → ((x : Addr) → IsAmong x (cut_pieces b (good_front r whole nothing_yet (pieces (further at n) ds))) → whole x ≡ other x)
    → CutReads r other at n b ds (good_front r whole nothing_yet (pieces (further at n) ds))
cut_is_read r whole some other at n ds b p h room agree =
    let ps = pieces (further at n) ds in
    let xs = good_front r whole nothing_yet ps in
    let q : b ≤ size_of ps = omega (arith, h, front_fits r whole some ps nothing_yet) in
    let zero_more : 0 + b ≡ b = omega arith in
    record {
      flat_is = flat_trim at n ds b p q (come_once r whole some at n ds nothing_yet b p h) ∙ cut_front r whole some ps nothing_yet b h;
      good = whole_agree (with_information r b) whole other (cut_pieces b xs) nothing_yet agree
          (cut_good r whole some b xs nothing_yet b (good_good r whole some ps nothing_yet) zero_more room);
    }
