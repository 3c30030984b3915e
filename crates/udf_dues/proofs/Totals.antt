-- Sums over found entries and over the places of a volume.
use Rattle.std.proofs.Common.{◌≡◌, ◌⊎◌, ℕ, zero, suc, ◌+◌, ◌<◌, ◌≤◌, List, [], ◌∷◌, length, take, get_or, Bool, true, false, cond, not, refl, sym, ap, ◌∙◌, inl, inr, arith, Option, Some, None}
use Rattle.std.specs.Prelude.{count_by, slice_get, sum_by}
use Rattle.std.specs.List.{filter}
use Rattle.std.proofs.lemmas.Bool.{false≢true}
use Rattle.std.proofs.lemmas.List.{take_all}
use Rattle.std.proofs.lemmas.List.Sums.{sum_by-append, sum_by-cons, sum_by_more}
use Rattle.std.proofs.lemmas.Option.{get_or_from_slice_get}
use Rattle.udf_field.specs.declared.address.Addr.{Addr}
use Rattle.udf_file_model.specs.Address.{same_addr}
use Rattle.udf_tree_model.specs.Among.{Member}
use Rattle.udf_tree_model.specs.Chosen.{is_lower}
use Rattle.udf_tree_model.proofs.Members.{any_from, filter_all, member_filter, member_filtered, member_map}
use Rattle.udf_tree_model.proofs.Places.{address_same, same_address}
use Rattle.udf_kept.specs.declared.fitted.Selected.{Selected}
use Rattle.udf_held.specs.declared.held.Held.{Held}
use Rattle.udf_held.specs.Held.{held_spots}
use Rattle.udf_dues.specs.Marks.{Mark, marks_at, marks_below}
use Rattle.udf_found.specs.Spot.{ComeOnce, Spot, addresses, spot}
use Rattle.udf_dues.proofs.Ascending.{Ascending, ascending_filter, not_lower_itself}

-- an entry of the list stands at the address
pub record StandsAmong (hs : List Held) (a : Addr) : Type 0 where
  pub entry : Held
  pub there : Member entry hs
  pub at : entry.at ≡ a

abbrev pub other : Addr → Addr → Bool
other x b = not (same_addr x b)

pub none_sum : (g : Addr → ℕ) (ys : List Addr) → ((a : Addr) → Member a ys → g a ≡ 0) → sum_by g ys ≡ 0
none_sum g [] h = refl
none_sum g (y ∷ ys) h =
    let here = h y (inl refl) in
    let rest = none_sum g ys (λ a m. h a (inr m)) in
    let step = sum_by-cons g y ys in
    omega (arith, here, rest, step)

later_other : (x y : Addr) (ys : List Addr) → x ≡ y → ((b : Addr) → Member b ys → is_lower y b ≡ true) → (b : Addr) → Member b ys → other x b ≡ true
later_other x y ys e h b m = by (same_addr x b) refl
  where
    by : (t : Bool) → same_addr x b ≡ t → not (same_addr x b) ≡ true
    by false k = ap not k
    by true k = absurd (false≢true (sym (not_lower_itself y) ∙ ap (is_lower y) (sym e ∙ same_address x b k) ∙ h b m))

-- one of ascending addresses apart
pub take_out : (g : Addr → ℕ) (x : Addr) (ys : List Addr) → Ascending ys → Member x ys → sum_by g ys ≡ g x + sum_by g (filter (other x) ys)
take_out g x [] h m = absurd m
take_out g x (y ∷ ys) h m = by (same_addr x y) refl m (take_out g x ys h.1)
  where
    by : (b : Bool) → same_addr x y ≡ b → Member x (y ∷ ys) → (Member x ys → sum_by g ys ≡ g x + sum_by g (filter (other x) ys))
        → sum_by g (y ∷ ys) ≡ g x + sum_by g (cond (not b) (y ∷ filter (other x) ys) (filter (other x) ys))
    by true e n ih =
        let same = same_address x y e in
        let all = filter_all (other x) ys (later_other x y ys same h.0) in
        sum_by-cons g y ys ∙ ap (λ (z : Addr). g z + sum_by g ys) (sym same) ∙ ap (λ (zs : List Addr). g x + sum_by g zs) (sym all)
    by false e (inl i) ih = absurd (false≢true (sym e ∙ address_same x y i))
    by false e (inr n) ih =
        let rest = ih n in
        let step = sum_by-cons g y ys in
        let more = sum_by-cons g y (filter (other x) ys) in
        omega (arith, rest, step, more)

-- what is 0 of an address where no entry stands sums over the entries as over all addresses
pub sum_held : (g : Addr → ℕ) (hs : List Held) → ComeOnce (held_spots hs) → (ys : List Addr) → Ascending ys → ((h : Held) → Member h hs → Member h.at ys)
    → ((a : Addr) → Member a ys → StandsAmong hs a ⊎ (g a ≡ 0)) → sum_by (λ h. g h.at) hs ≡ sum_by g ys
sum_held g [] once ys up into from = sym (none_sum g ys (λ a m. nothing a (from a m)))
  where
    nothing : (a : Addr) → StandsAmong [] a ⊎ (g a ≡ 0) → g a ≡ 0
    nothing a (inl r) = absurd r.there
    nothing a (inr z) = z
sum_held g (h ∷ hs) once ys up into from =
    let rest = sum_held g hs once.1 (filter (other h.at) ys) (ascending_filter (other h.at) ys up) inside outside in
    let step = sum_by-cons (λ (k : Held). g k.at) h hs in
    let out = take_out g h.at ys up (into h (inl refl)) in
    omega (arith, rest, step, out)
  where
    inside : (k : Held) → Member k hs → Member k.at (filter (other h.at) ys)
    inside k m = member_filtered (other h.at) ys k.at (into k (inr m)) (by (same_addr h.at k.at) refl)
      where
        by : (b : Bool) → same_addr h.at k.at ≡ b → not (same_addr h.at k.at) ≡ true
        by false e = ap not e
        by true e =
            let n = member_map (λ (z : Held). spot z.at z.level) hs k m in
            absurd (false≢true (sym once.0 ∙ any_from (same_addr h.at) (addresses (held_spots hs)) k.at (member_map (λ (z : Spot). z.at) (held_spots hs) (spot k.at k.level) n) e))

    outside : (a : Addr) → Member a (filter (other h.at) ys) → StandsAmong hs a ⊎ (g a ≡ 0)
    outside a m = let q = member_filter (other h.at) ys a m in go q.1 (from a q.0)
      where
        go : other h.at a ≡ true → StandsAmong (h ∷ hs) a ⊎ (g a ≡ 0) → StandsAmong hs a ⊎ (g a ≡ 0)
        go o (inr z) = inr z
        go o (inl r) = which r.there
          where
            which : Member r.entry (h ∷ hs) → StandsAmong hs a ⊎ (g a ≡ 0)
            which (inr n) = inl (record { entry = r.entry; there = n; at = r.at })
            which (inl e) = absurd (false≢true (sym (ap not (address_same h.at a (ap (λ (k : Held). k.at) (sym e) ∙ r.at))) ∙ o))

-- ---- by indexes
some_at : (hs : List Held) (i : ℕ) → i < length hs → (h : Held) × (slice_get hs i ≡ Some h)
some_at [] i l = absurd (omega (arith, l))
some_at (h ∷ hs) zero l = (h, refl)
some_at (h ∷ hs) (suc i) l = some_at hs i (omega (arith, l))

module _ (p : Mark → Bool) (g : Held → ℕ) (position : Addr → Option ℕ) (xs : List Selected) (ps : List (Option Addr)) (hs : List Held)
    (each : (i : ℕ) (h : Held) → slice_get hs i ≡ Some h → count_by p (marks_at position xs i (get_or ps i None)) ≡ g h) where
  marks_to : (n : ℕ) → n ≤ length hs → count_by p (marks_below position xs ps n) ≡ sum_by g (take n hs)
  unfolding marks_below
  marks_to zero l = refl
  marks_to (suc n) l =
      let r = some_at hs n (omega (arith, l)) in
      let rest = marks_to n (omega (arith, l)) in
      let here = each n r.0 r.1 in
      let split = sum_by-append (λ m. cond (p m) 1 0) (marks_below position xs ps n) (marks_at position xs n (get_or ps n None)) in
      let more = sum_by_more g hs n r.0 (omega (arith, l)) in
      let same = ap g (get_or_from_slice_get hs n r.0 r.0 r.1) in
      let next : sum_by g (take (n + 1) hs) ≡ sum_by g (take (suc n) hs) = ap (λ k. sum_by g (take k hs)) one in
      omega (arith, rest, here, split, more, same, next)
    where
      one : n + 1 ≡ suc n
      one = omega arith

  pub marks_all : (n : ℕ) → n ≡ length hs → count_by p (marks_below position xs ps n) ≡ sum_by g hs
  marks_all n e = marks_to n (omega (arith, e)) ∙ ap (sum_by g) (take_all n hs (omega (arith, e)))
