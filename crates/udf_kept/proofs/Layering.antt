-- Depths are given layer by layer.
use Rattle.std.proofs.Common.{◌≡◌, ◌⊎◌, eqb-true, ℕ, zero, suc, ◌+◌, ◌<◌, ◌≤◌, List, [], ◌∷◌, ◌++◌, length, get_or, set, take, drop, replicate, Bool, true, false, cond, nat_eq, refl, sym, ap, ◌∙◌, inl, inr, subst, arith, Option, Some, None}
use Rattle.std.specs.Prelude.{◌==◌, count_by, is_none}
use Rattle.std.specs.List.{flat_map}
use Rattle.std.proofs.lemmas.Bool.{cases_lt, eqb-false, false≢true}
use Rattle.std.proofs.lemmas.Grind.{flat_map-append}
use Rattle.std.proofs.lemmas.List.{append_assoc, append-nil, length-set, length-append, length-replicate, length-take-le, take_at, take_more, get_or-set_same, get_or-set_other}
use Rattle.udf_tree_model.specs.Among.{Member}
use Rattle.udf_tree_model.proofs.Members.{member_append, member_left, member_right}
use Rattle.udf_tree_model.proofs.Places.{in_flat_map}
use Rattle.udf_kept.specs.declared.fitted.Selected.{Selected}
use Rattle.udf_kept.proofs.Counted.{count_one}
use Rattle.udf_kept.specs.Depths.{AreDepths, HasDepth, IsReached, Way, edges, starts_from, starts_in}

-- what has at most the depth k: all that ways of at most k links reach, of which the layer has that depth
pub record IsLayered (starts : List Bool) (xs : List Selected) (least k : ℕ) (ds : List (Option ℕ)) (layer : List ℕ) : Type 0 where
  pub len : length ds ≡ length starts
  pub way : (i m : ℕ) → get_or ds i None ≡ Some m → Way starts xs least m i
  pub low : (i m : ℕ) → get_or ds i None ≡ Some m → m ≤ k
  pub begins : (i : ℕ) → get_or starts i false ≡ true → get_or ds i None ≡ Some 0
  pub closed : (i m j : ℕ) → get_or ds i None ≡ Some m → m < k → Member j (edges least xs i) → j < length starts → HasDepth ds j (suc m)
  pub layer_in : (i : ℕ) → get_or ds i None ≡ Some k → Member i layer
  pub layer_is : (i : ℕ) → Member i layer → get_or ds i None ≡ Some k

-- a depth that is set takes one from those that have none
count_set : (xs : List (Option ℕ)) (i k : ℕ) → i < length xs → get_or xs i None ≡ None → suc (count_by is_none (set xs i (Some k))) ≡ count_by is_none xs
count_set [] i k l e = absurd (omega (arith, l))
count_set (x ∷ xs) zero k l e =
    let a = count_one is_none x xs in
    let b = count_one is_none (Some k) xs in
    let c : cond {A = ℕ} (is_none x) 1 0 ≡ 1 = ap (λ (o : Option ℕ). cond {A = ℕ} (is_none o) 1 0) e in
    omega (arith, a, b, c)
count_set (x ∷ xs) (suc i) k l e =
    let a = count_one is_none x xs in
    let b = count_one is_none x (set xs i (Some k)) in
    let h = count_set xs i k (omega (arith, l)) e in
    omega (arith, a, b, h)

pub none_some : (k : ℕ) → None ≡ Some k → ⊥
none_some k e = cc

same_some : (k m : ℕ) → Some k ≡ Some m → k ≡ m
same_some k m e = cc

-- what a depth that is set leaves
set_gives : (ds : List (Option ℕ)) (i k : ℕ) → i < length ds → (j m : ℕ) → get_or (set ds i (Some k)) j None ≡ Some m → (get_or ds j None ≡ Some m) ⊎ ((j ≡ i) × (m ≡ k))
set_gives ds i k l j m h = go (nat_eq j i) refl
  where
    go : (b : Bool) → nat_eq j i ≡ b → (get_or ds j None ≡ Some m) ⊎ ((j ≡ i) × (m ≡ k))
    go true e =
        let same : j ≡ i = eqb-true j i e in
        let here : get_or (set ds i (Some k)) j None ≡ Some k = ap (λ (n : ℕ). get_or (set ds i (Some k)) n None) same ∙ get_or-set_same ds i (Some k) None l in
        inr (same, sym (same_some k m (sym here ∙ h)))
    go false e = inl (sym (get_or-set_other ds i j (Some k) None (eqb-false j i e)) ∙ h)

set_stays : (ds : List (Option ℕ)) (i k : ℕ) → get_or ds i None ≡ None → (j m : ℕ) → get_or ds j None ≡ Some m → get_or (set ds i (Some k)) j None ≡ Some m
set_stays ds i k n j m h = go (nat_eq j i) refl
  where
    go : (b : Bool) → nat_eq j i ≡ b → get_or (set ds i (Some k)) j None ≡ Some m
    go true e = absurd (none_some m (sym n ∙ ap (λ (x : ℕ). get_or ds x None) (sym (eqb-true j i e)) ∙ h))
    go false e = get_or-set_other ds i j (Some k) None (eqb-false j i e) ∙ h

-- ---- one target more
pub reached_new : (old : List (Option ℕ)) (done : List ℕ) (k : ℕ) (ds : List (Option ℕ)) (layer : List ℕ) (i : ℕ) → i < length ds → get_or ds i None ≡ None
    → IsReached old done k ds layer → IsReached old (done ++ i ∷ []) k (set ds i (Some k)) (layer ++ i ∷ [])
reached_new old done k ds layer i l n h = record {
  len = length-set ds i (Some k) ∙ h.len;
  stays = λ j m e. set_stays ds i k n j m (h.stays j m e);
  new = λ j m e. fresh j m (set_gives ds i k l j m e);
  all = λ j a b. all j (member_append done (i ∷ []) j a) b;
  layer_is = λ j a. layer_is j (member_append layer (i ∷ []) j a);
  count = let c = count_set ds i k l n in let e = length-append layer (i ∷ []) in omega (arith, c, e, h.count);
}
  where
    here : get_or (set ds i (Some k)) i None ≡ Some k
    here = get_or-set_same ds i (Some k) None l

    fresh : (j m : ℕ) → (get_or ds j None ≡ Some m) ⊎ ((j ≡ i) × (m ≡ k)) → (get_or old j None ≡ Some m) ⊎ ((m ≡ k) × Member j (layer ++ i ∷ []))
    fresh j m (inr e) = inr (e.1, member_right layer (i ∷ []) j (inl e.0))
    fresh j m (inl e) = go (h.new j m e)
      where
        go : (get_or old j None ≡ Some m) ⊎ ((m ≡ k) × Member j layer) → (get_or old j None ≡ Some m) ⊎ ((m ≡ k) × Member j (layer ++ i ∷ []))
        go (inl f) = inl f
        go (inr f) = inr (f.0, member_left layer (i ∷ []) j f.1)

    all : (j : ℕ) → Member j done ⊎ Member j (i ∷ []) → j < length old → (m : ℕ) × (get_or (set ds i (Some k)) j None ≡ Some m)
    all j (inl a) b = let r = h.all j a b in (r.0, set_stays ds i k n j r.0 r.1)
    all j (inr (inl e)) b = (k, ap (λ (x : ℕ). get_or (set ds i (Some k)) x None) e ∙ here)
    all j (inr (inr e)) b = absurd e

    layer_is : (j : ℕ) → Member j layer ⊎ Member j (i ∷ []) → (get_or (set ds i (Some k)) j None ≡ Some k) × Member j (done ++ i ∷ [])
    layer_is j (inl a) = let r = h.layer_is j a in (set_stays ds i k n j k r.0, member_left done (i ∷ []) j r.1)
    layer_is j (inr (inl e)) = (ap (λ (x : ℕ). get_or (set ds i (Some k)) x None) e ∙ here, member_right done (i ∷ []) j (inl e))
    layer_is j (inr (inr e)) = absurd e

pub reached_known : (old : List (Option ℕ)) (done : List ℕ) (k : ℕ) (ds : List (Option ℕ)) (layer : List ℕ) (i : ℕ) → (i < length ds → (m : ℕ) × (get_or ds i None ≡ Some m))
    → IsReached old done k ds layer → IsReached old (done ++ i ∷ []) k ds layer
reached_known old done k ds layer i known h = record {
  len = h.len;
  stays = h.stays;
  new = h.new;
  all = λ j a b. all j (member_append done (i ∷ []) j a) b;
  layer_is = λ j a. let r = h.layer_is j a in (r.0, member_left done (i ∷ []) j r.1);
  count = h.count;
}
  where
    all : (j : ℕ) → Member j done ⊎ Member j (i ∷ []) → j < length old → (m : ℕ) × (get_or ds j None ≡ Some m)
    all j (inl a) b = h.all j a b
    all j (inr (inl e)) b =
        let r = known (omega (arith, e, b, h.len)) in
        (r.0, ap (λ (x : ℕ). get_or ds x None) e ∙ r.1)
    all j (inr (inr e)) b = absurd e

pub is_none_gives : (o : Option ℕ) → is_none o ≡ true → o ≡ None
is_none_gives None e = refl
is_none_gives (Some k) e = absurd (false≢true e)

pub is_some_gives : (o : Option ℕ) → is_none o ≡ false → (k : ℕ) × (o ≡ Some k)
is_some_gives None e = absurd (false≢true (sym e))
is_some_gives (Some k) e = (k, refl)

-- ---- the loops
pub flat_more : {X : Type 0} (f : X → List ℕ) (done : List ℕ) (xs : List X) (i : ℕ) (d : X) → i < length xs → (done ++ flat_map f (take i xs)) ++ f (get_or xs i d) ≡ done ++ flat_map f (take (i + 1) xs)
flat_more {X} f done xs i d l =
    append_assoc done (flat_map f (take i xs)) (f (get_or xs i d))
    ∙ ap (λ (r : List ℕ). done ++ r) (ap (λ (r : List ℕ). flat_map f (take i xs) ++ r) (sym (append-nil (f (get_or xs i d))))
    ∙ sym (ap (flat_map f) (take_more xs i d l) ∙ flat_map-append f (take i xs) (get_or xs i d ∷ [])))

starts_push : (k : ℕ) (bs : List Bool) (b : Bool) → starts_from k (bs ++ b ∷ []) ≡ starts_from k bs ++ cond b ((k + length bs) ∷ []) []
starts_push k [] true = let e : k ≡ k + 0 = omega arith in ap (λ (n : ℕ). starts_from n (true ∷ [])) e
starts_push k [] false = refl
starts_push k (true ∷ bs) b = ap (λ (r : List ℕ). k ∷ r) (starts_push (suc k) bs b ∙ ap (λ (n : ℕ). starts_from (suc k) bs ++ cond b (n ∷ []) []) (omega arith))
starts_push k (false ∷ bs) b = starts_push (suc k) bs b ∙ ap (λ (n : ℕ). starts_from (suc k) bs ++ cond b (n ∷ []) []) (omega arith)

starts_more : (bs : List Bool) (i : ℕ) → i < length bs → starts_in (take i bs) ++ cond (get_or bs i false) (i ∷ []) [] ≡ starts_in (take (i + 1) bs)
unfolding starts_in
starts_more bs i l =
    ap (λ (n : ℕ). starts_from 0 (take i bs) ++ cond (get_or bs i false) (n ∷ []) []) (omega (arith, length-take-le i bs))
    ∙ sym (starts_push 0 (take i bs) (get_or bs i false))
    ∙ sym (ap (starts_from 0) (take_more bs i false l))

pub starts_step : (old : List (Option ℕ)) (bs : List Bool) (i : ℕ) (b : Bool) (ds : List (Option ℕ)) (layer : List ℕ) → i < length bs → get_or bs i false ≡ b
    → IsReached old (starts_in (take i bs) ++ cond b (i ∷ []) []) 0 ds layer → IsReached old (starts_in (take (i + 1) bs)) 0 ds layer
starts_step old bs i b ds layer l e h =
    subst (λ (ts : List ℕ). IsReached old ts 0 ds layer) (ap (λ (x : Bool). starts_in (take i bs) ++ cond x (i ∷ []) []) (sym e) ∙ starts_more bs i l) h

pub starts_none : [] ≡ starts_in []
unfolding starts_in
starts_none = refl

starts_give : (k : ℕ) (bs : List Bool) (i : ℕ) → Member i (starts_from k bs) → (j : ℕ) × (i ≡ k + j) × (get_or bs j false ≡ true)
starts_give k [] i m = absurd m
starts_give k (true ∷ bs) i (inl e) = (0, omega (arith, e), refl)
starts_give k (true ∷ bs) i (inr m) = let r = starts_give (suc k) bs i m in (suc r.0, omega (arith, r.1), r.2)
starts_give k (false ∷ bs) i m = let r = starts_give (suc k) bs i m in (suc r.0, omega (arith, r.1), r.2)

starts_have : (k : ℕ) (bs : List Bool) (j : ℕ) → get_or bs j false ≡ true → Member (k + j) (starts_from k bs)
starts_have k [] j e = absurd (false≢true e)
starts_have k (true ∷ bs) zero e = inl (omega arith)
starts_have k (false ∷ bs) zero e = absurd (false≢true e)
starts_have k (true ∷ bs) (suc j) e = inr (subst (λ (n : ℕ). Member n (starts_from (suc k) bs)) (omega arith) (starts_have (suc k) bs j e))
starts_have k (false ∷ bs) (suc j) e = subst (λ (n : ℕ). Member n (starts_from (suc k) bs)) (omega arith) (starts_have (suc k) bs j e)

start_gives : (bs : List Bool) (i : ℕ) → Member i (starts_in bs) → get_or bs i false ≡ true
unfolding starts_in
start_gives bs i m = let r = starts_give 0 bs i m in ap (λ (n : ℕ). get_or bs n false) (let e = r.1 in omega (arith, e)) ∙ r.2

start_has : (bs : List Bool) (i : ℕ) → get_or bs i false ≡ true → Member i (starts_in bs)
unfolding starts_in
start_has bs i e = subst (λ (n : ℕ). Member n (starts_from 0 bs)) (omega arith) (starts_have 0 bs i e)

pub start_inside : (bs : List Bool) (i : ℕ) → get_or bs i false ≡ true → i < length bs
start_inside [] i e = absurd (false≢true e)
start_inside (b ∷ bs) zero e = omega arith
start_inside (b ∷ bs) (suc i) e = let h = start_inside bs i e in omega (arith, h)

abbrev nothing : Option ℕ
nothing = None

abbrev absent : {X : Type 0} → Option X
absent = None

pub none_there : {X : Type 0} (n i : ℕ) → get_or (replicate n (absent {X = X})) i None ≡ None
none_there zero i = refl
none_there (suc n) zero = refl
none_there (suc n) (suc i) = none_there n i

-- ---- before the first entry
pub reached_none : (old : List (Option ℕ)) (k : ℕ) → IsReached old [] k old []
reached_none old k = record {
  len = refl;
  stays = λ i m e. e;
  new = λ i m e. inl e;
  all = λ i m l. absurd m;
  layer_is = λ i m. absurd m;
  count = omega arith;
}

pub member_flat : {X Y : Type 0} (f : X → List Y) (xs : List X) (y : Y) → Member y (flat_map f xs) → (x : X) × Member x xs × Member y (f x)
member_flat f [] y m = absurd m
member_flat {X} {Y} f (x ∷ xs) y m = go (λ k. member_flat f xs y k) (member_append (f x) (flat_map f xs) y m)
  where
    go : (Member y (flat_map f xs) → (z : X) × Member z xs × Member y (f z)) → Member y (f x) ⊎ Member y (flat_map f xs) → (z : X) × Member z (x ∷ xs) × Member y (f z)
    go rest (inl k) = (x, inl refl, k)
    go rest (inr k) = let r = rest k in (r.0, inr r.1, r.2)

-- ---- a layer after another
module _ (starts : List Bool) (xs : List Selected) (least : ℕ) where
  pub layered_begins : (n : ℕ) (ds : List (Option ℕ)) (layer : List ℕ) → n ≡ length starts → IsReached (replicate n nothing) (starts_in starts) 0 ds layer → IsLayered starts xs least 0 ds layer
  layered_begins n ds layer l h = record {
    len = h.len ∙ length-replicate n nothing ∙ l;
    way = λ i m e. let r = given i m e in subst (λ (k : ℕ). Way starts xs least k i) (sym r.0) (start_gives starts i (h.layer_is i r.1).1);
    low = λ i m e. let r = (given i m e).0 in omega (arith, r);
    begins = λ i e. begins i e;
    closed = λ i m j e less. absurd (omega (arith, less));
    layer_in = λ i e. (given i 0 e).1;
    layer_is = λ i m. (h.layer_is i m).0;
  }
    where
      given : (i m : ℕ) → get_or ds i None ≡ Some m → (m ≡ 0) × Member i layer
      given i m e = go (h.new i m e)
        where
          go : (get_or (replicate n nothing) i None ≡ Some m) ⊎ ((m ≡ 0) × Member i layer) → (m ≡ 0) × Member i layer
          go (inl f) = absurd (none_some m (sym (none_there n i) ∙ f))
          go (inr f) = f

      begins : (i : ℕ) → get_or starts i false ≡ true → get_or ds i None ≡ Some 0
      begins i e =
          let inside = start_inside starts i e in
          let long = length-replicate n nothing in
          let r = h.all i (start_has starts i e) (omega (arith, inside, l, long)) in
          r.1 ∙ ap (λ (k : ℕ). Some k) (given i r.0 r.1).0

  pub layered_next : (k : ℕ) (ds es : List (Option ℕ)) (layer next : List ℕ) → IsLayered starts xs least k ds layer → IsReached ds (flat_map (edges least xs) layer) (k + 1) es next
      → IsLayered starts xs least (k + 1) es next
  layered_next k ds es layer next h r = record {
    len = r.len ∙ h.len;
    way = λ i m e. way i m (r.new i m e);
    low = λ i m e. low i m e;
    begins = λ i e. r.stays i 0 (h.begins i e);
    closed = λ i m j e less a b. closed i m j (r.new i m e) less a b;
    layer_in = λ i e. last i (r.new i (k + 1) e);
    layer_is = λ i m. (r.layer_is i m).0;
  }
    where
      way : (i m : ℕ) → (get_or ds i None ≡ Some m) ⊎ ((m ≡ k + 1) × Member i next) → Way starts xs least m i
      way i m (inl e) = h.way i m e
      way i m (inr e) =
          let a = member_flat (edges least xs) layer i (r.layer_is i e.1).1 in
          let up : suc k ≡ m = omega (arith, e.0) in
          subst (λ (n : ℕ). Way starts xs least n i) up (a.0, h.way a.0 k (h.layer_is a.0 a.1), a.2)

      low : (i m : ℕ) → get_or es i None ≡ Some m → m ≤ k + 1
      low i m e = go (r.new i m e)
        where
          go : (get_or ds i None ≡ Some m) ⊎ ((m ≡ k + 1) × Member i next) → m ≤ k + 1
          go (inl f) = let l = h.low i m f in omega (arith, l)
          go (inr f) = let l = f.0 in omega (arith, l)

      closed : (i m j : ℕ) → (get_or ds i None ≡ Some m) ⊎ ((m ≡ k + 1) × Member i next) → m < k + 1 → Member j (edges least xs i) → j < length starts → HasDepth es j (suc m)
      closed i m j (inr e) less a b = let f = e.0 in absurd (omega (arith, f, less))
      closed i m j (inl e) less a b = go (cases_lt m k)
        where
          go : (m < k) ⊎ (k ≤ m) → HasDepth es j (suc m)
          go (inl l) = let d = h.closed i m j e l a b in (d.0, d.1, r.stays j d.0 d.2)
          go (inr l) =
              let same : m ≡ k = omega (arith, l, less) in
              let here = h.layer_in i (e ∙ ap (λ (n : ℕ). Some n) same) in
              let d = r.all j (in_flat_map (edges least xs) layer i j here a) (omega (arith, b, h.len)) in
              let top = low j d.0 d.1 in
              (d.0, omega (arith, top, same), d.1)

      last : (i : ℕ) → (get_or ds i None ≡ Some (k + 1)) ⊎ ((k + 1 ≡ k + 1) × Member i next) → Member i next
      last i (inl e) = let l = h.low i (k + 1) e in absurd (omega (arith, l))
      last i (inr e) = e.1

  pub layered_ends : (k : ℕ) (ds : List (Option ℕ)) (layer : List ℕ) → length layer ≡ 0 → IsLayered starts xs least k ds layer → AreDepths starts xs least ds
  layered_ends k ds [] z h = record {
    len = h.len;
    way = h.way;
    begins = h.begins;
    closed = λ i m j e a b. h.closed i m j e (below i m e) a b;
  }
    where
      below : (i m : ℕ) → get_or ds i None ≡ Some m → m < k
      below i m e = go (cases_lt m k)
        where
          go : (m < k) ⊎ (k ≤ m) → m < k
          go (inl l) = l
          go (inr l) =
              let low = h.low i m e in
              let same : m ≡ k = omega (arith, l, low) in
              absurd (h.layer_in i (e ∙ ap (λ (n : ℕ). Some n) same))
  layered_ends k ds (x ∷ layer) z h = absurd (omega (arith, z))

-- ---- what a slice of a vector gets goes back
pub goes_back : {X : Type 0} (n : ℕ) (new old : List X) → n ≡ length old → length new ≡ length old → take n (new ++ drop (length new) old) ≡ new
goes_back n new old e f = take_at new (drop (length new) old) n (f ∙ sym e)

pub none_count : (n : ℕ) → count_by is_none (replicate n nothing) ≡ n
none_count zero = refl
none_count (suc n) = let a = count_one is_none nothing (replicate n nothing) in let h = none_count n in omega (arith, a, h)

pub layer_more : (n : ℕ) (layer : List ℕ) → n ≡ length layer → (n == 0) ≡ false → 1 ≤ length layer
layer_more n [] e h = absurd (false≢true (sym h ∙ ap (λ (x : ℕ). x == 0) e))
layer_more n (x ∷ layer) e h = omega arith

pub no_layer : (n : ℕ) (layer : List ℕ) → n ≡ length layer → (n == 0) ≡ true → length layer ≡ 0
no_layer n layer e h = sym e ∙ eqb-true n 0 h
