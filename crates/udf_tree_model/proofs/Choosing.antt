-- The chosen link to an address.
use Rattle.std.proofs.Common.{◌≡◌, ◌⊎◌, ℕ, List, [], ◌∷◌, map, Bool, true, false, cond, not, ◌&&◌, Option, Some, None, refl, sym, ap, ◌∙◌, subst, inl, inr, arith, eq-eqb, eqb-true}
use Rattle.std.specs.List.{filter}
use Rattle.std.proofs.lemmas.Bool.{and_parts, and_from, false≢true}
use Rattle.std.proofs.lemmas.Bool.Decides.{nat_tests}
use Rattle.std.proofs.lemmas.Option.{same_Some}
use Rattle.udf_field.specs.declared.address.Addr.{Addr}
use Rattle.udf_file_model.specs.Address.{same_addr}
use Rattle.udf_tree_model.specs.Link.{Link, target_of, is_pointer}
use Rattle.udf_tree_model.specs.Node.{Tree, Setting, node_at}
use Rattle.udf_tree_model.specs.Found.{leads_to, level}
use Rattle.udf_tree_model.specs.Won.{kept_length, sound, kept_links}
use Rattle.udf_tree_model.specs.Chosen.{Rank, comes_before, first_of, first_rank, named, rank_of, ranks_in, ranks_over, chosen, is_rank, selects, fitted}
use Rattle.udf_tree_model.specs.Laws.{IsWithin, PlacesDiffer, HasSoundStarts, IsOffer, KeepsBy}
use Rattle.udf_tree_model.proofs.Members.{Member, member_of, contains_of, member_append, member_left, member_right, member_filter, member_filtered, member_map, member_of_map}
use Rattle.udf_tree_model.proofs.Places.{same_address, address_same}
use Rattle.udf_tree_model.proofs.Finding.{found_readable}
use Rattle.udf_tree_model.proofs.Linking.{first_some}
use Rattle.udf_tree_model.proofs.Keeping.{fitted_gives, sound_found}

-- each key of the list is that of a named link of a sound holder
pub ranks_give : (s : Setting) (t : Tree) (a : Addr) (ds : List Addr) (k : Rank) → Member k (ranks_over s t a ds) → (d : Addr) × (f : Link) × (sound s t d ≡ true) × Member f (named s t d) × ((target_of f.says) ≡ a) × (k ≡ rank_of s t d f)
unfolding ranks_over ranks_in
ranks_give s t a [] k m = absurd m
ranks_give s t a (d ∷ ds) k m = go (λ h. ranks_give s t a ds k h) (sound s t d) refl (member_append _ _ k m)
  where
    go : (Member k (ranks_over s t a ds) → (e : Addr) × (f : Link) × (sound s t e ≡ true) × Member f (named s t e) × ((target_of f.says) ≡ a) × (k ≡ rank_of s t e f)) → (b : Bool) → sound s t d ≡ b → Member k (cond b (map (rank_of s t d) (filter (leads_to a) (named s t d))) []) ⊎ Member k (ranks_over s t a ds) → (e : Addr) × (f : Link) × (sound s t e ≡ true) × Member f (named s t e) × ((target_of f.says) ≡ a) × (k ≡ rank_of s t e f)
    go ih b e (inr h) = ih h
    go ih false e (inl h) = absurd h
    go ih true e (inl h) =
        let r = member_of_map (rank_of s t d) (filter (leads_to a) (named s t d)) k h in
        let q = member_filter (leads_to a) (named s t d) r.0 r.1 in
        (d, r.0, e, q.0, same_address (target_of r.0.says) a q.1, r.2)

pub ranks_have : (s : Setting) (t : Tree) (a : Addr) (ds : List Addr) (d : Addr) (f : Link) → Member d ds → sound s t d ≡ true → Member f (named s t d) → (target_of f.says) ≡ a → Member (rank_of s t d f) (ranks_over s t a ds)
unfolding ranks_over ranks_in
ranks_have s t a [] d f m h k e = absurd m
ranks_have s t a (x ∷ xs) d f (inr m) h k e = member_right _ _ (rank_of s t d f) (ranks_have s t a xs d f m h k e)
ranks_have s t a (x ∷ xs) d f (inl i) h k e = member_left _ _ (rank_of s t d f) (subst (λ (y : Addr). Member (rank_of s t d f) (cond (sound s t y) (map (rank_of s t y) (filter (leads_to a) (named s t y))) [])) i (rw h (member_map (rank_of s t d) (filter (leads_to a) (named s t d)) f (member_filtered (leads_to a) (named s t d) f k (address_same (target_of f.says) a e)))))

pub selects_chosen : (s : Setting) (t : Tree) (d : Addr) (f : Link) (a : Addr) → (target_of f.says) ≡ a → (node_at t a).directory ≡ true → selects s t d f ≡ true → (not (s.start a) ≡ true) × (is_rank d f (chosen s t a) ≡ true)
unfolding selects
selects_chosen s t d f a e h k =
    let x = (and_parts (sound s t (target_of f.says)) _ k).1 in
    let y : (cond (node_at t a).directory (not (s.start a) && is_rank d f (chosen s t a)) (not (is_pointer f.says))) ≡ true = subst (λ (q0 : Addr). cond (node_at t q0).directory (not (s.start q0) && is_rank d f (chosen s t q0)) (not (is_pointer f.says)) ≡ true) e x in
    and_parts (not (s.start a)) _ (rw h at y)

pub selects_file : (s : Setting) (t : Tree) (d : Addr) (f : Link) (a : Addr) → (target_of f.says) ≡ a → (node_at t a).directory ≡ false → selects s t d f ≡ true → not (is_pointer f.says) ≡ true
unfolding selects
selects_file s t d f a e h k =
    let x = (and_parts (sound s t (target_of f.says)) _ k).1 in
    let y : (cond (node_at t a).directory (not (s.start a) && is_rank d f (chosen s t a)) (not (is_pointer f.says))) ≡ true = subst (λ (q0 : Addr). cond (node_at t q0).directory (not (s.start q0) && is_rank d f (chosen s t q0)) (not (is_pointer f.says)) ≡ true) e x in
    rw h at y

pub one_rank : (d e : Addr) (f g : Link) (o : Option Rank) → is_rank d f o ≡ true → is_rank e g o ≡ true → (d ≡ e) × (f.place ≡ g.place)
one_rank d e f g None h k = absurd (false≢true h)
one_rank d e f g (Some x) h k =
    let a = and_parts (same_addr x.holder d) _ h in
    let b = and_parts (same_addr x.holder e) _ k in
    (sym (same_address x.holder d a.0) ∙ same_address x.holder e b.0, sym (eqb-true x.place f.place a.1) ∙ eqb-true x.place g.place b.1)

pub own_rank : (s : Setting) (t : Tree) (d : Addr) (f : Link) → is_rank d f (Some (rank_of s t d f)) ≡ true
unfolding rank_of
own_rank s t d f = and_from _ _ (address_same d d refl) (eq-eqb f.place f.place refl)

-- the chosen link is the one whose rank is chosen
pub rank_is : (s : Setting) (t : Tree) (a d : Addr) (f : Link) → is_rank d f (chosen s t a) ≡ true → chosen s t a ≡ Some (rank_of s t d f)
unfolding chosen rank_of
rank_is s t a d f h = by_first (first_rank (ranks_over s t a s.places)) refl h
  where
    by_first : (o : Option Rank) → first_rank (ranks_over s t a s.places) ≡ o → is_rank d f o ≡ true → o ≡ Some (rank_of s t d f)
    by_first None e k = absurd (false≢true k)
    by_first (Some x) e k =
        let p = and_parts (same_addr x.holder d) _ k in
        let r = ranks_give s t a s.places x (first_some (ranks_over s t a s.places) x e) in
        let same : x ≡ rank_of s t r.0 r.1 = r.5 in
        let holder : r.0 ≡ d = ap (λ (y : Rank). y.holder) (sym same) ∙ same_address x.holder d p.0 in
        let place : r.1.place ≡ f.place = ap (λ (y : Rank). y.place) (sym same) ∙ eqb-true x.place f.place p.1 in
        ap Some (same ∙ ap (λ (y : Addr). rank_of s t y r.1) holder ∙ ap (λ (n : ℕ). let y : Rank = record { level = level s t d; holder = d; place = n } in y) place)

-- a fitted link to a directory is its chosen one
pub fitted_chosen : (s : Setting) (t : Tree) (d : Addr) (f : Link) → Member f (fitted s t d) → (node_at t (target_of f.says)).directory ≡ true
    → (s.start (target_of f.says) ≡ false) × (chosen s t (target_of f.says) ≡ Some (rank_of s t d f))
fitted_chosen s t d f m h =
    let r = selects_chosen s t d f (target_of f.says) refl h (fitted_gives s t d f m).2 in
    (off (s.start (target_of f.says)) r.0, rank_is s t (target_of f.says) d f r.1)
  where
    off : (b : Bool) → not b ≡ true → b ≡ false
    off true e = absurd (false≢true e)
    off false e = refl

-- fitted links to one directory are one
pub one_fitted : (s : Setting) (t : Tree) → PlacesDiffer t → (d e : Addr) (f g : Link) → Member f (fitted s t d) → Member g (fitted s t e)
    → target_of f.says ≡ target_of g.says → (node_at t (target_of f.says)).directory ≡ true → (d ≡ e) × (f ≡ g)
unfolding kept_links
one_fitted s t c d e f g m n q h =
    let x = fitted_gives s t d f m in
    let y = fitted_gives s t e g n in
    let i = selects_chosen s t d f (target_of f.says) refl h x.2 in
    let j = selects_chosen s t e g (target_of f.says) (sym q) h y.2 in
    let r = one_rank d e f g (chosen s t (target_of f.says)) i.1 j.1 in
    let l : Member f (kept_links s t e) = subst (λ (z : Addr). Member f (kept_links s t z)) r.0 x.0 in
    (r.0, same e f g l y.0 r.1)
  where
    same : (z : Addr) (x y : Link) → Member x (kept_links s t z) → Member y (kept_links s t z) → x.place ≡ y.place → x ≡ y
    same z x y i j p = c.one z (kept_length s t z) x y (contains_of _ x i) (contains_of _ y j) p

-- the order of ranks is total
before_self : (x : Rank) → comes_before x x ≡ false
unfolding comes_before
before_self x = grind (arith, nat_tests)

before_along : (x y z : Rank) → comes_before x y ≡ false → comes_before y z ≡ false → comes_before x z ≡ false
unfolding comes_before
before_along x y z h k = grind (arith, nat_tests)

before_one : (x y : Rank) → comes_before x y ≡ true → comes_before y x ≡ false
unfolding comes_before
before_one x y h = grind (arith, nat_tests)

pub none_first : (xs : List Rank) (y : Rank) → first_rank xs ≡ None → Member y xs → ⊥
unfolding first_rank
none_first [] y e m = m
none_first (z ∷ zs) y e m = cc

-- no rank of a list comes before the first one
pub first_least : (xs : List Rank) (x y : Rank) → first_rank xs ≡ Some x → Member y xs → comes_before y x ≡ false
unfolding first_rank
first_least [] x y e m = absurd m
first_least (z ∷ zs) x y e m = by_rest (λ w q k. first_least zs w y q k) (first_rank zs) refl (same_Some (first_of z (first_rank zs)) x e) m
  where
    by_rest : ((w : Rank) → first_rank zs ≡ Some w → Member y zs → comes_before y w ≡ false) → (o : Option Rank) → first_rank zs ≡ o → first_of z o ≡ x → Member y (z ∷ zs) → comes_before y x ≡ false
    by_rest rest None q i (inl p) = subst (λ (v : Rank). comes_before y v ≡ false) (p ∙ i) (before_self y)
    by_rest rest None q i (inr k) = absurd (none_first zs y q k)
    by_rest rest (Some w) q i k = pick (comes_before w z) refl i k
      where
        pick : (b : Bool) → comes_before w z ≡ b → cond b w z ≡ x → Member y (z ∷ zs) → comes_before y x ≡ false
        pick true r j (inl p) = subst (λ (v : Rank). comes_before y v ≡ false) j (subst (λ (v : Rank). comes_before v w ≡ false) (sym p) (before_one w z r))
        pick true r j (inr l) = subst (λ (v : Rank). comes_before y v ≡ false) j (rest w q l)
        pick false r j (inl p) = subst (λ (v : Rank). comes_before y v ≡ false) (p ∙ j) (before_self y)
        pick false r j (inr l) = subst (λ (v : Rank). comes_before y v ≡ false) j (before_along y w z (rest w q l) r)

-- the chosen link comes before all that sound entries offer
pub chosen_first : (s : Setting) (t : Tree) → IsWithin s t → (a : Addr) (x : Rank) → chosen s t a ≡ Some x → (d : Addr) (f : Link) → IsOffer s t a d f
    → comes_before (rank_of s t d f) x ≡ false
unfolding chosen
chosen_first s t w a x h d f o =
    first_least (ranks_over s t a s.places) x (rank_of s t d f) h
    (ranks_have s t a s.places d f (member_of s.places d (w.among d (found_readable s t w d (sound_found s t d o.holder)))) o.holder (member_of (named s t d) f o.among) o.leads)

pub chosen_offer : (s : Setting) (t : Tree) (a : Addr) (x : Rank) → chosen s t a ≡ Some x → (d : Addr) × (f : Link) × IsOffer s t a d f × (x ≡ rank_of s t d f)
unfolding chosen
chosen_offer s t a x h =
    let r = ranks_give s t a s.places x (first_some (ranks_over s t a s.places) x h) in
    (r.0, r.1, record { holder = r.2; among = contains_of (named s t r.0) r.1 r.3; leads = r.4 }, r.5)

pub chosen_none : (s : Setting) (t : Tree) → IsWithin s t → (a : Addr) → chosen s t a ≡ None → (d : Addr) (f : Link) → IsOffer s t a d f → ⊥
unfolding chosen
chosen_none s t w a h d f o =
    none_first (ranks_over s t a s.places) (rank_of s t d f) h
    (ranks_have s t a s.places d f (member_of s.places d (w.among d (found_readable s t w d (sound_found s t d o.holder)))) o.holder (member_of (named s t d) f o.among) o.leads)

-- the same of the entries that keep others
pub keeps_chosen : (s : Setting) (t : Tree) (a d : Addr) (f : Link) → KeepsBy s t a d f → (node_at t a).directory ≡ true → chosen s t a ≡ Some (rank_of s t d f)
keeps_chosen s t a d f k h =
    let m = member_of (fitted s t d) f k.among in
    let r = fitted_chosen s t d f m (subst (λ (x : Addr). (node_at t x).directory ≡ true) (sym k.leads) h) in
    ap (chosen s t) (sym k.leads) ∙ r.1

pub keeps_one : (s : Setting) (t : Tree) → PlacesDiffer t → (a d e : Addr) (f g : Link) → KeepsBy s t a d f → KeepsBy s t a e g → (node_at t a).directory ≡ true → (d ≡ e) × (f ≡ g)
keeps_one s t c a d e f g k l h =
    one_fitted s t c d e f g (member_of (fitted s t d) f k.among) (member_of (fitted s t e) g l.among) (k.leads ∙ sym l.leads)
    (subst (λ (x : Addr). (node_at t x).directory ≡ true) (sym k.leads) h)

pub keeps_no_start : (s : Setting) (t : Tree) → HasSoundStarts s t → (a d : Addr) (f : Link) → KeepsBy s t a d f → s.start a ≡ false
keeps_no_start s t c a d f k = go (s.start a) refl
  where
    go : (b : Bool) → s.start a ≡ b → s.start a ≡ false
    go false e = e
    go true e =
        let h : (node_at t (target_of f.says)).directory ≡ true = subst (λ (x : Addr). (node_at t x).directory ≡ true) (sym k.leads) (c.directories a e) in
        ap s.start (sym k.leads) ∙ (fitted_chosen s t d f (member_of (fitted s t d) f k.among) h).0
