-- The kept links of an entry stand at places of their own: a pointer at 0, a FID past that.
use Rattle.std.proofs.Common.{◌≡◌, ℕ, suc, ◌<◌, List, [], ◌∷◌, ◌++◌, map, Bool, true, false, cond, ◌||◌, Option, Some, None, refl, sym, ap, ◌∙◌, subst, inl, inr, arith}
use Rattle.std.specs.Prelude.{AllPairs, ◌==◌}
use Rattle.std.specs.List.{filter, list_any}
use Rattle.std.proofs.lemmas.Bool.Decides.{nat_tests}
use Rattle.udf_field.specs.declared.address.Addr.{Addr}
use Rattle.udf_file_model.specs.Entry.{Entry}
use Rattle.udf_file_model.specs.Fid.{is_live}
use Rattle.udf_file_model.specs.Listing.{Volume}
use Rattle.udf_file_model.specs.Scan.{Placed, fids, offsets}
use Rattle.udf_file_model.proofs.Listed.{ascending}
use Rattle.udf_tree_model.specs.Among.{Member}
use Rattle.udf_tree_model.specs.Content.{kept_content}
use Rattle.udf_tree_model.specs.Frame.{Frame, entry_at, is_holder, links_of, setting_of, stream_of, tree_of}
use Rattle.udf_tree_model.specs.Link.{Link, fid_link, fid_links, is_pointer, pointer_links}
use Rattle.udf_tree_model.specs.Won.{kept_links}
use Rattle.udf_tree_model.proofs.Linking.{Distinct}
use Rattle.udf_tree_model.proofs.Members.{any_gives, member_map}
use Rattle.udf_contents.proofs.Ruling.{first_below, links_are, place_among, places, rest_ascends}

-- ---- the places differ
fids_differ : (q : Placed → Bool) (ps : List Placed) → AllPairs (λ a b. a < b) (offsets ps) → Distinct (places (map fid_link (filter q ps)))
fids_differ q [] h = tt
fids_differ q (x ∷ xs) h = go (q x) (fids_differ q xs (rest_ascends x.0 (offsets xs) h))
  where
    later : Member (suc x.0) (places (map fid_link (filter q xs))) → ⊥
    later m =
        let y = place_among q xs (suc x.0) m in
        let l = first_below x.0 (offsets xs) h y.0.0 (member_map (λ (z : Placed). z.0) xs y.0 y.1) in
        let e = y.2 in
        absurd (omega (arith, l, e))

    go : (b : Bool) → Distinct (places (map fid_link (filter q xs))) → Distinct (places (map fid_link (cond b (x ∷ filter q xs) (filter q xs))))
    go true d = (later, d)
    go false d = d

links_differ : (size : ℕ) (o : Option Addr) (content : List ℕ) → Distinct (places (pointer_links o ++ fid_links size content))
unfolding fid_links
links_differ size None content = fids_differ (λ p. is_live p.1) (fids size content) (ascending size content)
links_differ size (Some a) content =
    (λ m. let y = place_among (λ p. is_live p.1) (fids size content) 0 m in let e = y.2 in absurd (omega (arith, e)), fids_differ (λ p. is_live p.1) (fids size content) (ascending size content))

pub kept_differ : (f : Frame) (v : Volume) (a : Addr) (e : Entry) → entry_at v a ≡ Some e → is_holder f v a ≡ false → Distinct (places (kept_links (setting_of f v) (tree_of f v) a))
unfolding links_of
kept_differ f v a e there other =
    subst (λ (fs : List Link). Distinct (places fs)) (sym (links_are f v a e there other)) (links_differ v.size (stream_of e.stream) (kept_content f v a))

-- ---- the place tells a pointer
abbrev pub AreMarked : List Link → Type 0
AreMarked [] = Unit {0}
AreMarked (l ∷ ls) = ((l.place == 0) ≡ is_pointer l.says) × AreMarked ls

past_zero : (n : ℕ) → (suc n == 0) ≡ false
past_zero n = grind (arith, nat_tests)

pub fids_marked : (ps : List Placed) → AreMarked (map fid_link ps)
fids_marked [] = tt
fids_marked (p ∷ ps) = (past_zero p.0, fids_marked ps)

links_marked : (size : ℕ) (o : Option Addr) (content : List ℕ) → AreMarked (pointer_links o ++ fid_links size content)
unfolding fid_links
links_marked size None content = fids_marked (filter (λ p. is_live p.1) (fids size content))
links_marked size (Some a) content = (refl, fids_marked (filter (λ p. is_live p.1) (fids size content)))

pub kept_marked : (f : Frame) (v : Volume) (a : Addr) (e : Entry) → entry_at v a ≡ Some e → is_holder f v a ≡ false → AreMarked (kept_links (setting_of f v) (tree_of f v) a)
unfolding links_of
kept_marked f v a e there other = subst AreMarked (sym (links_are f v a e there other)) (links_marked v.size (stream_of e.stream) (kept_content f v a))

-- ---- no link of some has a place
abbrev pub IsApart : ℕ → List Link → Type 0
IsApart n fs = list_any (λ g. g.place == n) fs ≡ false

same_number : (m n : ℕ) → (m == n) ≡ true → m ≡ n
same_number m n t = grind (arith, nat_tests)

pub same_place : (n : ℕ) → (n == n) ≡ true
same_place n = grind (arith, nat_tests)

apart_from : (n : ℕ) (fs : List Link) → (Member n (places fs) → ⊥) → IsApart n fs
apart_from n fs other = by (list_any (λ g. g.place == n) fs) refl
  where
    by : (b : Bool) → list_any (λ g. g.place == n) fs ≡ b → b ≡ false
    by false q = refl
    by true q =
        let r = any_gives (λ (g : Link). g.place == n) fs q in
        absurd (other (subst (λ (k : ℕ). Member k (places fs)) (same_number r.0.place n r.2) (member_map (λ (g : Link). g.place) fs r.0 r.1)))

among : (before : List Link) (l : Link) (after : List Link) → Member l.place (places (before ++ l ∷ after))
among [] l after = inl refl
among (g ∷ gs) l after = inr (among gs l after)

-- a link stands at another place than those before it, and those after it
pub apart_at : (before : List Link) (l : Link) (after : List Link) → Distinct (places (before ++ l ∷ after)) → IsApart l.place before × IsApart l.place after
apart_at [] l after d = (refl, apart_from l.place after d.0)
apart_at (g ∷ gs) l after d = let r = apart_at gs l after d.1 in (by (g.place == l.place) refl ∙ r.0, r.1)
  where
    by : (b : Bool) → (g.place == l.place) ≡ b → ((g.place == l.place) || list_any (λ h. h.place == l.place) gs) ≡ list_any (λ h. h.place == l.place) gs
    by false q = ap (λ x. x || list_any (λ h. h.place == l.place) gs) q
    by true q = absurd (d.0 (subst (λ (k : ℕ). Member k (places (gs ++ l ∷ after))) (sym (same_number g.place l.place q)) (among gs l after)))
