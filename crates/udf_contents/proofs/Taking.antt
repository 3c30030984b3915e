-- Which addresses kept entries and fixed addresses take, after the mends.
use Rattle.std.proofs.Common.{◌≡◌, ℕ, zero, suc, ◌+◌, ◌<◌, ◌≤◌, List, [], ◌∷◌, drop, length, Bool, true, false, not, ◌&&◌, ◌||◌, Option, Some, None, refl, sym, ap, ◌∙◌, subst, arith}
use Rattle.std.specs.Prelude.{is_some, nat_le, nat_lt, slice_get, ◌==◌}
use Rattle.std.specs.List.{list_any}
use Rattle.std.proofs.lemmas.Bool.{and_from, and_parts}
use Rattle.std.proofs.lemmas.Bool.Decides.{nat_tests}
use Rattle.std.proofs.lemmas.Option.{get_or_from_slice_get, slice_get_within}
use Rattle.udf_field.specs.declared.address.Addr.{Addr}
use Rattle.udf_file_model.specs.Address.{same_addr}
use Rattle.udf_file_model.specs.Listing.{Volume, is_placed}
use Rattle.udf_claims.specs.Winner.{claimed, covers}
use Rattle.udf_claims.specs.declared.run.Run.{Run}
use Rattle.udf_tree_model.specs.Among.{Member}
use Rattle.udf_tree_model.specs.Claimed.{claims, is_claimed, is_free}
use Rattle.udf_tree_model.specs.Found.{found}
use Rattle.udf_tree_model.specs.Frame.{Frame, places, setting_of, tree_of}
use Rattle.udf_tree_model.specs.Kept.{kept}
use Rattle.udf_tree_model.specs.Laws.{HasSoundStarts}
use Rattle.udf_tree_model.specs.Node.{Setting, Tree}
use Rattle.udf_tree_model.proofs.Finding.{found_readable, volume_within}
use Rattle.udf_tree_model.proofs.Keeping.{kept_found}
use Rattle.udf_tree_model.proofs.Members.{any_from, any_gives, member_of_map, same_bools}
use Rattle.udf_tree_model.proofs.Places.{placed_among, readable_placed, same_address}
use Rattle.udf_contents.specs.declared.contents.MendedContent.{MendedContent}
use Rattle.udf_held.specs.declared.held.Held.{Held}
use Rattle.udf_kept.specs.declared.keeping.Keeping.{Keeping}
use Rattle.udf_volume.specs.declared.stretch.Stretch.{Stretch}
use Rattle.udf_contents.specs.After.{Adds, IsTold, TellsTaken, claims_kept, some_claims}
use Rattle.udf_contents.specs.Contents.{AreContents, AreContentsOf, IsContent}
use Rattle.udf_held.specs.Held.{AreHeldOf, held_spots}
use Rattle.udf_kept.specs.Keeping.{AreKept, AreKeptOf, IsKeeping}
use Rattle.udf_found.specs.Spot.{IsFoundList, Spot, addresses, spot}
use Rattle.udf_found.specs.Wanted.{fixed_class, fixed_owner, fixed_wants, want}
use Rattle.udf_volume.specs.Fixed.{stretches_over}
use Rattle.udf_volume_model.specs.FileSet.{stretch_has}
use Rattle.udf_contents.proofs.Covering.{or_join, or_nothing}
use Rattle.udf_found.proofs.Going.{member_at}
use Rattle.udf_held.proofs.Wanted.{covers_gives, want_covers}
use Rattle.udf_found.proofs.Wanting.{drop_none, drop_slice}

-- ---- what is told of an entry of the lists
pub slice_some : {X : Type 0} (xs : List X) (i : ℕ) → i < length xs → (x : X) × (slice_get xs i ≡ Some x)
slice_some [] i l = absurd (omega (arith, l))
slice_some (x ∷ xs) zero l = (x, refl)
slice_some (x ∷ xs) (suc i) l = slice_some xs i (omega (arith, l))

some_is : {X : Type 0} (x y : X) → Some x ≡ Some y → x ≡ y
some_is x y e = cc

kept_at : (s : Setting) (t : Tree) (all hs : List Held) (ks : List (Option Keeping)) (i : ℕ) (h : Held) → AreKeptOf s t all hs ks → slice_get hs i ≡ Some h
    → (k : Option Keeping) × (slice_get ks i ≡ Some k) × IsKeeping s t all h k
kept_at s t all [] ks i h r e = absurd (none_some h e)
  where
    none_some : (x : Held) → None ≡ Some x → ⊥
    none_some x k = cc
kept_at s t all (m ∷ hs) [] i h r e = absurd r
kept_at s t all (m ∷ hs) (k ∷ ks) zero h r e = (k, refl, subst (λ (x : Held). IsKeeping s t all x k) (some_is m h e) r.0)
kept_at s t all (m ∷ hs) (k ∷ ks) (suc i) h r e = kept_at s t all hs ks i h r.1 e

content_at : (f : Frame) (v : Volume) (hs : List Held) (ks : List (Option Keeping)) (cs : List (Option MendedContent)) (i : ℕ) (h : Held) (k : Option Keeping) → AreContentsOf f v hs ks cs
    → slice_get hs i ≡ Some h → slice_get ks i ≡ Some k → (c : Option MendedContent) × (slice_get cs i ≡ Some c) × IsContent f v h k c
content_at f v [] ks cs i h k r e g = absurd (none_some h e)
  where
    none_some : (x : Held) → None ≡ Some x → ⊥
    none_some x n = cc
content_at f v (m ∷ hs) [] cs i h k r e g = absurd r
content_at f v (m ∷ hs) (l ∷ ks) [] i h k r e g = absurd r
content_at f v (m ∷ hs) (l ∷ ks) (c ∷ cs) zero h k r e g =
    (c, refl, subst (λ (y : Option Keeping). IsContent f v h y c) (some_is l k g) (subst (λ (x : Held). IsContent f v x l c) (some_is m h e) r.0))
content_at f v (m ∷ hs) (l ∷ ks) (c ∷ cs) (suc i) h k r e g = content_at f v hs ks cs i h k r.1 e g

keeping_is : (s : Setting) (t : Tree) (hs : List Held) (h : Held) (k : Option Keeping) → IsKeeping s t hs h k → is_some k ≡ kept s t h.at
keeping_is s t hs h None r = sym r
keeping_is s t hs h (Some k) r = sym r.kept_is

pub told_at : (f : Frame) (v : Volume) (hs : List Held) (ks : List (Option Keeping)) (cs : List (Option MendedContent)) (i : ℕ) (h : Held) → AreHeldOf f v hs → AreKept (setting_of f v) (tree_of f v) hs ks
    → AreContents f v hs ks cs → slice_get hs i ≡ Some h
    → (k : Option Keeping) × (c : Option MendedContent) × (slice_get ks i ≡ Some k) × (slice_get cs i ≡ Some c) × IsTold f v h k c
told_at f v hs ks cs i h a b d e =
    let k = kept_at (setting_of f v) (tree_of f v) hs hs ks i h b.each e in
    let c = content_at f v hs ks cs i h k.0 d.each e k.1 in
    let m : Member h hs = member_at hs i h (slice_get_within hs i h e) (sym (get_or_from_slice_get hs i h h e)) in (
      k.0,
      c.0,
      k.1,
      c.1,
      record { held = a.held.each h m; held_of = a.each_of h m; kept_is = keeping_is (setting_of f v) (tree_of f v) hs h k.0 k.2; content = c.2 },
    )

-- ---- one entry more
pub some_more : (blocks : ℕ → ℕ) (f : Frame) (v : Volume) (hs : List Held) (i : ℕ) (h : Held) (old new : List Run) (x : Addr) (total : Bool) → slice_get hs i ≡ Some h → x.block < blocks x.part
    → Adds blocks old new (claims_kept f v h.at) → (claimed old x || some_claims f v (drop i hs) x) ≡ total → (claimed new x || some_claims f v (drop (i + 1) hs) x) ≡ total
some_more blocks f v hs i h old new x total e low k r =
    ap (λ (b : Bool). b || some_claims f v (drop (i + 1) hs) x) (k.each x low)
    ∙ or_join (claimed old x) (claims_kept f v h.at x) (some_claims f v (drop (i + 1) hs) x)
    ∙ ap (λ (l : List Held). claimed old x || some_claims f v l x) (sym (drop_slice hs i h e))
    ∙ r

pub some_end : (f : Frame) (v : Volume) (hs : List Held) (i : ℕ) (rs : List Run) (x : Addr) (total : Bool) → length hs ≤ i → (claimed rs x || some_claims f v (drop i hs) x) ≡ total → claimed rs x ≡ total
some_end f v hs i rs x total l r = sym (or_nothing (claimed rs x)) ∙ ap (λ (l : List Held). claimed rs x || some_claims f v l x) (sym (drop_none hs i l)) ∙ r

-- ---- all of them
module _ (f : Frame) (v : Volume) (hs : List Held) (starts : HasSoundStarts (setting_of f v) (tree_of f v)) (held : AreHeldOf f v hs) where
  abbrev s : Setting
  s = setting_of f v

  abbrev t : Tree
  t = tree_of f v

  found_kept : (a : Addr) → kept s t a ≡ true → found s t a ≡ true
  found_kept a h = kept_found s t (volume_within f v) starts a h

  listed : (a : Addr) → found s t a ≡ true → (h : Held) × Member h hs × (h.at ≡ a)
  listed a h =
      let list : IsFoundList s t (held_spots hs) = held.held.listed in
      let g = any_gives (same_addr a) (addresses (held_spots hs)) (sym (list.all a) ∙ h) in
      let p = member_of_map (λ (x : Spot). x.at) (held_spots hs) g.0 g.1 in
      let n = member_of_map (λ (h : Held). spot h.at h.level) hs p.0 p.1 in
      (n.0, n.1, sym (ap (λ (x : Spot). x.at) n.2) ∙ sym p.2 ∙ sym (same_address a g.0 g.2))

  claimed_is : (x : Addr) → some_claims f v hs x ≡ is_claimed f v x
  unfolding is_claimed
  claimed_is x = same_bools (some_claims f v hs x) (list_any (λ (a : Addr). claims_kept f v a x) (places v)) there back
    where
      there : some_claims f v hs x ≡ true → list_any (λ (a : Addr). claims_kept f v a x) (places v) ≡ true
      there h =
          let g = any_gives (λ (h : Held). claims_kept f v h.at x) hs h in
          let k = (and_parts (kept s t g.0.at) (claims f v g.0.at x) g.2).0 in
          let p = readable_placed f v g.0.at (found_readable s t (volume_within f v) g.0.at (found_kept g.0.at k)) in
          any_from (λ (a : Addr). claims_kept f v a x) (places v) g.0.at (placed_among v g.0.at p.0 p.1) g.2

      back : list_any (λ (a : Addr). claims_kept f v a x) (places v) ≡ true → some_claims f v hs x ≡ true
      back h =
          let g = any_gives (λ (a : Addr). claims_kept f v a x) (places v) h in
          let k = (and_parts (kept s t g.0) (claims f v g.0 x) g.2).0 in
          let n = listed g.0 (found_kept g.0 k) in
          any_from (λ (h : Held). claims_kept f v h.at x) hs n.0 n.1 (ap (λ (a : Addr). claims_kept f v a x) n.2 ∙ g.2)

fixed_is : (blocks : ℕ → ℕ) (xs : List Stretch) (x : Addr) → x.block < blocks x.part → claimed (fixed_wants blocks xs) x ≡ stretches_over xs x
unfolding claimed stretches_over stretch_has
fixed_is blocks [] x low = refl
fixed_is blocks (y ∷ ys) x low =
    ap (λ (b : Bool). b || claimed (fixed_wants blocks ys) x) (one y)
    ∙ ap (λ (b : Bool). ((y.at.part == x.part) && (nat_le y.at.block x.block && nat_lt x.block (y.at.block + y.blocks))) || b) (fixed_is blocks ys x low)
  where
    there : (y : Stretch) → y.at.part ≡ x.part → y.at.block ≤ x.block → x.block < y.at.block + y.blocks → ((y.at.part == x.part) && (nat_le y.at.block x.block && nat_lt x.block (y.at.block + y.blocks))) ≡ true
    there y p l m = and_from (y.at.part == x.part) _ (grind (arith, nat_tests)) (and_from (nat_le y.at.block x.block) _ (grind (arith, nat_tests)) (grind (arith, nat_tests)))

    back : (y : Stretch) → ((y.at.part == x.part) && (nat_le y.at.block x.block && nat_lt x.block (y.at.block + y.blocks))) ≡ true → covers (want blocks fixed_owner fixed_class y.at y.blocks) x ≡ true
    back y h =
        let p = and_parts (y.at.part == x.part) _ h in
        let r = and_parts (nat_le y.at.block x.block) _ p.1 in
        want_covers blocks fixed_owner fixed_class y.at x y.blocks (grind (arith, nat_tests)) (grind (arith, nat_tests)) (grind (arith, nat_tests)) low

    one : (y : Stretch) → covers (want blocks fixed_owner fixed_class y.at y.blocks) x ≡ ((y.at.part == x.part) && (nat_le y.at.block x.block && nat_lt x.block (y.at.block + y.blocks)))
    one y =
        same_bools (covers (want blocks fixed_owner fixed_class y.at y.blocks) x) ((y.at.part == x.part) && (nat_le y.at.block x.block && nat_lt x.block (y.at.block + y.blocks)))
        (λ h. let g = covers_gives blocks fixed_owner fixed_class y.at x y.blocks h in there y g.0 g.1 g.2)
        (λ h. back y h)

not_neither : (a b : Bool) → (a || b) ≡ not (not a && not b)
not_neither true b = refl
not_neither false true = refl
not_neither false false = refl

pub taken_is : (blocks : ℕ → ℕ) (f : Frame) (v : Volume) (fixed : List Stretch) (hs : List Held) (old new : List Run) → ((a : Addr) → is_placed v a ≡ true → a.block < blocks a.part)
    → ((a : Addr) → f.fixed a ≡ stretches_over fixed a) → HasSoundStarts (setting_of f v) (tree_of f v) → AreHeldOf f v hs → old ≡ fixed_wants blocks fixed
    → Adds blocks old new (some_claims f v hs) → TellsTaken f v new
unfolding is_free
taken_is blocks f v fixed hs old new within fixed_are starts held e k = record {
  each = λ x placed.
      k.each x (within x placed)
      ∙ ap (λ (rs : List Run). claimed rs x || some_claims f v hs x) e
      ∙ ap (λ (b : Bool). b || some_claims f v hs x) (fixed_is blocks fixed x (within x placed) ∙ sym (fixed_are x))
      ∙ ap (λ (b : Bool). f.fixed x || b) (claimed_is f v hs starts held x)
      ∙ not_neither (f.fixed x) (is_claimed f v x);
}

pub told_same : (f : Frame) (v : Volume) (h i : Held) (k l : Option Keeping) (c d : Option MendedContent) → i ≡ h → l ≡ k → d ≡ c → IsTold f v h k c → IsTold f v i l d
told_same f v h i k l c d p q r t =
    subst (λ (x : Held). IsTold f v x l d) (sym p) (subst (λ (y : Option Keeping). IsTold f v h y d) (sym q) (subst (λ (z : Option MendedContent). IsTold f v h k z) (sym r) t))

pub adds_same : (blocks : ℕ → ℕ) (f : Frame) (v : Volume) (h i : Held) (old new : List Run) → i ≡ h → Adds blocks old new (claims_kept f v i.at) → Adds blocks old new (claims_kept f v h.at)
adds_same blocks f v h i old new e k = subst (λ (x : Held). Adds blocks old new (claims_kept f v x.at)) e k
