-- A list told by its descriptors and its allocation extents apart: each descriptor says what holds it, so its pieces are told too.
use Rattle.std.proofs.Common.{◌≡◌, ℕ, zero, suc, ◌+◌, ◌*◌, ◌<◌, List, [], ◌∷◌, ◌++◌, map, length, Bool, true, false, cond, Option, Some, None, refl, sym, ap, ◌∙◌, subst, inl, inr, arith}
use Rattle.std.specs.Prelude.{All, AllPairs, ◌≢◌, ◌==◌}
use Rattle.udf_field.specs.declared.address.Addr.{Addr}
use Rattle.udf_field.specs.FieldView.{short_at, long_at}
use Rattle.udf_file_model.specs.Address.{same_addr}
use Rattle.udf_file_model.specs.Descriptors.{Descriptor, descriptor_at, descriptor_count, descriptors, descriptors_from, of_short, of_long}
use Rattle.udf_file_model.specs.Entry.{Entry}
use Rattle.udf_file_model.specs.Front.{Past, Rules, blocks_for, extent_passes, front_of, good_front, is_hole, may_come, new_in, nothing_yet, run_front, run_passes, with_extent, with_run}
use Rattle.udf_file_model.specs.Pieces.{Blocks, Extent, Piece, blocks_each, extents_of, further, pieces, runs_of}
use Rattle.udf_file_model.specs.Listing.{Volume, addresses, addresses_from, descriptors_by, descriptors_in, extent_at, flat_for, is_extent, list_for, rules_for}
use Rattle.udf_file_model.proofs.Apart.{front_apart}
use Rattle.udf_tree_model.specs.Among.{Member}
use Rattle.udf_tree_model.proofs.Members.{member_right}
use Rattle.udf_tree_model.proofs.Places.{address_same, same_address}
use Rattle.udf_found.specs.Merged.{extents_after, extents_until, merged}

-- each descriptor is held by the allocation extent before it, the first ones by this address
abbrev pub HeldBy : Addr → List Piece → Type 0
HeldBy h [] = Unit {0}
HeldBy h (Extent x ∷ rest) = HeldBy x rest
HeldBy h (Blocks d ∷ rest) = (d.holder ≡ h) × HeldBy h rest

abbrev AllHeld : Addr → List Descriptor → Type 0
AllHeld h [] = Unit {0}
AllHeld h (d ∷ ds) = (d.holder ≡ h) × AllHeld h ds

-- ---- a list is held so
held_pieces : (k : Addr → List Piece) → ((x : Addr) → HeldBy x (k x)) → (h : Addr) (ds : List Descriptor) → AllHeld h ds → HeldBy h (pieces k ds)
unfolding pieces
held_pieces k on h [] all = tt
held_pieces k on h (d ∷ ds) all = by_kind (d.kind == 3) (held_pieces k on h ds all.1)
  where
    by_kind : (b : Bool) → HeldBy h (pieces k ds) → HeldBy h (cond b (Extent d.at ∷ k d.at) (Blocks d ∷ pieces k ds))
    by_kind true r = on d.at
    by_kind false r = (all.0, r)

held_further : (at : Addr → List Descriptor) → ((x : Addr) → AllHeld x (at x)) → (n : ℕ) (x : Addr) → HeldBy x (further at n x)
unfolding further
held_further at all zero x = tt
held_further at all (suc n) x = held_pieces (further at n) (held_further at all n) x (at x) (all x)

held_descriptors : (kind : ℕ) (h : Addr) (body : List ℕ) → AllHeld h (descriptors kind h body)
unfolding descriptors descriptor_at descriptors_from
held_descriptors kind h body = from 0 (descriptor_count kind (length body))
  where
    holder : (i : ℕ) (b : Bool) → (cond b (of_short h i (short_at body (8 * i))) (of_long h i (long_at body (16 * i)))).holder ≡ h
    holder i true = refl
    holder i false = refl

    from : (i n : ℕ) → AllHeld h (descriptors_from (descriptor_at kind h body) i n)
    from i zero = tt
    from i (suc n) = by_length ((descriptor_at kind h body i).length == 0) (from (i + 1) n)
      where
        by_length : (b : Bool) → AllHeld h (descriptors_from (descriptor_at kind h body) (i + 1) n)
            → AllHeld h (cond b [] (descriptor_at kind h body i ∷ descriptors_from (descriptor_at kind h body) (i + 1) n))
        by_length true r = tt
        by_length false r = (holder i (kind == 0), r)

held_in : (v : Volume) (kind : ℕ) (x : Addr) → AllHeld x (descriptors_in v kind x)
unfolding descriptors_in
held_in v kind x = by_extent (extent_at v x)
  where
    by_extent : (o : Option (List ℕ)) → AllHeld x (descriptors_by kind x o)
    by_extent None = tt
    by_extent (Some body) = held_descriptors kind x body

held_front : (r : Rules) (whole : Addr → Bool) (h : Addr) (ps : List Piece) (past : Past) → HeldBy h ps → HeldBy h (good_front r whole past ps)
unfolding good_front run_front
held_front r whole h [] past held = tt
held_front r whole h (Extent x ∷ rest) past held = by_pass (extent_passes r whole past x) (held_front r whole x rest (with_extent past x) held)
  where
    by_pass : (b : Bool) → HeldBy x (good_front r whole (with_extent past x) rest) → HeldBy h (cond b (Extent x ∷ good_front r whole (with_extent past x) rest) [])
    by_pass true k = k
    by_pass false k = tt
held_front r whole h (Blocks d ∷ rest) past held = by_pass (run_passes r past d) (held_front r whole h rest (with_run past d) held.1)
  where
    first : (m : ℕ) (b : Bool) → HeldBy h (blocks_each (cond b [] (record d { length = m } ∷ [])))
    first m true = tt
    first m false = (held.0, tt)

    part : (b : Bool) → HeldBy h (blocks_each (cond b (front_of r.size d (new_in r past d)) []))
    part true = first (new_in r past d * r.size) (new_in r past d == 0)
    part false = tt

    by_pass : (b : Bool) → HeldBy h (good_front r whole (with_run past d) rest)
        → HeldBy h (cond b (Blocks d ∷ good_front r whole (with_run past d) rest) (blocks_each (cond (may_come r past d) (front_of r.size d (new_in r past d)) [])))
    by_pass true k = (held.0, k)
    by_pass false k = part (may_come r past d)

held_list : (v : Volume) (a : Addr) (e : Entry) → HeldBy a (list_for v a e)
unfolding list_for flat_for
held_list v a e =
    held_front (rules_for v a e) (is_extent v) a (flat_for v a e) nothing_yet
    (held_pieces (further (descriptors_in v e.kind) (2 * v.blocks)) (held_further (descriptors_in v e.kind) (held_in v e.kind) (2 * v.blocks)) a (descriptors e.kind a e.body) (held_descriptors e.kind a e.body))

-- ---- and is told by its parts
abbrev Alone : List Addr → Type 0
Alone [] = Unit {0}
Alone (x ∷ xs) = ((y : Addr) → Member y xs → x ≢ y) × Alone xs

all_at : (P : Addr → Type 0) (xs : List Addr) (x : Addr) → All P xs → Member x xs → P x
all_at P [] x h m = absurd m
all_at P (y ∷ ys) x h (inl e) = subst P (sym e) (h 0 y (omega arith))
all_at P (y ∷ ys) x h (inr m) = all_at P ys x (λ k d below. h (suc k) d (omega (arith, below))) m

alone_of : (xs : List Addr) → AllPairs (λ (x y : Addr). x ≢ y) xs → Alone xs
alone_of [] h = tt
alone_of (x ∷ xs) h = (
  λ y m. all_at (λ z. x ≢ z) xs y (λ k d below. h 0 (suc k) d (omega arith) (omega (arith, below))) m,
  alone_of xs (λ k l d less below. h (suc k) (suc l) d (omega (arith, less)) (omega (arith, below))),
)

alone_rest : (xs ys : List Addr) → Alone (xs ++ ys) → Alone ys
alone_rest [] ys h = h
alone_rest (x ∷ xs) ys h = alone_rest xs ys h.1

-- one allocation extent before what comes, where the next descriptor is held by another
extent_first : (h x : Addr) (xs : List Addr) (ds : List Descriptor) → ((d : Descriptor) (rest : List Descriptor) → ds ≡ d ∷ rest → same_addr d.holder h ≡ false)
    → merged h (x ∷ xs) ds ≡ Extent x ∷ merged x xs ds
unfolding merged extents_until extents_after
extent_first h x xs [] other = refl
extent_first h x xs (d ∷ ds) other =
    ap (λ (b : Bool). cond b (Blocks d ∷ merged h (x ∷ xs) ds) (map Extent (x ∷ cond (same_addr d.holder x) [] (extents_until d.holder xs)) ++ Blocks d ∷ merged d.holder (cond (same_addr d.holder x) xs (extents_after d.holder xs)) ds)) (other d ds refl)
    ∙ here (same_addr d.holder x) refl
  where
    here : (b : Bool) → same_addr d.holder x ≡ b
        → (map Extent (x ∷ cond b [] (extents_until d.holder xs)) ++ Blocks d ∷ merged d.holder (cond b xs (extents_after d.holder xs)) ds)
        ≡ Extent x ∷ cond b (Blocks d ∷ merged x xs ds) (map Extent (extents_until d.holder xs) ++ Blocks d ∷ merged d.holder (extents_after d.holder xs) ds)
    here true e = ap (λ (y : Addr). Extent x ∷ Blocks d ∷ merged y xs ds) (same_address d.holder x e)
    here false e = refl

holder_among : (x : Addr) (ps : List Piece) (d : Descriptor) (ds : List Descriptor) → HeldBy x ps → runs_of ps ≡ d ∷ ds → Member d.holder (x ∷ extents_of ps)
unfolding runs_of extents_of
holder_among x [] d ds h e = absurd (none_cons d ds e)
  where
    none_cons : (d : Descriptor) (ds : List Descriptor) → [] ≡ d ∷ ds → ⊥
    none_cons d ds e = cc
holder_among x (Extent y ∷ rest) d ds h e = inr (holder_among y rest d ds h e)
holder_among x (Blocks c ∷ rest) d ds h e = inl (ap (λ (z : Descriptor). z.holder) (sym (head c d (runs_of rest) ds e)) ∙ h.0)
  where
    head : (c d : Descriptor) (cs ds : List Descriptor) → c ∷ cs ≡ d ∷ ds → c ≡ d
    head c d cs ds e = cc

extent_address : (size : ℕ) (ps : List Piece) (x : Addr) → Member x (extents_of ps) → Member x (addresses size ps)
unfolding extents_of
extent_address size [] x m = absurd m
extent_address size (Extent y ∷ rest) x (inl e) = inl e
extent_address size (Extent y ∷ rest) x (inr m) = inr (extent_address size rest x m)
extent_address size (Blocks d ∷ rest) x m = member_right (cond (is_hole d) [] (addresses_from d.at (blocks_for size d.length))) (addresses size rest) x (extent_address size rest x m)

merged_is : (size : ℕ) (ps : List Piece) (h : Addr) → HeldBy h ps → Alone (h ∷ addresses size ps) → merged h (extents_of ps) (runs_of ps) ≡ ps
unfolding merged extents_of runs_of
merged_is size [] h held alone = refl
merged_is size (Extent x ∷ rest) h held alone =
    extent_first h x (extents_of rest) (runs_of rest) other ∙ ap (λ (l : List Piece). Extent x ∷ l) (merged_is size rest x held alone.1)
  where
    other : (d : Descriptor) (ds : List Descriptor) → runs_of rest ≡ d ∷ ds → same_addr d.holder h ≡ false
    other d ds e = by_same (same_addr d.holder h) refl
      where
        there : Member d.holder (x ∷ extents_of rest) → Member d.holder (x ∷ addresses size rest)
        there (inl k) = inl k
        there (inr k) = inr (extent_address size rest d.holder k)

        by_same : (b : Bool) → same_addr d.holder h ≡ b → same_addr d.holder h ≡ false
        by_same false k = k
        by_same true k = absurd (alone.0 d.holder (there (holder_among x rest d ds held e)) (sym (same_address d.holder h k)))
merged_is size (Blocks d ∷ rest) h held alone =
    ap (λ (b : Bool). cond b (Blocks d ∷ merged h (extents_of rest) (runs_of rest)) (map Extent (extents_until d.holder (extents_of rest)) ++ Blocks d ∷ merged d.holder (extents_after d.holder (extents_of rest)) (runs_of rest))) (address_same d.holder h held.0)
    ∙ ap (λ (l : List Piece). Blocks d ∷ l) (merged_is size rest h held.1 (fewer (cond (is_hole d) [] (addresses_from d.at (blocks_for size d.length))) alone))
  where
    fewer : (xs : List Addr) → Alone (h ∷ (xs ++ addresses size rest)) → Alone (h ∷ addresses size rest)
    fewer xs k = (λ y m. k.0 y (member_right xs (addresses size rest) y m), alone_rest xs (addresses size rest) k.1)

-- the list of an entry by its descriptors and its allocation extents
pub list_merged : (v : Volume) (a : Addr) (e : Entry) → 0 < v.size → merged a (extents_of (list_for v a e)) (runs_of (list_for v a e)) ≡ list_for v a e
unfolding list_for rules_for
list_merged v a e some = merged_is v.size (list_for v a e) a (held_list v a e) (alone_of (a ∷ addresses v.size (list_for v a e)) (front_apart (rules_for v a e) (is_extent v) some (flat_for v a e)))
