-- The runs of wants that an entry has, and the items of its node: each want stands in a run, and each block of a run is wanted.
use Rattle.std.proofs.Common.{◌≡◌, ◌⊎◌, ℕ, zero, suc, ◌+◌, ◌-◌, ◌<◌, ◌≤◌, List, [], ◌∷◌, ◌++◌, map, Bool, true, false, cond, Some, refl, sym, ap, ◌∙◌, subst, inl, inr, arith}
use Rattle.std.specs.Prelude.{min, nat_eq, nat_le, ◌==◌, length}
use Rattle.std.specs.List.{range_with_len}
use Rattle.std.proofs.lemmas.Bool.{and_parts, and_from, false≢true}
use Rattle.std.proofs.lemmas.Bool.Decides.{nat_tests}
use Rattle.udf_field.specs.declared.address.Addr.{Addr}
use Rattle.udf_file_model.specs.Address.{addr}
use Rattle.udf_file_model.specs.Entry.{Entry}
use Rattle.udf_file_model.specs.Descriptors.{Descriptor}
use Rattle.udf_file_model.specs.Pieces.{Piece, Extent, Blocks, runs_of, extents_of}
use Rattle.udf_file_model.specs.Front.{is_hole, blocks_for}
use Rattle.udf_file_model.specs.Listing.{Volume, list_for, listing}
use Rattle.udf_file_model.proofs.Local.{list_embedded}
use Rattle.udf_claims.specs.Winner.{covers, number}
use Rattle.udf_claims.specs.declared.run.Run.{Run}
use Rattle.udf_tree_model.specs.Among.{Member}
use Rattle.udf_tree_model.specs.Node.{Item, Node, wants}
use Rattle.udf_tree_model.specs.Frame.{Frame, block_class, block_item, empty_item, entry_at, extent_class, extent_item, is_barred, is_holder, items, items_of, node_with, own_class, own_item, run_items, tree_of}
use Rattle.udf_tree_model.proofs.Members.{member_append, member_left, member_right, member_map, member_of_map}
use Rattle.udf_tree_model.proofs.Places.{same_address}
use Rattle.udf_tree_model.proofs.Stating.{node_is}
use Rattle.udf_found.specs.Wanted.{want, extent_wants, run_want, run_wants, entry_wants, wants_by, wants_at}

equal_is : (m n : ℕ) → (m == n) ≡ true → m ≡ n
equal_is m n t = grind (arith, nat_tests)

is_equal : (m n : ℕ) → m ≡ n → (m == n) ≡ true
is_equal m n t = grind (arith, nat_tests)

pub address_equal : (a b : Addr) → a.part ≡ b.part → a.block ≡ b.block → a ≡ b
address_equal a b p q = same_address a b (and_from (a.part == b.part) (a.block == b.block) (is_equal a.part b.part p) (is_equal a.block b.block q))

pub range_gives : (m n x : ℕ) → Member x (range_with_len m n) → (m ≤ x) × (x < m + n)
range_gives m zero x h = absurd h
range_gives m (suc n) x (inl e) = (omega (arith, e), omega (arith, e))
range_gives m (suc n) x (inr h) = let r = range_gives (m + 1) n x h in (omega (arith, r.0), omega (arith, r.1))

pub range_from : (m n x : ℕ) → m ≤ x → x < m + n → Member x (range_with_len m n)
range_from m zero x l h = absurd (omega (arith, l, h))
range_from m (suc n) x l h = go (λ k. range_from (m + 1) n x k (omega (arith, h))) (x == m) refl
  where
    go : (m + 1 ≤ x → Member x (range_with_len (m + 1) n)) → (b : Bool) → (x == m) ≡ b → Member x (range_with_len m (suc n))
    go rest true e = inl (equal_is x m e)
    go rest false e = inr (rest (grind (arith, nat_tests)))

-- a run of an owner has the address, in a class
abbrev pub Has : List Run → ℕ → Addr → ℕ → Type 0
Has rs o x c = (r : Run) × Member r rs × (r.owner ≡ o) × (covers r x ≡ true) × (r.class ≡ c)

-- an entry's item takes the address, in a class
abbrev pub Takes : List Item → Addr → ℕ → Type 0
Takes is x c = (i : Item) × Member i is × (i.takes ≡ true) × (i.at ≡ x) × (i.class ≡ c)

pub has_more : (xs ys : List Run) (o : ℕ) (x : Addr) (c : ℕ) → ((r : Run) → Member r xs → Member r ys) → Has xs o x c → Has ys o x c
has_more xs ys o x c f h = (h.0, f h.0 h.1, h.2, h.3, h.4)

has_amid : (es ds rs : List Run) (o : ℕ) (x : Addr) (c : ℕ) → Has ds o x c → Has (es ++ (ds ++ rs)) o x c
has_amid es ds rs o x c h = has_more ds (es ++ (ds ++ rs)) o x c (λ r n. member_right es (ds ++ rs) r (member_left ds rs r n)) h

has_around : (es ds rs : List Run) (o : ℕ) (x : Addr) (c : ℕ) → Has (es ++ rs) o x c → Has (es ++ (ds ++ rs)) o x c
has_around es ds rs o x c h = has_more (es ++ rs) (es ++ (ds ++ rs)) o x c (λ r n. go r (member_append es rs r n)) h
  where
    go : (r : Run) → Member r es ⊎ Member r rs → Member r (es ++ (ds ++ rs))
    go r (inl k) = member_left es (ds ++ rs) r k
    go r (inr k) = member_right es (ds ++ rs) r (member_right ds rs r k)

takes_more : (is js : List Item) (x : Addr) (c : ℕ) → ((i : Item) → Member i is → Member i js) → Takes is x c → Takes js x c
takes_more is js x c f h = (h.0, f h.0 h.1, h.2, h.3, h.4)

module _ (blocks : ℕ → ℕ) where
  pub want_covers : (o c : ℕ) (at x : Addr) (many : ℕ) → at.part ≡ x.part → at.block ≤ x.block → x.block < at.block + many → x.block < blocks x.part
      → covers (want blocks o c at many) x ≡ true
  unfolding covers
  want_covers o c at x many p l h b =
      let q : blocks at.part ≡ blocks x.part = ap blocks p in
      let m : x.block < at.block + min many (blocks at.part - at.block) = omega (arith, l, h, b, q) in
      and_from (nat_eq at.part x.part) _ (grind (arith, nat_tests)) (and_from (nat_le at.block x.block) _ (grind (arith, nat_tests)) (grind (arith, nat_tests)))

  pub covers_gives : (o c : ℕ) (at x : Addr) (many : ℕ) → covers (want blocks o c at many) x ≡ true → (at.part ≡ x.part) × (at.block ≤ x.block) × (x.block < at.block + many)
  unfolding covers
  covers_gives o c at x many h =
      let p = and_parts (nat_eq at.part x.part) _ h in
      let q = and_parts (nat_le at.block x.block) _ p.1 in
      let m : x.block < at.block + min many (blocks at.part - at.block) = grind (arith, nat_tests) in
      (grind (arith, nat_tests), grind (arith, nat_tests), omega (arith, m))

  pub one_covers : (o c : ℕ) (at x : Addr) → covers (want blocks o c at 1) x ≡ true → at ≡ x
  one_covers o c at x h = let r = covers_gives o c at x 1 h in address_equal at x r.0 (omega (arith, r.1, r.2))

  pub one_covered : (o c : ℕ) (at x : Addr) → at ≡ x → x.block < blocks x.part → covers (want blocks o c at 1) x ≡ true
  one_covered o c at x e b = want_covers o c at x 1 (ap (λ (y : Addr). y.part) e) (below (ap (λ (y : Addr). y.block) e)) (above (ap (λ (y : Addr). y.block) e)) b
    where
      below : at.block ≡ x.block → at.block ≤ x.block
      below k = omega (arith, k)

      above : at.block ≡ x.block → x.block < at.block + 1
      above k = omega (arith, k)

  module _ (size o c1 c2 : ℕ) (barred : Addr → Bool) where
    run_has : (d : Descriptor) (i : Item) → Member i (run_items size c2 barred d) → i.takes ≡ true → i.at.block < blocks i.at.part
        → Has (run_want blocks size o c2 d) o i.at i.class
    unfolding run_items run_want
    run_has d i m t b = go (is_hole d) m
      where
        go : (h : Bool) → Member i (cond h (empty_item d.length ∷ []) (map (block_item size c2 barred d) (range_with_len d.at.block (blocks_for size d.length))))
            → Has (cond h [] (want blocks o c2 d.at (blocks_for size d.length) ∷ [])) o i.at i.class
        go true (inl e) = absurd (false≢true (sym (ap (λ (j : Item). j.takes) e) ∙ t))
        go true (inr k) = absurd k
        go false k =
            let r = member_of_map (block_item size c2 barred d) (range_with_len d.at.block (blocks_for size d.length)) i k in
            let g = range_gives d.at.block (blocks_for size d.length) r.0 r.1 in
            let p : i.at.part ≡ d.at.part = ap (λ (j : Item). j.at.part) r.2 in
            let q : i.at.block ≡ r.0 = ap (λ (j : Item). j.at.block) r.2 in
            (want blocks o c2 d.at (blocks_for size d.length), inl refl, refl, want_covers o c2 d.at i.at (blocks_for size d.length) (sym p) (omega (arith, g.0, q)) (omega (arith, g.1, q)) b, sym (ap (λ (j : Item). j.class) r.2))

    run_takes : (d : Descriptor) (r : Run) (x : Addr) → Member r (run_want blocks size o c2 d) → covers r x ≡ true → Takes (run_items size c2 barred d) x r.class × (r.owner ≡ o)
    unfolding run_items run_want
    run_takes d r x m h = go (is_hole d) m
      where
        go : (b : Bool) → Member r (cond b [] (want blocks o c2 d.at (blocks_for size d.length) ∷ []))
            → Takes (cond b (empty_item d.length ∷ []) (map (block_item size c2 barred d) (range_with_len d.at.block (blocks_for size d.length)))) x r.class × (r.owner ≡ o)
        go true k = absurd k
        go false (inr k) = absurd k
        go false (inl e) =
            let g = covers_gives o c2 d.at x (blocks_for size d.length) (sym (ap (λ (y : Run). covers y x) e) ∙ h) in (
              (
                block_item size c2 barred d x.block,
                member_map (block_item size c2 barred d) (range_with_len d.at.block (blocks_for size d.length)) x.block (range_from d.at.block (blocks_for size d.length) x.block g.1 g.2),
                refl,
                address_equal (addr d.at.part x.block) x g.0 refl,
                sym (ap (λ (y : Run). y.class) e),
              ),
              ap (λ (y : Run). y.owner) e,
            )

    abbrev list_wants : List Piece → List Run
    list_wants ps = extent_wants blocks o c1 (extents_of ps) ++ run_wants blocks size o c2 (runs_of ps)

    list_has : (ps : List Piece) (i : Item) → Member i (items size c1 c2 barred ps) → i.takes ≡ true → i.at.block < blocks i.at.part → Has (list_wants ps) o i.at i.class
    unfolding items extents_of runs_of run_wants
    list_has [] i m t b = absurd m
    list_has (Extent x ∷ rest) i (inl e) t b =
        (want blocks o c1 x 1, inl refl, refl, one_covered o c1 x i.at (sym (ap (λ (j : Item). j.at) e)) b, sym (ap (λ (j : Item). j.class) e))
    list_has (Extent x ∷ rest) i (inr m) t b = has_more (list_wants rest) (want blocks o c1 x 1 ∷ list_wants rest) o i.at i.class (λ r k. inr k) (list_has rest i m t b)
    list_has (Blocks d ∷ rest) i m t b = go (λ k. list_has rest i k t b) (member_append (run_items size c2 barred d) (items size c1 c2 barred rest) i m)
      where
        go : (Member i (items size c1 c2 barred rest) → Has (list_wants rest) o i.at i.class) → Member i (run_items size c2 barred d) ⊎ Member i (items size c1 c2 barred rest)
            → Has (extent_wants blocks o c1 (extents_of rest) ++ (run_want blocks size o c2 d ++ run_wants blocks size o c2 (runs_of rest))) o i.at i.class
        go ih (inl k) = has_amid (extent_wants blocks o c1 (extents_of rest)) (run_want blocks size o c2 d) (run_wants blocks size o c2 (runs_of rest)) o i.at i.class (run_has d i k t b)
        go ih (inr k) = has_around (extent_wants blocks o c1 (extents_of rest)) (run_want blocks size o c2 d) (run_wants blocks size o c2 (runs_of rest)) o i.at i.class (ih k)

    extents_take : (ps : List Piece) (r : Run) (x : Addr) → Member r (extent_wants blocks o c1 (extents_of ps)) → covers r x ≡ true
        → Takes (items size c1 c2 barred ps) x r.class × (r.owner ≡ o)
    unfolding items extents_of
    extents_take [] r x m h = absurd m
    extents_take (Extent y ∷ rest) r x (inl e) h =
        ((extent_item c1 y, inl refl, refl, one_covers o c1 y x (sym (ap (λ (z : Run). covers z x) e) ∙ h), sym (ap (λ (z : Run). z.class) e)), ap (λ (z : Run). z.owner) e)
    extents_take (Extent y ∷ rest) r x (inr m) h =
        let k = extents_take rest r x m h in (takes_more (items size c1 c2 barred rest) (extent_item c1 y ∷ items size c1 c2 barred rest) x r.class (λ i n. inr n) k.0, k.1)
    extents_take (Blocks d ∷ rest) r x m h =
        let k = extents_take rest r x m h in
        (takes_more (items size c1 c2 barred rest) (run_items size c2 barred d ++ items size c1 c2 barred rest) x r.class (λ i n. member_right (run_items size c2 barred d) (items size c1 c2 barred rest) i n) k.0, k.1)

    runs_take : (ps : List Piece) (r : Run) (x : Addr) → Member r (run_wants blocks size o c2 (runs_of ps)) → covers r x ≡ true
        → Takes (items size c1 c2 barred ps) x r.class × (r.owner ≡ o)
    unfolding items runs_of run_wants
    runs_take [] r x m h = absurd m
    runs_take (Extent y ∷ rest) r x m h =
        let k = runs_take rest r x m h in (takes_more (items size c1 c2 barred rest) (extent_item c1 y ∷ items size c1 c2 barred rest) x r.class (λ i n. inr n) k.0, k.1)
    runs_take (Blocks d ∷ rest) r x m h = go (λ n. runs_take rest r x n h) (member_append (run_want blocks size o c2 d) (run_wants blocks size o c2 (runs_of rest)) r m)
      where
        go : (Member r (run_wants blocks size o c2 (runs_of rest)) → Takes (items size c1 c2 barred rest) x r.class × (r.owner ≡ o)) → Member r (run_want blocks size o c2 d) ⊎ Member r (run_wants blocks size o c2 (runs_of rest)) → Takes (run_items size c2 barred d ++ items size c1 c2 barred rest) x r.class × (r.owner ≡ o)
        go ih (inl n) = let k = run_takes d r x n h in (takes_more (run_items size c2 barred d) (run_items size c2 barred d ++ items size c1 c2 barred rest) x r.class (λ i j. member_left (run_items size c2 barred d) (items size c1 c2 barred rest) i j) k.0, k.1)
        go ih (inr n) = let k = ih n in (takes_more (items size c1 c2 barred rest) (run_items size c2 barred d ++ items size c1 c2 barred rest) x r.class (λ i j. member_right (run_items size c2 barred d) (items size c1 c2 barred rest) i j) k.0, k.1)

  module _ (f : Frame) (v : Volume) (a : Addr) (e : Entry) (there : entry_at v a ≡ Some e) (other : is_holder f v a ≡ false) where
    abbrev ps : List Piece
    ps = list_for v a e

    abbrev blocked : Addr → Bool
    blocked = is_barred f e (runs_of ps)

    wants_are : wants (tree_of f v) a ≡ own_item a ∷ items_of f v.size a e ps
    unfolding wants node_with
    wants_are = ap (λ (n : Node). n.own ++ n.list) (node_is f v a e there other)

    abbrev list_runs : List Run
    list_runs = extent_wants blocks (number a) (extent_class f a) (extents_of ps) ++ run_wants blocks v.size (number a) (block_class f a e) (runs_of ps)

    runs_are : wants_at blocks f v a ≡ want blocks (number a) own_class a 1 ∷ list_runs
    unfolding wants_at entry_wants listing
    runs_are = ap (wants_by blocks f v a) there

    pub entry_has : (i : Item) → Member i (wants (tree_of f v) a) → i.takes ≡ true → i.at.block < blocks i.at.part → Has (wants_at blocks f v a) (number a) i.at i.class
    unfolding items_of
    entry_has i m t b = subst (λ (l : List Run). Has l (number a) i.at i.class) (sym runs_are) (go (subst (λ (l : List Item). Member i l) wants_are m))
      where
        by_kind : (k : Bool) → Member i (cond k (empty_item (length e.body) ∷ []) (items v.size (extent_class f a) (block_class f a e) blocked ps)) → Has list_runs (number a) i.at i.class
        by_kind true (inl g) = absurd (false≢true (sym (ap (λ (j : Item). j.takes) g) ∙ t))
        by_kind true (inr g) = absurd g
        by_kind false g = list_has v.size (number a) (extent_class f a) (block_class f a e) blocked ps i g t b

        go : Member i (own_item a ∷ items_of f v.size a e ps) → Has (want blocks (number a) own_class a 1 ∷ list_runs) (number a) i.at i.class
        go (inl g) = (want blocks (number a) own_class a 1, inl refl, refl, one_covered (number a) own_class a i.at (sym (ap (λ (j : Item). j.at) g)) b, sym (ap (λ (j : Item). j.class) g))
        go (inr g) = has_more list_runs (want blocks (number a) own_class a 1 ∷ list_runs) (number a) i.at i.class (λ r n. inr n) (by_kind (e.kind == 3) g)

    pub entry_takes : (r : Run) (x : Addr) → Member r (wants_at blocks f v a) → covers r x ≡ true → Takes (wants (tree_of f v) a) x r.class × (r.owner ≡ number a)
    unfolding items_of items
    entry_takes r x m h = let k = go (subst (λ (l : List Run). Member r l) runs_are m) in (subst (λ (l : List Item). Takes l x r.class) (sym wants_are) k.0, k.1)
      where
        by_kind : (k : Bool) → (e.kind == 3) ≡ k → Takes (items v.size (extent_class f a) (block_class f a e) blocked ps) x r.class × (r.owner ≡ number a)
            → Takes (cond k (empty_item (length e.body) ∷ []) (items v.size (extent_class f a) (block_class f a e) blocked ps)) x r.class × (r.owner ≡ number a)
        by_kind true g t = absurd (none (subst (λ (l : List Piece). Takes (items v.size (extent_class f a) (block_class f a e) (is_barred f e (runs_of ps)) l) x r.class) (list_embedded v a e (equal_is e.kind 3 g)) t.0))
          where
            none : Takes (items v.size (extent_class f a) (block_class f a e) (is_barred f e (runs_of ps)) []) x r.class → ⊥
            none n = n.1
        by_kind false g t = t

        part : Member r (extent_wants blocks (number a) (extent_class f a) (extents_of ps)) ⊎ Member r (run_wants blocks v.size (number a) (block_class f a e) (runs_of ps))
            → Takes (items v.size (extent_class f a) (block_class f a e) blocked ps) x r.class × (r.owner ≡ number a)
        part (inl n) = extents_take v.size (number a) (extent_class f a) (block_class f a e) blocked ps r x n h
        part (inr n) = runs_take v.size (number a) (extent_class f a) (block_class f a e) blocked ps r x n h

        go : Member r (want blocks (number a) own_class a 1 ∷ list_runs) → Takes (own_item a ∷ items_of f v.size a e ps) x r.class × (r.owner ≡ number a)
        go (inl g) = ((own_item a, inl refl, refl, one_covers (number a) own_class a x (sym (ap (λ (z : Run). covers z x) g) ∙ h), sym (ap (λ (z : Run). z.class) g)), ap (λ (z : Run). z.owner) g)
        go (inr g) =
            let k = by_kind (e.kind == 3) refl (part (member_append (extent_wants blocks (number a) (extent_class f a) (extents_of ps)) (run_wants blocks v.size (number a) (block_class f a e) (runs_of ps)) r g)) in
            (takes_more (items_of f v.size a e ps) (own_item a ∷ items_of f v.size a e ps) x r.class (λ i n. inr n) k.0, k.1)
