-- What a cut list takes was taken, and held, where the cut ends in what is kept.
use Rattle.std.proofs.Common.{◌≡◌, ◌⊎◌, ℕ, zero, suc, ◌+◌, ◌-◌, ◌*◌, ◌<◌, ◌≤◌, nat_lt, Bool, true, false, cond, List, [], ◌∷◌, ◌++◌, map, refl, sym, ap, ◌∙◌, subst, inl, inr, arith}
use Rattle.std.specs.Prelude.{◌==◌, min}
use Rattle.std.specs.List.{range_with_len}
use Rattle.std.proofs.lemmas.Bool.Decides.{nat_tests}
use Rattle.udf_field.specs.declared.address.Addr.{Addr}
use Rattle.udf_file_model.specs.Descriptors.{Descriptor}
use Rattle.udf_file_model.specs.Pieces.{Piece, Extent, Blocks, runs_of}
use Rattle.udf_file_model.specs.Front.{blocks_for, is_hole}
use Rattle.udf_file_model.specs.Cut.{cut_pieces}
use Rattle.udf_file_model.proofs.Counts.{front_less}
use Rattle.udf_tree_model.specs.Node.{Item, bytes_of}
use Rattle.udf_tree_model.specs.Won.{bytes_before}
use Rattle.udf_tree_model.specs.Laws.{SameWant}
use Rattle.udf_tree_model.specs.Frame.{block_item, empty_item, extent_item, items, run_items}
use Rattle.udf_tree_model.proofs.Members.{Member, member_append, member_left, member_map, member_of_map, member_right}
use Rattle.udf_tree_model.proofs.Stating.{items_bytes}
use Rattle.udf_file_mends.proofs.Sites.{fewer_blocks}

-- before the first item that fails all hold
module _ (p : Item → Bool) where
  -- a front longer than whose bytes is kept holds
  front_holds : (is js : List Item) → bytes_of is < bytes_before p (is ++ js) → (i : Item) → Member i is → p i ≡ true
  unfolding bytes_before
  front_holds [] js l i m = absurd m
  front_holds (x ∷ xs) js l i m = by (p x) refl l m (λ k n. front_holds xs js k i n)
    where
      by : (b : Bool) → p x ≡ b → x.bytes + bytes_of xs < cond b (x.bytes + bytes_before p (xs ++ js)) 0 → (i ≡ x) ⊎ Member i xs
          → (bytes_of xs < bytes_before p (xs ++ js) → Member i xs → p i ≡ true) → p i ≡ true
      by false e k n on = absurd (omega (arith, k))
      by true e k (inl q) on = ap p q ∙ e
      by true e k (inr q) on = on (omega (arith, k)) q

  front_bytes : (is js : List Item) → bytes_of is < bytes_before p (is ++ js) → bytes_before p (is ++ js) ≡ bytes_of is + bytes_before p js
  unfolding bytes_before
  front_bytes [] js l = omega arith
  front_bytes (x ∷ xs) js l = by (p x) l (λ k. front_bytes xs js k)
    where
      by : (b : Bool) → x.bytes + bytes_of xs < cond b (x.bytes + bytes_before p (xs ++ js)) 0 → (bytes_of xs < bytes_before p (xs ++ js) → bytes_before p (xs ++ js) ≡ bytes_of xs + bytes_before p js)
          → cond b (x.bytes + bytes_before p (xs ++ js)) 0 ≡ x.bytes + bytes_of xs + bytes_before p js
      by false k on = absurd (omega (arith, k))
      by true k on = let e = on (omega (arith, k)) in omega (arith, e)

  module _ (size class : ℕ) (barred : Addr → Bool) (some : 0 < size) where
    -- of the blocks of a descriptor those that the first c bytes take hold
    blocks_hold : (d : Descriptor) (js : List Item) (m n x c : ℕ) → m ≤ n → ((k : ℕ) → m ≡ suc k → k * size < c)
        → c ≤ bytes_before p (map (block_item size class barred d) (range_with_len x n) ++ js)
        → (y : ℕ) → Member y (range_with_len x m) → p (block_item size class barred d y) ≡ true
    unfolding bytes_before
    blocks_hold d js zero n x c l h k y i = absurd i
    blocks_hold d js (suc m) zero x c l h k y i = absurd (omega (arith, l))
    blocks_hold d js (suc m) (suc n) x c l h k y i = by (p first) refl k i (λ q j. blocks_hold d js m n (x + 1) (c - size) (omega (arith, l)) next q y j)
      where
        first : Item
        first = block_item size class barred d x

        next : (j : ℕ) → m ≡ suc j → j * size < c - size
        next j e = let f : suc j * size < c = h (suc j) (ap suc e) in omega (arith, f)

        by : (b : Bool) → p (block_item size class barred d x) ≡ b
            → c ≤ cond b (min size (d.length - (x - d.at.block) * size) + bytes_before p (map (block_item size class barred d) (range_with_len (x + 1) n) ++ js)) 0
            → (y ≡ x) ⊎ Member y (range_with_len (x + 1) m)
            → (c - size ≤ bytes_before p (map (block_item size class barred d) (range_with_len (x + 1) n) ++ js) → Member y (range_with_len (x + 1) m) → p (block_item size class barred d y) ≡ true)
            → p (block_item size class barred d y) ≡ true
        by false e q j on = let f : m * size < c = h m refl in absurd (omega (arith, q, f))
        by true e q (inl j) on = ap (λ z. p (block_item size class barred d z)) j ∙ e
        by true e q (inr j) on = on (omega (arith, q)) j

    -- an item that a cut leaves, and the one of the list whose place it has
    pub record Came (i : Item) (is : List Item) : Type 0 where
      pub was : Item
      pub among : Member was is
      pub same : SameWant i was
      pub held : p was ≡ true

    came_right : (i : Item) (xs ys : List Item) → Came i ys → Came i (xs ++ ys)
    came_right i xs ys c = record { was = c.was; among = member_right xs ys c.was c.among; same = c.same; held = c.held }

    itself : (i : Item) → SameWant i i
    itself i = record { address = refl; takes = refl; class = refl; barred = refl }

    zero_is : (b : ℕ) → (b == 0) ≡ true → b ≡ 0
    zero_is b t = grind (arith, nat_tests)

    some_is : (b : ℕ) → (b == 0) ≡ false → 0 < b
    some_is b t = grind (arith, nat_tests)

    below : (m n : ℕ) → nat_lt m n ≡ true → m < n
    below m n t = grind (arith, nat_tests)

    above : (m n : ℕ) → nat_lt m n ≡ false → n ≤ m
    above m n t = grind (arith, nat_tests)

    run_bytes : (extents : ℕ) (d : Descriptor) → bytes_of (run_items size class barred d) ≡ d.length
    unfolding items runs_of
    run_bytes extents d = only (items_bytes size class barred some extents (Blocks d ∷ []))
      where
        joined : (is : List Item) → is ++ [] ≡ is
        joined [] = refl
        joined (x ∷ xs) = ap (λ z. x ∷ z) (joined xs)

        only : bytes_of (run_items size class barred d ++ []) ≡ d.length + 0 → bytes_of (run_items size class barred d) ≡ d.length
        only e = let f : bytes_of (run_items size class barred d) ≡ d.length + 0 = ap bytes_of (sym (joined (run_items size class barred d))) ∙ e in omega (arith, f)

    -- the descriptor at which a cut ends
    last_came : (extents : ℕ) (d : Descriptor) (rest : List Piece) (b : ℕ) → 0 < b → b ≤ d.length → b ≤ bytes_before p (run_items size class barred d ++ items size extents class barred rest)
        → (i : Item) → Member i (run_items size class barred (record d { length = b })) → Came i (run_items size class barred d ++ items size extents class barred rest)
    unfolding run_items bytes_before
    last_came extents d rest b s l k i m = by (is_hole d) k m
      where
        others : List Item
        others = items size extents class barred rest

        hole : (t : Bool) → p (empty_item d.length) ≡ t → b ≤ cond t (d.length + bytes_before p (items size extents class barred rest)) 0 → p (empty_item d.length) ≡ true
        hole true e q = e
        hole false e q = absurd (omega (arith, q, s))

        by : (t : Bool)
            → b ≤ bytes_before p (cond t (empty_item d.length ∷ []) (map (block_item size class barred d) (range_with_len d.at.block (blocks_for size d.length))) ++ items size extents class barred rest)
            → Member i (cond t (empty_item b ∷ []) (map (block_item size class barred (record d { length = b })) (range_with_len d.at.block (blocks_for size b))))
            → Came i (cond t (empty_item d.length ∷ []) (map (block_item size class barred d) (range_with_len d.at.block (blocks_for size d.length))) ++ items size extents class barred rest)
        by true q (inr n) = absurd n
        by true q (inl n) = record {
          was = empty_item d.length;
          among = inl refl;
          same = subst (λ (z : Item). SameWant z (empty_item d.length)) (sym n) (record { address = refl; takes = refl; class = refl; barred = refl });
          held = hole (p (empty_item d.length)) refl q;
        }
        by false q n =
            let r = member_of_map (block_item size class barred (record d { length = b })) (range_with_len d.at.block (blocks_for size b)) i n in
            let m = fewer_blocks size b d.length some l in
            let low = λ (j : ℕ) (e : blocks_for size b ≡ suc j). front_less size j b some (omega (arith, e)) in
            record {
              was = block_item size class barred d r.0;
              among = member_left (map (block_item size class barred d) (range_with_len d.at.block (blocks_for size d.length))) (items size extents class barred rest) (block_item size class barred d r.0)
                  (member_map (block_item size class barred d) (range_with_len d.at.block (blocks_for size d.length)) r.0 (longer (blocks_for size b) (blocks_for size d.length) d.at.block m r.0 r.1));
              same = subst (λ (z : Item). SameWant z (block_item size class barred d r.0)) (sym r.2) (record { address = refl; takes = refl; class = refl; barred = refl });
              held = blocks_hold d (items size extents class barred rest) (blocks_for size b) (blocks_for size d.length) d.at.block b m low q r.0 r.1;
            }
          where
            longer : (m n x : ℕ) → m ≤ n → (y : ℕ) → Member y (range_with_len x m) → Member y (range_with_len x n)
            longer zero n x l y j = absurd j
            longer (suc m) zero x l y j = absurd (omega (arith, l))
            longer (suc m) (suc n) x l y (inl e) = inl e
            longer (suc m) (suc n) x l y (inr j) = inr (longer m n (x + 1) (omega (arith, l)) y j)

    pub items_came : (extents : ℕ) (ps : List Piece) (b : ℕ) → b ≤ bytes_before p (items size extents class barred ps)
        → (i : Item) → Member i (items size extents class barred (cut_pieces b ps)) → Came i (items size extents class barred ps)
    unfolding items cut_pieces bytes_before
    items_came extents [] b l i m = absurd m
    items_came extents (Extent x ∷ rest) b l i m = by (b == 0) refl (p (extent_item extents x)) refl l m (λ k n. items_came extents rest b k i n)
      where
        on_more : Came i (items size extents class barred rest) → Came i (extent_item extents x ∷ items size extents class barred rest)
        on_more c = record { was = c.was; among = inr c.among; same = c.same; held = c.held }

        by : (t : Bool) → (b == 0) ≡ t → (q : Bool) → p (extent_item extents x) ≡ q → b ≤ cond q (0 + bytes_before p (items size extents class barred rest)) 0
            → Member i (items size extents class barred (cond t [] (Extent x ∷ cut_pieces b rest)))
            → (b ≤ bytes_before p (items size extents class barred rest) → Member i (items size extents class barred (cut_pieces b rest)) → Came i (items size extents class barred rest))
            → Came i (extent_item extents x ∷ items size extents class barred rest)
        by true e q f k n on = absurd n
        by false e false f k n on = absurd (omega (arith, k, some_is b e))
        by false e true f k (inr n) on = on_more (on (omega (arith, k)) n)
        by false e true f k (inl n) on = record {
          was = extent_item extents x;
          among = inl refl;
          same = subst (λ (z : Item). SameWant z (extent_item extents x)) (sym n) (itself (extent_item extents x));
          held = f;
        }
    items_came extents (Blocks d ∷ rest) b l i m = by (b == 0) refl (nat_lt d.length b) refl m (λ k n. items_came extents rest (b - d.length) k i n)
      where
        own : List Item
        own = run_items size class barred d

        joined : (is : List Item) → is ++ [] ≡ is
        joined [] = refl
        joined (x ∷ xs) = ap (λ z. x ∷ z) (joined xs)

        by : (t : Bool) → (b == 0) ≡ t → (u : Bool) → nat_lt d.length b ≡ u
            → Member i (items size extents class barred (cond t [] (cond u (Blocks d ∷ cut_pieces (b - d.length) rest) (Blocks (record d { length = b }) ∷ []))))
            → (b - d.length ≤ bytes_before p (items size extents class barred rest) → Member i (items size extents class barred (cut_pieces (b - d.length) rest)) → Came i (items size extents class barred rest))
            → Came i (run_items size class barred d ++ items size extents class barred rest)
        by true e u f n on = absurd n
        by false e true f n on = whole (member_append (run_items size class barred d) (items size extents class barred (cut_pieces (b - d.length) rest)) i n)
          where
            more : bytes_of (run_items size class barred d) < bytes_before p (run_items size class barred d ++ items size extents class barred rest)
            more = omega (arith, run_bytes extents d, below d.length b f, l)

            whole : Member i (run_items size class barred d) ⊎ Member i (items size extents class barred (cut_pieces (b - d.length) rest))
                → Came i (run_items size class barred d ++ items size extents class barred rest)
            whole (inl j) = record {
              was = i;
              among = member_left (run_items size class barred d) (items size extents class barred rest) i j;
              same = itself i;
              held = front_holds (run_items size class barred d) (items size extents class barred rest) more i j;
            }
            whole (inr j) =
                let s = front_bytes (run_items size class barred d) (items size extents class barred rest) more in
                came_right i (run_items size class barred d) (items size extents class barred rest) (on (omega (arith, s, l, run_bytes extents d)) j)
        by false e false f n on =
            last_came extents d rest b (some_is b e) (above d.length b f) l i (subst (λ (z : List Item). Member i z) (joined (run_items size class barred (record d { length = b }))) n)
