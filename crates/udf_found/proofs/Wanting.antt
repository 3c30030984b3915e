-- Wants as they are added one by one: what is there, and what the rest will give, is the whole.
use Rattle.std.proofs.Common.{◌≡◌, ℕ, zero, suc, ◌+◌, ◌≤◌, ◌<◌, List, [], ◌∷◌, ◌++◌, drop, length, Bool, true, false, cond, Option, Some, None, Result, Ok, Err, OnOk, refl, sym, ap, ◌∙◌, arith, get_or}
use Rattle.std.specs.Prelude.{slice_get, is_some}
use Rattle.std.proofs.lemmas.Bool.{false≢true}
use Rattle.std.proofs.lemmas.List.{append_assoc, append-nil, drop_more}
use Rattle.std.proofs.lemmas.Option.{get_or_from_slice_get, slice_get_within}
use Rattle.udf_field.specs.declared.address.Addr.{Addr}
use Rattle.udf_file_model.specs.Entry.{Entry}
use Rattle.udf_file_model.specs.Listing.{Volume, listing}
use Rattle.udf_file_model.specs.Pieces.{Blocks, Extent, Piece, extents_of, runs_of}
use Rattle.udf_found.specs.declared.pieces.Piece as code
use Rattle.udf_found.specs.declared.shape.Shape.{Shape}
use Rattle.udf_found.specs.Shape.{IsShape, piece_seen, pieces_seen}
use Rattle.udf_claims.specs.Winner.{number}
use Rattle.udf_claims.specs.declared.run.Run.{Run}
use Rattle.udf_tree_model.specs.Frame.{Frame, block_class, entry_at, extent_class, is_holder, own_class}
use Rattle.udf_found.specs.Wanted.{entry_wants, extent_wants, found_wants, run_want, run_wants, want, wants_at, wants_by}

pub nothing_more : {X : Type 0} (xs : List X) → xs ≡ xs ++ []
nothing_more xs = sym (append-nil xs)

pub drop_slice : {X : Type 0} (xs : List X) (i : ℕ) (x : X) → slice_get xs i ≡ Some x → drop i xs ≡ x ∷ drop (i + 1) xs
drop_slice xs i x h = drop_more xs i x (slice_get_within xs i x h) ∙ ap (λ y. y ∷ drop (i + 1) xs) (get_or_from_slice_get xs i x x h)

pub drop_read : {X : Type 0} (xs : List X) (i : ℕ) (x : X) → i < length xs → x ≡ get_or xs i x → drop i xs ≡ x ∷ drop (i + 1) xs
drop_read xs i x l h = drop_more xs i x l ∙ ap (λ y. y ∷ drop (i + 1) xs) (sym h)

pub drop_none : {X : Type 0} (xs : List X) (i : ℕ) → length xs ≤ i → drop i xs ≡ []
drop_none [] zero l = refl
drop_none [] (suc i) l = refl
drop_none (x ∷ xs) zero l = absurd (omega (arith, l))
drop_none (x ∷ xs) (suc i) l = drop_none xs i (omega (arith, l))

module _ {X Y : Type 0} where
  -- one more, where the rest gives by F
  pub one_more : (F : List X → List Y) (here : List Y) (xs : List X) (i : ℕ) (x : X) (old new whole : List Y) → drop i xs ≡ x ∷ drop (i + 1) xs
      → F (x ∷ drop (i + 1) xs) ≡ here ++ F (drop (i + 1) xs) → new ≡ old ++ here → old ++ F (drop i xs) ≡ whole → new ++ F (drop (i + 1) xs) ≡ whole
  one_more F here xs i x old new whole d g n h =
      ap (λ (l : List Y). l ++ F (drop (i + 1) xs)) n
      ∙ append_assoc old here (F (drop (i + 1) xs))
      ∙ ap (λ (l : List Y). old ++ l) (sym g)
      ∙ ap (λ (l : List X). old ++ F l) (sym d)
      ∙ h

  pub no_more : (F : List X → List Y) (xs : List X) (i : ℕ) (old whole : List Y) → F [] ≡ [] → length xs ≤ i → old ++ F (drop i xs) ≡ whole → old ≡ whole
  no_more F xs i old whole g l h = sym (append-nil old) ∙ ap (λ (r : List Y). old ++ r) (sym g) ∙ ap (λ (r : List X). old ++ F r) (sym (drop_none xs i l)) ∙ h

-- what holds where a call succeeds
pub also_ok : {T E : Type 0} (r : Result T E) (P Q : Type 0) → (P → Q) → OnOk r P → OnOk r Q
also_ok (Ok x) P Q h k = h k
also_ok (Err e) P Q h k = k

-- the wants of pieces, one by one
pub extents_more : (blocks : ℕ → ℕ) (o c : ℕ) (x : code.Piece) (xs : List code.Piece)
    → extent_wants blocks o c (extents_of (pieces_seen (x ∷ xs))) ≡ extent_wants blocks o c (extents_of (piece_seen x ∷ [])) ++ extent_wants blocks o c (extents_of (pieces_seen xs))
unfolding extents_of
extents_more blocks o c x xs = by_piece (piece_seen x)
  where
    by_piece : (p : Piece) → extent_wants blocks o c (extents_of (p ∷ pieces_seen xs)) ≡ extent_wants blocks o c (extents_of (p ∷ [])) ++ extent_wants blocks o c (extents_of (pieces_seen xs))
    by_piece (Extent a) = refl
    by_piece (Blocks d) = refl

pub runs_more : (blocks : ℕ → ℕ) (size o c : ℕ) (x : code.Piece) (xs : List code.Piece)
    → run_wants blocks size o c (runs_of (pieces_seen (x ∷ xs))) ≡ run_wants blocks size o c (runs_of (piece_seen x ∷ [])) ++ run_wants blocks size o c (runs_of (pieces_seen xs))
unfolding runs_of run_wants
runs_more blocks size o c x xs = by_piece (piece_seen x)
  where
    by_piece : (p : Piece) → run_wants blocks size o c (runs_of (p ∷ pieces_seen xs)) ≡ run_wants blocks size o c (runs_of (p ∷ [])) ++ run_wants blocks size o c (runs_of (pieces_seen xs))
    by_piece (Extent a) = refl
    by_piece (Blocks d) = ap (λ (l : List Run). l ++ run_wants blocks size o c (runs_of (pieces_seen xs))) (sym (append-nil (run_want blocks size o c d)))

-- an entry's wants, added in three steps
pub shape_wants : (blocks : ℕ → ℕ) (f : Frame) (v : Volume) (a : Addr) (e : Entry) (s : Shape) (ps qs : List code.Piece) (o c1 c2 size : ℕ) (old x y z : List Run) → entry_at v a ≡ Some e → IsShape v a e s → v.size ≡ size
    → ps ≡ s.pieces.items → qs ≡ s.pieces.items → o ≡ number a → c1 ≡ extent_class f a → c2 ≡ block_class f a e → x ≡ old ++ want blocks o own_class a 1 ∷ []
    → y ≡ x ++ extent_wants blocks o c1 (extents_of (pieces_seen ps)) → z ≡ y ++ run_wants blocks size o c2 (runs_of (pieces_seen qs)) → z ≡ old ++ wants_at blocks f v a
unfolding wants_at entry_wants listing
shape_wants blocks f v a e s ps qs o c1 c2 size old x y z there shape l m n i j k p q r =
    let own : Run = want blocks o own_class a 1 in
    let es : List Run = extent_wants blocks o c1 (extents_of (pieces_seen s.pieces.items)) in
    let rs : List Run = run_wants blocks size o c2 (runs_of (pieces_seen s.pieces.items)) in
    r
    ∙ ap (λ (u : List code.Piece). y ++ run_wants blocks size o c2 (runs_of (pieces_seen u))) n
    ∙ ap (λ (w : List Run). w ++ rs) (q ∙ ap (λ (u : List code.Piece). x ++ extent_wants blocks o c1 (extents_of (pieces_seen u))) m ∙ ap (λ (w : List Run). w ++ es) p ∙ append_assoc old (own ∷ []) es)
    ∙ append_assoc old (own ∷ es) rs
    ∙ ap (λ (t : ℕ). old ++ (want blocks t own_class a 1 ∷ (extent_wants blocks t c1 (extents_of (pieces_seen s.pieces.items)) ++ run_wants blocks size t c2 (runs_of (pieces_seen s.pieces.items))))) i
    ∙ ap (λ (t : ℕ). old ++ (want blocks (number a) own_class a 1 ∷ (extent_wants blocks (number a) t (extents_of (pieces_seen s.pieces.items)) ++ run_wants blocks size (number a) c2 (runs_of (pieces_seen s.pieces.items))))) j
    ∙ ap (λ (t : ℕ). old ++ (want blocks (number a) own_class a 1 ∷ (extent_wants blocks (number a) (extent_class f a) (extents_of (pieces_seen s.pieces.items)) ++ run_wants blocks size (number a) t (runs_of (pieces_seen s.pieces.items))))) k
    ∙ ap (λ (t : ℕ). old ++ (want blocks (number a) own_class a 1 ∷ (extent_wants blocks (number a) (extent_class f a) (extents_of (pieces_seen s.pieces.items)) ++ run_wants blocks t (number a) (block_class f a e) (runs_of (pieces_seen s.pieces.items))))) (sym l)
    ∙ ap (λ (ps : List Piece). old ++ (want blocks (number a) own_class a 1 ∷ (extent_wants blocks (number a) (extent_class f a) (extents_of ps) ++ run_wants blocks v.size (number a) (block_class f a e) (runs_of ps)))) shape.pieces
    ∙ ap (λ (n : Option Entry). old ++ wants_by blocks f v a n) (sym there)

-- a found entry's wants, where it is the holder, and where it is not
pub holder_wants : (blocks : ℕ → ℕ) (f : Frame) (v : Volume) (a : Addr) (old : List Run) → is_holder f v a ≡ true → old ≡ old ++ found_wants blocks f v a
holder_wants blocks f v a old h = nothing_more old ∙ ap (λ (b : Bool). old ++ cond b [] (wants_at blocks f v a)) (sym h)

pub other_wants : (blocks : ℕ → ℕ) (f : Frame) (v : Volume) (a : Addr) (old new : List Run) → is_holder f v a ≡ false → new ≡ old ++ wants_at blocks f v a
    → new ≡ old ++ found_wants blocks f v a
other_wants blocks f v a old new h e = e ∙ ap (λ (b : Bool). old ++ cond b [] (wants_at blocks f v a)) (sym h)

-- placed addresses stand below the number of blocks
pub placed_low : (blocks : ℕ → ℕ) (place : Addr → Option ℕ) → ((a : Addr) (s : ℕ) → place a ≡ Some s → a.block < blocks a.part) → (a : Addr) → is_some (place a) ≡ true
    → a.block < blocks a.part
placed_low blocks place h a e = go (place a) refl e
  where
    go : (o : Option ℕ) → place a ≡ o → is_some o ≡ true → a.block < blocks a.part
    go None k l = absurd (false≢true l)
    go (Some s) k l = h a s k
