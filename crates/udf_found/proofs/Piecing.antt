-- The pieces of a list, as they are appended: what is there, and what the rest will give, is the whole.
use Rattle.std.proofs.Common.{◌≡◌, ℕ, ◌+◌, ◌≤◌, List, [], ◌∷◌, ◌++◌, map, drop, length, Bool, true, false, cond, sym, ap, ◌∙◌}
use Rattle.std.proofs.lemmas.List.{append_assoc, append-nil, map-append}
use Rattle.udf_field.specs.declared.address.Addr.{Addr}
use Rattle.udf_file_model.specs.Address.{same_addr}
use Rattle.udf_file_model.specs.Descriptors.{Descriptor}
use Rattle.udf_file_model.specs.Pieces as model
use Rattle.udf_file_model.specs.Pieces.{Blocks, Extent}
use Rattle.udf_entry.specs.RunView.{run_seen}
use Rattle.udf_entry.specs.declared.run.Run.{Run}
use Rattle.udf_found.specs.declared.pieces.Piece.{Piece}
use Rattle.udf_found.specs.declared.pieces.Piece.TheVariants as piece
use Rattle.udf_found.specs.Merged.{extents_after, extents_until, merged}
use Rattle.udf_found.specs.Shape.{piece_seen, pieces_seen}
use Rattle.udf_found.proofs.Wanting.{drop_none}
use Rattle.udf_tree_model.proofs.Places.{same_address}

pub pushed : (old new : List Piece) (x : Piece) → new ≡ old ++ x ∷ [] → pieces_seen new ≡ pieces_seen old ++ piece_seen x ∷ []
pushed old new x e = ap pieces_seen e ∙ map-append piece_seen old (x ∷ [])

module _ (h : Addr) (xs : List Addr) (i : ℕ) (x : Addr) (here : drop i xs ≡ x ∷ drop (i + 1) xs) (old new : List Piece) (push : new ≡ old ++ piece.Extent x ∷ []) (whole : List model.Piece) where
  joined : (rest : List model.Piece) → pieces_seen new ++ rest ≡ pieces_seen old ++ Extent x ∷ rest
  joined rest = ap (λ (l : List model.Piece). l ++ rest) (pushed old new (piece.Extent x) push) ∙ append_assoc (pieces_seen old) (Extent x ∷ []) rest

  pub until_more : same_addr h x ≡ false → pieces_seen old ++ map Extent (extents_until h (drop i xs)) ≡ whole → pieces_seen new ++ map Extent (extents_until h (drop (i + 1) xs)) ≡ whole
  unfolding extents_until
  until_more other e =
      joined (map Extent (extents_until h (drop (i + 1) xs)))
      ∙ ap (λ (b : Bool). pieces_seen old ++ Extent x ∷ map Extent (cond b [] (extents_until h (drop (i + 1) xs)))) (sym other)
      ∙ ap (λ (l : List Addr). pieces_seen old ++ map Extent (extents_until h l)) (sym here)
      ∙ e

  pub until_last : same_addr h x ≡ true → pieces_seen old ++ map Extent (extents_until h (drop i xs)) ≡ whole → pieces_seen new ≡ whole
  unfolding extents_until
  until_last same e =
      pushed old new (piece.Extent x) push
      ∙ ap (λ (b : Bool). pieces_seen old ++ Extent x ∷ map Extent (cond b [] (extents_until h (drop (i + 1) xs)))) (sym same)
      ∙ ap (λ (l : List Addr). pieces_seen old ++ map Extent (extents_until h l)) (sym here)
      ∙ e

  pub rest_more : pieces_seen old ++ map Extent (drop i xs) ≡ whole → pieces_seen new ++ map Extent (drop (i + 1) xs) ≡ whole
  rest_more e = joined (map Extent (drop (i + 1) xs)) ∙ ap (λ (l : List Addr). pieces_seen old ++ map Extent l) (sym here) ∙ e

module _ (h : Addr) (xs : List Addr) (i : ℕ) (x : Addr) (here : drop i xs ≡ x ∷ drop (i + 1) xs) where
  pub after_more : same_addr h x ≡ false → extents_after h (drop (i + 1) xs) ≡ extents_after h (drop i xs)
  unfolding extents_after
  after_more other = ap (λ (b : Bool). cond b (drop (i + 1) xs) (extents_after h (drop (i + 1) xs))) (sym other) ∙ ap (extents_after h) (sym here)

  pub after_last : same_addr h x ≡ true → drop (i + 1) xs ≡ extents_after h (drop i xs)
  unfolding extents_after
  after_last same = ap (λ (b : Bool). cond b (drop (i + 1) xs) (extents_after h (drop (i + 1) xs))) (sym same) ∙ ap (extents_after h) (sym here)

pub until_none : (h : Addr) (xs : List Addr) (i : ℕ) (old : List Piece) (whole : List model.Piece) → length xs ≤ i → pieces_seen old ++ map Extent (extents_until h (drop i xs)) ≡ whole → pieces_seen old ≡ whole
unfolding extents_until
until_none h xs i old whole l e = sym (append-nil (pieces_seen old)) ∙ ap (λ (ys : List Addr). pieces_seen old ++ map Extent (extents_until h ys)) (sym (drop_none xs i l)) ∙ e

pub after_none : (h : Addr) (xs : List Addr) (i n : ℕ) → length xs ≤ i → length xs ≤ n → drop n xs ≡ extents_after h (drop i xs)
unfolding extents_after
after_none h xs i n l m = drop_none xs n m ∙ ap (extents_after h) (sym (drop_none xs i l))

pub rest_none : (xs : List Addr) (i : ℕ) (old : List Piece) (whole : List model.Piece) → length xs ≤ i → pieces_seen old ++ map Extent (drop i xs) ≡ whole → pieces_seen old ≡ whole
rest_none xs i old whole l e = sym (append-nil (pieces_seen old)) ∙ ap (λ (ys : List Addr). pieces_seen old ++ map Extent ys) (sym (drop_none xs i l)) ∙ e

-- a run behind what is there
module _ (h : Addr) (xs : List Addr) (run : Run) (old new : List Piece) (rest : List Descriptor) where
  pub run_held : same_addr run.holder h ≡ true → new ≡ old ++ piece.Blocks run ∷ []
      → pieces_seen new ++ merged run.holder xs rest ≡ pieces_seen old ++ merged h xs (run_seen run ∷ rest)
  unfolding merged
  run_held same push =
      ap (λ (l : List model.Piece). l ++ merged run.holder xs rest) (pushed old new (piece.Blocks run) push)
      ∙ append_assoc (pieces_seen old) (Blocks (run_seen run) ∷ []) (merged run.holder xs rest)
      ∙ ap (λ (a : Addr). pieces_seen old ++ Blocks (run_seen run) ∷ merged a xs rest) (same_address run.holder h same)
      ∙ ap (λ (b : Bool). pieces_seen old ++ cond b (Blocks (run_seen run) ∷ merged h xs rest) (map Extent (extents_until run.holder xs) ++ Blocks (run_seen run) ∷ merged run.holder (extents_after run.holder xs) rest)) (sym same)

  pub run_moved : (mid : List Piece) (after : List Addr) → same_addr run.holder h ≡ false → pieces_seen mid ≡ pieces_seen old ++ map Extent (extents_until run.holder xs)
      → after ≡ extents_after run.holder xs → new ≡ mid ++ piece.Blocks run ∷ []
      → pieces_seen new ++ merged run.holder after rest ≡ pieces_seen old ++ merged h xs (run_seen run ∷ rest)
  unfolding merged
  run_moved mid after other m a push =
      ap (λ (l : List model.Piece). l ++ merged run.holder after rest) (pushed mid new (piece.Blocks run) push)
      ∙ append_assoc (pieces_seen mid) (Blocks (run_seen run) ∷ []) (merged run.holder after rest)
      ∙ ap (λ (l : List model.Piece). l ++ Blocks (run_seen run) ∷ merged run.holder after rest) m
      ∙ append_assoc (pieces_seen old) (map Extent (extents_until run.holder xs)) (Blocks (run_seen run) ∷ merged run.holder after rest)
      ∙ ap (λ (l : List Addr). pieces_seen old ++ (map Extent (extents_until run.holder xs) ++ Blocks (run_seen run) ∷ merged run.holder l rest)) a
      ∙ ap (λ (b : Bool). pieces_seen old ++ cond b (Blocks (run_seen run) ∷ merged h xs rest) (map Extent (extents_until run.holder xs) ++ Blocks (run_seen run) ∷ merged run.holder (extents_after run.holder xs) rest)) (sym other)
