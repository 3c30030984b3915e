-- The selected links of a holder, as far as there is room for them.
use Rattle.std.proofs.Common.{◌≡◌, ℕ, ◌+◌, ◌-◌, ◌<◌, ◌≤◌, List, [], ◌∷◌, map, length, get_or, drop, Bool, true, false, ◌&&◌, not, cond, nat_le, Option, Some, None, refl, sym, ap, ◌∙◌, arith}
use Rattle.std.specs.List.{filter}
use Rattle.std.proofs.lemmas.Bool.Decides.{nat_tests}
use Rattle.std.proofs.lemmas.List.{drop_more, drop_all}
use Rattle.udf_field.specs.declared.address.Addr.{Addr}
use Rattle.udf_tree_model.specs.Chosen.{Rank, chosen, first_of_names, fit, fitted, is_rank, named, selected, selects}
use Rattle.udf_tree_model.specs.Link as model
use Rattle.udf_tree_model.specs.Link.{is_pointer, target_of}
use Rattle.udf_tree_model.specs.Node.{Setting, Tree, node_at}
use Rattle.udf_tree_model.specs.Won.{kept_links, sound}
use Rattle.udf_held.specs.declared.held.Held.{Held}
use Rattle.udf_found.specs.declared.link.Link.{Link}
use Rattle.udf_kept.specs.Fitted.{Step, step_of}
use Rattle.udf_held.specs.Held.{IsHeld}
use Rattle.udf_found.specs.Linked.{AreLinks, Outline, is_first, outline_of, outline_seen}
use Rattle.udf_kept.specs.Selects.{is_rank_at, is_selected, selects_by}

abbrev pub step_to : Link → Step
step_to l = record { place = l.place; to = Some l.target }

-- the links that pass a test, up to the first of them for which there is no room
pub front : (Link → Bool) → ℕ → List Link → List Step
front p n [] = []
front p n (l ∷ ls) = cond (p l) (cond (nat_le l.room n) (step_to l ∷ front p (n - l.room) ls) []) (front p n ls)

-- ---- the loop over the links
module _ (p : Link → Bool) (ls : List Link) (i : ℕ) (l : Link) (low : i < length ls) (is : l ≡ get_or ls i l) (n : ℕ) where
  rest : List Link
  rest = drop (i + 1) ls

  opened : front p n (drop i ls) ≡ cond (p l) (cond (nat_le l.room n) (step_to l ∷ front p (n - l.room) rest) []) (front p n rest)
  unfolding front rest
  opened = ap (front p n) (drop_more ls i l low ∙ ap (λ (y : Link). y ∷ drop (i + 1) ls) (sym is))

  pub front_skips : p l ≡ false → front p n (drop i ls) ≡ front p n (drop (i + 1) ls)
  unfolding rest
  front_skips e = opened ∙ ap (λ b. cond b (cond (nat_le l.room n) (step_to l ∷ front p (n - l.room) rest) []) (front p n rest)) e

  has_room : p l ≡ true → front p n (drop i ls) ≡ cond (nat_le l.room n) (step_to l ∷ front p (n - l.room) rest) []
  unfolding rest
  has_room e = opened ∙ ap (λ b. cond b (cond (nat_le l.room n) (step_to l ∷ front p (n - l.room) rest) []) (front p n rest)) e

  pub front_takes : p l ≡ true → l.room ≤ n → front p n (drop i ls) ≡ step_to l ∷ front p (n - l.room) (drop (i + 1) ls)
  unfolding rest
  front_takes e k = let f : nat_le l.room n ≡ true = grind (arith, nat_tests) in has_room e ∙ ap (λ b. cond b (step_to l ∷ front p (n - l.room) rest) []) f

  pub front_stops : p l ≡ true → n < l.room → front p n (drop i ls) ≡ []
  unfolding rest
  front_stops e k = let f : nat_le l.room n ≡ false = grind (arith, nat_tests) in has_room e ∙ ap (λ b. cond b (step_to l ∷ front p (n - l.room) rest) []) f

pub front_ends : (p : Link → Bool) (ls : List Link) (i n : ℕ) → length ls ≤ i → front p n (drop i ls) ≡ []
unfolding front
front_ends p ls i n l = ap (front p n) (drop_all i ls l)

-- ---- and what it gives
module _ (s : Setting) (t : Tree) (a : Addr) where
  abbrev step_by : Outline → Step
  step_by o = record { place = o.place; to = Some o.target }

  by_outline : ℕ → List Outline → List Step
  by_outline n [] = []
  by_outline n (o ∷ os) = cond (selects_by s t a o) (cond (nat_le o.room n) (step_by o ∷ by_outline (n - o.room) os) []) (by_outline n os)

  code_outline : (n : ℕ) (ls : List Link) → front (is_selected s t a) n ls ≡ by_outline n (map outline_seen (filter is_first ls))
  unfolding front by_outline
  code_outline n [] = refl
  code_outline n (l ∷ ls) = go (is_first l) (code_outline (n - l.room) ls) (code_outline n ls)
    where
      rest : ℕ → List Step
      rest m = by_outline m (map outline_seen (filter is_first ls))

      go : (b : Bool) → front (is_selected s t a) (n - l.room) ls ≡ rest (n - l.room) → front (is_selected s t a) n ls ≡ rest n
          → cond (b && selects_by s t a (outline_seen l)) (cond (nat_le l.room n) (step_to l ∷ front (is_selected s t a) (n - l.room) ls) []) (front (is_selected s t a) n ls)
          ≡ by_outline n (map outline_seen (cond b (l ∷ filter is_first ls) (filter is_first ls)))
      go false less same = same
      go true less same =
          ap (λ (xs : List Step). cond (selects_by s t a (outline_seen l)) (cond (nat_le l.room n) (step_to l ∷ xs) []) (front (is_selected s t a) n ls)) less
          ∙ ap (λ (xs : List Step). cond (selects_by s t a (outline_seen l)) (cond (nat_le l.room n) (step_to l ∷ rest (n - l.room)) []) xs) same

  same_rank : (f : model.Link) (o : Option Rank) → is_rank a f o ≡ is_rank_at a f.place o
  same_rank f None = refl
  same_rank f (Some x) = refl

  same_test : (f : model.Link) → selects s t a f ≡ selects_by s t a (outline_of f)
  unfolding selects selects_by
  same_test f = ap (λ b. sound s t (target_of f.says) && cond (node_at t (target_of f.says)).directory (not (s.start (target_of f.says)) && b) (not (is_pointer f.says))) (same_rank f (chosen s t (target_of f.says)))

  model_outline : (n : ℕ) (fs : List model.Link) → by_outline n (map outline_of fs) ≡ map step_of (fit n (filter (selects s t a) fs))
  unfolding by_outline fit
  model_outline n [] = refl
  model_outline n (f ∷ fs) =
      ap (λ b. cond b (cond (nat_le (outline_of f).room n) (step_of f ∷ by_outline (n - (outline_of f).room) (map outline_of fs)) []) (by_outline n (map outline_of fs))) (sym (same_test f))
      ∙ go (selects s t a f) (model_outline (n - (outline_of f).room) fs) (model_outline n fs)
    where
      rest : List model.Link
      rest = filter (selects s t a) fs

      fits : (b : Bool) → by_outline (n - (outline_of f).room) (map outline_of fs) ≡ map step_of (fit (n - (outline_of f).room) rest)
          → cond b (step_of f ∷ by_outline (n - (outline_of f).room) (map outline_of fs)) [] ≡ map step_of (cond b (f ∷ fit (n - (outline_of f).room) rest) [])
      fits true less = ap (λ (xs : List Step). step_of f ∷ xs) less
      fits false less = refl

      go : (b : Bool) → by_outline (n - (outline_of f).room) (map outline_of fs) ≡ map step_of (fit (n - (outline_of f).room) rest) → by_outline n (map outline_of fs) ≡ map step_of (fit n rest)
          → cond b (cond (nat_le (outline_of f).room n) (step_of f ∷ by_outline (n - (outline_of f).room) (map outline_of fs)) []) (by_outline n (map outline_of fs))
          ≡ map step_of (fit n (cond b (f ∷ rest) rest))
      go false less same = same
      go true less same = fits (nat_le (outline_of f).room n) less

  front_is : (n : ℕ) (ls : List Link) → AreLinks (kept_links s t a) ls → front (is_selected s t a) n ls ≡ map step_of (fit n (selected s t a))
  unfolding selected named
  front_is n ls h = code_outline n ls ∙ ap (by_outline n) h.named ∙ model_outline n (first_of_names [] (kept_links s t a))

pub fitted_is : (s : Setting) (t : Tree) (h : Held) → IsHeld s t h → h.sound ≡ true → front (is_selected s t h.at) h.space h.links.items ≡ map step_of (fitted s t h.at)
unfolding fitted
fitted_is s t h k e = front_is s t h.at h.space h.links.items (k.links e) ∙ ap (λ n. map step_of (fit n (selected s t h.at))) (k.space e)
