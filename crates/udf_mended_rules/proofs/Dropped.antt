-- A start without wants and links may be gone from a tree: all else is found, chosen and kept as before.
use Rattle.std.proofs.Common.{◌≡◌, ℕ, zero, suc, List, [], ◌∷◌, ◌++◌, map, length, Bool, true, false, not, ◌&&◌, ◌||◌, cond, Option, Some, None, refl, sym, ap, ◌∙◌}
use Rattle.std.specs.Prelude.{is_some, ◌==◌}
use Rattle.std.specs.List.{list_any, list_all, filter}
use Rattle.std.proofs.Math.Path.{fun_ext}
use Rattle.std.proofs.lemmas.Bool.{false≢true, or_right}
use Rattle.udf_field.specs.declared.address.Addr.{Addr}
use Rattle.udf_tree_model.specs.Link.{Link, is_pointer, target_of}
use Rattle.udf_tree_model.specs.Node.{Item, Node, Setting, Tree, bytes_of, good_length, is_entry, is_none_of, no_node, node_at, node_or, readable, wants}
use Rattle.udf_tree_model.specs.Rounds.{Graph, in_round, reached, round_from, round_of, step}
use Rattle.udf_tree_model.specs.Found.{found, found_graph, leads_to, level, whole_links}
use Rattle.udf_tree_model.specs.Won.{beaten_by_none, bytes_before, holds, kept_length, kept_links, sound, stands_against, wins}
use Rattle.udf_tree_model.specs.Chosen.{Rank, chosen, chosen_link, first_of_names, first_rank, fit, fitted, is_rank, named, rank_of, ranks_in, ranks_over, selected, selects}
use Rattle.udf_tree_model.specs.Kept.{depth, kept, kept_graph}
use Rattle.udf_tree_model.specs.Parent.{is_pointer_rank, is_stream_directory, keeping, keeping_in, keeping_over, keeping_rank}
use Rattle.udf_tree_model.specs.Rules.{is_chosen, is_directory_entry, is_named, names_hold, targets_hold}
use Rattle.udf_tree_model.proofs.Keeping.{edge_sound}

-- a directory without a block, a list and links
abbrev pub unlinked : Node
unlinked = record { directory = true; own = []; list = []; links = λ l. []; space = λ l. 0; enough = λ l. true }

-- with new starts and in a new tree some starts that were unlinked are gone, and nothing else is new
pub record IsDropped (old new : Addr → Bool) (t u : Tree) (gone : Addr → Bool) : Type 0 where
  pub starts : (a : Addr) → new a ≡ (old a && not (gone a))
  pub was_start : (a : Addr) → gone a ≡ true → old a ≡ true
  pub was : (a : Addr) → gone a ≡ true → t a ≡ Some unlinked
  pub none : (a : Addr) → gone a ≡ true → u a ≡ None
  pub same : (a : Addr) → gone a ≡ false → u a ≡ t a

-- what is told of a tree u is what is told of t, but for what is gone
pub record IsSameBut (s q : Setting) (t u : Tree) (gone : Addr → Bool) : Type 0 where
  pub nodes : (a : Addr) → gone a ≡ false → node_at u a ≡ node_at t a
  pub founds : (a : Addr) → found q u a ≡ (found s t a && not (gone a))
  pub all_links : (a : Addr) → whole_links u a ≡ whole_links t a
  pub all_lists : (a : Addr) → (node_at u a).list ≡ (node_at t a).list
  pub winners : (a : Addr) (i : Item) → wins q u a i ≡ wins s t a i
  pub lengths : (a : Addr) → kept_length q u a ≡ kept_length s t a
  pub links_kept : (a : Addr) → kept_links q u a ≡ kept_links s t a
  pub sounds : (a : Addr) → sound q u a ≡ (sound s t a && not (gone a))
  pub choices : (a : Addr) → chosen q u a ≡ chosen s t a
  pub selections : (a : Addr) → selected q u a ≡ selected s t a
  pub fits : (a : Addr) → fitted q u a ≡ fitted s t a
  pub keeps : (a : Addr) → kept q u a ≡ (kept s t a && not (gone a))
  pub keepers : (a : Addr) → keeping q u a ≡ keeping s t a
  pub targets : (a : Addr) → targets_hold q u a ≡ targets_hold s t a
  pub names : (a : Addr) → names_hold q u a ≡ names_hold s t a
  pub streams : (a : Addr) → is_stream_directory q u a ≡ is_stream_directory s t a

pub cases : {P : Type 0} → (b : Bool) → (b ≡ true → P) → (b ≡ false → P) → P
cases true x y = x refl
cases false x y = y refl

pub and_true : (b : Bool) → (b && true) ≡ b
and_true true = refl
and_true false = refl

pub and_false : (b : Bool) → (b && false) ≡ false
and_false true = refl
and_false false = refl

-- where a test is false, and where it is the same
pub stays_in : (x y b : Bool) → y ≡ (x && not b) → b ≡ false → y ≡ x
stays_in x y b e n = e ∙ ap (λ c. x && not c) n ∙ and_true x

pub falls_out : (x y b : Bool) → y ≡ (x && not b) → b ≡ true → y ≡ false
falls_out x y b e n = e ∙ ap (λ c. x && not c) n ∙ and_false x

pub stays_but : (x y b : Bool) → (b ≡ true → y ≡ false) → (b ≡ false → y ≡ x) → y ≡ (x && not b)
stays_but x y true h k = h refl ∙ sym (and_false x)
stays_but x y false h k = k refl ∙ sym (and_true x)

no_any : {X : Type 0} (p : X → Bool) (xs : List X) → ((x : X) → p x ≡ false) → list_any p xs ≡ false
no_any p [] h = refl
no_any p (x ∷ xs) h = ap (λ b. b || list_any p xs) (h x) ∙ no_any p xs h

same_any : {X : Type 0} (p q : X → Bool) (xs : List X) → ((x : X) → p x ≡ q x) → list_any p xs ≡ list_any q xs
same_any {X} p q xs h = ap (λ (r : X → Bool). list_any r xs) (fun_ext h)

same_all : {X : Type 0} (p q : X → Bool) (xs : List X) → ((x : X) → p x ≡ q x) → list_all p xs ≡ list_all q xs
same_all {X} p q xs h = ap (λ (r : X → Bool). list_all r xs) (fun_ext h)

-- ---- rounds
-- of a graph some addresses are gone, from which no edge led and to which none leads
record IsWithout (start lesser : Addr → Bool) (edge fewer : Addr → Addr → Bool) (gone : Addr → Bool) : Type 0 where
  starts : (a : Addr) → lesser a ≡ (start a && not (gone a))
  edges : (d a : Addr) → gone a ≡ false → fewer d a ≡ edge d a
  from_gone : (d a : Addr) → gone d ≡ true → edge d a ≡ false
  into_gone : (d a : Addr) → gone a ≡ true → fewer d a ≡ false

module _ (at : List Addr) (start lesser : Addr → Bool) (edge fewer : Addr → Addr → Bool) (gone : Addr → Bool)
    (d : IsWithout start lesser edge fewer gone) where
  abbrev g : Graph
  g = record { start = start; edge = edge; places = at }

  abbrev h : Graph
  h = record { start = lesser; edge = fewer; places = at }

  module _ (p r : Addr → Bool) (e : (b : Addr) → r b ≡ (p b && not (gone b))) where
    edge_same : (a : Addr) → gone a ≡ false → (b : Addr) → (r b && fewer b a) ≡ (p b && edge b a)
    edge_same a n b = ap (λ x. r b && x) (d.edges b a n) ∙ cases (gone b) off on
      where
        off : gone b ≡ true → (r b && edge b a) ≡ (p b && edge b a)
        off k = ap (λ x. x && edge b a) (falls_out (p b) (r b) (gone b) (e b) k) ∙ sym (ap (λ x. p b && x) (d.from_gone b a k) ∙ and_false (p b))

        on : gone b ≡ false → (r b && edge b a) ≡ (p b && edge b a)
        on k = ap (λ x. x && edge b a) (stays_in (p b) (r b) (gone b) (e b) k)

    step_without : (a : Addr) → step h r a ≡ (step g p a && not (gone a))
    unfolding step
    step_without a = stays_but (p a || list_any (λ b. p b && edge b a) at) (r a || list_any (λ b. r b && fewer b a) at) (gone a) off on
      where
        off : gone a ≡ true → (r a || list_any (λ b. r b && fewer b a) at) ≡ false
        off k =
            ap (λ x. x || list_any (λ b. r b && fewer b a) at) (falls_out (p a) (r a) (gone a) (e a) k)
            ∙ no_any (λ b. r b && fewer b a) at (λ b. ap (λ x. r b && x) (d.into_gone b a k) ∙ and_false (r b))

        on : gone a ≡ false → (r a || list_any (λ b. r b && fewer b a) at) ≡ (p a || list_any (λ b. p b && edge b a) at)
        on k =
            ap (λ x. x || list_any (λ b. r b && fewer b a) at) (stays_in (p a) (r a) (gone a) (e a) k)
            ∙ ap (λ x. p a || x) (same_any (λ b. r b && fewer b a) (λ b. p b && edge b a) at (edge_same a k))

  rounds_without : (k : ℕ) (a : Addr) → in_round h k a ≡ (in_round g k a && not (gone a))
  unfolding in_round
  rounds_without zero a = d.starts a
  rounds_without (suc k) a = step_without (in_round g k) (in_round h k) (rounds_without k) a

  from_without : (n k : ℕ) (a : Addr) → gone a ≡ false → round_from h n k a ≡ round_from g n k a
  unfolding round_from
  from_without zero k a e = refl
  from_without (suc n) k a e =
      ap (λ (b : Bool). cond b k (round_from h n (suc k) a)) (stays_in (in_round g k a) (in_round h k a) (gone a) (rounds_without k a) e)
      ∙ ap (λ (m : ℕ). cond (in_round g k a) k m) (from_without n (suc k) a e)

module _ (s : Setting) (new : Addr → Bool) (t u : Tree) (gone : Addr → Bool) (d : IsDropped s.start new t u gone) where
  abbrev q : Setting
  q = record s { start = new }

  -- ---- nodes
  node_was : (a : Addr) → gone a ≡ true → node_at t a ≡ unlinked
  unfolding node_at
  node_was a k = ap node_or (d.was a k)

  node_is : (a : Addr) → gone a ≡ true → node_at u a ≡ no_node
  unfolding node_at
  node_is a k = ap node_or (d.none a k)

  node_same : (a : Addr) → gone a ≡ false → node_at u a ≡ node_at t a
  unfolding node_at
  node_same a k = ap node_or (d.same a k)

  not_readable : (a : Addr) → gone a ≡ true → readable u a ≡ false
  unfolding readable
  not_readable a k = ap (λ (o : Option Node). is_some o) (d.none a k)

  readable_same : (a : Addr) → gone a ≡ false → readable u a ≡ readable t a
  unfolding readable
  readable_same a k = ap (λ (o : Option Node). is_some o) (d.same a k)

  start_same : (a : Addr) → gone a ≡ false → new a ≡ s.start a
  start_same a k = stays_in (s.start a) (new a) (gone a) (d.starts a) k

  own_same : (a : Addr) → (node_at u a).own ≡ (node_at t a).own
  own_same a =
      cases (gone a) (λ k. ap (λ (n : Node). n.own) (node_is a k) ∙ sym (ap (λ (n : Node). n.own) (node_was a k)))
      (λ k. ap (λ (n : Node). n.own) (node_same a k))

  list_same : (a : Addr) → (node_at u a).list ≡ (node_at t a).list
  list_same a =
      cases (gone a) (λ k. ap (λ (n : Node). n.list) (node_is a k) ∙ sym (ap (λ (n : Node). n.list) (node_was a k)))
      (λ k. ap (λ (n : Node). n.list) (node_same a k))

  links_same : (a : Addr) (l : ℕ) → (node_at u a).links l ≡ (node_at t a).links l
  links_same a l =
      cases (gone a) (λ k. ap (λ (n : Node). n.links l) (node_is a k) ∙ sym (ap (λ (n : Node). n.links l) (node_was a k)))
      (λ k. ap (λ (n : Node). n.links l) (node_same a k))

  no_links : (a : Addr) (l : ℕ) → gone a ≡ true → (node_at t a).links l ≡ []
  no_links a l k = ap (λ (n : Node). n.links l) (node_was a k)

  whole_same : (a : Addr) → whole_links u a ≡ whole_links t a
  unfolding whole_links good_length
  whole_same a = links_same a (good_length u a) ∙ ap (λ (is : List Item). (node_at t a).links (bytes_of is)) (list_same a)

  wants_same : (a : Addr) → wants u a ≡ wants t a
  unfolding wants
  wants_same a = ap (λ (is : List Item). is ++ (node_at u a).list) (own_same a) ∙ ap (λ (is : List Item). (node_at t a).own ++ is) (list_same a)

  no_wants : (a : Addr) → gone a ≡ true → wants t a ≡ []
  unfolding wants
  no_wants a k = ap (λ (n : Node). n.own ++ n.list) (node_was a k)

  -- ---- what is found
  abbrev finds : Addr → Addr → Bool
  finds b a = readable t a && list_any (leads_to a) (whole_links t b)

  abbrev finds_new : Addr → Addr → Bool
  finds_new b a = readable u a && list_any (leads_to a) (whole_links u b)

  found_without : IsWithout (λ a. s.start a && readable t a) (λ a. new a && readable u a) finds finds_new gone
  unfolding whole_links
  found_without = record {
    starts = λ a. stays_but (s.start a && readable t a) (new a && readable u a) (gone a)
        (λ k. ap (λ b. new a && b) (not_readable a k) ∙ and_false (new a))
        (λ k. ap (λ b. b && readable u a) (start_same a k) ∙ ap (λ b. s.start a && b) (readable_same a k));
    edges = λ b a k. ap (λ x. x && list_any (leads_to a) (whole_links u b)) (readable_same a k) ∙ ap (λ (ls : List Link). readable t a && list_any (leads_to a) ls) (whole_same b);
    from_gone = λ b a k. ap (λ (ls : List Link). readable t a && list_any (leads_to a) ls) (no_links b (good_length t b) k) ∙ and_false (readable t a);
    into_gone = λ b a k. ap (λ x. x && list_any (leads_to a) (whole_links u b)) (not_readable a k);
  }

  found_same : (a : Addr) → found q u a ≡ (found s t a && not (gone a))
  unfolding found reached found_graph
  found_same a = rounds_without s.places _ _ finds finds_new gone found_without (length s.places) a

  level_same : (a : Addr) → gone a ≡ false → level q u a ≡ level s t a
  unfolding level round_of found_graph
  level_same a k = from_without s.places _ _ finds finds_new gone found_without (length s.places) 0 a k

  -- ---- what is won
  wins_same : (a : Addr) (i : Item) → wins q u a i ≡ wins s t a i
  unfolding wins
  wins_same a i = ap (λ (b : Bool). not (s.fixed i.at) && (not i.barred && b)) (same_all (beaten_by_none q u a i) (beaten_by_none s t a i) s.places each)
    where
      each : (o : Addr) → beaten_by_none q u a i o ≡ beaten_by_none s t a i o
      each o = cases (gone o) off on
        where
          off : gone o ≡ true → beaten_by_none q u a i o ≡ beaten_by_none s t a i o
          off k =
              ap (λ b. not b || list_all (stands_against a i o) (wants u o)) (falls_out (found s t o) (found q u o) (gone o) (found_same o) k)
              ∙ sym (ap (λ (is : List Item). not (found s t o) || list_all (stands_against a i o) is) (no_wants o k) ∙ or_right (not (found s t o)) true refl)

          on : gone o ≡ false → beaten_by_none q u a i o ≡ beaten_by_none s t a i o
          on k =
              ap (λ b. not b || list_all (stands_against a i o) (wants u o)) (stays_in (found s t o) (found q u o) (gone o) (found_same o) k)
              ∙ ap (λ (is : List Item). not (found s t o) || list_all (stands_against a i o) is) (wants_same o)

  holds_same : (a : Addr) (i : Item) → holds q u a i ≡ holds s t a i
  unfolding holds
  holds_same a i = ap (λ (b : Bool). not i.takes || b) (wins_same a i)

  length_same : (a : Addr) → kept_length q u a ≡ kept_length s t a
  unfolding kept_length
  length_same a =
      ap (λ (p : Item → Bool). bytes_before p (node_at u a).list) (fun_ext (holds_same a))
      ∙ ap (λ (is : List Item). bytes_before (holds s t a) is) (list_same a)

  kept_links_same : (a : Addr) → kept_links q u a ≡ kept_links s t a
  unfolding kept_links
  kept_links_same a = links_same a (kept_length q u a) ∙ ap (λ (l : ℕ). (node_at t a).links l) (length_same a)

  sound_same : (a : Addr) → sound q u a ≡ (sound s t a && not (gone a))
  unfolding sound
  sound_same a =
      stays_but (found s t a && (list_all (wins s t a) (node_at t a).own && (not (node_at t a).directory || (node_at t a).enough (kept_length s t a))))
      (found q u a && (list_all (wins q u a) (node_at u a).own && (not (node_at u a).directory || (node_at u a).enough (kept_length q u a)))) (gone a) off on
    where
      off : gone a ≡ true → (found q u a && (list_all (wins q u a) (node_at u a).own && (not (node_at u a).directory || (node_at u a).enough (kept_length q u a)))) ≡ false
      off k =
          ap (λ b. b && (list_all (wins q u a) (node_at u a).own && (not (node_at u a).directory || (node_at u a).enough (kept_length q u a))))
          (falls_out (found s t a) (found q u a) (gone a) (found_same a) k)

      on : gone a ≡ false → (found q u a && (list_all (wins q u a) (node_at u a).own && (not (node_at u a).directory || (node_at u a).enough (kept_length q u a))))
          ≡ (found s t a && (list_all (wins s t a) (node_at t a).own && (not (node_at t a).directory || (node_at t a).enough (kept_length s t a))))
      on k =
          ap (λ b. b && (list_all (wins q u a) (node_at u a).own && (not (node_at u a).directory || (node_at u a).enough (kept_length q u a))))
          (stays_in (found s t a) (found q u a) (gone a) (found_same a) k)
          ∙ ap (λ (p : Item → Bool). found s t a && (list_all p (node_at u a).own && (not (node_at u a).directory || (node_at u a).enough (kept_length q u a)))) (fun_ext (wins_same a))
          ∙ ap (λ (l : ℕ). found s t a && (list_all (wins s t a) (node_at u a).own && (not (node_at u a).directory || (node_at u a).enough l))) (length_same a)
          ∙ ap (λ (n : Node). found s t a && (list_all (wins s t a) n.own && (not n.directory || n.enough (kept_length s t a)))) (node_same a k)

  not_sound : (a : Addr) → gone a ≡ true → sound q u a ≡ false
  not_sound a k = falls_out (sound s t a) (sound q u a) (gone a) (sound_same a) k

  still_sound : (a : Addr) → gone a ≡ false → sound q u a ≡ sound s t a
  still_sound a k = stays_in (sound s t a) (sound q u a) (gone a) (sound_same a) k

  -- ---- what is chosen
  named_same : (a : Addr) → named q u a ≡ named s t a
  unfolding named
  named_same a = ap (λ (l : List Link). first_of_names [] l) (kept_links_same a)

  none_named : (a : Addr) → gone a ≡ true → named s t a ≡ []
  unfolding named kept_links first_of_names
  none_named a k = ap (λ (l : List Link). first_of_names [] l) (no_links a (kept_length s t a) k)

  ranks_same : (a b : Addr) → ranks_in q u a b ≡ ranks_in s t a b
  unfolding ranks_in rank_of
  ranks_same a b = cases (gone b) off on
    where
      empty : (c : Bool) → cond c (map (rank_of s t b) (filter (leads_to a) [])) [] ≡ []
      empty true = refl
      empty false = refl

      off : gone b ≡ true → cond (sound q u b) (map (rank_of q u b) (filter (leads_to a) (named q u b))) [] ≡ cond (sound s t b) (map (rank_of s t b) (filter (leads_to a) (named s t b))) []
      off k =
          ap (λ c. cond c (map (rank_of q u b) (filter (leads_to a) (named q u b))) []) (not_sound b k)
          ∙ sym (ap (λ (ls : List Link). cond (sound s t b) (map (rank_of s t b) (filter (leads_to a) ls)) []) (none_named b k) ∙ empty (sound s t b))

      on : gone b ≡ false → cond (sound q u b) (map (rank_of q u b) (filter (leads_to a) (named q u b))) [] ≡ cond (sound s t b) (map (rank_of s t b) (filter (leads_to a) (named s t b))) []
      on k =
          ap (λ c. cond c (map (rank_of q u b) (filter (leads_to a) (named q u b))) []) (still_sound b k)
          ∙ ap (λ (ls : List Link). cond (sound s t b) (map (rank_of q u b) (filter (leads_to a) ls)) []) (named_same b)
          ∙ ap (λ (n : ℕ). cond (sound s t b) (map (λ (f : Link). let x : Rank = record { level = n; holder = b; place = f.place } in x) (filter (leads_to a) (named s t b))) []) (level_same b k)

  ranks_over_same : (a : Addr) (bs : List Addr) → ranks_over q u a bs ≡ ranks_over s t a bs
  unfolding ranks_over
  ranks_over_same a [] = refl
  ranks_over_same a (b ∷ bs) = ap (λ (l : List Rank). l ++ ranks_over q u a bs) (ranks_same a b) ∙ ap (λ (l : List Rank). ranks_in s t a b ++ l) (ranks_over_same a bs)

  chosen_same : (a : Addr) → chosen q u a ≡ chosen s t a
  unfolding chosen
  chosen_same a = ap first_rank (ranks_over_same a s.places)

  selects_same : (b : Addr) (f : Link) → selects q u b f ≡ selects s t b f
  unfolding selects
  selects_same b f = cases (gone (target_of f.says)) off on
    where
      x : Addr
      x = target_of f.says

      off : gone (target_of f.says) ≡ true → (sound q u x && cond (node_at u x).directory (not (new x) && is_rank b f (chosen q u x)) (not (is_pointer f.says)))
          ≡ (sound s t x && cond (node_at t x).directory (not (s.start x) && is_rank b f (chosen s t x)) (not (is_pointer f.says)))
      off k =
          ap (λ c. c && cond (node_at u x).directory (not (new x) && is_rank b f (chosen q u x)) (not (is_pointer f.says))) (not_sound x k)
          ∙ sym (
          ap (λ (n : Node). sound s t x && cond n.directory (not (s.start x) && is_rank b f (chosen s t x)) (not (is_pointer f.says))) (node_was x k)
          ∙ ap (λ c. sound s t x && (not c && is_rank b f (chosen s t x))) (d.was_start x k)
          ∙ and_false (sound s t x))

      on : gone (target_of f.says) ≡ false → (sound q u x && cond (node_at u x).directory (not (new x) && is_rank b f (chosen q u x)) (not (is_pointer f.says)))
          ≡ (sound s t x && cond (node_at t x).directory (not (s.start x) && is_rank b f (chosen s t x)) (not (is_pointer f.says)))
      on k =
          ap (λ c. c && cond (node_at u x).directory (not (new x) && is_rank b f (chosen q u x)) (not (is_pointer f.says))) (still_sound x k)
          ∙ ap (λ (n : Node). sound s t x && cond n.directory (not (new x) && is_rank b f (chosen q u x)) (not (is_pointer f.says))) (node_same x k)
          ∙ ap (λ c. sound s t x && cond (node_at t x).directory (not c && is_rank b f (chosen q u x)) (not (is_pointer f.says))) (start_same x k)
          ∙ ap (λ (o : Option Rank). sound s t x && cond (node_at t x).directory (not (s.start x) && is_rank b f o) (not (is_pointer f.says))) (chosen_same x)

  selected_same : (a : Addr) → selected q u a ≡ selected s t a
  unfolding selected
  selected_same a =
      ap (λ (p : Link → Bool). filter p (named q u a)) (fun_ext (selects_same a))
      ∙ ap (λ (ls : List Link). filter (selects s t a) ls) (named_same a)

  none_selected : (a : Addr) → gone a ≡ true → selected s t a ≡ []
  unfolding selected
  none_selected a k = ap (λ (ls : List Link). filter (selects s t a) ls) (none_named a k)

  none_fitted : (a : Addr) → gone a ≡ true → fitted s t a ≡ []
  unfolding fitted fit
  none_fitted a k = ap (λ (ls : List Link). fit ((node_at t a).space (kept_length s t a)) ls) (none_selected a k)

  fitted_same : (a : Addr) → fitted q u a ≡ fitted s t a
  unfolding fitted fit
  fitted_same a = ap (λ (ls : List Link). fit ((node_at u a).space (kept_length q u a)) ls) (selected_same a) ∙ cases (gone a) off on
    where
      off : gone a ≡ true → fit ((node_at u a).space (kept_length q u a)) (selected s t a) ≡ fit ((node_at t a).space (kept_length s t a)) (selected s t a)
      off k =
          ap (λ (ls : List Link). fit ((node_at u a).space (kept_length q u a)) ls) (none_selected a k)
          ∙ sym (ap (λ (ls : List Link). fit ((node_at t a).space (kept_length s t a)) ls) (none_selected a k))

      on : gone a ≡ false → fit ((node_at u a).space (kept_length q u a)) (selected s t a) ≡ fit ((node_at t a).space (kept_length s t a)) (selected s t a)
      on k =
          ap (λ (l : ℕ). fit ((node_at u a).space l) (selected s t a)) (length_same a)
          ∙ ap (λ (n : Node). fit (n.space (kept_length s t a)) (selected s t a)) (node_same a k)

  -- ---- what is kept
  abbrev leads : Addr → Addr → Bool
  leads b a = list_any (leads_to a) (fitted s t b)

  abbrev leads_new : Addr → Addr → Bool
  leads_new b a = list_any (leads_to a) (fitted q u b)

  none_lead : (b a : Addr) → gone a ≡ true → leads_new b a ≡ false
  unfolding kept_graph
  none_lead b a k = by (leads_new b a) refl
    where
      by : (c : Bool) → leads_new b a ≡ c → leads_new b a ≡ false
      by false e = e
      by true e = absurd (false≢true (sym (not_sound a k) ∙ edge_sound q u b a e))

  kept_without : IsWithout s.start new leads leads_new gone
  kept_without = record {
    starts = d.starts;
    edges = λ b a k. ap (λ (ls : List Link). list_any (leads_to a) ls) (fitted_same b);
    from_gone = λ b a k. ap (λ (ls : List Link). list_any (leads_to a) ls) (none_fitted b k);
    into_gone = none_lead;
  }

  kept_same : (a : Addr) → kept q u a ≡ (kept s t a && not (gone a))
  unfolding kept reached kept_graph
  kept_same a = rounds_without s.places s.start new leads leads_new gone kept_without (length s.places) a

  depth_same : (a : Addr) → gone a ≡ false → depth q u a ≡ depth s t a
  unfolding depth round_of kept_graph
  depth_same a k = from_without s.places s.start new leads leads_new gone kept_without (length s.places) 0 a k

  keeping_in_same : (a b : Addr) → keeping_in q u a b ≡ keeping_in s t a b
  unfolding keeping_in keeping_rank
  keeping_in_same a b = cases (gone b) off on
    where
      empty : (c : Bool) → cond c (map (keeping_rank s t b) (filter (leads_to a) [])) [] ≡ []
      empty true = refl
      empty false = refl

      off : gone b ≡ true → cond (kept q u b) (map (keeping_rank q u b) (filter (leads_to a) (fitted q u b))) []
          ≡ cond (kept s t b) (map (keeping_rank s t b) (filter (leads_to a) (fitted s t b))) []
      off k =
          ap (λ c. cond c (map (keeping_rank q u b) (filter (leads_to a) (fitted q u b))) []) (falls_out (kept s t b) (kept q u b) (gone b) (kept_same b) k)
          ∙ sym (ap (λ (ls : List Link). cond (kept s t b) (map (keeping_rank s t b) (filter (leads_to a) ls)) []) (none_fitted b k) ∙ empty (kept s t b))

      on : gone b ≡ false → cond (kept q u b) (map (keeping_rank q u b) (filter (leads_to a) (fitted q u b))) []
          ≡ cond (kept s t b) (map (keeping_rank s t b) (filter (leads_to a) (fitted s t b))) []
      on k =
          ap (λ c. cond c (map (keeping_rank q u b) (filter (leads_to a) (fitted q u b))) []) (stays_in (kept s t b) (kept q u b) (gone b) (kept_same b) k)
          ∙ ap (λ (ls : List Link). cond (kept s t b) (map (keeping_rank q u b) (filter (leads_to a) ls)) []) (fitted_same b)
          ∙ ap (λ (n : ℕ). cond (kept s t b) (map (λ (f : Link). let x : Rank = record { level = n; holder = b; place = f.place } in x) (filter (leads_to a) (fitted s t b))) []) (depth_same b k)

  keeping_over_same : (a : Addr) (bs : List Addr) → keeping_over q u a bs ≡ keeping_over s t a bs
  unfolding keeping_over
  keeping_over_same a [] = refl
  keeping_over_same a (b ∷ bs) =
      ap (λ (l : List Rank). l ++ keeping_over q u a bs) (keeping_in_same a b) ∙ ap (λ (l : List Rank). keeping_in s t a b ++ l) (keeping_over_same a bs)

  keeping_same : (a : Addr) → keeping q u a ≡ keeping s t a
  unfolding keeping
  keeping_same a = ap first_rank (keeping_over_same a s.places)

  -- ---- rules on links
  was_no_entry : (a : Addr) → gone a ≡ true → is_entry s t a ≡ false
  unfolding is_entry
  was_no_entry a k =
      ap (λ b. not (b && is_none_of (node_at t a).own)) (d.was_start a k)
      ∙ ap (λ (n : Node). not (is_none_of n.own)) (node_was a k)

  entry_same : (a : Addr) → gone a ≡ false → is_entry q u a ≡ is_entry s t a
  unfolding is_entry
  entry_same a k =
      ap (λ b. not (b && is_none_of (node_at u a).own)) (start_same a k)
      ∙ ap (λ (is : List Item). not (s.start a && is_none_of is)) (own_same a)

  targets_same : (a : Addr) → targets_hold q u a ≡ targets_hold s t a
  unfolding targets_hold
  targets_same a =
      same_all (λ (f : Link). is_pointer f.says || (sound q u (target_of f.says) && is_entry q u (target_of f.says)))
      (λ (f : Link). is_pointer f.says || (sound s t (target_of f.says) && is_entry s t (target_of f.says))) (kept_links q u a)
      (λ f. ap (λ b. is_pointer f.says || b) (each (target_of f.says)))
      ∙ ap (λ (ls : List Link). list_all (λ (f : Link). is_pointer f.says || (sound s t (target_of f.says) && is_entry s t (target_of f.says))) ls) (kept_links_same a)
    where
      each : (x : Addr) → (sound q u x && is_entry q u x) ≡ (sound s t x && is_entry s t x)
      each x =
          cases (gone x)
          (λ k. ap (λ b. b && is_entry q u x) (not_sound x k) ∙ sym (ap (λ b. sound s t x && b) (was_no_entry x k) ∙ and_false (sound s t x)))
          (λ k. ap (λ b. b && is_entry q u x) (still_sound x k) ∙ ap (λ b. sound s t x && b) (entry_same x k))

  directory_entry_same : (x : Addr) → is_directory_entry q u x ≡ is_directory_entry s t x
  directory_entry_same x =
      cases (gone x)
      (λ k. ap (λ (n : Node). n.directory && is_entry q u x) (node_is x k)
      ∙ sym (ap (λ (n : Node). n.directory && is_entry s t x) (node_was x k) ∙ was_no_entry x k))
      (λ k. ap (λ (n : Node). n.directory && is_entry q u x) (node_same x k) ∙ ap (λ b. (node_at t x).directory && b) (entry_same x k))

  chosen_links_same : (a : Addr) (f : Link)
      → (not (is_directory_entry q u (target_of f.says)) || is_chosen q u a f) ≡ (not (is_directory_entry s t (target_of f.says)) || is_chosen s t a f)
  chosen_links_same a f =
      ap (λ b. not b || is_chosen q u a f) (directory_entry_same (target_of f.says))
      ∙ cases (gone (target_of f.says)) off on
    where
      x : Addr
      x = target_of f.says

      none : gone (target_of f.says) ≡ true → is_directory_entry s t x ≡ false
      none k = ap (λ b. (node_at t x).directory && b) (was_no_entry x k) ∙ and_false (node_at t x).directory

      off : gone (target_of f.says) ≡ true → (not (is_directory_entry s t x) || is_chosen q u a f) ≡ (not (is_directory_entry s t x) || is_chosen s t a f)
      off k = ap (λ b. not b || is_chosen q u a f) (none k) ∙ sym (ap (λ b. not b || is_chosen s t a f) (none k))

      on : gone (target_of f.says) ≡ false → (not (is_directory_entry s t x) || is_chosen q u a f) ≡ (not (is_directory_entry s t x) || is_chosen s t a f)
      on k =
          ap (λ b. not (is_directory_entry s t x) || (not b && is_rank a f (chosen q u x))) (start_same x k)
          ∙ ap (λ (o : Option Rank). not (is_directory_entry s t x) || (not (s.start x) && is_rank a f o)) (chosen_same x)

  names_same : (a : Addr) → names_hold q u a ≡ names_hold s t a
  unfolding names_hold
  names_same a =
      same_all (λ (f : Link). is_pointer f.says || (is_named q u a f && (not (is_directory_entry q u (target_of f.says)) || is_chosen q u a f)))
      (λ (f : Link). is_pointer f.says || (is_named s t a f && (not (is_directory_entry s t (target_of f.says)) || is_chosen s t a f))) (kept_links q u a) each
      ∙ ap (λ (ls : List Link). list_all (λ (f : Link). is_pointer f.says || (is_named s t a f && (not (is_directory_entry s t (target_of f.says)) || is_chosen s t a f))) ls) (kept_links_same a)
    where
      is_named_same : (f : Link) → is_named q u a f ≡ is_named s t a f
      is_named_same f = ap (λ (ls : List Link). list_any (λ g. g.place == f.place) ls) (named_same a)

      each : (f : Link) → (is_pointer f.says || (is_named q u a f && (not (is_directory_entry q u (target_of f.says)) || is_chosen q u a f)))
          ≡ (is_pointer f.says || (is_named s t a f && (not (is_directory_entry s t (target_of f.says)) || is_chosen s t a f)))
      each f =
          ap (λ b. is_pointer f.says || (b && (not (is_directory_entry q u (target_of f.says)) || is_chosen q u a f))) (is_named_same f)
          ∙ ap (λ b. is_pointer f.says || (is_named s t a f && b)) (chosen_links_same a f)

  -- ---- stream directories
  streams_same : (a : Addr) → is_stream_directory q u a ≡ is_stream_directory s t a
  unfolding is_stream_directory chosen_link
  streams_same a = cases (gone a) off on
    where
      off : gone a ≡ true → (kept q u a && ((node_at u a).directory && is_pointer_rank (cond (new a) None (chosen q u a))))
          ≡ (kept s t a && ((node_at t a).directory && is_pointer_rank (cond (s.start a) None (chosen s t a))))
      off k =
          ap (λ b. b && ((node_at u a).directory && is_pointer_rank (cond (new a) None (chosen q u a)))) (falls_out (kept s t a) (kept q u a) (gone a) (kept_same a) k)
          ∙ sym (
          ap (λ b. kept s t a && ((node_at t a).directory && is_pointer_rank (cond b None (chosen s t a)))) (d.was_start a k)
          ∙ ap (λ b. kept s t a && b) (and_false (node_at t a).directory)
          ∙ and_false (kept s t a))

      on : gone a ≡ false → (kept q u a && ((node_at u a).directory && is_pointer_rank (cond (new a) None (chosen q u a))))
          ≡ (kept s t a && ((node_at t a).directory && is_pointer_rank (cond (s.start a) None (chosen s t a))))
      on k =
          ap (λ b. b && ((node_at u a).directory && is_pointer_rank (cond (new a) None (chosen q u a)))) (stays_in (kept s t a) (kept q u a) (gone a) (kept_same a) k)
          ∙ ap (λ (n : Node). kept s t a && (n.directory && is_pointer_rank (cond (new a) None (chosen q u a)))) (node_same a k)
          ∙ ap (λ b. kept s t a && ((node_at t a).directory && is_pointer_rank (cond b None (chosen q u a)))) (start_same a k)
          ∙ ap (λ (o : Option Rank). kept s t a && ((node_at t a).directory && is_pointer_rank (cond (s.start a) None o))) (chosen_same a)

  pub dropped_same : IsSameBut s (record s { start = new }) t u gone
  dropped_same = record {
    nodes = node_same;
    founds = found_same;
    all_links = whole_same;
    all_lists = list_same;
    winners = wins_same;
    lengths = length_same;
    links_kept = kept_links_same;
    sounds = sound_same;
    choices = chosen_same;
    selections = selected_same;
    fits = fitted_same;
    keeps = kept_same;
    keepers = keeping_same;
    targets = targets_same;
    names = names_same;
    streams = streams_same;
  }
