-- How a found entry stands, by what the code keeps of it and by the claims.
use Rattle.std.proofs.Common.{◌≡◌, ◌⊎◌, ℕ, zero, suc, ◌+◌, ◌-◌, ◌*◌, ◌^◌, ◌<◌, ◌≤◌, List, [], ◌∷◌, ◌++◌, map, length, take, get_or, Bool, true, false, not, ◌&&◌, ◌||◌, cond, Option, Some, None, refl, sym, ap, ◌∙◌, subst, inl, inr, arith}
use Rattle.std.specs.Prelude.{All, is_some, min, nat_le, ◌==◌}
use Rattle.std.specs.List.{list_all, range_with_len}
use Rattle.std.proofs.lemmas.List.{append-nil, length-take, take_more}
use Rattle.std.proofs.lemmas.Bool.{and_parts, and_from, cases_lt, or_right, false≢true}
use Rattle.std.proofs.lemmas.Bool.Decides.{nat_tests}
use Rattle.std.proofs.lemmas.List.Folds.{list_all-append}
use Rattle.udf_field.specs.declared.address.Addr.{Addr}
use Rattle.udf_file_model.specs.Address.{addr, same_addr}
use Rattle.udf_file_model.specs.Descriptors.{Descriptor}
use Rattle.udf_file_model.specs.Entry.{Entry, is_directory}
use Rattle.udf_file_model.specs.Pieces.{Blocks, Extent, Piece, blocks_each, bytes_in, runs_of, size_of}
use Rattle.udf_file_model.specs.Front.{Past, Rules, blocks_for, extent_passes, front_of, good_front, is_hole, is_new, may_come, new_blocks, new_in, nothing_yet, run_front as front_run, run_passes, with_extent, with_run}
use Rattle.udf_file_model.specs.Listing.{Volume, addresses, addresses_from, flat_for, good_length, is_extent, is_placed, list_for, rules_for}
use Rattle.udf_file_model.proofs.Apart.{front_placed}
use Rattle.udf_file_model.proofs.Counts.{front_less}
use Rattle.udf_file_model.specs.Content.{content, runs_bytes}
use Rattle.udf_claims.specs.Winner as claims
use Rattle.udf_claims.specs.Winner.{number}
use Rattle.udf_claims.specs.declared.run.Run.{Run}
use Rattle.udf_entry.proofs.Passing.{may_come_small}
use Rattle.udf_tree_model.specs.Among.{Member}
use Rattle.udf_tree_model.specs.Node.{Item, Node, Setting, Tree, good_length as tree_length, node_at, node_or, wants}
use Rattle.udf_tree_model.specs.Found.{found}
use Rattle.udf_tree_model.specs.Won.{IsWant, bytes_before, holds, kept_length, sound, wins}
use Rattle.udf_tree_model.specs.Frame.{Frame, block_class, block_item, content_to, empty_item, entry_at, extent_class, extent_item, fresh_parent_length, holder_by, holder_node, is_barred, is_file_set, is_first, is_holder, items, items_of, node_by, node_with, own_item, run_items, setting_of, tree_of}
use Rattle.udf_tree_model.proofs.Members.{contains_of, member_left, member_map, member_right, same_bools}
use Rattle.udf_tree_model.proofs.Places.{same_address}
use Rattle.udf_tree_model.proofs.Stating.{items_bytes, length_is, node_is}
use Rattle.udf_found.specs.declared.arena.Found as arena
use Rattle.udf_held.specs.declared.standing.Front.{Front}
use Rattle.udf_held.specs.declared.standing.Standing.{Standing}
use Rattle.udf_held.specs.Standing.{AreBelow, AreStanding, IsFront, IsStanding, is_bar, piece_items, stands}
use Rattle.udf_found.specs.Target.{linking}
use Rattle.udf_held.specs.Winners.{TellsWinners}
use Rattle.udf_held.proofs.Fronting.{FailsAt, all_before, before_within, run_all, run_before, same_all, same_before, some_before}

-- ---- one run
member_range : (m n k : ℕ) → k < n → Member (m + k) (range_with_len m n)
member_range m zero k l = absurd (omega (arith, l))
member_range m (suc n) zero l = inl (omega arith)
member_range m (suc n) (suc k) l =
    let e : m + 1 + k ≡ m + suc k = omega arith in
    inr (subst (λ (x : ℕ). Member x (range_with_len (m + 1) n)) e (member_range (m + 1) n k (omega (arith, l))))

block_address : (size : ℕ) (d : Descriptor) (k : ℕ) → is_hole d ≡ false → k < blocks_for size d.length → Member (addr d.at.part (d.at.block + k)) (addresses size (Blocks d ∷ []))
block_address size d k h l =
    member_left (cond (is_hole d) [] (addresses_from d.at (blocks_for size d.length))) [] (addr d.at.part (d.at.block + k))
    (subst (λ (b : Bool). Member (addr d.at.part (d.at.block + k)) (cond b [] (addresses_from d.at (blocks_for size d.length)))) (sym h)
    (member_map (λ block. addr d.at.part block) (range_with_len d.at.block (blocks_for size d.length)) (d.at.block + k) (member_range d.at.block (blocks_for size d.length) k l)))

-- all of a run's blocks stand in its part
pub blocks_within : (blocks : ℕ → ℕ) (size : ℕ) (d : Descriptor) → is_hole d ≡ false → AreBelow blocks (addresses size (Blocks d ∷ []))
    → blocks_for size d.length ≤ blocks d.at.part - d.at.block
blocks_within blocks size d h w = by_count (blocks_for size d.length) refl
  where
    by_count : (n : ℕ) → blocks_for size d.length ≡ n → n ≤ blocks d.at.part - d.at.block
    by_count zero e = omega arith
    by_count (suc n) e = let l = w.low (addr d.at.part (d.at.block + n)) (block_address size d n h (omega (arith, e))) in omega (arith, l)

module _ (size class : ℕ) (some : 0 < size) (rs : List Run) (owner : ℕ) (bar : Option Addr) (d : Descriptor) (hole : is_hole d ≡ false) (free won : ℕ)
    (w : won ≤ free) (k : (k : ℕ) → k < won → claims.wins rs owner (addr d.at.part (d.at.block + k)) ≡ true) (l : won < free → claims.wins rs owner (addr d.at.part (d.at.block + won)) ≡ false)
    (o : free ≤ blocks_for size d.length) (p : (k : ℕ) → k < free → is_bar bar (addr d.at.part (d.at.block + k)) ≡ false) (b : free < blocks_for size d.length → is_bar bar (addr d.at.part (d.at.block + free)) ≡ true) where
  fails_at : FailsAt size class (is_bar bar) some (stands rs owner) d 0 (blocks_for size d.length) won
  fails_at = record {
    low = omega arith;
    high = omega (arith, w, o);
    passes = λ j i g. and_from (not (is_bar bar (addr d.at.part (d.at.block + j)))) _ (ap (λ (c : Bool). not c) (p j (omega (arith, g, w)))) (k j g);
    fails = λ g. last (cases_lt won free) (omega (arith, g));
  }
    where
      never : (c : Bool) → (c && false) ≡ false
      never true = refl
      never false = refl

      last : (won < free) ⊎ (free ≤ won) → won < blocks_for size d.length → (not (is_bar bar (addr d.at.part (d.at.block + won))) && claims.wins rs owner (addr d.at.part (d.at.block + won))) ≡ false
      last (inl g) h = ap (λ (c : Bool). not (is_bar bar (addr d.at.part (d.at.block + won))) && c) (l g) ∙ never (not (is_bar bar (addr d.at.part (d.at.block + won))))
      last (inr g) h =
          let same : won ≡ free = omega (arith, g, w) in
          ap (λ (n : ℕ). not (is_bar bar (addr d.at.part (d.at.block + n))) && claims.wins rs owner (addr d.at.part (d.at.block + n))) same
          ∙ ap (λ (c : Bool). not c && claims.wins rs owner (addr d.at.part (d.at.block + free))) (b (omega (arith, same, h)))

  pub run_front : (front : Front) → front.bytes ≡ min (won * size) d.length → front.whole ≡ (won == blocks_for size d.length)
      → IsFront (stands rs owner) (run_items size class (is_bar bar) d) front
  run_front front e f = record {
    bytes = e ∙ sym (run_before size class (is_bar bar) some (stands rs owner) d won hole fails_at);
    whole = f ∙ sym (run_all size class (is_bar bar) some (stands rs owner) d won hole fails_at);
  }

pub is_equal : (m n : ℕ) → m ≡ n → (m == n) ≡ true
is_equal m n e = grind (arith, nat_tests)

pub is_other : (m n : ℕ) → (m ≡ n → ⊥) → (m == n) ≡ false
is_other m n e = by_test (m == n) refl
  where
    by_test : (b : Bool) → (m == n) ≡ b → (m == n) ≡ false
    by_test false k = k
    by_test true k = let i : m ≡ n = grind (arith, nat_tests) in absurd (e i)

pub is_true : (b : Bool) → not b ≡ false → b ≡ true
is_true true e = refl
is_true false e = sym e

pub is_false : (b : Bool) → not b ≡ true → b ≡ false
is_false true e = sym e
is_false false e = refl

pub hole_front : (size class : ℕ) (rs : List Run) (owner : ℕ) (bar : Option Addr) (d : Descriptor) (front : Front) → is_hole d ≡ true → front.bytes ≡ d.length → front.whole ≡ true
    → IsFront (stands rs owner) (run_items size class (is_bar bar) d) front
unfolding run_items bytes_before
hole_front size class rs owner bar d front h e f =
    subst (λ (c : Bool). IsFront (stands rs owner) (cond c (empty_item d.length ∷ []) (map (block_item size class (is_bar bar) d) (range_with_len d.at.block (blocks_for size d.length)))) front) (sym h)
    (record { bytes = e ∙ omega arith; whole = f })

pub extent_front : (class : ℕ) (rs : List Run) (owner : ℕ) (x : Addr) (front : Front) → front.bytes ≡ 0 → front.whole ≡ claims.wins rs owner x
    → IsFront (stands rs owner) (extent_item class x ∷ []) front
unfolding bytes_before
extent_front class rs owner x front e f = record { bytes = e ∙ nothing (claims.wins rs owner x); whole = f ∙ alone (claims.wins rs owner x) }
  where
    nothing : (c : Bool) → 0 ≡ cond c (0 + 0) 0
    nothing true = refl
    nothing false = refl

    alone : (c : Bool) → c ≡ (c && true)
    alone true = refl
    alone false = refl

-- ---- a list
pieces_more : (size c1 c2 : ℕ) (barred : Addr → Bool) (p : Piece) (ps : List Piece) → items size c1 c2 barred (p ∷ ps) ≡ piece_items size c1 c2 barred p ++ items size c1 c2 barred ps
unfolding items
pieces_more size c1 c2 barred (Extent x) ps = refl
pieces_more size c1 c2 barred (Blocks d) ps = refl

module _ (size c1 c2 : ℕ) (some : 0 < size) (barred : Addr → Bool) (test : Item → Bool) where
  abbrev ahead : List Piece → ℕ
  ahead ps = bytes_before test (items size c1 c2 barred ps)

  whole_front : (p : Piece) (ps : List Piece) → list_all test (piece_items size c1 c2 barred p) ≡ true
      → ahead (p ∷ ps) ≡ bytes_before test (piece_items size c1 c2 barred p) + ahead ps
  whole_front p ps k = ap (bytes_before test) (pieces_more size c1 c2 barred p ps) ∙ all_before test (piece_items size c1 c2 barred p) (items size c1 c2 barred ps) k

  lost_front : (p : Piece) (ps : List Piece) → list_all test (piece_items size c1 c2 barred p) ≡ false → ahead (p ∷ ps) ≡ bytes_before test (piece_items size c1 c2 barred p)
  lost_front p ps k = ap (bytes_before test) (pieces_more size c1 c2 barred p ps) ∙ some_before test (piece_items size c1 c2 barred p) (items size c1 c2 barred ps) k

  pub front_small : (ps : List Piece) → size_of ps < 2 ^ 63 → ahead ps < 2 ^ 63
  front_small ps l =
      let w = before_within test (items size c1 c2 barred ps) in
      let e = items_bytes size c2 barred some c1 ps in
      omega (arith, w, e, l)

  -- a piece more: where nothing of it is lost the rest counts on, else it is the last
  pub next_front : (p : Piece) (ps : List Piece) (front : Front) (kept new total : ℕ) → IsFront test (piece_items size c1 c2 barred p) front → front.whole ≡ true
      → kept + ahead (p ∷ ps) ≡ total → total < 2 ^ 63 → new ≡ min (kept + front.bytes) 18446744073709551615 → new + ahead ps ≡ total
  next_front p ps front kept new total h w e l n =
      let r = whole_front p ps (sym h.whole ∙ w) in
      let b = h.bytes in
      omega (arith, r, b, e, l, n)

  pub last_front : (p : Piece) (ps : List Piece) (front : Front) (kept new total : ℕ) → IsFront test (piece_items size c1 c2 barred p) front → front.whole ≡ false
      → kept + ahead (p ∷ ps) ≡ total → total < 2 ^ 63 → new ≡ min (kept + front.bytes) 18446744073709551615 → new ≡ total
  last_front p ps front kept new total h w e l n =
      let r = lost_front p ps (sym h.whole ∙ w) in
      let b = h.bytes in
      omega (arith, r, b, e, l, n)

  abbrev all : List Piece → Bool
  all ps = list_all test (items size c1 c2 barred ps)

  whole_more : (p : Piece) (ps : List Piece) (front : Front) (b total : Bool) → IsFront test (piece_items size c1 c2 barred p) front → front.whole ≡ b → all (p ∷ ps) ≡ total → (b && all ps) ≡ total
  whole_more p ps front b total h w e =
      ap (λ (c : Bool). c && all ps) (sym w ∙ h.whole)
      ∙ sym (list_all-append test (piece_items size c1 c2 barred p) (items size c1 c2 barred ps))
      ∙ ap (list_all test) (sym (pieces_more size c1 c2 barred p ps))
      ∙ e

  pub next_whole : (p : Piece) (ps : List Piece) (front : Front) (total : Bool) → IsFront test (piece_items size c1 c2 barred p) front → front.whole ≡ true → all (p ∷ ps) ≡ total → all ps ≡ total
  next_whole p ps front total h w e = whole_more p ps front true total h w e

  pub last_whole : (p : Piece) (ps : List Piece) (front : Front) (total : Bool) → IsFront test (piece_items size c1 c2 barred p) front → front.whole ≡ false → all (p ∷ ps) ≡ total → false ≡ total
  last_whole p ps front total h w e = whole_more p ps front false total h w e

pub below_piece : (blocks : ℕ → ℕ) (size : ℕ) (p : Piece) (ps : List Piece) → Member p ps → AreBelow blocks (addresses size ps) → AreBelow blocks (addresses size (p ∷ []))
below_piece blocks size p ps m w = record { low = λ x k. w.low x (among p ps m x k) }
  where
    first : (p : Piece) (ps : List Piece) (x : Addr) → Member x (addresses size (p ∷ [])) → Member x (addresses size (p ∷ ps))
    first (Extent y) ps x (inl e) = inl e
    first (Extent y) ps x (inr n) = absurd n
    first (Blocks d) ps x n = member_left (cond (is_hole d) [] (addresses_from d.at (blocks_for size d.length))) (addresses size ps) x (subst (λ (l : List Addr). Member x l) (append-nil _) n)

    later : (q : Piece) (ps : List Piece) (x : Addr) → Member x (addresses size ps) → Member x (addresses size (q ∷ ps))
    later (Extent y) ps x n = inr n
    later (Blocks d) ps x n = member_right (cond (is_hole d) [] (addresses_from d.at (blocks_for size d.length))) (addresses size ps) x n

    among : (p : Piece) (ps : List Piece) → Member p ps → (x : Addr) → Member x (addresses size (p ∷ [])) → Member x (addresses size ps)
    among p [] k x n = absurd k
    among p (q ∷ qs) (inl e) x n = first q qs x (subst (λ (z : Piece). Member x (addresses size (z ∷ []))) e n)
    among p (q ∷ qs) (inr k) x n = later q qs x (among p qs k x n)

-- ---- the barred address
pub bar_none : (directory : Bool) (after : Addr) (runs : List Descriptor) → (directory ≡ true → is_first runs after ≡ true) → (x : Addr)
    → is_bar None x ≡ (directory && (same_addr x after && not (is_first runs x)))
bar_none false after runs h x = refl
bar_none true after runs h x = by_same (same_addr x after) refl
  where
    by_same : (b : Bool) → same_addr x after ≡ b → false ≡ (b && not (is_first runs x))
    by_same false e = refl
    by_same true e = sym (ap (λ (a : Addr). not (is_first runs a)) (same_address x after e) ∙ ap (λ (b : Bool). not b) (h refl))

pub bar_some : (directory : Bool) (after : Addr) (runs : List Descriptor) → directory ≡ true → is_first runs after ≡ false → (x : Addr)
    → is_bar (Some after) x ≡ (directory && (same_addr x after && not (is_first runs x)))
bar_some directory after runs d h x =
    by_same (same_addr x after) refl
    ∙ ap (λ (b : Bool). b && (same_addr x after && not (is_first runs x))) (sym d)
  where
    by_same : (b : Bool) → same_addr x after ≡ b → b ≡ (b && not (is_first runs x))
    by_same false e = refl
    by_same true e = sym (ap (λ (a : Addr). not (is_first runs a)) (same_address x after e) ∙ ap (λ (b : Bool). not b) h)

-- lists with tests that agree
same_block : (size class : ℕ) (p q : Addr → Bool) → ((x : Addr) → p x ≡ q x) → (d : Descriptor) (bs : List ℕ) → map (block_item size class p d) bs ≡ map (block_item size class q d) bs
same_block size class p q h d [] = refl
same_block size class p q h d (b ∷ bs) =
    ap (λ (c : Bool). record { at = addr d.at.part b; takes = true; class = class; barred = c; bytes = min size (d.length - (b - d.at.block) * size) } ∷ map (block_item size class p d) bs) (h (addr d.at.part b))
    ∙ ap (λ (l : List Item). block_item size class q d b ∷ l) (same_block size class p q h d bs)

pub same_items : (size c1 c2 : ℕ) (p q : Addr → Bool) → ((x : Addr) → p x ≡ q x) → (ps : List Piece) → items size c1 c2 p ps ≡ items size c1 c2 q ps
unfolding items run_items
same_items size c1 c2 p q h [] = refl
same_items size c1 c2 p q h (Extent x ∷ ps) = ap (λ (l : List Item). extent_item c1 x ∷ l) (same_items size c1 c2 p q h ps)
same_items size c1 c2 p q h (Blocks d ∷ ps) =
    ap (λ (l : List Item). cond (is_hole d) (empty_item d.length ∷ []) l ++ items size c1 c2 p ps) (same_block size c2 p q h d (range_with_len d.at.block (blocks_for size d.length)))
    ∙ ap (λ (l : List Item). cond (is_hole d) (empty_item d.length ∷ []) (map (block_item size c2 q d) (range_with_len d.at.block (blocks_for size d.length))) ++ l) (same_items size c1 c2 p q h ps)

-- ---- the list of an entry
pub embedded_front : (rs : List Run) (owner : ℕ) (f : Frame) (size : ℕ) (a : Addr) (e : Entry) (ps : List Piece) (n : ℕ) (front : Front) → Some n ≡ cond (e.kind == 3) (Some (length e.body)) None
    → front.bytes ≡ n → front.whole ≡ true → IsFront (stands rs owner) (items_of f size a e ps) front
unfolding items_of bytes_before
embedded_front rs owner f size a e ps n front h i w = by_kind (e.kind == 3) h
  where
    by_kind : (b : Bool) → Some n ≡ cond b (Some (length e.body)) None
        → IsFront (stands rs owner) (cond b (empty_item (length e.body) ∷ []) (items size (extent_class f a) (block_class f a e) (is_barred f e (runs_of ps)) ps)) front
    by_kind true k = let l : n ≡ length e.body = cc in record { bytes = omega (arith, l, i); whole = w }
    by_kind false k = absurd (some_none n k)
      where
        some_none : (n : ℕ) → Some n ≡ None → ⊥
        some_none n k = cc

pub listed_items : (f : Frame) (size : ℕ) (a : Addr) (e : Entry) (ps : List Piece) → None ≡ cond (e.kind == 3) (Some (length e.body)) None
    → items_of f size a e ps ≡ items size (extent_class f a) (block_class f a e) (is_barred f e (runs_of ps)) ps
unfolding items_of
listed_items f size a e ps h = by_kind (e.kind == 3) h
  where
    by_kind : (b : Bool) → None ≡ cond b (Some (length e.body)) None
        → cond b (empty_item (length e.body) ∷ []) (items size (extent_class f a) (block_class f a e) (is_barred f e (runs_of ps)) ps) ≡ items size (extent_class f a) (block_class f a e) (is_barred f e (runs_of ps)) ps
    by_kind true k = absurd (none_some (length e.body) k)
      where
        none_some : (n : ℕ) → None ≡ Some n → ⊥
        none_some n k = cc
    by_kind false k = refl

-- what the code bars is barred
pub bars_same : (f : Frame) (e : Entry) (runs : List Descriptor) (directory : Bool) (after : Addr) (rs : List Descriptor) (bar : Option Addr) → directory ≡ is_directory e → f.after ≡ after → rs ≡ runs
    → ((x : Addr) → is_bar bar x ≡ (directory && (same_addr x after && not (is_first rs x)))) → (x : Addr) → is_bar bar x ≡ is_barred f e runs x
unfolding is_barred
bars_same f e runs directory after rs bar d a r h x =
    h x
    ∙ ap (λ (b : Bool). b && (same_addr x after && not (is_first rs x))) d
    ∙ ap (λ (y : Addr). is_directory e && (same_addr x y && not (is_first rs x))) (sym a)
    ∙ ap (λ (l : List Descriptor). is_directory e && (same_addr x f.after && not (is_first l x))) r

all_at : (P : Addr → Type 0) (xs : List Addr) (x : Addr) → All P xs → Member x xs → P x
all_at P [] x h m = absurd m
all_at P (y ∷ ys) x h (inl e) = subst P (sym e) (h 0 y (omega arith))
all_at P (y ∷ ys) x h (inr m) = all_at P ys x (λ k d below. h (suc k) d (omega (arith, below))) m

pub list_below : (blocks : ℕ → ℕ) (v : Volume) (a : Addr) (e : Entry) → 0 < v.size → ((x : Addr) → is_placed v x ≡ true → x.block < blocks x.part) → AreBelow blocks (addresses v.size (list_for v a e))
unfolding list_for rules_for
list_below blocks v a e some within = record {
  low = λ x m. within x (all_at (λ y. is_placed v y ≡ true) (addresses v.size (good_front (rules_for v a e) (is_extent v) nothing_yet (flat_for v a e))) x (front_placed (rules_for v a e) (is_extent v) some (flat_for v a e)) m);
}

bytes_push : (ds : List Descriptor) (d : Descriptor) → bytes_in (ds ++ d ∷ []) ≡ bytes_in ds + d.length
bytes_push [] d = omega arith
bytes_push (x ∷ ds) d = omega (arith, bytes_push ds d)

new_within : (r : Rules) (past : Past) (part n block : ℕ) → new_blocks r past part block n ≤ n
unfolding new_blocks
new_within r past part zero block = omega arith
new_within r past part (suc n) block = by_new (is_new r past (addr part block)) (new_within r past part n (block + 1))
  where
    by_new : (b : Bool) → new_blocks r past part (block + 1) n ≤ n → cond b (suc (new_blocks r past part (block + 1) n)) 0 ≤ suc n
    by_new true l = omega (arith, l)
    by_new false l = omega arith

front_sum : (r : Rules) (whole : Addr → Bool) → 0 < r.size → (ps : List Piece) (past : Past) → bytes_in past.runs < 2 ^ 63 → bytes_in past.runs + size_of (good_front r whole past ps) < 2 ^ 63
unfolding good_front runs_of run_passes front_run
front_sum r whole some [] past l = omega (arith, l)
front_sum r whole some (Extent x ∷ rest) past l = by_pass (extent_passes r whole past x) (front_sum r whole some rest (with_extent past x) l)
  where
    by_pass : (b : Bool) → bytes_in past.runs + size_of (good_front r whole (with_extent past x) rest) < 2 ^ 63
        → bytes_in past.runs + size_of (cond b (Extent x ∷ good_front r whole (with_extent past x) rest) []) < 2 ^ 63
    by_pass true k = k
    by_pass false k = omega (arith, l)
front_sum r whole some (Blocks d ∷ rest) past l = by_come (may_come r past d) refl (λ k. front_sum r whole some rest (with_run past d) k)
  where
    after : List Piece
    after = good_front r whole (with_run past d) rest

    n : ℕ
    n = new_in r past d

    part : n < blocks_for r.size d.length → bytes_in past.runs + d.length < 2 ^ 63 → (b : Bool) → bytes_in past.runs + size_of (blocks_each (cond b [] (record d { length = n * r.size } ∷ []))) < 2 ^ 63
    part k m true = omega (arith, l)
    part k m false = let less : n * r.size < d.length = front_less r.size n d.length some k in omega (arith, m, less)

    by_pass : bytes_in past.runs + d.length < 2 ^ 63 → (bytes_in (past.runs ++ d ∷ []) < 2 ^ 63 → bytes_in (past.runs ++ d ∷ []) + size_of after < 2 ^ 63) → (b c : Bool) → (n == blocks_for r.size d.length) ≡ c
        → bytes_in past.runs + size_of (cond (b || c) (Blocks d ∷ after) (blocks_each (front_of r.size d n))) < 2 ^ 63
    by_pass m on b c e = go (b || c) refl
      where
        push : bytes_in (past.runs ++ d ∷ []) ≡ bytes_in past.runs + d.length
        push = bytes_push past.runs d

        go : (x : Bool) → (b || c) ≡ x → bytes_in past.runs + size_of (cond x (Blocks d ∷ after) (blocks_each (front_of r.size d n))) < 2 ^ 63
        go true k = let s = on (omega (arith, m, push)) in omega (arith, s, push)
        go false k = part (fewer c e k) m (n == 0)
          where
            fewer : (c : Bool) → (n == blocks_for r.size d.length) ≡ c → (b || c) ≡ false → n < blocks_for r.size d.length
            fewer true e k = absurd (false≢true (sym k ∙ or_right b true refl))
            fewer false e k = let w = new_within r past d.at.part (blocks_for r.size d.length) d.at.block in grind (arith, nat_tests)

    by_come : (b : Bool) → may_come r past d ≡ b → (bytes_in (past.runs ++ d ∷ []) < 2 ^ 63 → bytes_in (past.runs ++ d ∷ []) + size_of after < 2 ^ 63)
        → bytes_in past.runs + size_of (cond (b && (is_hole d || (n == blocks_for r.size d.length))) (Blocks d ∷ after) (blocks_each (cond b (front_of r.size d n) []))) < 2 ^ 63
    by_come true e on = by_pass (may_come_small r past d e) on (is_hole d) (n == blocks_for r.size d.length) refl
    by_come false e on = omega (arith, l)

pub list_small : (v : Volume) (a : Addr) (e : Entry) → 0 < v.size → size_of (list_for v a e) < 2 ^ 63
unfolding list_for rules_for
list_small v a e some = let s = front_sum (rules_for v a e) (is_extent v) some (flat_for v a e) nothing_yet (omega arith) in omega (arith, s)

-- ---- an entry
number_is : (x y : ℕ) → (x == y) ≡ true → x ≡ y
number_is x y t = grind (arith, nat_tests)

module _ (f : Frame) (v : Volume) (rs : List Run) (won : TellsWinners (setting_of f v) (tree_of f v) rs) (a : Addr) (here : found (setting_of f v) (tree_of f v) a ≡ true) where
  abbrev s : Setting
  s = setting_of f v

  abbrev t : Tree
  t = tree_of f v

  -- what the claims say of what a found entry wants
  wins_is : (i : Item) → Member i (wants t a) → i.takes ≡ true → wins s t a i ≡ (not i.barred && claims.wins rs (number a) i.at)
  wins_is i m k =
      same_bools (wins s t a i) (not i.barred && claims.wins rs (number a) i.at)
      (λ h. let x = (won.each a i want).0 h in and_from (not i.barred) (claims.wins rs (number a) i.at) (ap (λ (b : Bool). not b) x.0) x.1)
      (λ h. let x = and_parts (not i.barred) (claims.wins rs (number a) i.at) h in (won.each a i want).1 (off i.barred x.0, x.1))
    where
      want : IsWant s t a i
      want = record { found_owner = here; among = contains_of (wants t a) i m; takes = k }

      off : (b : Bool) → not b ≡ true → b ≡ false
      off true e = sym e
      off false e = refl

  holds_is : (i : Item) → Member i (node_at t a).list → holds s t a i ≡ stands rs (number a) i
  unfolding wants holds
  holds_is i m = by_takes i.takes refl
    where
      by_takes : (b : Bool) → i.takes ≡ b → (not i.takes || wins s t a i) ≡ (not i.takes || (not i.barred && claims.wins rs (number a) i.at))
      by_takes true e = ap (λ (w : Bool). not i.takes || w) (wins_is i (member_right (node_at t a).own (node_at t a).list i m) e)
      by_takes false e = ap (λ (b : Bool). not b || wins s t a i) e ∙ sym (ap (λ (b : Bool). not b || (not i.barred && claims.wins rs (number a) i.at)) e)

  module _ (e : Entry) (there : entry_at v a ≡ Some e) (other : is_holder f v a ≡ false) where
    kept_is : kept_length s t a ≡ bytes_before (stands rs (number a)) (items_of f v.size a e (list_for v a e))
    unfolding kept_length node_with
    kept_is =
        same_before (holds s t a) (stands rs (number a)) (node_at t a).list holds_is
        ∙ ap (λ (n : Node). bytes_before (stands rs (number a)) n.list) (node_is f v a e there other)

    whole_is : list_all (holds s t a) (node_at t a).list ≡ list_all (stands rs (number a)) (items_of f v.size a e (list_for v a e))
    unfolding node_with
    whole_is =
        same_all (holds s t a) (stands rs (number a)) (node_at t a).list holds_is
        ∙ ap (λ (n : Node). list_all (stands rs (number a)) n.list) (node_is f v a e there other)

    own_is : list_all (wins s t a) (node_at t a).own ≡ claims.wins rs (number a) a
    unfolding node_with wants
    own_is =
        ap (λ (n : Node). list_all (wins s t a) n.own) (node_is f v a e there other)
        ∙ ap (λ (b : Bool). b && true) (wins_is (own_item a) (subst (λ (n : Node). Member (own_item a) (n.own ++ n.list)) (sym (node_is f v a e there other)) (inl refl)) refl)
        ∙ and_true (claims.wins rs (number a) a)
      where
        and_true : (b : Bool) → (b && true) ≡ b
        and_true true = refl
        and_true false = refl

    good : 0 < v.size → kept_length s t a ≤ good_length v a e
    unfolding kept_length tree_length
    good some = let w = before_within (holds s t a) (node_at t a).list in let l = length_is f v a e there other some in omega (arith, w, l)

    enough_is : 0 < v.size → is_directory e ≡ true → (bytes : ℕ) → bytes ≡ length (linking v a e)
        → (node_at t a).enough (kept_length s t a) ≡ nat_le fresh_parent_length (min (kept_length s t a) bytes)
    unfolding node_with content_to content
    enough_is some d c k =
        ap (λ (n : Node). n.enough (kept_length s t a)) (node_is f v a e there other)
        ∙ ap (λ (n : ℕ). nat_le fresh_parent_length n) (long (kept_length s t a) (good some))
      where
        whole : List ℕ
        whole = cond (e.kind == 3) e.body (runs_bytes v (runs_of (list_for v a e)))

        to : (n : ℕ) → length (content_to v e (list_for v a e) n) ≡ min (min n e.information) (length whole)
        to n = ap (λ (b : Bool). length (cond b (take (min n e.information) whole) [])) d ∙ length-take (min n e.information) whole

        long : (n : ℕ) → n ≤ good_length v a e → length (content_to v e (list_for v a e) n) ≡ min n c
        long n l = let x = to n in let y = k ∙ to (good_length v a e) in omega (arith, x, y, l)

    pub entry_standing : (x : Standing) (front : Front) (c : ℕ) (directory : Bool) → 0 < v.size → IsFront (stands rs (number a)) (items_of f v.size a e (list_for v a e)) front
        → x.kept ≡ front.bytes → x.whole ≡ front.whole → directory ≡ is_directory e → c ≡ length (linking v a e)
        → x.sound ≡ ((not directory || nat_le fresh_parent_length (min x.kept c)) && claims.wins rs (number a) a) → IsStanding s t a x
    unfolding sound node_with
    entry_standing x front c directory some k n w d l h = record {
      kept = kept;
      whole = w ∙ k.whole ∙ sym whole_is;
      sound_is =
          h
          ∙ swap (not directory || nat_le fresh_parent_length (min x.kept c)) (claims.wins rs (number a) a)
          ∙ ap (λ (b : Bool). claims.wins rs (number a) a && (not b || nat_le fresh_parent_length (min x.kept c))) d
          ∙ ap (λ (b : Bool). claims.wins rs (number a) a && b) (room (is_directory e) refl)
          ∙ ap (λ (b : Bool). claims.wins rs (number a) a && (not b || (node_at t a).enough (kept_length s t a))) (sym is_kind)
          ∙ ap (λ (b : Bool). b && (not (node_at t a).directory || (node_at t a).enough (kept_length s t a))) (sym own_is)
          ∙ ap (λ (b : Bool). b && (list_all (wins s t a) (node_at t a).own && (not (node_at t a).directory || (node_at t a).enough (kept_length s t a)))) (sym here);
    }
      where
        kept : x.kept ≡ kept_length s t a
        kept = n ∙ k.bytes ∙ sym kept_is

        is_kind : (node_at t a).directory ≡ is_directory e
        is_kind = ap (λ (n : Node). n.directory) (node_is f v a e there other)

        room : (b : Bool) → is_directory e ≡ b → (not b || nat_le fresh_parent_length (min x.kept c)) ≡ (not b || (node_at t a).enough (kept_length s t a))
        room true i = ap (λ (n : ℕ). nat_le fresh_parent_length (min n c)) kept ∙ sym (enough_is some i c l)
        room false i = refl

        swap : (p q : Bool) → (p && q) ≡ (q && p)
        swap true true = refl
        swap true false = refl
        swap false true = refl
        swap false false = refl

-- the holder of the pointer to the system stream directory wants nothing
pub holder_standing : (f : Frame) (v : Volume) (a : Addr) (x : Standing) → is_holder f v a ≡ true → found (setting_of f v) (tree_of f v) a ≡ true → x.kept ≡ 0 → x.whole ≡ true → x.sound ≡ true → IsStanding (setting_of f v) (tree_of f v) a x
unfolding is_holder tree_of kept_length sound node_at bytes_before
holder_standing f v a x h here k w g = by_system f.system (is_file_set f v a) h refl
  where
    s : Setting
    s = setting_of f v

    t : Tree
    t = tree_of f v

    by_node : (o : Addr) → node_at t a ≡ holder_node o → IsStanding s t a x
    by_node o e = record {
      kept = k ∙ sym (ap (λ (n : Node). bytes_before (holds s t a) n.list) e);
      whole = w ∙ sym (ap (λ (n : Node). list_all (holds s t a) n.list) e);
      sound_is =
          g
          ∙ sym (ap (λ (b : Bool). b && (list_all (wins s t a) (node_at t a).own && (not (node_at t a).directory || (node_at t a).enough (kept_length s t a)))) here
          ∙ ap (λ (n : Node). list_all (wins s t a) n.own && (not n.directory || n.enough (kept_length s t a))) e);
    }

    by_system : (o : Option Addr) (b : Bool) → (is_some o && b) ≡ true → node_or (holder_by o b (node_by f v a (entry_at v a))) ≡ node_at t a → IsStanding s t a x
    by_system None b k e = absurd (false≢true k)
    by_system (Some y) false k e = absurd (false≢true k)
    by_system (Some y) true k e = by_node y (sym e)

standing_push : (s : Setting) (t : Tree) (ns : List arena.Found) (xs : List Standing) (n : arena.Found) (x : Standing) → AreStanding s t ns xs → IsStanding s t n.at x → AreStanding s t (ns ++ n ∷ []) (xs ++ x ∷ [])
standing_push s t [] [] n x h k = (k, tt)
standing_push s t [] (y ∷ ys) n x h k = absurd h
standing_push s t (m ∷ ms) [] n x h k = absurd h
standing_push s t (m ∷ ms) (y ∷ ys) n x h k = (h.0, standing_push s t ms ys n x h.1 k)

pub next_standing : (s : Setting) (t : Tree) (q : List arena.Found) (i : ℕ) (n : arena.Found) (xs new : List Standing) (x : Standing) → i < length q → n ≡ get_or q i n → new ≡ xs ++ x ∷ []
    → IsStanding s t n.at x → AreStanding s t (take i q) xs → AreStanding s t (take (i + 1) q) new
next_standing s t q i n xs new x l e p k h =
    let more : take (i + 1) q ≡ take i q ++ n ∷ [] = take_more q i n l ∙ ap (λ (m : arena.Found). take i q ++ m ∷ []) (sym e) in
    subst (λ (r : List arena.Found). AreStanding s t r new) (sym more) (subst (AreStanding s t (take i q ++ n ∷ [])) (sym p) (standing_push s t (take i q) xs n x h k))
