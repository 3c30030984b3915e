-- Going through the targets of one found entry.
use Rattle.std.proofs.Common.{◌≡◌, ℕ, zero, suc, ◌+◌, ◌≤◌, ◌<◌, List, [], ◌∷◌, ◌++◌, length, take, get_or, Bool, true, false, cond, sym, ap, ◌∙◌, subst, inl, inr, arith}
use Rattle.std.specs.List.{list_any}
use Rattle.std.proofs.lemmas.Bool.{or_left}
use Rattle.std.proofs.lemmas.List.{length-map, length-append, get_or-map, get_or_default, take_more, take_all}
use Rattle.udf_field.specs.declared.address.Addr.{Addr}
use Rattle.udf_file_model.specs.Address.{same_addr}
use Rattle.udf_file_model.specs.Listing.{Volume}
use Rattle.udf_tree_model.specs.Among.{Member}
use Rattle.udf_tree_model.specs.Link.{Link, target_of}
use Rattle.udf_tree_model.specs.Node.{Tree}
use Rattle.udf_tree_model.specs.Found.{leads_to, whole_links, found_graph}
use Rattle.udf_tree_model.specs.Frame.{Frame, places, setting_of, tree_of}
use Rattle.udf_tree_model.proofs.Members.{any_from, member_of_map}
use Rattle.udf_tree_model.proofs.Places.{address_same}
use Rattle.udf_tree_model.proofs.Finding.{volume_within}
use Rattle.udf_found.specs.declared.arena.Found.{Found}
use Rattle.udf_found.specs.Seen.{AreRead, HasHolder, IsAt, IsWithin, spots}
use Rattle.udf_found.specs.Spot.{Spot, spot, knows}
use Rattle.udf_found.specs.Linked.{ends_of}
use Rattle.udf_found.specs.Target.{targets_of}
use Rattle.udf_found.proofs.Lines.{ends_are}
use Rattle.udf_found.specs.Visit.{Adds, IsPlaced, Visit}
use Rattle.udf_found.proofs.Adding.{known_is}
use Rattle.udf_found.proofs.Visiting.{knows_push, visit_begins, visit_more, visit_ends}

pub member_at : {X : Type 0} (q : List X) (i : ℕ) (n : X) → i < length q → n ≡ get_or q i n → Member n q
member_at [] i n l e = absurd (omega (arith, l))
member_at (x ∷ xs) zero n l e = inl e
member_at (x ∷ xs) (suc i) n l e = inr (member_at xs i n (omega (arith, l)) e)

spot_at : (q : List Found) (i : ℕ) (n : Found) → i < length q → n ≡ get_or q i n → spot n.at n.level ≡ get_or (spots q) i (spot n.at n.level)
spot_at q i n l e = ap (λ (x : Found). spot x.at x.level) e ∙ sym (get_or-map (λ (x : Found). spot x.at x.level) q i n (spot n.at n.level) l)

pub level_low : (ps : List Addr) (q : List Found) (i : ℕ) (n : Found) → IsPlaced ps (spots q) → i < length q → n ≡ get_or q i n → n.level ≤ i
level_low ps q i n p l e =
    let s = ap (λ (x : Spot). x.level) (spot_at q i n l e) in
    let low = p.low i (spot n.at n.level) (omega (arith, l, length-map q (λ (x : Found). spot x.at x.level))) in
    omega (arith, s, low)

pub arena_grows : (tells : Type 0) (t : Tree) (ps : List Addr) (a : Addr) (l : ℕ) (old new : List Found) → Adds tells t ps a l (spots old) (spots new) → length old ≤ length new
arena_grows tells t ps a l old new h = go h.goes h.is
  where
    long : (q : List Found) → length (spots q) ≡ length q
    long q = length-map q (λ (x : Found). spot x.at x.level)

    go : (b : Bool) → spots new ≡ cond b (spots old ++ spot a l ∷ []) (spots old) → length old ≤ length new
    go true e = let k = ap length e in omega (arith, k, length-append (spots old) (spot a l ∷ []), long old, long new)
    go false e = let k = ap length e in omega (arith, k, long old, long new)

pub holder_stays : (tells : Type 0) (f : Frame) (v : Volume) (t : Tree) (ps : List Addr) (a : Addr) (l : ℕ) (old new : List Found) → Adds tells t ps a l (spots old) (spots new) → HasHolder f v old → HasHolder f v new
holder_stays tells f v t ps a l old new h k = record { known = λ b e. known_is b new ∙ go b (sym (known_is b old) ∙ k.known b e) h.goes h.is }
  where
    go : (b : Addr) → knows b (spots old) ≡ true → (c : Bool) → spots new ≡ cond c (spots old ++ spot a l ∷ []) (spots old) → knows b (spots new) ≡ true
    go b e true i = ap (knows b) i ∙ knows_push b a l (spots old) ∙ or_left (knows b (spots old)) (same_addr b a) e
    go b e false i = ap (knows b) i ∙ e

pub going_begins : (f : Frame) (v : Volume) (next : ℕ) (q : List Found) (n : Found) → next < length q → n ≡ get_or q next n → IsAt f v next q → IsWithin f v next (spot n.at n.level) [] q
going_begins f v next q n l e h = record {
  holder = h.holder;
  read = h.read;
  visit = visit_begins (found_graph (setting_of f v) (tree_of f v)) (tree_of f v) next (spot n.at n.level) (spots q) (let k = length-map q (λ (x : Found). spot x.at x.level) in omega (arith, k, l)) (spot_at q next n l e) h.queue;
}

-- a target of an entry is one to which a link leads
leads_there : (t : Tree) (x : Addr) (ts : List Addr) (i : ℕ) (a : Addr) → ts ≡ targets_of (whole_links t x) → i < length ts → a ≡ get_or ts i a → list_any (leads_to a) (whole_links t x) ≡ true
leads_there t x ts i a e l k =
    let m = subst (λ (l : List Addr). Member a l) e (member_at ts i a l k) in
    let r = member_of_map (λ (f : Link). target_of f.says) (whole_links t x) a m in
    any_from (leads_to a) (whole_links t x) r.0 r.1 (address_same (target_of r.0.says) a (sym r.2))

pub going_more : (tells : Type 0) → tells → (f : Frame) (v : Volume) (next : ℕ) (x : Spot) (ts : List Addr) (i : ℕ) (a : Addr) (q r : List Found)
    → ts ≡ targets_of (whole_links (tree_of f v) x.at) → i < length ts → a ≡ get_or ts i a
    → Adds (tells × HasHolder f v q) (tree_of f v) (places v) a (suc x.level) (spots q) (spots r) → (HasHolder f v q → AreRead f v q → AreRead f v r)
    → IsWithin f v next x (take i ts) q → IsWithin f v next x (take (i + 1) ts) r
going_more tells told f v next x ts i a q r all l e h read m =
    let more : take (i + 1) ts ≡ take i ts ++ a ∷ [] = take_more ts i a l ∙ ap (λ (y : Addr). take i ts ++ y ∷ []) (sym e) in
    record {
      holder = holder_stays (tells × HasHolder f v q) f v (tree_of f v) (places v) a (suc x.level) q r h m.holder;
      read = read m.holder m.read;
      visit = subst (λ (l : List Addr). Visit (found_graph (setting_of f v) (tree_of f v)) (tree_of f v) next x l (spots r)) (sym more)
          (visit_more (setting_of f v) (tree_of f v) (volume_within f v) (tells × HasHolder f v q) (told, m.holder) (places v) next x (take i ts) a (spots q) (spots r) (leads_there (tree_of f v) x.at ts i a all l e) h m.visit);
    }

pub going_ends : (f : Frame) (v : Volume) (next : ℕ) (x : Spot) (ts : List Addr) (n : ℕ) (q : List Found) → ts ≡ targets_of (whole_links (tree_of f v) x.at) → length ts ≤ n
    → IsWithin f v next x (take n ts) q → IsAt f v (next + 1) q
going_ends f v next x ts n q all l m = record {
  holder = m.holder;
  read = m.read;
  queue = visit_ends (setting_of f v) (tree_of f v) next x (take n ts) (spots q) (take_all n ts l ∙ all) m.visit;
}

pub targets_whole : (f : Frame) (v : Volume) (next : ℕ) (q : List Found) (n : Found) (ts : List Addr) → next < length q → n ≡ get_or q next n → ts ≡ ends_of n.links.items → IsAt f v next q
    → ts ≡ targets_of (whole_links (tree_of f v) n.at)
targets_whole f v next q n ts l e s h = s ∙ ends_are (whole_links (tree_of f v) n.at) n.links.items (h.read.each n (member_at q next n l e))

-- the entry at an index is one
pub same_node : (q : List Found) (i : ℕ) (n m : Found) → i < length q → n ≡ get_or q i n → m ≡ get_or q i m → n ≡ m
same_node q i n m l e f = e ∙ get_or_default q i n m l ∙ sym f
