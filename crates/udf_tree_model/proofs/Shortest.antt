-- Parents lead to the root on a shortest way, where no entry stands at the file set.
use Rattle.std.proofs.Common.{◌≡◌, ◌⊎◌, ℕ, zero, suc, ◌<◌, ◌≤◌, Bool, true, false, cond, Option, Some, None, arith, refl, sym, ap, ◌∙◌, subst, inl, inr}
use Rattle.std.specs.Prelude.{is_some}
use Rattle.std.proofs.lemmas.Bool.{and_from, false≢true, or_left, or_right}
use Rattle.udf_field.specs.declared.address.Addr.{Addr}
use Rattle.udf_file_model.specs.Address.{same_addr}
use Rattle.udf_file_model.specs.Entry.{Entry}
use Rattle.udf_file_model.specs.Listing.{Volume}
use Rattle.udf_tree_model.specs.Chosen.{Rank, fitted}
use Rattle.udf_tree_model.specs.Climb.{IsDistance, IsNearer}
use Rattle.udf_tree_model.specs.Frame.{Frame, entry_at, holder_by, is_file_set, is_start, node_by, setting_of, tree_of}
use Rattle.udf_tree_model.specs.Kept.{depth, kept_graph}
use Rattle.udf_tree_model.specs.Laws.{HasSoundStarts, IsWithin, KeepsBy}
use Rattle.udf_tree_model.specs.Link.{Link}
use Rattle.udf_tree_model.specs.Node.{Setting, Tree, readable}
use Rattle.udf_tree_model.specs.Ordinary.{is_kept_entry}
use Rattle.udf_tree_model.specs.Parent.{keeping_rank, parent, parent_by}
use Rattle.udf_tree_model.specs.Refused.{refusal}
use Rattle.udf_tree_model.specs.Stated.{IsFileSetPlaced}
use Rattle.udf_tree_model.proofs.Distances.{distance_more, distance_none}
use Rattle.udf_tree_model.proofs.Finding.{found_readable, volume_within}
use Rattle.udf_tree_model.proofs.Keeping.{edge_from, kept_found, kept_shortest, kept_start, kept_target}
use Rattle.udf_tree_model.proofs.Members.{member_of}
use Rattle.udf_tree_model.proofs.Nearing.{keeping_nearer, kept_of, parent_nearer, unstarted}
use Rattle.udf_tree_model.proofs.Places.{address_same, same_address}
use Rattle.udf_tree_model.proofs.Stating.{accepted_starts}

-- a fitted link leads one away
link_depth : (s : Setting) (t : Tree) → IsWithin s t → HasSoundStarts s t → (a d : Addr) (l : Link) → KeepsBy s t a d l → depth s t a ≤ suc (depth s t d)
link_depth s t w c a d l k =
    let edge = edge_from s t d a l (member_of (fitted s t d) l k.among) k.leads in
    (kept_shortest s t w c a (kept_target s t w c d a k.holder edge)).shortest (suc (depth s t d)) (d, (kept_shortest s t w c d k.holder).walk, edge)

start_depth : (s : Setting) (t : Tree) → IsWithin s t → HasSoundStarts s t → (a : Addr) → s.start a ≡ true → depth s t a ≡ zero
unfolding kept_graph
start_depth s t w c a h = let l = (kept_shortest s t w c a (kept_start s t w c a h)).shortest zero h in omega (arith, l)

module _ (f : Frame) (v : Volume) (accepted : refusal f v ≡ None) (placed : IsFileSetPlaced f v) (plain : entry_at v f.file_set ≡ None) where
  abbrev s : Setting
  s = setting_of f v

  abbrev t : Tree
  t = tree_of f v

  within : IsWithin s t
  within = volume_within f v

  starts : HasSoundStarts s t
  starts = accepted_starts f v accepted placed

  root_start : s.start f.root ≡ true
  unfolding setting_of is_start
  root_start = or_left (same_addr f.root f.root) _ (address_same f.root f.root refl)

  -- what stands at the file set then is the holder of the pointer to the system stream directory
  file_set_start : readable t f.file_set ≡ true → s.start f.file_set ≡ true
  unfolding setting_of is_start readable tree_of
  file_set_start h = or_right (same_addr f.file_set f.root) _ (and_from (is_some f.system) _ (go f.system (is_file_set f v f.file_set) (entry_at v f.file_set) plain h) (address_same f.file_set f.file_set refl))
    where
      go : (o : Option Addr) (b : Bool) (e : Option Entry) → e ≡ None → is_some (holder_by o b (node_by f v f.file_set e)) ≡ true → is_some o ≡ true
      go (Some x) b e q k = refl
      go None b None q k = absurd (false≢true k)
      go None b (Some x) q k = cc

  root_depth : (a : Addr) → a ≡ f.root → depth s t a ≡ zero
  root_depth a e = ap (depth s t) e ∙ start_depth s t within starts f.root root_start

  -- the holder of a kept link, or the root for the file set, is one link nearer to a start
  holder_depth : (a d : Addr) (l : Link) → KeepsBy s t a d l → depth s t d < depth s t a → (b : Bool) → same_addr d f.file_set ≡ b → depth s t a ≡ suc (depth s t (cond b f.root d))
  holder_depth a d l k less false e = let most = link_depth s t within starts a d l k in omega (arith, most, less)
  holder_depth a d l k less true e =
      let there = found_readable s t within d (kept_found s t within starts d k.holder) in
      let start = file_set_start (subst (λ (x : Addr). readable t x ≡ true) (same_address d f.file_set e) there) in
      let none = ap (depth s t) (same_address d f.file_set e) ∙ start_depth s t within starts f.file_set start in
      let most = link_depth s t within starts a d l k in
      let root = root_depth f.root refl in
      omega (arith, most, less, none, root)

  parent_depth : (a : Addr) → is_kept_entry f v a ≡ true → same_addr a f.root ≡ false → depth s t a ≡ suc (depth s t (parent f v a))
  unfolding parent keeping_rank
  parent_depth a k other =
      let r = keeping_nearer s t a (kept_of f v a k).0 (unstarted f v placed a k other) in
      rw other
      (subst (λ (o : Option Rank). depth s t a ≡ suc (depth s t (parent_by f o))) (sym r.3) (holder_depth a r.0 r.1 r.2 r.4 (same_addr r.0 f.file_set) refl))

  at_depth : (n : ℕ) (a : Addr) → is_kept_entry f v a ≡ true → depth s t a ≡ n → IsDistance f v a n
  at_depth zero a k e = go (same_addr a f.root) refl
    where
      go : (b : Bool) → same_addr a f.root ≡ b → IsDistance f v a zero
      go true q = distance_none f v a (same_address a f.root q)
      go false q = let more = parent_depth a k q in absurd (omega (arith, more, e))
  at_depth (suc n) a k e = go (λ p h q. at_depth n p h q) (same_addr a f.root) refl
    where
      Rest : Type 0
      Rest = (p : Addr) → is_kept_entry f v p ≡ true → depth s t p ≡ n → IsDistance f v p n

      up : Rest → depth s t (parent f v a) ≡ n → (parent f v a ≡ f.root) ⊎ IsNearer f v a (parent f v a) → IsDistance f v (parent f v a) n
      up rest q (inl r) = let none = root_depth (parent f v a) r in subst (IsDistance f v (parent f v a)) (omega (arith, none, q)) (distance_none f v (parent f v a) r)
      up rest q (inr near) = rest (parent f v a) near.kept_is q

      go : Rest → (b : Bool) → same_addr a f.root ≡ b → IsDistance f v a (suc n)
      go rest true q = let none = root_depth a (same_address a f.root q) in absurd (omega (arith, none, e))
      go rest false q = let more = parent_depth a k q in distance_more f v a n q (up rest (omega (arith, more, e)) (parent_nearer f v a k q))

  pub distance_depth : (a : Addr) → is_kept_entry f v a ≡ true → IsDistance f v a (depth s t a)
  distance_depth a k = at_depth (depth s t a) a k refl
