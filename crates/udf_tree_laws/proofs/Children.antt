-- The children of a kept entry are the kept entries, but the root, whose parent it is.
use Rattle.std.proofs.Common.{◌≡◌, ◌≢◌, ◌⊎◌, List, [], Bool, true, false, cond, ◌&&◌, Option, Some, None, refl, sym, ap, ◌∙◌, subst, inl, inr}
use Rattle.std.specs.Prelude.{◌↔◌, Contains, is_some}
use Rattle.std.proofs.lemmas.Bool.{and_from, and_parts, false≢true, or_right}
use Rattle.udf_field.specs.declared.address.Addr.{Addr}
use Rattle.udf_file_model.specs.Address.{same_addr}
use Rattle.udf_file_model.specs.Listing.{Volume}
use Rattle.udf_tree_model.specs.Children.{children, kept_under, last_children}
use Rattle.udf_tree_model.specs.Chosen.{Rank, fitted}
use Rattle.udf_tree_model.specs.Climb.{IsNearer}
use Rattle.udf_tree_model.specs.Frame.{Frame, is_holder, is_start, setting_of, tree_of}
use Rattle.udf_tree_model.specs.Kept.{kept}
use Rattle.udf_tree_model.specs.Laws.{HasSoundStarts, KeepsBy}
use Rattle.udf_tree_model.specs.Link.{Link}
use Rattle.udf_tree_model.specs.Node.{Setting, Tree}
use Rattle.udf_tree_model.specs.Ordinary.{is_kept_entry}
use Rattle.udf_tree_model.specs.Parent.{keeping, keeping_rank, parent}
use Rattle.udf_tree_model.specs.Refused.{refusal}
use Rattle.udf_tree_model.specs.Stated.{IsFileSetPlaced}
use Rattle.udf_tree_model.proofs.Choosing.{keeps_no_start}
use Rattle.udf_tree_model.proofs.Finding.{volume_within}
use Rattle.udf_tree_model.proofs.Keeping.{edge_from, kept_by, kept_start, kept_target}
use Rattle.udf_tree_model.proofs.Members.{Member, contains_of, member_append, member_left, member_of, member_right}
use Rattle.udf_tree_model.proofs.Nearing.{kept_of, parent_nearer, unstarted}
use Rattle.udf_tree_model.proofs.NextSiblings.{last_root}
use Rattle.udf_tree_model.proofs.Parents.{keeping_by, keeping_none}
use Rattle.udf_tree_model.proofs.Places.{address_same, same_address}
use Rattle.udf_tree_model.proofs.Stating.{accepted_starts}
use Rattle.udf_tree_laws.proofs.Under.{IsKeeper, other_than, parent_by_link, parent_is, under_gives, under_has, unheld_entry, unstarted_entry, unstarted_root}

-- the children that a kept entry has by its own links, and the last child of the root, which the file set keeps
pub children_parts : (f : Frame) (v : Volume) (a b : Addr) → Member b (children f v a)
    → Member b (kept_under (setting_of f v) (tree_of f v) a) ⊎ ((a ≡ f.root) × (is_holder f v f.file_set ≡ true) × Member b (kept_under (setting_of f v) (tree_of f v) f.file_set))
unfolding children last_children
children_parts f v a b m = go (member_append (kept_under (setting_of f v) (tree_of f v) a) _ b m)
  where
    last : List Addr
    last = kept_under (setting_of f v) (tree_of f v) f.file_set

    by : (x : Bool) → (same_addr a f.root && is_holder f v f.file_set) ≡ x → Member b (cond x last []) → (a ≡ f.root) × (is_holder f v f.file_set ≡ true) × Member b last
    by true e n = let r = and_parts (same_addr a f.root) (is_holder f v f.file_set) e in (same_address a f.root r.0, r.1, n)
    by false e n = absurd n

    go : Member b (kept_under (setting_of f v) (tree_of f v) a) ⊎ Member b (cond (same_addr a f.root && is_holder f v f.file_set) last [])
        → Member b (kept_under (setting_of f v) (tree_of f v) a) ⊎ ((a ≡ f.root) × (is_holder f v f.file_set ≡ true) × Member b last)
    go (inl n) = inl n
    go (inr n) = inr (by (same_addr a f.root && is_holder f v f.file_set) refl n)

own_child : (f : Frame) (v : Volume) (a b : Addr) → Member b (kept_under (setting_of f v) (tree_of f v) a) → Member b (children f v a)
unfolding children
own_child f v a b m = member_left (kept_under (setting_of f v) (tree_of f v) a) (last_children f v a) b m

last_child : (f : Frame) (v : Volume) (b : Addr) → is_holder f v f.file_set ≡ true → Member b (kept_under (setting_of f v) (tree_of f v) f.file_set) → Member b (children f v f.root)
unfolding children
last_child f v b h m =
    member_right (kept_under (setting_of f v) (tree_of f v) f.root) (last_children f v f.root) b
    (subst (λ (xs : List Addr). Member b xs) (sym (last_root f v h)) m)

-- the file set is a start where it holds a pointer
holder_start : (f : Frame) (v : Volume) → is_holder f v f.file_set ≡ true → (setting_of f v).start f.file_set ≡ true
unfolding is_holder setting_of is_start
holder_start f v h = or_right (same_addr f.file_set f.root) _ (and_from (is_some f.system) _ (and_parts (is_some f.system) _ h).0 (address_same f.file_set f.file_set refl))

module _ (f : Frame) (v : Volume) (accepted : refusal f v ≡ None) (placed : IsFileSetPlaced f v) (plain : is_kept_entry f v f.file_set ≡ true → f.file_set ≡ f.root) where
  abbrev s : Setting
  s = setting_of f v

  abbrev t : Tree
  t = tree_of f v

  starts : HasSoundStarts s t
  starts = accepted_starts f v accepted placed

  abbrev IsChild : Addr → Addr → Type 0
  IsChild a b = (is_kept_entry f v b ≡ true) × (b ≢ f.root) × (parent f v b ≡ a)

  -- what a link of a kept holder keeps is a kept entry with that holder, or the root for the file set, as its parent
  kept_child : (d b : Addr) → kept s t d ≡ true → Member b (kept_under s t d) → IsChild (cond (same_addr d f.file_set) f.root d) b
  kept_child d b k m = go (under_gives s t d b m)
    where
      go : (l : Link) × IsKeeper s t d b l → IsChild (cond (same_addr d f.file_set) f.root d) b
      go (l, h) =
          let by : KeepsBy s t b d l = record { holder = k; among = h.among; leads = h.leads } in
          let off = keeps_no_start s t starts b d l by in
          let there = kept_target s t (volume_within f v) starts d b k (edge_from s t d b l (member_of (fitted s t d) l h.among) h.leads) in
          let n = unstarted_root f v b off in
          let r = h.ranked in
          (unstarted_entry f v b there off, n, parent_is f v b r.0 n r.1 ∙ ap (λ (x : Addr). cond (same_addr x f.file_set) f.root x) r.2)

  pub child_gives : (a b : Addr) → is_kept_entry f v a ≡ true → Member b (children f v a) → IsChild a b
  child_gives a b k m = go (children_parts f v a b m)
    where
      own : (x : Bool) → same_addr a f.file_set ≡ x → cond x f.root a ≡ a
      own false e = refl
      own true e =
          let q = same_address a f.file_set e in
          sym (plain (ap (is_kept_entry f v) (sym q) ∙ k)) ∙ sym q

      go : Member b (kept_under s t a) ⊎ ((a ≡ f.root) × (is_holder f v f.file_set ≡ true) × Member b (kept_under s t f.file_set)) → IsChild a b
      go (inl n) = subst (λ (x : Addr). IsChild x b) (own (same_addr a f.file_set) refl) (kept_child a b (kept_of f v a k).0 n)
      go (inr (e, h, n)) =
          let held = kept_start s t (volume_within f v) starts f.file_set (holder_start f v h) in
          let above : cond (same_addr f.file_set f.file_set) f.root f.file_set ≡ a = ap (λ (x : Bool). cond x f.root f.file_set) (address_same f.file_set f.file_set refl) ∙ sym e in
          subst (λ (x : Addr). IsChild x b) above (kept_child f.file_set b held n)

  -- an entry is among the children of its parent
  pub child_has : (b : Addr) → is_kept_entry f v b ≡ true → b ≢ f.root → Member b (children f v (parent f v b))
  child_has b k n = go (kept_by s t (volume_within f v) starts b (kept_of f v b k).0)
    where
      off : s.start b ≡ false
      off = unstarted f v placed b k (other_than b f.root n)

      There : Addr → Type 0
      There p = Member b (children f v p)

      by_holder : (d : Addr) → kept s t d ≡ true → Member b (kept_under s t d) → (x : Bool) → same_addr d f.file_set ≡ x → There (cond x f.root d)
      by_holder d h m false e = own_child f v d b m
      by_holder d h m true e = held (is_holder f v f.file_set) refl
        where
          q : d ≡ f.file_set
          q = same_address d f.file_set e

          here : Member b (kept_under s t f.file_set)
          here = subst (λ (x : Addr). Member b (kept_under s t x)) q m

          held : (x : Bool) → is_holder f v f.file_set ≡ x → There f.root
          held true i = last_child f v b i here
          held false i = subst There (plain (unheld_entry f v f.file_set (ap (kept s t) (sym q) ∙ h) i)) (own_child f v f.file_set b here)

      by_rank : (o : Option Rank) → keeping s t b ≡ o → (d : Addr) (l : Link) → KeepsBy s t b d l → There (parent f v b)
      by_rank None e d l h = absurd (keeping_none s t (volume_within f v) starts b e d l h)
      by_rank (Some r) e d l h = by_link (keeping_by s t b r e)
        where
          by_link : (p : Addr) × (g : Link) × KeepsBy s t b p g × (r ≡ keeping_rank s t p g) → There (parent f v b)
          by_link (p, g, i, q) =
              let is = e ∙ ap Some q in
              subst There (sym (parent_by_link f v b p g n is)) (by_holder p i.holder (under_has s t p b g i is) (same_addr p f.file_set) refl)

      go : (s.start b ≡ true) ⊎ ((d : Addr) × (l : Link) × KeepsBy s t b d l) → There (parent f v b)
      go (inl e) = absurd (false≢true (sym off ∙ e))
      go (inr (d, l, h)) = by_rank (keeping s t b) refl d l h

  pub child_members : (a b : Addr) → is_kept_entry f v a ≡ true → Contains (children f v a) b ↔ IsChild a b
  child_members a b k = (
    λ m. child_gives a b k (member_of (children f v a) b m),
    λ h. contains_of (children f v a) b (subst (λ (x : Addr). Member b (children f v x)) h.2 (child_has b h.0 h.1)),
  )

  -- where the root is a kept entry, so is each parent
  parent_kept : is_kept_entry f v f.root ≡ true → (b : Addr) → is_kept_entry f v b ≡ true → b ≢ f.root → is_kept_entry f v (parent f v b) ≡ true
  parent_kept root b k n = go (parent_nearer f v b k (other_than b f.root n))
    where
      go : (parent f v b ≡ f.root) ⊎ IsNearer f v b (parent f v b) → is_kept_entry f v (parent f v b) ≡ true
      go (inl e) = ap (is_kept_entry f v) e ∙ root
      go (inr near) = near.kept_is

  pub child_once : is_kept_entry f v f.root ≡ true → (b : Addr) → is_kept_entry f v b ≡ true → b ≢ f.root
      → (is_kept_entry f v (parent f v b) ≡ true) × Contains (children f v (parent f v b)) b × ((a : Addr) → is_kept_entry f v a ≡ true → Contains (children f v a) b → a ≡ parent f v b)
  child_once root b k n = (
    parent_kept root b k n,
    contains_of (children f v (parent f v b)) b (child_has b k n),
    λ a h m. sym (child_gives a b h (member_of (children f v a) b m)).2,
  )
