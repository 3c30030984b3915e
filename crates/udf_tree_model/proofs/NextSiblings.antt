-- The next sibling of a kept entry by the link that keeps it.
use Rattle.std.proofs.Common.{◌≡◌, ◌⊎◌, List, [], ◌∷◌, ◌++◌, Bool, true, false, ◌&&◌, ◌||◌, cond, Some, None, refl, sym, ap, ◌∙◌, subst, inl, inr}
use Rattle.std.specs.Prelude.{is_some}
use Rattle.std.proofs.lemmas.Bool.{false≢true}
use Rattle.std.proofs.lemmas.List.{append-nil}
use Rattle.udf_field.specs.declared.address.Addr.{Addr}
use Rattle.udf_file_model.specs.Address.{same_addr}
use Rattle.udf_file_model.specs.Listing.{Volume}
use Rattle.udf_tree_model.specs.Link.{Link}
use Rattle.udf_tree_model.specs.Node.{Setting, Tree}
use Rattle.udf_tree_model.specs.Chosen.{Rank, fitted}
use Rattle.udf_tree_model.specs.Kept.{kept}
use Rattle.udf_tree_model.specs.Frame.{Frame, is_holder, is_start, setting_of, tree_of}
use Rattle.udf_tree_model.specs.Laws.{HasSoundStarts, KeepsBy}
use Rattle.udf_tree_model.specs.Children.{children, first_in, kept_in, kept_under, last_children, next_after, next_sibling}
use Rattle.udf_tree_model.specs.Parent.{keeping, keeping_rank, parent, parent_by}
use Rattle.udf_tree_model.proofs.Members.{Member, member_append, member_of}
use Rattle.udf_tree_model.proofs.Choosing.{keeps_no_start}
use Rattle.udf_tree_model.proofs.Parents.{keeping_by}
use Rattle.udf_tree_model.proofs.Places.{address_same, same_address}
use Rattle.udf_tree_model.proofs.Siblings.{beyond, fitted_ascend, next_beyond, next_over, none_under, other_under}

never : (a : Addr) (xs : List Addr) → ((x : Addr) → Member x xs → x ≡ a → ⊥) → next_after a xs ≡ None
never a [] h = refl
never a (x ∷ xs) h = go (same_addr x a) refl (never a xs (λ y m. h y (inr m)))
  where
    go : (b : Bool) → same_addr x a ≡ b → next_after a xs ≡ None → cond b (first_in xs) (next_after a xs) ≡ None
    go true e k = absurd (h x (inl refl) (same_address x a e))
    go false e k = k

module _ (f : Frame) (v : Volume) where
  pub last_of : (a : Addr) → same_addr a f.root ≡ false → last_children f v a ≡ []
  unfolding last_children
  last_of a e = ap (λ (b : Bool). cond (b && is_holder f v f.file_set) (kept_under (setting_of f v) (tree_of f v) f.file_set) []) e

  pub last_root : is_holder f v f.file_set ≡ true → last_children f v f.root ≡ kept_under (setting_of f v) (tree_of f v) f.file_set
  unfolding last_children
  last_root e =
      ap (λ (b : Bool). cond (b && is_holder f v f.file_set) (kept_under (setting_of f v) (tree_of f v) f.file_set) []) (address_same f.root f.root refl)
      ∙ ap (λ (b : Bool). cond b (kept_under (setting_of f v) (tree_of f v) f.file_set) []) e

  -- what no link keeps has none
  pub next_none : (a : Addr) → keeping (setting_of f v) (tree_of f v) a ≡ None → next_sibling f v a ≡ None
  unfolding next_sibling children last_children kept_under
  next_none a k = never a (children f v (parent f v a)) (λ x m. by x (member_append _ _ x m))
    where
      s : Setting
      s = setting_of f v

      t : Tree
      t = tree_of f v

      under : (d x : Addr) → Member x (kept_under s t d) → x ≡ a → ⊥
      under d = none_under s t a d (fitted s t d) k

      last : (x : Addr) (b : Bool) → Member x (cond b (kept_under s t f.file_set) []) → x ≡ a → ⊥
      last x true m = under f.file_set x m
      last x false m = absurd m

      by : (x : Addr) → Member x (kept_under s t (parent f v a)) ⊎ Member x (last_children f v (parent f v a)) → x ≡ a → ⊥
      by x (inl m) = under (parent f v a) x m
      by x (inr m) = last x (same_addr (parent f v a) f.root && is_holder f v f.file_set) m

  module _ (c : HasSoundStarts (setting_of f v) (tree_of f v)) (plain : is_holder f v f.file_set ≡ false → kept (setting_of f v) (tree_of f v) f.file_set ≡ false) where
    no_root : (a d : Addr) (l : Link) → KeepsBy (setting_of f v) (tree_of f v) a d l → same_addr a f.root ≡ false
    unfolding setting_of is_start
    no_root a d l h = by (same_addr a f.root) (keeps_no_start (setting_of f v) (tree_of f v) c a d l h)
      where
        by : (b : Bool) → (b || (is_some f.system && same_addr a f.file_set)) ≡ false → b ≡ false
        by true e = absurd (false≢true (sym e))
        by false e = refl

    pub next_some : (a : Addr) (r : Rank) → keeping (setting_of f v) (tree_of f v) a ≡ Some r
        → next_sibling f v a ≡ first_in (kept_in (setting_of f v) (tree_of f v) r.holder (beyond r.place (fitted (setting_of f v) (tree_of f v) r.holder)) ++ last_children f v r.holder)
    unfolding next_sibling children kept_under keeping_rank parent
    next_some a r k = go (keeping_by s t a r k)
      where
        s : Setting
        s = setting_of f v

        t : Tree
        t = tree_of f v

        Next : Addr → Type 0
        Next p = next_after a (kept_in s t p (fitted s t p) ++ last_children f v p) ≡ first_in (kept_in s t r.holder (beyond r.place (fitted s t r.holder)) ++ last_children f v r.holder)

        go : (d : Addr) × (l : Link) × KeepsBy s t a d l × (r ≡ keeping_rank s t d l) → Next (parent f v a)
        go (d, l, h, e) = subst Next (sym above) (by (same_addr r.holder f.file_set) refl)
          where
            own : r.holder ≡ d
            own = ap (λ (x : Rank). x.holder) e

            above : parent f v a ≡ (cond (same_addr r.holder f.file_set) f.root r.holder)
            above = ap (λ (b : Bool). cond b f.root (parent_by f (keeping s t a))) (no_root a d l h) ∙ ap (parent_by f) k

            after : (ys : List Addr) → next_after a (kept_in s t r.holder (fitted s t r.holder) ++ ys) ≡ first_in (kept_in s t r.holder (beyond r.place (fitted s t r.holder)) ++ ys)
            after ys =
                next_beyond s t a r.holder r k refl l h.leads (ap (λ (x : Rank). x.place) (sym e)) (fitted s t r.holder) (fitted_ascend f v r.holder)
                (subst (λ (x : Addr). Member l (fitted s t x)) (sym own) (member_of (fitted s t d) l h.among)) ys

            holds : r.holder ≡ f.file_set → is_holder f v f.file_set ≡ true
            holds q = by_holder (is_holder f v f.file_set) refl
              where
                by_holder : (b : Bool) → is_holder f v f.file_set ≡ b → b ≡ true
                by_holder true i = refl
                by_holder false i = absurd (false≢true (sym (plain i) ∙ ap (kept s t) (sym q ∙ own) ∙ h.holder))

            of_file_set : r.holder ≡ f.file_set → (b : Bool) → same_addr r.holder f.root ≡ b → Next f.root
            of_file_set q true i = subst Next (same_address r.holder f.root i) (after (last_children f v r.holder))
            of_file_set q false i =
                next_over a (kept_in s t f.root (fitted s t f.root)) (other_under s t a f.root (fitted s t f.root) r k i) (last_children f v f.root)
                ∙ ap (next_after a) (last_root (holds q) ∙ alone)
                ∙ after []
                ∙ ap (λ (ys : List Addr). first_in (kept_in s t r.holder (beyond r.place (fitted s t r.holder)) ++ ys)) (sym (last_of r.holder i))
              where
                alone : kept_under s t f.file_set ≡ kept_in s t r.holder (fitted s t r.holder) ++ []
                alone = ap (λ (x : Addr). kept_in s t x (fitted s t x)) (sym q) ∙ sym (append-nil (kept_in s t r.holder (fitted s t r.holder)))

            by : (b : Bool) → same_addr r.holder f.file_set ≡ b → Next (cond b f.root r.holder)
            by true q = of_file_set (same_address r.holder f.file_set q) (same_addr r.holder f.root) refl
            by false q = after (last_children f v r.holder)
