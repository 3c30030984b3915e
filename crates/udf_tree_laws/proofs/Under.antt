-- What the fitted links of a holder keep, by the link that keeps each.
use Rattle.std.proofs.Common.{◌≡◌, ◌≢◌, Bool, true, false, cond, not, ◌&&◌, ◌||◌, Option, Some, None, refl, sym, ap, ◌∙◌, subst, eq-eqb}
use Rattle.std.specs.Prelude.{Contains, is_some}
use Rattle.std.specs.List.{filter}
use Rattle.std.proofs.lemmas.Bool.{and_from, and_parts, false≢true}
use Rattle.udf_field.specs.declared.address.Addr.{Addr}
use Rattle.udf_file_model.specs.Address.{same_addr}
use Rattle.udf_file_model.specs.Listing.{Volume, is_placed}
use Rattle.udf_tree_model.specs.Children.{keeps, kept_in, kept_under}
use Rattle.udf_tree_model.specs.Chosen.{Rank, fitted, is_rank}
use Rattle.udf_tree_model.specs.Frame.{Frame, is_address, is_holder, is_start, setting_of, tree_of}
use Rattle.udf_tree_model.specs.Kept.{kept}
use Rattle.udf_tree_model.specs.Laws.{KeepsBy}
use Rattle.udf_tree_model.specs.Link.{Link, target_of}
use Rattle.udf_tree_model.specs.Node.{Setting, Tree}
use Rattle.udf_tree_model.specs.Ordinary.{is_kept_entry}
use Rattle.udf_tree_model.specs.Parent.{keeping, keeping_rank, parent, parent_by}
use Rattle.udf_tree_model.specs.Stated.{IsFileSetPlaced}
use Rattle.udf_tree_model.proofs.Members.{Member, contains_of, member_filter, member_filtered, member_map, member_of, member_of_map}
use Rattle.udf_tree_model.proofs.Places.{address_same, same_address}

-- the holder of a link of that rank, and its rank
rank_held : (d : Addr) (l : Link) (o : Option Rank) → is_rank d l o ≡ true → (r : Rank) × (o ≡ Some r) × (r.holder ≡ d)
rank_held d l None h = absurd (false≢true h)
rank_held d l (Some r) h = (r, refl, same_address r.holder d (and_parts (same_addr r.holder d) _ h).0)

-- a fitted link of a holder, which leads to an address and has the rank by which that is kept
pub record IsKeeper (s : Setting) (t : Tree) (d b : Addr) (l : Link) : Type 0 where
  pub among : Contains (fitted s t d) l
  pub leads : target_of l.says ≡ b
  pub ranked : (r : Rank) × (keeping s t b ≡ Some r) × (r.holder ≡ d)

pub under_gives : (s : Setting) (t : Tree) (d b : Addr) → Member b (kept_under s t d) → (l : Link) × IsKeeper s t d b l
unfolding kept_under kept_in keeps
under_gives s t d b m =
    let x = member_of_map (λ (f : Link). target_of f.says) (filter (keeps s t d) (fitted s t d)) b m in
    let y = member_filter (keeps s t d) (fitted s t d) x.0 x.1 in (
      x.0,
      record {
        among = contains_of (fitted s t d) x.0 y.0;
        leads = sym x.2;
        ranked = rank_held d x.0 (keeping s t b) (ap (λ (z : Addr). is_rank d x.0 (keeping s t z)) x.2 ∙ y.1);
      },
    )

pub under_has : (s : Setting) (t : Tree) (d b : Addr) (l : Link) → KeepsBy s t b d l → keeping s t b ≡ Some (keeping_rank s t d l) → Member b (kept_under s t d)
unfolding kept_under kept_in keeps keeping_rank
under_has s t d b l k e = subst (λ (x : Addr). Member x (kept_under s t d)) k.leads (member_map (λ (f : Link). target_of f.says) (filter (keeps s t d) (fitted s t d)) l there)
  where
    ranked : is_rank d l (keeping s t (target_of l.says)) ≡ true
    ranked =
        ap (λ (x : Addr). is_rank d l (keeping s t x)) k.leads
        ∙ ap (is_rank d l) e
        ∙ and_from (same_addr d d) _ (address_same d d refl) (eq-eqb l.place l.place refl)

    there : Member l (filter (keeps s t d) (fitted s t d))
    there = member_filtered (keeps s t d) (fitted s t d) l (member_of (fitted s t d) l k.among) ranked

-- what is kept and no start is a kept entry
pub unstarted_entry : (f : Frame) (v : Volume) (a : Addr) → kept (setting_of f v) (tree_of f v) a ≡ true → (setting_of f v).start a ≡ false → is_kept_entry f v a ≡ true
unfolding is_kept_entry is_holder setting_of is_start
unstarted_entry f v a k e = and_from (kept (setting_of f v) (tree_of f v) a) _ k (ap not (go (same_addr a f.root) (is_some f.system) (same_addr a f.file_set) (is_address a && is_placed v a) e))
  where
    go : (x y z w : Bool) → (x || (y && z)) ≡ false → (y && (z && w)) ≡ false
    go true y z w h = absurd (false≢true (sym h))
    go false true true w h = absurd (false≢true (sym h))
    go false true false w h = refl
    go false false z w h = refl

-- what is no start is not the root
pub unstarted_root : (f : Frame) (v : Volume) (a : Addr) → (setting_of f v).start a ≡ false → a ≢ f.root
unfolding setting_of is_start
unstarted_root f v a e q = go (same_addr a f.root) (address_same a f.root q) e
  where
    go : (x : Bool) → x ≡ true → (x || (is_some f.system && same_addr a f.file_set)) ≡ false → ⊥
    go true h k = false≢true (sym k)
    go false h k = false≢true h

pub other_than : (a b : Addr) → a ≢ b → same_addr a b ≡ false
other_than a b n = go (same_addr a b) refl
  where
    go : (x : Bool) → same_addr a b ≡ x → same_addr a b ≡ false
    go true e = absurd (n (same_address a b e))
    go false e = e

-- the parent of another than the root, by the link that keeps it
pub parent_is : (f : Frame) (v : Volume) (b : Addr) (r : Rank) → b ≢ f.root → keeping (setting_of f v) (tree_of f v) b ≡ Some r → parent f v b ≡ cond (same_addr r.holder f.file_set) f.root r.holder
unfolding parent
parent_is f v b r n k = ap (λ (x : Bool). cond x f.root (parent_by f (keeping (setting_of f v) (tree_of f v) b))) (other_than b f.root n) ∙ ap (parent_by f) k

pub parent_by_link : (f : Frame) (v : Volume) (b d : Addr) (l : Link) → b ≢ f.root → keeping (setting_of f v) (tree_of f v) b ≡ Some (keeping_rank (setting_of f v) (tree_of f v) d l)
    → parent f v b ≡ cond (same_addr d f.file_set) f.root d
unfolding keeping_rank
parent_by_link f v b d l n k = parent_is f v b (keeping_rank (setting_of f v) (tree_of f v) d l) n k

-- what is kept and no holder is a kept entry
pub unheld_entry : (f : Frame) (v : Volume) (a : Addr) → kept (setting_of f v) (tree_of f v) a ≡ true → is_holder f v a ≡ false → is_kept_entry f v a ≡ true
unfolding is_kept_entry
unheld_entry f v a k e = and_from (kept (setting_of f v) (tree_of f v) a) _ k (ap not e)
