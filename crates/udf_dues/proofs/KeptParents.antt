-- What the parent FIDs of kept directories name, of the held entries.
use Rattle.std.proofs.Common.{◌≡◌, ℕ, zero, suc, ◌<◌, List, [], ◌∷◌, get_or, Bool, true, false, cond, ◌&&◌, refl, sym, ap, ◌∙◌, subst, arith, Option, Some, None}
use Rattle.std.specs.Prelude.{is_some, nat_lt, slice_get}
use Rattle.std.proofs.lemmas.Bool.{and_from, and_parts, or_left}
use Rattle.std.proofs.lemmas.Bool.Decides.{nat_tests}
use Rattle.std.proofs.lemmas.Option.{same_Some}
use Rattle.udf_field.specs.declared.address.Addr.{Addr}
use Rattle.udf_model.specs.Size.{is_size}
use Rattle.udf_file_model.specs.Address.{same_addr}
use Rattle.udf_file_model.specs.Entry.{Entry, is_directory}
use Rattle.udf_file_model.specs.Listing.{Volume}
use Rattle.udf_tree_model.specs.Among.{Member}
use Rattle.udf_tree_model.specs.Chosen.{Rank}
use Rattle.udf_tree_model.specs.Counts.{is_directory_by, is_kept_directory, parents_in}
use Rattle.udf_tree_model.specs.Found.{found}
use Rattle.udf_tree_model.specs.Frame.{Frame, entry_at, is_address, is_holder, is_start, node_with, setting_of, tree_of}
use Rattle.udf_tree_model.specs.Kept.{kept}
use Rattle.udf_tree_model.specs.Laws.{HasSoundStarts}
use Rattle.udf_tree_model.specs.Link.{Link}
use Rattle.udf_tree_model.specs.Node.{Node, Setting, Tree, node_at}
use Rattle.udf_tree_model.specs.Parent.{keeping, keeping_rank, parent, parent_by}
use Rattle.udf_tree_model.proofs.Finding.{found_readable, volume_within}
use Rattle.udf_tree_model.proofs.Keeping.{kept_found, kept_sound, sound_found}
use Rattle.udf_tree_model.proofs.Parents.{keeping_by}
use Rattle.udf_tree_model.proofs.Places.{address_same, readable_placed}
use Rattle.udf_tree_model.proofs.Stating.{node_is}
use Rattle.udf_contents.specs.declared.contents.MendedContent.{MendedContent}
use Rattle.udf_kept.specs.declared.fitted.Choice.{Choice}
use Rattle.udf_held.specs.declared.held.Held.{Held}
use Rattle.udf_kept.specs.declared.keeping.Keeping.{Keeping}
use Rattle.udf_found.specs.declared.shape.Shape.{Shape}
use Rattle.udf_found.specs.Beyond.{HoldsFileSet}
use Rattle.udf_contents.specs.Contents.{AreContents, AreContentsOf, IsContent, IsContentOf}
use Rattle.udf_dues.specs.Counts.{AreOfBytes}
use Rattle.udf_kept.specs.Fitted.{IsChoice}
use Rattle.udf_held.specs.Held.{AreHeldOf}
use Rattle.udf_kept.specs.Keeping.{AreKept, AreKeptOf, IsKeeping, IsKeptBy}
use Rattle.udf_dues.specs.NamedParents.{AreNamed, address_seen, holder_seen, named_seen, parent_seen}
use Rattle.udf_found.specs.Shape.{IsShaped}
use Rattle.udf_tree_model.specs.Kept.{depth}
use Rattle.udf_kept.proofs.ByIndex.{member_at}
use Rattle.udf_dues.proofs.Parentage.{mended_names, stays_names}
use Rattle.udf_found.proofs.Seeing.{file_set_plain, holder_address}
use Rattle.udf_dues.proofs.Wholeness.{FitsFields}

no_element : {X : Type 0} (x : X) → None ≡ Some x → ⊥
no_element x e = cc

kept_at : (s : Setting) (t : Tree) (all hs : List Held) (ks : List (Option Keeping)) → AreKeptOf s t all hs ks → (i : ℕ) (h : Held) → slice_get hs i ≡ Some h → IsKeeping s t all h (get_or ks i None)
kept_at s t all [] [] a i h e = absurd (no_element h e)
kept_at s t all [] (k ∷ ks) a i h e = absurd a
kept_at s t all (y ∷ ys) [] a i h e = absurd a
kept_at s t all (y ∷ ys) (k ∷ ks) a zero h e = subst (λ (z : Held). IsKeeping s t all z k) (same_Some y h e) a.0
kept_at s t all (y ∷ ys) (k ∷ ks) a (suc i) h e = kept_at s t all ys ks a.1 i h e

content_at : (f : Frame) (v : Volume) (hs : List Held) (ks : List (Option Keeping)) (cs : List (Option MendedContent)) → AreContentsOf f v hs ks cs → (i : ℕ) (h : Held) → slice_get hs i ≡ Some h
    → IsContent f v h (get_or ks i None) (get_or cs i None)
content_at f v [] ks cs a i h e = absurd (no_element h e)
content_at f v (y ∷ ys) [] cs a i h e = absurd a
content_at f v (y ∷ ys) (k ∷ ks) [] a i h e = absurd a
content_at f v (y ∷ ys) (k ∷ ks) (c ∷ cs) a zero h e = subst (λ (z : Held). IsContent f v z k c) (same_Some y h e) a.0
content_at f v (y ∷ ys) (k ∷ ks) (c ∷ cs) a (suc i) h e = content_at f v ys ks cs a.1 i h e

address_fits : (a : Addr) → is_address a ≡ true → FitsFields a
address_fits a h =
    let b = and_parts (nat_lt a.part 65536) (nat_lt a.block 4294967296) h in
    record { part = below a.part 65536 b.0; block = below a.block 4294967296 b.1 }
  where
    below : (m n : ℕ) → nat_lt m n ≡ true → m < n
    below m n t = grind (arith, nat_tests)

holder_is : (s : Setting) (t : Tree) (x : Rank) (d : Addr) (l : Link) → x ≡ keeping_rank s t d l → x.holder ≡ d
unfolding keeping_rank
holder_is s t x d l e = ap (λ (r : Rank). r.holder) e

kind_of : (f : Frame) (v : Volume) (a : Addr) (e : Entry) → entry_at v a ≡ Some e → is_holder f v a ≡ false → (node_at (tree_of f v) a).directory ≡ is_directory e
unfolding node_with
kind_of f v a e h o = ap (λ (n : Node). n.directory) (node_is f v a e h o)

-- what the parent FID of an entry names, where that is a kept directory
abbrev pub Names : Frame → Volume → Held → Option Addr → Type 0
Names f v h None = is_kept_directory f v h.at ≡ false
Names f v h (Some x) = (is_kept_directory f v h.at ≡ true) × ((a : Addr) → parents_in f v a h.at ≡ cond (same_addr x a) 1 0)

module _ (f : Frame) (v : Volume) (c : HasSoundStarts (setting_of f v) (tree_of f v)) where
  found_fits : (a : Addr) → found (setting_of f v) (tree_of f v) a ≡ true → FitsFields a
  found_fits a h = address_fits a (readable_placed f v a (found_readable (setting_of f v) (tree_of f v) (volume_within f v) a h)).0

  root_start : (setting_of f v).start f.root ≡ true
  unfolding setting_of is_start
  root_start = or_left (same_addr f.root f.root) _ (address_same f.root f.root refl)

  root_fits : FitsFields f.root
  root_fits = found_fits f.root (sound_found (setting_of f v) (tree_of f v) f.root (c.starts f.root root_start))

  pub parent_fits : (a : Addr) → FitsFields (parent f v a)
  unfolding parent
  parent_fits a = by (same_addr a f.root)
    where
      at_holder : (x : Rank) → FitsFields x.holder → (b : Bool) → FitsFields (cond b f.root x.holder)
      at_holder x h true = root_fits
      at_holder x h false = h

      holder_fits : (x : Rank) → keeping (setting_of f v) (tree_of f v) a ≡ Some x → FitsFields x.holder
      holder_fits x e =
          let k = keeping_by (setting_of f v) (tree_of f v) a x e in
          subst FitsFields (sym (holder_is (setting_of f v) (tree_of f v) x k.0 k.1 k.3)) (found_fits k.0 (kept_found (setting_of f v) (tree_of f v) (volume_within f v) c k.0 k.2.holder))

      by_rank : (o : Option Rank) → keeping (setting_of f v) (tree_of f v) a ≡ o → FitsFields (parent_by f o)
      by_rank None e = root_fits
      by_rank (Some x) e = at_holder x (holder_fits x e) (same_addr x.holder f.file_set)

      by : (b : Bool) → FitsFields (cond b f.root (parent_by f (keeping (setting_of f v) (tree_of f v) a)))
      by true = root_fits
      by false = by_rank (keeping (setting_of f v) (tree_of f v) a) refl

  module _ (set : HoldsFileSet f v) (hs : List Held) (held : AreHeldOf f v hs) where
    -- a held entry is a directory by its block where it has a shape and is one
    pub directory_is : (h : Held) → Member h hs → is_directory_by (entry_at v h.at) ≡ (h.directory && is_some h.shape)
    directory_is h m = by h.shape (held.each_of h m).shape
      where
        never : (b : Bool) → false ≡ (b && false)
        never true = refl
        never false = refl

        whole : (b : Bool) → b ≡ (b && true)
        whole true = refl
        whole false = refl

        by : (o : Option Shape) → IsShaped f v h.at o → is_directory_by (entry_at v h.at) ≡ (h.directory && is_some o)
        by None s = ap is_directory_by (ap (entry_at v) (holder_address f v h.at s) ∙ (file_set_plain f v set).0) ∙ never h.directory
        by (Some x) (other, e, there, shape) =
            ap is_directory_by there ∙ sym (kind_of f v h.at e there other) ∙ sym (held.held.each h m).directory ∙ whole h.directory

    module _ (ks : List (Option Keeping)) (keepings : AreKept (setting_of f v) (tree_of f v) hs ks) where
      -- the parent by the link that keeps an entry
      parent_is : (h : Held) (k : Keeping) → IsKeptBy (setting_of f v) (tree_of f v) hs h k → parent_seen f.root f.file_set hs h.at k ≡ parent f v h.at
      unfolding parent
      parent_is h k kept = ap (λ (a : Addr). cond (same_addr h.at f.root) f.root a) (by k.by kept.by)
        where
          by : (o : Option Choice) → IsChoice hs (λ d. depth (setting_of f v) (tree_of f v) d.at) (keeping (setting_of f v) (tree_of f v) h.at) o
              → holder_seen f.root f.file_set hs o ≡ parent_by f (keeping (setting_of f v) (tree_of f v) h.at)
          by None e = sym (ap (parent_by f) e)
          by (Some x) (d, there, e) = ap (address_seen f.root f.file_set) there ∙ sym (ap (parent_by f) e)

      module _ (size : is_size v.size ≡ true) (bytes : AreOfBytes f v hs) (cs : List (Option MendedContent)) (contents : AreContents f v hs ks cs) where
        kept_names : (h : Held) (k : Keeping) (o : Option MendedContent) → Member h hs → IsKeptBy (setting_of f v) (tree_of f v) hs h k → (h.directory && is_some h.shape) ≡ true → IsContentOf f v h o
            → Names f v h (cond (is_some o) (Some (parent_seen f.root f.file_set hs h.at k)) h.parents.only)
        kept_names h k o m kept d content = by o content
          where
            here : is_kept_directory f v h.at ≡ true
            here = and_from _ _ kept.kept_is (directory_is h m ∙ d)

            sound_held : h.sound ≡ true
            sound_held = (held.held.each h m).sound_is ∙ kept_sound (setting_of f v) (tree_of f v) (volume_within f v) c h.at kept.kept_is

            by : (o : Option MendedContent) → IsContentOf f v h o → Names f v h (cond (is_some o) (Some (parent_seen f.root f.file_set hs h.at k)) h.parents.only)
            by None stays =
                let x = stays_names f v h.at stays in
                subst (Names f v h) (sym ((held.each_of h m).parent sound_held (and_parts h.directory (is_some h.shape) d).1 ∙ x.1.only)) (here, x.1.counts)
            by (Some new) mended = (
              here,
              λ a. mended_names f v size h.at (bytes.blocks h m (and_parts h.directory (is_some h.shape) d).1) (bytes.contents h m (and_parts h.directory (is_some h.shape) d).1) (parent_fits h.at) mended.0 a ∙ ap (λ (x : Addr). cond {A = ℕ} (same_addr x a) 1 0) (sym (parent_is h k kept)),
            )

        seen_names : (h : Held) (o : Option Keeping) (content : Option MendedContent) → Member h hs → IsKeeping (setting_of f v) (tree_of f v) hs h o → IsContent f v h o content
            → Names f v h (named_seen f.root f.file_set hs h o (is_some content))
        seen_names h None content m k i = ap (λ b. b && is_directory_by (entry_at v h.at)) k
        seen_names h (Some x) content m k i = by (h.directory && is_some h.shape) refl
          where
            never : (b : Bool) → (b && false) ≡ false
            never true = refl
            never false = refl

            by : (b : Bool) → (h.directory && is_some h.shape) ≡ b
                → Names f v h (cond b (cond (is_some content) (Some (parent_seen f.root f.file_set hs h.at x)) h.parents.only) None)
            by true d = kept_names h x content m k d (i.of_kept d)
            by false d = ap (λ b. kept (setting_of f v) (tree_of f v) h.at && b) (directory_is h m ∙ d) ∙ never _

        pub names_at : (root file_set : Addr) → f.root ≡ root → f.file_set ≡ file_set → (ps : List (Option Addr)) → AreNamed root file_set hs ks cs ps
            → (i : ℕ) (h : Held) → slice_get hs i ≡ Some h → Names f v h (get_or ps i None)
        names_at root file_set same set_same ps named i h e =
            subst (Names f v h)
            (ap (λ (r : Addr). named_seen r f.file_set hs h (get_or ks i None) (is_some (get_or cs i None))) same
            ∙ ap (λ (r : Addr). named_seen root r hs h (get_or ks i None) (is_some (get_or cs i None))) set_same
            ∙ sym (named.each i h e))
            (seen_names h (get_or ks i None) (get_or cs i None) (member_at hs i h e) (kept_at (setting_of f v) (tree_of f v) hs hs ks keepings.each i h e) (content_at f v hs ks cs contents.each i h e))
