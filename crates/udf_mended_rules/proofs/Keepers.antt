-- After all mends the kept directories hang on the same holders, by links that say the same.
use Rattle.std.proofs.Common.{◌≡◌, ◌⊎◌, ℕ, zero, suc, ◌&&◌, not, nat_le, Bool, true, false, cond, length, Some, None, List, arith, Option, refl, sym, ap, ◌∙◌, subst, inl, inr}
use Rattle.std.specs.Prelude.{◌==◌}
use Rattle.std.specs.List.{list_any}
use Rattle.std.proofs.lemmas.Bool.{and_parts, false≢true, or_left}
use Rattle.std.proofs.lemmas.Bool.Decides.{nat_tests}
use Rattle.udf_field.specs.declared.address.Addr.{Addr}
use Rattle.udf_file_model.specs.Address.{same_addr}
use Rattle.udf_file_model.specs.Listing.{Volume, with_disk}
use Rattle.udf_tree_model.specs.Among.{Member}
use Rattle.udf_tree_model.specs.Chosen.{Rank, chosen, chosen_link, fitted, rank_of}
use Rattle.udf_tree_model.specs.Counts.{is_stream}
use Rattle.udf_tree_model.specs.Found.{leads_to}
use Rattle.udf_tree_model.specs.Frame.{Frame, is_holder, is_start, places, setting_of, tree_of}
use Rattle.udf_tree_model.specs.Kept.{kept}
use Rattle.udf_tree_model.specs.Laws.{KeepsBy}
use Rattle.udf_tree_model.specs.Link.{Link, Says, is_pointer, target_of}
use Rattle.udf_tree_model.specs.Mended.{IsMended, said}
use Rattle.udf_tree_model.specs.Node.{Setting, Tree, node_at}
use Rattle.udf_tree_model.specs.Parent.{is_pointer_rank, is_stream_directory, keeping, keeping_rank, ordinary, ordinary_graph, parent, parent_by}
use Rattle.udf_tree_model.specs.Rounds.{in_round, reached}
use Rattle.udf_tree_model.proofs.Choosing.{keeps_chosen, keeps_no_start}
use Rattle.udf_tree_model.proofs.Keeping.{edge_from, kept_by, kept_start, kept_target}
use Rattle.udf_tree_model.proofs.Linking.{said_there}
use Rattle.udf_tree_model.proofs.Members.{any_from, any_gives, contains_of, member_of, same_bools}
use Rattle.udf_tree_model.proofs.Parents.{keeping_directory}
use Rattle.udf_tree_model.proofs.Places.{same_address}
use Rattle.udf_tree_model.proofs.Reached.{round_gives, same_rounds, zero_round}
use Rattle.udf_file_mends.specs.FileSet.{frame_after}
use Rattle.udf_kept.proofs.Ordinaries.{fitted_place}
use Rattle.udf_mended_rules.specs.AllMends.{HasAllMends}
use Rattle.udf_mended_rules.proofs.Dropped.{IsSameBut}
use Rattle.udf_mended_rules.proofs.Holder.{holder_start, is_gone, mended_tree, told_same}
use Rattle.udf_mended_rules.proofs.Settled as settled

-- a test of what links say has the same answer on lists that say the same
says_any : (p : Says → Bool) (xs ys : List Link) → said xs ≡ said ys → list_any (λ l. p l.says) xs ≡ true → list_any (λ l. p l.says) ys ≡ true
says_any p xs ys e h =
    let r = any_gives (λ (l : Link). p l.says) xs h in
    let k = said_there xs ys e r.0 r.1 in
    any_from (λ (l : Link). p l.says) ys k.0 k.1 (ap p (sym k.2) ∙ r.2)

-- a pointer is the link at place 0
pointer_place : (n : ℕ) (b : Bool) → not b ≡ nat_le 1 n → (n == 0) ≡ b
pointer_place n true e = grind (arith, nat_tests)
pointer_place n false e = grind (arith, nat_tests)

pub place_is : (f : Frame) (v : Volume) (d : Addr) (l : Link) → Member l (fitted (setting_of f v) (tree_of f v) d) → (l.place == 0) ≡ is_pointer l.says
place_is f v d l m = pointer_place l.place (is_pointer l.says) (fitted_place f v d l m)

module _ (f : Frame) (v : Volume) (disk : ℕ → List ℕ) (h : HasAllMends f v disk) where
  abbrev w : Volume
  w = with_disk v disk

  abbrev s : Setting
  s = setting_of f v

  abbrev t : Tree
  t = tree_of f v

  abbrev u : Tree
  u = mended_tree f v disk

  abbrev g : Frame
  g = frame_after f v

  told : IsSameBut (setting_of f v) (setting_of (frame_after f v) (with_disk v disk)) (mended_tree f v disk) (tree_of (frame_after f v) (with_disk v disk)) (is_gone f v)
  told = told_same f v disk h

  all : IsMended s t u
  all = settled.all f v disk h

  again : IsMended s u u
  again = settled.again f v disk h

  says_same : (a : Addr) → kept s t a ≡ true → said (fitted s u a) ≡ said (fitted s t a)
  says_same a k = ((settled.is_settled f v disk h).at_each a k).links_same

  pub fitted_says : (a : Addr) → kept (setting_of f v) (tree_of f v) a ≡ true
      → said (fitted (setting_of (frame_after f v) (with_disk v disk)) (tree_of (frame_after f v) (with_disk v disk)) a) ≡ said (fitted (setting_of f v) (tree_of f v) a)
  fitted_says a k = ap said (told.fits a) ∙ says_same a k

  -- a link that keeps an entry in the mended tree, for the one that keeps it in the old one
  record Twin (a d : Addr) (l : Link) : Type 0 where
    link : Link
    keeps : KeepsBy s u a d link
    says : l.says ≡ link.says

  twin : (a d : Addr) (l : Link) → KeepsBy s t a d l → Twin a d l
  twin a d l k =
      let r = said_there (fitted s t d) (fitted s u d) (sym (says_same d k.holder)) l (member_of (fitted s t d) l k.among) in
      record {
        link = r.0;
        keeps = record {
          holder = (settled.is_settled f v disk h).kept_is_kept d ∙ k.holder;
          among = contains_of (fitted s u d) r.0 r.1;
          leads = ap target_of (sym r.2) ∙ k.leads;
        };
        says = r.2;
      }

  new_place : (d : Addr) (l : Link) → Member l (fitted s u d) → (l.place == 0) ≡ is_pointer l.says
  new_place d l m = place_is g w d l (subst (λ (ls : List Link). Member l ls) (sym (told.fits d)) m)

  -- ---- stream directories
  rank_place : (s : Setting) (t : Tree) (d : Addr) (l : Link) → (rank_of s t d l).place ≡ l.place
  unfolding rank_of
  rank_place s t d l = refl

  kind_same : (a : Addr) → kept s t a ≡ true → (node_at u a).directory ≡ (node_at t a).directory
  kind_same a k = (all.each a k).same_kind

  pointers_same : (a : Addr) → kept s t a ≡ true → (node_at t a).directory ≡ true → is_pointer_rank (chosen_link s u a) ≡ is_pointer_rank (chosen_link s t a)
  unfolding chosen_link
  pointers_same a k directory = go (kept_by s t all.old_within all.old_starts a k)
    where
      go : (s.start a ≡ true) ⊎ ((d : Addr) × (l : Link) × KeepsBy s t a d l)
          → is_pointer_rank (cond (s.start a) None (chosen s u a)) ≡ is_pointer_rank (cond (s.start a) None (chosen s t a))
      go (inl e) = ap (λ b. is_pointer_rank (cond b None (chosen s u a))) e ∙ sym (ap (λ b. is_pointer_rank (cond b None (chosen s t a))) e)
      go (inr r) = ap (λ o. is_pointer_rank (cond (s.start a) None o)) new ∙ by (s.start a) ∙ sym (ap (λ o. is_pointer_rank (cond (s.start a) None o)) old)
        where
          x : Twin a r.0 r.1
          x = twin a r.0 r.1 r.2

          old : chosen s t a ≡ Some (rank_of s t r.0 r.1)
          old = keeps_chosen s t a r.0 r.1 r.2 directory

          new : chosen s u a ≡ Some (rank_of s u r.0 x.link)
          new = keeps_chosen s u a r.0 x.link x.keeps (kind_same a k ∙ directory)

          places_same : (x.link.place == 0) ≡ (r.1.place == 0)
          places_same =
              new_place r.0 x.link (member_of (fitted s u r.0) x.link x.keeps.among) ∙ ap is_pointer (sym x.says)
              ∙ sym (place_is f v r.0 r.1 (member_of (fitted s t r.0) r.1 r.2.among))

          by : (b : Bool) → is_pointer_rank (cond b None (Some (rank_of s u r.0 x.link))) ≡ is_pointer_rank (cond b None (Some (rank_of s t r.0 r.1)))
          by true = refl
          by false = ap (λ n. n == 0) (rank_place s u r.0 x.link) ∙ places_same ∙ sym (ap (λ n. n == 0) (rank_place s t r.0 r.1))

  pub streams_same : (a : Addr) → is_stream (frame_after f v) (with_disk v disk) a ≡ is_stream f v a
  unfolding is_stream_directory
  streams_same a =
      told.streams a
      ∙ ap (λ b. b && ((node_at u a).directory && is_pointer_rank (chosen_link s u a))) ((settled.is_settled f v disk h).kept_is_kept a)
      ∙ by (kept s t a) refl
    where
      at : (b : Bool) → kept s t a ≡ true → (node_at t a).directory ≡ b → (b && is_pointer_rank (chosen_link s u a)) ≡ (b && is_pointer_rank (chosen_link s t a))
      at true k directory = pointers_same a k directory
      at false k directory = refl

      by : (b : Bool) → kept s t a ≡ b
          → (b && ((node_at u a).directory && is_pointer_rank (chosen_link s u a))) ≡ (b && ((node_at t a).directory && is_pointer_rank (chosen_link s t a)))
      by true k = ap (λ b. b && is_pointer_rank (chosen_link s u a)) (kind_same a k) ∙ at (node_at t a).directory k refl
      by false k = refl

  -- ---- parents
  holder_of : (s : Setting) (t : Tree) (d : Addr) (l : Link) → (keeping_rank s t d l).holder ≡ d
  unfolding keeping_rank
  holder_of s t d l = refl

  abbrev kept_on : Addr → Addr
  kept_on d = cond (same_addr d f.file_set) f.root d

  parent_is : (a : Addr) → same_addr a f.root ≡ false → (o : Option Rank) (d : Addr) (x : Rank) → o ≡ Some x → x.holder ≡ d
      → cond (same_addr a f.root) f.root (parent_by f o) ≡ kept_on d
  parent_is a n o d x k e =
      ap (λ b. cond b f.root (parent_by f o)) n ∙ ap (parent_by f) k
      ∙ ap (λ z. cond (same_addr z f.file_set) f.root z) e

  parent_new : (a : Addr) → parent (frame_after f v) (with_disk v disk) a ≡ cond (same_addr a f.root) f.root (parent_by f (keeping s u a))
  unfolding parent frame_after
  parent_new a = ap (λ o. cond (same_addr a f.root) f.root (parent_by f o)) (told.keepers a)

  parent_old : (a : Addr) → parent f v a ≡ cond (same_addr a f.root) f.root (parent_by f (keeping s t a))
  unfolding parent
  parent_old a = refl

  -- the parent of a kept directory that is no start but the root
  pub parents_same : (a : Addr) → kept (setting_of f v) (tree_of f v) a ≡ true → (node_at (tree_of f v) a).directory ≡ true
      → (setting_of f v).start a ≡ same_addr a f.root → parent (frame_after f v) (with_disk v disk) a ≡ parent f v a
  parents_same a k directory start = parent_new a ∙ by (same_addr a f.root) refl ∙ sym (parent_old a)
    where
      root : same_addr a f.root ≡ true → (o : Option Rank) → cond (same_addr a f.root) f.root (parent_by f o) ≡ f.root
      root e o = ap (λ b. cond b f.root (parent_by f o)) e

      kept_by_link : same_addr a f.root ≡ false → (s.start a ≡ true) ⊎ ((d : Addr) × (l : Link) × KeepsBy s t a d l)
          → cond (same_addr a f.root) f.root (parent_by f (keeping s u a)) ≡ cond (same_addr a f.root) f.root (parent_by f (keeping s t a))
      kept_by_link n (inl e) = absurd (false≢true (sym (start ∙ n) ∙ e))
      kept_by_link n (inr r) =
          let x = twin a r.0 r.1 r.2 in
          let old = keeping_directory s t all.old_within all.old_starts all.old_places a r.0 r.1 r.2 directory in
          let new = keeping_directory s u again.old_within again.old_starts again.old_places a r.0 x.link x.keeps (kind_same a k ∙ directory) in
          parent_is a n (keeping s u a) r.0 (keeping_rank s u r.0 x.link) new (holder_of s u r.0 x.link)
          ∙ sym (parent_is a n (keeping s t a) r.0 (keeping_rank s t r.0 r.1) old (holder_of s t r.0 r.1))

      by : (b : Bool) → same_addr a f.root ≡ b
          → cond (same_addr a f.root) f.root (parent_by f (keeping s u a)) ≡ cond (same_addr a f.root) f.root (parent_by f (keeping s t a))
      by true e = root e (keeping s u a) ∙ sym (root e (keeping s t a))
      by false e = kept_by_link e (kept_by s t all.old_within all.old_starts a k)

  -- ---- ordinary entries
  edges_same : (d a : Addr) → kept s t d ≡ true → (ordinary_graph f v).edge d a ≡ (ordinary_graph g w).edge d a
  unfolding ordinary_graph
  edges_same d a k =
      let l = fitted_says d k in
      same_bools _ _ (says_any (λ x. not (is_pointer x) && same_addr (target_of x) a) (fitted s t d) (fitted (setting_of g w) (tree_of g w) d) (sym l))
      (says_any (λ x. not (is_pointer x) && same_addr (target_of x) a) (fitted (setting_of g w) (tree_of g w) d) (fitted s t d) l)

  root_start : (a : Addr) → same_addr a f.root ≡ true → s.start a ≡ true
  unfolding setting_of is_start
  root_start a e = or_left (same_addr a f.root) _ e

  edge_keeps : (d a : Addr) → kept s t d ≡ true → (ordinary_graph f v).edge d a ≡ true → (l : Link) × KeepsBy s t a d l
  unfolding ordinary_graph
  edge_keeps d a k e =
      let r = any_gives (λ (l : Link). not (is_pointer l.says) && leads_to a l) (fitted s t d) e in
      let leads = (and_parts (not (is_pointer r.0.says)) (leads_to a r.0) r.2).1 in
      (r.0, record { holder = k; among = contains_of (fitted s t d) r.0 r.1; leads = same_address (target_of r.0.says) a leads })

  at_root : (a : Addr) → in_round (ordinary_graph f v) zero a ≡ true → same_addr a f.root ≡ true
  at_root a i = let e = zero_round (ordinary_graph f v) a i in (unfold ordinary_graph in e)

  -- what so many rounds reach is kept, and no start but the root is among it
  round_kept : (k : ℕ) (a : Addr) → in_round (ordinary_graph f v) k a ≡ true → (kept s t a ≡ true) × (s.start a ≡ true → same_addr a f.root ≡ true)
  round_kept zero a i = (kept_start s t all.old_within all.old_starts a (root_start a (at_root a i)), λ e. at_root a i)
  round_kept (suc k) a i = go (round_kept k) (round_gives (ordinary_graph f v) k a i)
    where
      go : ((d : Addr) → in_round (ordinary_graph f v) k d ≡ true → (kept s t d ≡ true) × (s.start d ≡ true → same_addr d f.root ≡ true))
          → (in_round (ordinary_graph f v) k a ≡ true)
          ⊎ ((d : Addr) × Member d (ordinary_graph f v).places × (in_round (ordinary_graph f v) k d ≡ true) × ((ordinary_graph f v).edge d a ≡ true))
          → (kept s t a ≡ true) × (s.start a ≡ true → same_addr a f.root ≡ true)
      go rest (inl e) = rest a e
      go rest (inr r) =
          let l = edge_keeps r.0 a (rest r.0 r.2).0 r.3 in (
            kept_target s t all.old_within all.old_starts r.0 a l.1.holder (edge_from s t r.0 a l.0 (member_of (fitted s t r.0) l.0 l.1.among) l.1.leads),
            λ e. absurd (false≢true (sym (keeps_no_start s t all.old_starts a r.0 l.0 l.1) ∙ e)),
          )

  ordinary_rounds : (k : ℕ) (a : Addr) → in_round (ordinary_graph f v) k a ≡ in_round (ordinary_graph g w) k a
  ordinary_rounds = same_rounds (ordinary_graph f v) (ordinary_graph g w) places_same (λ a. start_same a) (λ k d a i. edges_same d a (round_kept k d i).0)
    where
      places_same : (ordinary_graph f v).places ≡ (ordinary_graph g w).places
      places_same = unfold ordinary_graph setting_of places in refl

      start_same : (a : Addr) → (ordinary_graph f v).start a ≡ (ordinary_graph g w).start a
      start_same a = unfold ordinary_graph frame_after in refl

  pub ordinary_same : (a : Addr) → ordinary (frame_after f v) (with_disk v disk) a ≡ ordinary f v a
  unfolding ordinary reached ordinary_graph setting_of places
  ordinary_same a = sym (ordinary_rounds (length (places v)) a)

  pub ordinary_kept : (a : Addr) → ordinary f v a ≡ true → kept (setting_of f v) (tree_of f v) a ≡ true
  unfolding ordinary reached
  ordinary_kept a o = (round_kept (length (ordinary_graph f v).places) a o).0

  -- where the file set is ordinary it is the root
  pub start_is_root : (a : Addr) → ordinary f v a ≡ true → is_holder f v a ≡ true → same_addr a f.root ≡ true
  unfolding ordinary reached setting_of
  start_is_root a o n = (round_kept (length (ordinary_graph f v).places) a o).1 (holder_start f v disk h a n)
