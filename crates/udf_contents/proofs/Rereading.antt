-- The content of a kept directory, read again and made anew.
use Rattle.std.proofs.Common.{◌≡◌, ◌⊎◌, ℕ, suc, ◌-◌, List, [], ◌∷◌, ◌++◌, map, drop, Bool, true, false, cond, nat_eq, Option, Some, None, refl, sym, ap, ◌∙◌, subst, inl, inr, arith}
use Rattle.std.specs.Prelude.{is_some}
use Rattle.std.specs.List.{filter}
use Rattle.std.proofs.lemmas.Bool.Decides.{nat_tests}
use Rattle.std.proofs.lemmas.List.Elements.{All-contains}
use Rattle.udf_field.specs.declared.address.Addr.{Addr}
use Rattle.udf_model.specs.Tag as tag
use Rattle.udf_file_model.specs.Entry.{Entry, entry_of, is_directory}
use Rattle.udf_file_model.specs.Fid.{fid_at, is_live}
use Rattle.udf_file_model.specs.Listing.{Listing, Volume, list_for, listing, listing_at}
use Rattle.udf_file_model.specs.Content as file
use Rattle.udf_file_model.specs.Content.{block_at, block_by}
use Rattle.udf_file_model.specs.Scan.{Placed, fids}
use Rattle.udf_file_model.proofs.Fids.{begins_found}
use Rattle.udf_file_model.proofs.Greedy.{Stands, is_scan}
use Rattle.udf_tree_model.specs.Among.{Member}
use Rattle.udf_tree_model.specs.Chosen.{fitted}
use Rattle.udf_tree_model.specs.Content.{content_location, content_stays, fid_of, first_block, fitted_bytes, kept_content, mended_content, parent_fid, parent_fid_by}
use Rattle.udf_tree_model.specs.Frame.{Frame, content_to, entry_at, entry_by, is_address, is_holder, links_of, node_with, setting_of, stream_of, tree_of}
use Rattle.udf_tree_model.specs.Link as model
use Rattle.udf_tree_model.specs.Link.{fid_link, fid_links, pointer_link, pointer_links}
use Rattle.udf_tree_model.specs.Node.{Node}
use Rattle.udf_tree_model.proofs.Keeping.{fitted_gives}
use Rattle.udf_tree_model.proofs.Members.{contains_of, member_append, member_filter, member_of_map}
use Rattle.udf_tree_model.proofs.Stating.{node_is}
use Rattle.udf_kept.specs.declared.fitted.Fitted.{Fitted}
use Rattle.udf_held.specs.declared.held.Held.{Held}
use Rattle.udf_found.specs.declared.shape.Shape.{Shape}
use Rattle.udf_contents.specs.Anew.{bytes_at, bytes_or, bytes_over, first_parent, parent_from}
use Rattle.udf_kept.specs.Fitted.{Step, step_of, step_seen}
use Rattle.udf_held.specs.Held.{IsHeld, IsHeldOf}
use Rattle.udf_found.specs.Shape.{IsShaped}
use Rattle.udf_contents.specs.Stays.{NeedsMend}
use Rattle.udf_contents.proofs.Ruling.{links_are}
use Rattle.udf_found.proofs.Told.{content_up_to, entry_unplaced, listed_there}

-- ---- the bytes of fitted links
module _ (size : ℕ) (content : List ℕ) where
  over_places : List ℕ → List ℕ
  over_places [] = []
  over_places (n ∷ ns) = bytes_at size content n ++ over_places ns

  code_places : (hs : List Held) (xs : List Fitted) → bytes_over size content xs ≡ over_places (map (λ (x : Step). x.place) (map (step_seen hs) xs))
  unfolding bytes_over over_places
  code_places hs [] = refl
  code_places hs (x ∷ xs) = ap (λ (z : List ℕ). bytes_at size content x.place ++ z) (code_places hs xs)

  pointer_bytes : (o : Option Addr) (f : model.Link) → Member f (pointer_links o) → bytes_at size content f.place ≡ fid_of f.says
  unfolding bytes_at
  pointer_bytes None f m = absurd m
  pointer_bytes (Some a) f (inl e) = subst (λ (g : model.Link). bytes_at size content g.place ≡ fid_of g.says) (sym e) refl
  pointer_bytes (Some a) f (inr m) = absurd m

  placed_bytes : (p : Placed) → Member p (fids size content) → bytes_at size content (suc p.0) ≡ p.1
  unfolding bytes_at
  placed_bytes p m =
      let some : nat_eq (suc p.0) 0 ≡ false = grind (arith, nat_tests) in
      let less : suc p.0 - 1 ≡ p.0 = omega arith in
      let at : fid_at size (drop p.0 content) ≡ Some p.1 =
      begins_found size (drop p.0 content) p.1 (All-contains (Stands size content) (fids size content) p (is_scan size content).whole (contains_of (fids size content) p m)).1 in
      ap (λ (b : Bool). cond b [] (bytes_or (fid_at size (drop (suc p.0 - 1) content)))) some
      ∙ ap (λ (n : ℕ). bytes_or (fid_at size (drop n content))) less
      ∙ ap bytes_or at

  link_bytes : (e : Entry) (f : model.Link) → Member f (links_of size e content) → bytes_at size content f.place ≡ fid_of f.says
  unfolding links_of fid_links
  link_bytes e f m = go (member_append (pointer_links (stream_of e.stream)) (fid_links size content) f m)
    where
      go : Member f (pointer_links (stream_of e.stream)) ⊎ Member f (fid_links size content) → bytes_at size content f.place ≡ fid_of f.says
      go (inl k) = pointer_bytes (stream_of e.stream) f k
      go (inr k) =
          let r = member_of_map fid_link (filter (λ p. is_live p.1) (fids size content)) f k in
          let p : Placed = r.0 in
          subst (λ (g : model.Link). bytes_at size content g.place ≡ fid_of g.says) (sym r.2) (placed_bytes p (member_filter (λ p. is_live p.1) (fids size content) p r.1).0)

  model_places : (fs : List model.Link) → ((f : model.Link) → Member f fs → bytes_at size content f.place ≡ fid_of f.says)
      → over_places (map (λ (x : Step). x.place) (map step_of fs)) ≡ fitted_bytes fs
  unfolding over_places
  model_places [] h = refl
  model_places (f ∷ fs) h =
      ap (λ (z : List ℕ). z ++ over_places (map (λ (x : Step). x.place) (map step_of fs))) (h f (inl refl))
      ∙ ap (λ (z : List ℕ). fid_of f.says ++ z) (model_places fs (λ g m. h g (inr m)))

-- ---- a readable entry where it is placed
entry_found : (v : Volume) (a : Addr) (e : Entry) (sector : ℕ) (block : List ℕ) → entry_at v a ≡ Some e → v.place a ≡ Some sector → block ≡ v.disk sector → entry_of a.block block ≡ Some e
unfolding entry_at
entry_found v a e sector block h p d = by (is_address a) h
  where
    by : (b : Bool) → cond b (entry_by v a (v.place a)) None ≡ Some e → entry_of a.block block ≡ Some e
    by false k = cc
    by true k = ap (entry_of a.block) d ∙ sym (ap (entry_by v a) p) ∙ k

pub entry_lost : (f : Frame) (v : Volume) (h : Held) (P : Type 0) → IsHeldOf f v h → is_some h.shape ≡ true → v.place h.at ≡ None → P
entry_lost f v h P o shaped p = by h.shape shaped o.shape
  where
    by : (x : Option Shape) → is_some x ≡ true → IsShaped f v h.at x → P
    by None e q = cc
    by (Some x) e (other, entry, there, shape) = let k : Some entry ≡ None = sym there ∙ entry_unplaced v h.at p in absurd cc

-- ---- the content anew
module _ (f : Frame) (v : Volume) (hs : List Held) (h : Held) (xs : List Fitted) (above : Addr) (i : IsHeld (setting_of f v) (tree_of f v) h) (o : IsHeldOf f v h) (n : NeedsMend f v h above)
    (steps : map (step_seen hs) xs ≡ map step_of (fitted (setting_of f v) (tree_of f v) h.at)) where
  module _ (sector : ℕ) (block : List ℕ) (l : Listing) (content : List ℕ) (location : ℕ) (placed : v.place h.at ≡ Some sector) (read : block ≡ v.disk sector)
      (list : l ≡ listing_at v h.at block) (told : content ≡ file.content_by v l.runs h.kept (entry_of (tag.location block) block)) (stands : location ≡ first_block h.at.block l.runs) where
    module _ (e : Entry) (there : entry_at v h.at ≡ Some e) (other : is_holder f v h.at ≡ false) where
      found : entry_of h.at.block block ≡ Some e
      found = entry_found v h.at e sector block there placed read

      is_dir : is_directory e ≡ true
      unfolding node_with
      is_dir = sym (ap (λ (x : Node). x.directory) (node_is f v h.at e there other)) ∙ sym i.directory ∙ n.directory_is

      content_is : content ≡ kept_content f v h.at
      unfolding kept_content
      content_is =
          content_up_to v h.at block e l h.kept content found is_dir list told
          ∙ ap (content_to v e (list_for v h.at e)) i.kept_is
          ∙ sym (ap (Rattle.udf_tree_model.specs.Content.content_by f v h.at) there)

      location_is : location ≡ content_location v h.at (entry_at v h.at)
      unfolding listing
      location_is =
          stands
          ∙ ap (λ (x : Listing). first_block h.at.block x.runs) (listed_there v h.at block e l found list)
          ∙ sym (ap (content_location v h.at) there)

      block_is : block ≡ block_at v h.at
      block_is = read ∙ sym (ap (block_by v.disk) placed)

      parent_is : parent_from v.size block location above (first_parent v.size content) ≡ parent_fid f v h.at
      unfolding parent_fid
      parent_is =
          ap (λ (c : List ℕ). parent_from v.size block location above (first_parent v.size c)) content_is
          ∙ by (first_parent v.size (kept_content f v h.at))
        where
          by : (x : Option (List ℕ)) → parent_from v.size block location above x ≡ parent_fid_by f v h.at x
          by None =
              ap (λ (b : List ℕ). Rattle.udf_tree_model.specs.Content.fresh_parent v.size b location above) block_is
              ∙ ap (λ (m : ℕ). Rattle.udf_tree_model.specs.Content.fresh_parent v.size (block_at v h.at) m above) location_is
              ∙ ap (Rattle.udf_tree_model.specs.Content.fresh_parent v.size (block_at v h.at) (content_location v h.at (entry_at v h.at))) n.under
          by (Some fid) = ap (λ (x : Addr). Rattle.udf_file_model.specs.Anew.named_anew x fid) n.under

      fitted_are : bytes_over v.size content xs ≡ fitted_bytes (fitted (setting_of f v) (tree_of f v) h.at)
      fitted_are =
          ap (λ (c : List ℕ). bytes_over v.size c xs) content_is
          ∙ code_places v.size (kept_content f v h.at) hs xs
          ∙ ap (λ (z : List Step). over_places v.size (kept_content f v h.at) (map (λ (x : Step). x.place) z)) steps
          ∙ model_places v.size (kept_content f v h.at) (fitted (setting_of f v) (tree_of f v) h.at)
          (λ g m. link_bytes v.size (kept_content f v h.at) e g
          (subst (λ (fs : List model.Link). Member g fs) (links_are f v h.at e there other) (fitted_gives (setting_of f v) (tree_of f v) h.at g m).0))

      whole : (size : ℕ) (bytes : List ℕ) → size ≡ v.size → bytes ≡ parent_from size block location above (first_parent size content) ++ bytes_over size content xs → bytes ≡ mended_content f v h.at
      unfolding mended_content
      whole size bytes s b =
          b
          ∙ ap (λ (m : ℕ). parent_from m block location above (first_parent m content) ++ bytes_over m content xs) s
          ∙ ap (λ (z : List ℕ). z ++ bytes_over v.size content xs) parent_is
          ∙ ap (λ (z : List ℕ). parent_fid f v h.at ++ z) fitted_are
          ∙ sym (ap (λ (c : Bool). cond c (kept_content f v h.at) (parent_fid f v h.at ++ fitted_bytes (fitted (setting_of f v) (tree_of f v) h.at))) n.broken)

    pub mended_is : (size : ℕ) (bytes : List ℕ) → size ≡ v.size → bytes ≡ parent_from size block location above (first_parent size content) ++ bytes_over size content xs → bytes ≡ mended_content f v h.at
    mended_is size bytes s b = by h.shape n.shaped o.shape
      where
        by : (x : Option Shape) → is_some x ≡ true → IsShaped f v h.at x → bytes ≡ mended_content f v h.at
        by None e q = cc
        by (Some x) e (other, entry, there, shape) = whole entry there other size bytes s b
