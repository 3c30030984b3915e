-- The contents of kept directories, by what is held of found entries.
use Rattle.std.proofs.Common.{◌≡◌, ℕ, suc, ◌+◌, ◌<◌, ◌≤◌, List, [], ◌∷◌, ◌++◌, length, map, take, get_or, Bool, true, false, cond, ◌&&◌, Option, Some, None, refl, sym, ap, ◌∙◌, subst, inl, inr}
use Rattle.std.specs.Prelude.{is_some, min, slice_get}
use Rattle.std.proofs.lemmas.List.{take_more}
use Rattle.std.proofs.lemmas.Option.{get_or_from_slice_get, same_Some, slice_get_past}
use Rattle.udf_field.specs.declared.address.Addr.{Addr}
use Rattle.udf_file_model.specs.Entry.{is_directory}
use Rattle.udf_file_model.specs.Listing.{Volume}
use Rattle.udf_tree_model.specs.Among.{Member}
use Rattle.udf_tree_model.specs.Content.{content_by, content_holds, kept_content}
use Rattle.udf_tree_model.specs.Frame.{Frame, node_with, setting_of, tree_of}
use Rattle.udf_tree_model.specs.Kept.{kept}
use Rattle.udf_tree_model.specs.Laws.{HasSoundStarts}
use Rattle.udf_tree_model.specs.Node as tree
use Rattle.udf_tree_model.specs.Parent.{is_stream_directory, parent}
use Rattle.udf_tree_model.specs.Won.{kept_length}
use Rattle.udf_tree_model.proofs.Finding.{volume_within}
use Rattle.udf_tree_model.proofs.Keeping.{kept_sound}
use Rattle.udf_tree_model.proofs.Stating.{node_is}
use Rattle.udf_kept.specs.declared.entries.Entries.{Entries}
use Rattle.udf_kept.specs.declared.fitted.Selected.{Selected}
use Rattle.udf_held.specs.declared.held.Held.{Held}
use Rattle.udf_kept.specs.declared.keeping.Keeping.{Keeping}
use Rattle.udf_tree.specs.declared.kept_contents.KeptContent.{KeptContent}
use Rattle.udf_tree.specs.declared.node.Node.{Node}
use Rattle.udf_found.specs.declared.shape.Shape.{Shape}
use Rattle.udf_kept.specs.Fitted.{AreSelectedOf, at_by, at_of}
use Rattle.udf_held.specs.Held.{IsHeld, IsHeldOf}
use Rattle.udf_tree.specs.KeptContents.{AreKeptContents, IsKeptContent, content_held, content_to_keep, kept_content_of}
use Rattle.udf_kept.specs.Keeping.{IsKeeping, IsKeptBy}
use Rattle.udf_tree.specs.Nodes.{AreSurveyed, IsNode, node_addresses}
use Rattle.udf_found.specs.Shape.{IsShaped}
use Rattle.udf_contents.specs.Stays.{names_parent}
use Rattle.udf_contents.proofs.Leaving.{content_length, kept_within}
use Rattle.udf_contents.proofs.Ruling.{order_is}
use Rattle.udf_kept.proofs.Indexing.{member_of_get}
use Rattle.udf_contents.proofs.Mending.{keeping_there}
use Rattle.udf_tree.proofs.Surveying.{IsFound, found_of, heads}

module _ (f : Frame) (v : Volume) (h : Held) (i : IsHeld (setting_of f v) (tree_of f v) h) (o : IsHeldOf f v h) where
  -- ---- a file, and the holder of the pointer to the system stream directory
  pub no_content : is_some h.shape ≡ false → None ≡ content_held f v h
  no_content e = sym (by h.directory e)
    where
      by : (b : Bool) → is_some h.shape ≡ false → cond (b && is_some h.shape) (Some (content_to_keep f v h.at)) None ≡ None
      by true q = ap (λ (c : Bool). cond c (Some (content_to_keep f v h.at)) None) q
      by false q = refl

  pub no_directory : h.directory ≡ false → None ≡ content_held f v h
  no_directory e = sym (ap (λ (b : Bool). cond (b && is_some h.shape) (Some (content_to_keep f v h.at)) None) e)

  -- ---- a directory
  module _ (s : Shape) (shaped : h.shape ≡ Some s) (directory : h.directory ≡ true) (starts : HasSoundStarts (setting_of f v) (tree_of f v)) (own : kept (setting_of f v) (tree_of f v) h.at ≡ true) where
    bytes_are : 0 < v.size → min h.kept s.content ≡ length (kept_content f v h.at)
    unfolding kept_content node_with
    bytes_are some =
        let x = subst (IsShaped f v h.at) shaped o.shape in
        let e = x.1 in
        let kind : is_directory e ≡ true = sym (ap (λ (n : tree.Node). n.directory) (node_is f v h.at e x.2 x.0)) ∙ sym i.directory ∙ directory in
        let within = kept_within f v h.at e some x.2 x.0 in
        ap (λ (n : ℕ). min n s.content) i.kept_is
        ∙ sym (content_length v h.at e (kept_length (setting_of f v) (tree_of f v) h.at) s.content kind within x.3.content)
        ∙ ap (λ (bytes : List ℕ). length bytes) (sym (ap (content_by f v h.at) x.2))

    whole_is : (stream : Bool) (above : Addr) → stream ≡ is_stream_directory (setting_of f v) (tree_of f v) h.at → above ≡ parent f v h.at
        → names_parent stream above h.parents.only ≡ content_holds v.size (is_stream_directory (setting_of f v) (tree_of f v) h.at) (parent f v h.at) (kept_content f v h.at)
    whole_is stream above b up =
        ap (λ (x : Bool). names_parent x above h.parents.only) b
        ∙ ap (λ (x : Addr). names_parent (is_stream_directory (setting_of f v) (tree_of f v) h.at) x h.parents.only) up
        ∙ ap (names_parent (is_stream_directory (setting_of f v) (tree_of f v) h.at) (parent f v h.at))
        (o.parent (i.sound_is ∙ kept_sound (setting_of f v) (tree_of f v) (volume_within f v) starts h.at own) (ap (λ (x : Option Shape). is_some x) shaped))
        ∙ sym (order_is v.size (is_stream_directory (setting_of f v) (tree_of f v) h.at) (parent f v h.at) (kept_content f v h.at))

    abbrev made : ℕ → Bool → Option KeptContent
    made bytes whole = Some (record { bytes = bytes; whole = whole })

    pub content_there : 0 < v.size → (stream : Bool) (above : Addr) → stream ≡ is_stream_directory (setting_of f v) (tree_of f v) h.at → above ≡ parent f v h.at → (bytes : ℕ) (whole : Bool) → bytes ≡ min h.kept s.content
        → whole ≡ names_parent stream above h.parents.only → Some (record { bytes = bytes; whole = whole }) ≡ content_held f v h
    content_there some stream above b up bytes whole long holds =
        ap (λ (n : ℕ). made n whole) (long ∙ bytes_are some)
        ∙ ap (made (length (kept_content f v h.at))) (holds ∙ whole_is stream above b up)
        ∙ sym (ap (λ (x : Bool). cond (x && is_some h.shape) (Some (content_to_keep f v h.at)) None) directory ∙ ap (λ (x : Option Shape). cond (is_some x) (Some (content_to_keep f v h.at)) None) shaped)

  -- of its node
  pub content_of_node : (n : Node) → h.at ≡ n.at → n.directory ≡ h.directory → is_some h.shape ≡ true → content_held f v h ≡ kept_content_of f v n
  unfolding kept_content_of
  content_of_node n at kind shaped =
      ap (λ (b : Bool). cond (h.directory && b) (Some (content_to_keep f v h.at)) None) shaped
      ∙ plain h.directory
      ∙ ap (λ (b : Bool). cond b (Some (content_to_keep f v h.at)) None) (sym kind)
      ∙ ap (λ (a : Addr). cond n.directory (Some (content_to_keep f v a)) None) at
    where
      plain : (b : Bool) → cond (b && true) (Some (content_to_keep f v h.at)) None ≡ cond b (Some (content_to_keep f v h.at)) None
      plain true = refl
      plain false = refl

-- ---- by indexes
module _ (f : Frame) (v : Volume) (root file_set : Addr) (e : Entries) (links ids : List ℕ) (k : AreSurveyed f v root file_set e links ids) (i : ℕ) where
  pub content_found : (h : Held) → slice_get e.held.items i ≡ Some h → (o : Option KeptContent) → o ≡ content_held f v h → IsKeptContent f v e.held.items i o
  content_found h there o is = record { each = λ numbers n node at. is ∙ of n (found_of f v e k.entries i n numbers node at) }
    where
      of : (n : Node) → IsFound f v e i n → content_held f v h ≡ kept_content_of f v n
      of n x =
          let same : x.entry ≡ h = same_Some x.entry h (sym x.there ∙ there) in
          let m = member_of_get e.held.items i h there in
          content_of_node f v h (k.entries.held.held.each h m) (k.entries.held.each_of h m) n (ap (λ (z : Held). z.at) (sym same) ∙ x.at_is) (x.directory_is ∙ ap (λ (z : Held). z.directory) same)
          (ap (λ (z : Held). is_some z.shape) (sym same) ∙ x.shaped)

  -- an entry that is not kept has no node
  pub content_lost : (o : Option KeptContent) → get_or e.kept.items i None ≡ None → IsKeptContent f v e.held.items i o
  content_lost o none = record { each = λ numbers n node at. absurd (never (found_of f v e k.entries i n numbers node at)) }
    where
      never : {n : Node} → IsFound f v e i n → ⊥
      never x = let q : None ≡ Some x.keeping = sym none ∙ get_or_from_slice_get e.kept.items i (Some x.keeping) None x.keeping_is in cc

  -- as much is selected as is held
  pub selected_long : length e.held.items ≡ length e.selected.items
  selected_long = long e.held.items e.selected.items k.entries.selected.each
    where
      long : (hs : List Held) (xs : List Selected) → AreSelectedOf (setting_of f v) (tree_of f v) e.held.items hs xs → length hs ≡ length xs
      long [] [] a = refl
      long [] (x ∷ xs) a = absurd a
      long (h ∷ hs) [] a = absurd a
      long (h ∷ hs) (x ∷ xs) a = ap suc (long hs xs a.1)

  pub kept_by_it : (h : Held) (y : Keeping) → slice_get e.held.items i ≡ Some h → get_or e.kept.items i None ≡ Some y → IsKeptBy (setting_of f v) (tree_of f v) e.held.items h y
  kept_by_it h y there is =
      let r = keeping_there (setting_of f v) (tree_of f v) e.held.items e.held.items e.kept.items i h k.entries.kept.each there in
      subst (IsKeeping (setting_of f v) (tree_of f v) e.held.items h) (sym (get_or_from_slice_get e.kept.items i r.0 None r.1) ∙ is) r.2

pub nothing_there : (f : Frame) (v : Volume) (hs : List Held) (i : ℕ) (o : Option KeptContent) → length hs ≤ i → IsKeptContent f v hs i o
nothing_there f v hs i o over = record { each = λ numbers n node at. absurd (past (ap at_by (slice_get_past hs i over)) at) }
  where
    past : {a : Addr} → at_of hs i ≡ None → at_of hs i ≡ Some a → ⊥
    past m s = cc

content_push : (f : Frame) (v : Volume) (hs : List Held) (is : List ℕ) (os : List (Option KeptContent)) (i : ℕ) (o : Option KeptContent) → AreKeptContents f v hs is os → IsKeptContent f v hs i o → AreKeptContents f v hs (is ++ i ∷ []) (os ++ o ∷ [])
content_push f v hs [] [] i o a b = (b, tt)
content_push f v hs [] (x ∷ os) i o a b = absurd a
content_push f v hs (j ∷ is) [] i o a b = absurd a
content_push f v hs (j ∷ is) (x ∷ os) i o a b = (a.0, content_push f v hs is os i o a.1 b)

pub content_more : (f : Frame) (v : Volume) (hs : List Held) (indexes : List ℕ) (j i : ℕ) (out new : List (Option KeptContent)) (o : Option KeptContent) → j < length indexes → i ≡ get_or indexes j i → new ≡ out ++ o ∷ [] → IsKeptContent f v hs i o
    → AreKeptContents f v hs (take j indexes) out → AreKeptContents f v hs (take (j + 1) indexes) new
content_more f v hs indexes j i out new o low is push one was =
    subst (λ (xs : List ℕ). AreKeptContents f v hs xs new) (sym (take_more indexes j i low ∙ ap (λ (z : ℕ). take j indexes ++ z ∷ []) (sym is)))
    (subst (λ (os : List (Option KeptContent)). AreKeptContents f v hs (take j indexes ++ i ∷ []) os) (sym push) (content_push f v hs (take j indexes) out i o was one))

-- of nodes
pub content_nodes : (f : Frame) (v : Volume) (hs : List Held) (is : List ℕ) (os : List (Option KeptContent)) (ns : List Node) (numbers : List Addr) → AreKeptContents f v hs is os → map (at_of hs) is ≡ map Some (node_addresses ns)
    → ((n : Node) → Member n ns → IsNode f v numbers n) → os ≡ map (kept_content_of f v) ns
content_nodes f v hs [] [] [] numbers a e h = refl
content_nodes f v hs [] (o ∷ os) ns numbers a e h = absurd a
content_nodes f v hs [] [] (m ∷ ns) numbers a e h = cc
content_nodes f v hs (i ∷ is) os [] numbers a e h = cc
content_nodes f v hs (i ∷ is) [] (m ∷ ns) numbers a e h = absurd a
content_nodes f v hs (i ∷ is) (o ∷ os) (m ∷ ns) numbers a e h =
    let p = heads (at_of hs i) (Some m.at) (map (at_of hs) is) (map Some (node_addresses ns)) e in
    ap (λ (x : Option KeptContent). x ∷ os) (a.0.each numbers m (h m (inl refl)) p.0)
    ∙ ap (λ (xs : List (Option KeptContent)). kept_content_of f v m ∷ xs) (content_nodes f v hs is os ns numbers a.1 p.1 (λ x y. h x (inr y)))
