-- A disk that has the mend of each kept entry has each of them mended, the file set among them where its pointer is selected.
use Rattle.std.proofs.Common.{◌≡◌, ℕ, ◌≤◌, not, Bool, true, false, cond, Option, Some, None, List, [], ◌∷◌, refl, sym, ap, ◌∙◌, subst, arith}
use Rattle.std.specs.Prelude.{is_some, Contains}
use Rattle.std.proofs.lemmas.Bool.{and_from, and_parts, false≢true}
use Rattle.udf_field.specs.declared.address.Addr.{Addr}
use Rattle.udf_file_model.specs.Listing.{Volume, with_disk}
use Rattle.udf_tree_model.specs.Chosen.{fit, fitted, selected}
use Rattle.udf_tree_model.specs.Found.{whole_links}
use Rattle.udf_tree_model.specs.Frame.{Frame, entry_at, holder_by, holder_node, is_file_set, is_holder, node_by, places, setting_of, tree_of}
use Rattle.udf_tree_model.specs.Kept.{kept}
use Rattle.udf_tree_model.specs.Laws.{IsWithin}
use Rattle.udf_tree_model.specs.Link.{pointer_link}
use Rattle.udf_tree_model.specs.Mended.{IsMended, IsMendedAt, rooms, said}
use Rattle.udf_tree_model.specs.Node.{Item, Node, Setting, Tree, good_length, node_at, node_or, readable}
use Rattle.udf_tree_model.specs.Ordinary.{is_kept_entry}
use Rattle.udf_tree_model.specs.Won.{kept_length, kept_links}
use Rattle.udf_tree_model.proofs.Finding.{volume_within}
use Rattle.udf_tree_model.proofs.Members.{member_of}
use Rattle.udf_tree_model.proofs.Offsets.{volume_differ}
use Rattle.udf_tree_model.proofs.Stating.{accepted_starts}
use Rattle.udf_file_mends.specs.Mends.{HasMendOf}
use Rattle.udf_file_mends.specs.Repairable.{IsRepairable}
use Rattle.udf_file_mends.proofs.Joined.{has_entry}
use Rattle.udf_file_mends.proofs.Nodes.{is_mended}

named_by : (o : Option Addr) → is_some o ≡ true → (x : Addr) × (o ≡ Some x)
named_by None h = absurd (false≢true h)
named_by (Some x) h = (x, refl)

module _ (f : Frame) (v : Volume) (disk : ℕ → List ℕ) (ok : IsRepairable f v) where
  abbrev s : Setting
  s = setting_of f v

  abbrev t : Tree
  t = tree_of f v

  abbrev u : Tree
  u = tree_of f (with_disk v disk)

  -- the file set, which holds the pointer to the system stream directory
  module _ (a : Addr) (holds : is_holder f v a ≡ true) (chosen : selected s t a ≡ kept_links s t a) where
    parts : (is_some f.system ≡ true) × (is_file_set f v a ≡ true)
    unfolding is_holder
    parts = and_parts (is_some f.system) (is_file_set f v a) holds

    system : Addr
    system = (named_by f.system parts.0).0

    old_holder : tree_of f v a ≡ Some (holder_node system)
    unfolding tree_of system
    old_holder =
        ap (λ o. holder_by o (is_file_set f v a) (node_by f v a (entry_at v a))) (named_by f.system parts.0).1
        ∙ ap (λ b. cond b (Some (holder_node (named_by f.system parts.0).0)) (node_by f v a (entry_at v a))) parts.1

    new_holder : tree_of f (with_disk v disk) a ≡ Some (holder_node system)
    unfolding tree_of system
    new_holder =
        ap (λ o. holder_by o (is_file_set f v a) (node_by f (with_disk v disk) a (entry_at (with_disk v disk) a))) (named_by f.system parts.0).1
        ∙ ap (λ b. cond b (Some (holder_node (named_by f.system parts.0).0)) (node_by f (with_disk v disk) a (entry_at (with_disk v disk) a))) parts.1

    old_node : node_at t a ≡ holder_node system
    unfolding node_at
    old_node = ap node_or old_holder

    new_node : node_at u a ≡ holder_node system
    unfolding node_at
    new_node = ap node_or new_holder

    new_links : whole_links u a ≡ pointer_link system ∷ []
    unfolding whole_links
    new_links = ap (λ (n : Node). n.links (good_length u a)) new_node

    old_links : kept_links s t a ≡ pointer_link system ∷ []
    unfolding kept_links
    old_links = ap (λ (n : Node). n.links (kept_length s t a)) old_node

    old_fitted : fitted s t a ≡ pointer_link system ∷ []
    unfolding fitted fit
    old_fitted =
        ap (λ (n : Node). fit (n.space (kept_length s t a)) (selected s t a)) old_node
        ∙ ap (fit 0) (chosen ∙ old_links)

    pub holder_mended : IsMendedAt s t u a
    unfolding readable
    holder_mended = record {
      stays = ap (λ (o : Option Node). is_some o) new_holder;
      same_kind = ap (λ (n : Node). n.directory) (new_node ∙ sym old_node);
      same_own = ap (λ (n : Node). n.own) (new_node ∙ sym old_node);
      won = λ i c k. absurd (member_of [] i (subst (λ (l : List Item). Contains l i) (ap (λ (n : Node). n.list) new_node) c));
      same_links = ap said (new_links ∙ sym old_fitted);
      has_space = subst (λ (n : ℕ). n ≤ (node_at u a).space (good_length u a)) (sym (ap rooms new_links)) (omega arith);
      long_enough = λ k. ap (λ (n : Node). n.enough (good_length u a)) new_node;
    }

  module _ (each : (a : Addr) → is_kept_entry f v a ≡ true → HasMendOf f v a disk) (chosen : (a : Addr) → is_holder f v a ≡ true → selected s t a ≡ kept_links s t a) where
    mended_each : (a : Addr) → kept s t a ≡ true → IsMendedAt s t u a
    mended_each a k = by (is_holder f v a) refl
      where
        entry : is_holder f v a ≡ false → is_kept_entry f v a ≡ true
        entry h = unfold is_kept_entry in and_from (kept s t a) (not (is_holder f v a)) k (ap not h)

        at : is_kept_entry f v a ≡ true → IsMendedAt s t u a
        at h =
            let e = has_entry f v ok a h in
            is_mended f v disk a e.0 (record { repairable = ok; kept = h; entry = e.1; has = each a h })

        by : (b : Bool) → is_holder f v a ≡ b → IsMendedAt s t u a
        by true h = holder_mended a h (chosen a h)
        by false h = at (entry h)

    new_within : IsWithin s u
    unfolding setting_of places
    new_within = volume_within f (with_disk v disk)

    pub all_mended : IsMended s t u
    all_mended = record {
      old_within = volume_within f v;
      old_places = volume_differ f v;
      old_starts = accepted_starts f v ok.accepted ok.file_set;
      new_within = new_within;
      each = mended_each;
    }
