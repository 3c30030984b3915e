-- The first children and next siblings of kept entries, by the indexes of found entries, are those of the definitions.
use Rattle.std.proofs.Common.{◌≡◌, ℕ, List, [], ◌∷◌, map, get_or, nat_eq, eqb-true, Bool, true, false, ◌&&◌, cond, Option, Some, None, refl, sym, ap, ◌∙◌, subst, inl, inr, arith}
use Rattle.std.specs.Prelude.{find, option_map, slice_get}
use Rattle.std.specs.List.{filter}
use Rattle.std.proofs.lemmas.Bool.{false≢true}
use Rattle.std.proofs.lemmas.Bool.Decides.{nat_tests}
use Rattle.std.proofs.lemmas.Option.{get_or_from_slice_get, same_Some}
use Rattle.udf_field.specs.declared.address.Addr.{Addr}
use Rattle.udf_file_model.specs.Address.{same_addr}
use Rattle.udf_file_model.specs.Listing.{Volume}
use Rattle.udf_tree_model.specs.Among.{Member}
use Rattle.udf_tree_model.specs.Children.{first_in, keeps, kept_in}
use Rattle.udf_tree_model.specs.Chosen.{Rank, fitted, is_rank}
use Rattle.udf_tree_model.specs.Frame.{Frame, setting_of, tree_of}
use Rattle.udf_tree_model.specs.Kept.{depth, kept}
use Rattle.udf_tree_model.specs.Link.{Link, target_of}
use Rattle.udf_tree_model.specs.Node.{Setting, Tree}
use Rattle.udf_tree_model.specs.Parent.{keeping}
use Rattle.udf_tree_model.proofs.Finding.{volume_within}
use Rattle.udf_tree_model.proofs.Keeping.{edge_from, kept_target}
use Rattle.udf_tree_model.proofs.Members.{member_filter, member_of_map, same_bools}
use Rattle.udf_tree_model.proofs.Places.{address_same, same_address}
use Rattle.udf_kept.specs.declared.entries.Entries.{Entries}
use Rattle.udf_kept.specs.declared.fitted.Choice.{Choice}
use Rattle.udf_kept.specs.declared.fitted.Fitted.{Fitted}
use Rattle.udf_held.specs.declared.held.Held.{Held}
use Rattle.udf_kept.specs.declared.keeping.Keeping.{Keeping}
use Rattle.udf_tree.specs.declared.node.NodeId.{NodeId}
use Rattle.udf_kept.specs.Fitted.{IsChoice, Step, at_of, step_of, step_seen}
use Rattle.udf_kept.specs.Keeping.{IsKeeping}
use Rattle.udf_tree.specs.Kindred.{first_seen, is_choice, is_kept_by, keeps_seen}
use Rattle.udf_tree.specs.Nodes.{AreSurveyed, IsNumbering, numbered}
use Rattle.udf_tree.specs.Survey.{named_by}
use Rattle.udf_kept.proofs.ByIndex.{once_at}
use Rattle.udf_tree.proofs.Enrolling.{starts}
use Rattle.udf_kept.proofs.Indexing.{held_at}
use Rattle.udf_contents.proofs.Mending.{keeping_there}
use Rattle.udf_tree.proofs.Streaming.{target_has}
use Rattle.udf_tree.proofs.Surveying.{heads}

eq_true : (m n : ℕ) → m ≡ n → nat_eq m n ≡ true
eq_true m n e = grind (arith, nat_tests)

module _ (f : Frame) (v : Volume) (root file_set : Addr) (e : Entries) (links ids : List ℕ) (k : AreSurveyed f v root file_set e links ids) where
  module _ (i : ℕ) (d : Addr) (at : at_of e.held.items i ≡ Some d) (own : kept (setting_of f v) (tree_of f v) d ≡ true) where
    -- the index of a holder tells its address
    index_same : (j : ℕ) (h : Held) → slice_get e.held.items j ≡ Some h → nat_eq j i ≡ same_addr h.at d
    index_same j h there = same_bools (nat_eq j i) (same_addr h.at d) into from
      where
        r : (x : Held) × (slice_get e.held.items i ≡ Some x) × (x.at ≡ d)
        r = held_at e.held.items i d at

        into : nat_eq j i ≡ true → same_addr h.at d ≡ true
        into q =
            let same : h ≡ r.0 = same_Some h r.0 (sym there ∙ ap (slice_get e.held.items) (eqb-true j i q) ∙ r.1) in
            address_same h.at d (ap (λ (x : Held). x.at) same ∙ r.2)

        from : same_addr h.at d ≡ true → nat_eq j i ≡ true
        from q =
            eq_true j i
            (once_at (setting_of f v) (tree_of f v) e.held.items k.entries.held.held j i d (record { entry = h; there = there; at = same_address h.at d q }) (record { entry = r.0; there = r.1; at = r.2 }))

    choice_same : (level : Held → ℕ) (place : ℕ) (l : Link) → place ≡ l.place → (rank : Option Rank) (o : Option Choice) → IsChoice e.held.items level rank o → is_choice i place o ≡ is_rank d l rank
    choice_same level place l p rank None c = sym (ap (is_rank d l) c)
    choice_same level place l p rank (Some x) c =
        ap (λ (b : Bool). b && nat_eq x.place place) (index_same x.holder c.0 c.1) ∙ ap (λ (n : ℕ). same_addr c.0.at d && nat_eq x.place n) p ∙ sym (ap (is_rank d l) c.2)

    -- a fitted link keeps what it leads to where that tells so
    keeps_same : (x : Fitted) (l : Link) → step_seen e.held.items x ≡ step_of l → Member l (fitted (setting_of f v) (tree_of f v) d) → keeps_seen e.kept.items i x ≡ keeps (setting_of f v) (tree_of f v) d l
    unfolding keeps
    keeps_same x l step m = go y.0 y.1 y.2
      where
        s : Setting
        s = setting_of f v

        t : Tree
        t = tree_of f v

        a : Addr
        a = target_of l.says

        to : at_of e.held.items x.to ≡ Some a
        to = ap (λ (z : Step). z.to) step

        r : (h : Held) × (slice_get e.held.items x.to ≡ Some h) × (h.at ≡ a)
        r = held_at e.held.items x.to a to

        y : (o : Option Keeping) × (slice_get e.kept.items x.to ≡ Some o) × IsKeeping s t e.held.items r.0 o
        y = keeping_there s t e.held.items e.held.items e.kept.items x.to r.0 k.entries.kept.each r.1

        kept_it : kept s t r.0.at ≡ true
        kept_it = ap (kept s t) r.2 ∙ kept_target s t (volume_within f v) (starts f v root file_set e links ids k) d a own (edge_from s t d a l m refl)

        go : (o : Option Keeping) → slice_get e.kept.items x.to ≡ Some o → IsKeeping s t e.held.items r.0 o → is_kept_by i x.place (get_or e.kept.items x.to None) ≡ is_rank d l (keeping s t a)
        go None q z = absurd (false≢true (sym z ∙ kept_it))
        go (Some w) q z =
            ap (is_kept_by i x.place) (get_or_from_slice_get e.kept.items x.to (Some w) None q)
            ∙ choice_same (λ h. depth s t h.at) x.place l (ap (λ (n : Step). n.place) step) (keeping s t r.0.at) w.by z.by
            ∙ ap (λ (b : Addr). is_rank d l (keeping s t b)) r.2

    -- the first that does
    first_same : (xs : List Fitted) (ls : List Link) → map (step_seen e.held.items) xs ≡ map step_of ls → ((l : Link) → Member l ls → Member l (fitted (setting_of f v) (tree_of f v) d))
        → option_map (λ j. at_of e.held.items j) (first_seen e.kept.items i xs) ≡ option_map Some (first_in (kept_in (setting_of f v) (tree_of f v) d ls))
    unfolding kept_in
    first_same [] [] q m = refl
    first_same [] (l ∷ ls) q m = cc
    first_same (x ∷ xs) [] q m = cc
    first_same (x ∷ xs) (l ∷ ls) q m =
        by (keeps (setting_of f v) (tree_of f v) d l) (keeps_same x l p.0 (m l (inl refl))) (first_same xs ls p.1 (λ y n. m y (inr n)))
      where
        p : (step_seen e.held.items x ≡ step_of l) × (map (step_seen e.held.items) xs ≡ map step_of ls)
        p = heads (step_seen e.held.items x) (step_of l) (map (step_seen e.held.items) xs) (map step_of ls) q

        rest : List Link
        rest = filter (keeps (setting_of f v) (tree_of f v) d) ls

        seen : Option Fitted
        seen = find (keeps_seen e.kept.items i) xs

        Same : Option Fitted → List Link → Type 0
        Same o zs = option_map (λ j. at_of e.held.items j) (option_map (λ (y : Fitted). y.to) o) ≡ option_map Some (first_in (map (λ (z : Link). target_of z.says) zs))

        by : (b : Bool) → keeps_seen e.kept.items i x ≡ b → Same seen rest → Same (cond (keeps_seen e.kept.items i x) (Some x) seen) (cond b (l ∷ rest) rest)
        by true c next = subst (λ (b : Bool). Same (cond b (Some x) seen) (l ∷ rest)) (sym c) (ap Some (ap (λ (z : Step). z.to) p.0))
        by false c next = subst (λ (b : Bool). Same (cond b (Some x) seen) rest) (sym c) next

    module _ (xs : List Fitted) (ls : List Link) (same : map (step_seen e.held.items) xs ≡ map step_of ls) (among : (l : Link) → Member l ls → Member l (fitted (setting_of f v) (tree_of f v) d)) where
      pub kept_none : first_seen e.kept.items i xs ≡ None → None ≡ option_map Some (first_in (kept_in (setting_of f v) (tree_of f v) d ls))
      kept_none q = by (first_in (kept_in (setting_of f v) (tree_of f v) d ls)) (sym (ap (option_map (λ j. at_of e.held.items j)) q) ∙ first_same xs ls same among)
        where
          by : (o : Option Addr) → None ≡ option_map Some o → None ≡ option_map Some o
          by None r = refl
          by (Some a) r = cc

      -- what some links keep has a number
      has_number : (a : Addr) → Member a (kept_in (setting_of f v) (tree_of f v) d ls) → Member a (numbered e.kept.items e.held.items)
      unfolding kept_in
      has_number a m =
          let r = member_of_map (λ (l : Link). target_of l.says) (filter (keeps (setting_of f v) (tree_of f v) d) ls) a m in
          let n = member_filter (keeps (setting_of f v) (tree_of f v) d) ls r.0 r.1 in
          subst (λ (b : Addr). Member b (numbered e.kept.items e.held.items)) (sym r.2) (target_has f v root file_set e links ids k d r.0 own (among r.0 n.0))

      pub kept_some : (to : ℕ) → first_seen e.kept.items i xs ≡ Some to → (number : Addr → Option NodeId) → IsNumbering (numbered e.kept.items e.held.items) number → (r : Option NodeId)
          → ((b : Addr) → at_of e.held.items to ≡ Some b → r ≡ number b) → named_by (numbered e.kept.items e.held.items) r ≡ option_map Some (first_in (kept_in (setting_of f v) (tree_of f v) d ls))
      kept_some to q number numbering r h = by (kept_in (setting_of f v) (tree_of f v) d ls) has_number (sym (ap (option_map (λ j. at_of e.held.items j)) q) ∙ first_same xs ls same among)
        where
          by_number : (b : Addr) → Member b (numbered e.kept.items e.held.items) → (o : Option NodeId) → number b ≡ o → named_by (numbered e.kept.items e.held.items) o ≡ Some (Some b)
          by_number b m None n = absurd (numbering.all b n m)
          by_number b m (Some x) n = ap Some (numbering.there b x n)

          by : (those : List Addr) → ((a : Addr) → Member a those → Member a (numbered e.kept.items e.held.items)) → Some (at_of e.held.items to) ≡ option_map Some (first_in those)
              → named_by (numbered e.kept.items e.held.items) r ≡ option_map Some (first_in those)
          by [] m p = cc
          by (a ∷ those) m p =
              ap (named_by (numbered e.kept.items e.held.items)) (h a (same_Some (at_of e.held.items to) (Some a) p)) ∙ by_number a (m a (inl refl)) (number a) refl
