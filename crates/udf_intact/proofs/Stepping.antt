-- A step between entries that no damage touches leads to the same entry after the mend, and that is kept.
use Rattle.std.proofs.Common.{◌≡◌, ℕ, not, Bool, true, false, cond, Option, Some, None, List, [], ◌∷◌, refl, sym, ap, ◌∙◌, subst}
use Rattle.std.specs.Str.{bytes_eq}
use Rattle.std.proofs.lemmas.Bool.{and_from, false≢true}
use Rattle.udf_field.specs.declared.address.Addr.{Addr}
use Rattle.udf_file_model.specs.Address.{same_addr}
use Rattle.udf_file_model.specs.Entry.{Entry}
use Rattle.udf_file_model.specs.Listing.{Volume, with_disk}
use Rattle.udf_file_model.specs.Name.{Canonical, Characters, Undecoded, canonical, canonical_key}
use Rattle.udf_tree_model.specs.Counts.{is_directory_by}
use Rattle.udf_tree_model.specs.Found.{whole_links}
use Rattle.udf_tree_model.specs.Frame.{Frame, entry_at, is_holder, setting_of, tree_of}
use Rattle.udf_tree_model.specs.Intact.{IsIntact, IsIntactPath, LeadsAlike, follow, look_up, then_at}
use Rattle.udf_tree_model.specs.Kept.{kept}
use Rattle.udf_tree_model.specs.Link.{Fid, Link, Pointer, Says, is_pointer, name_of, target_of}
use Rattle.udf_tree_model.specs.Node.{Setting, Tree, node_at}
use Rattle.udf_tree_model.specs.Ordinary.{is_kept_entry}
use Rattle.udf_tree_model.proofs.Linking.{name_same}
use Rattle.udf_tree_model.proofs.Paths.{path_stays}
use Rattle.udf_file_mends.specs.FileSet.{frame_after}
use Rattle.udf_file_mends.specs.Repairable.{IsMendOn}
use Rattle.udf_file_mends.proofs.Nodes.{entry_reads}
use Rattle.udf_mended_rules.specs.AllMends.{HasAllMends}
use Rattle.udf_mended_rules.proofs.Holder as holder
use Rattle.udf_mended_rules.proofs.Holder.{mended_tree}
use Rattle.udf_mended_rules.proofs.Settled as settled
use Rattle.udf_intact.specs.Entries.{IsIntactEntry}
use Rattle.udf_intact.specs.Steps.{Name, Step, Stream, System, directory_at, linked, step_from, target_by}
use Rattle.udf_intact.proofs.Intact as intact
use Rattle.udf_intact.proofs.System.{system_kept, system_stays}

-- the first link of a name has it
pub look_up_name : (n : List ℕ) (ls : List Link) (l : Link) → look_up n ls ≡ Some l → name_of l.says ≡ n
unfolding look_up
look_up_name n [] l e = cc
look_up_name n (x ∷ xs) l e = by (bytes_eq (name_of x.says) n) refl e (λ k. look_up_name n xs l k)
  where
    by : (b : Bool) → bytes_eq (name_of x.says) n ≡ b → cond b (Some x) (look_up n xs) ≡ Some l → (look_up n xs ≡ Some l → name_of l.says ≡ n) → name_of l.says ≡ n
    by true p k on = let same : x ≡ l = cc in ap (λ (z : Link). name_of z.says) (sym same) ∙ name_same (name_of x.says) n p
    by false p k on = on k

-- a name is none of a pointer
key_some : (c : Canonical) → [] ≡ canonical_key c → ⊥
unfolding canonical_key
key_some (Characters characters) e = cc
key_some (Undecoded bytes) e = cc

pub no_pointer : (says : Says) (name : List ℕ) → name_of says ≡ canonical_key (canonical name) → is_pointer says ≡ false
no_pointer (Pointer x) name e = absurd (key_some (canonical name) e)
no_pointer (Fid fid) name e = refl

same_value : (x y : Addr) → Some x ≡ Some y → x ≡ y
same_value x y e = cc

pub link_of : (o : Option Link) (b : Addr) → target_by o ≡ Some b → (l : Link) × (o ≡ Some l) × (target_of l.says ≡ b)
link_of None b e = cc
link_of (Some l) b e = (l, refl, same_value (target_of l.says) b e)

pub directory_of : (v : Volume) (o : Option Addr) (b : Addr) → directory_at v o ≡ Some b → (o ≡ Some b) × (is_directory_by (entry_at v b) ≡ true)
directory_of v None b e = cc
directory_of v (Some x) b e = by (is_directory_by (entry_at v x)) refl e
  where
    by : (c : Bool) → is_directory_by (entry_at v x) ≡ c → cond c (Some x) None ≡ Some b → (Some x ≡ Some b) × (is_directory_by (entry_at v b) ≡ true)
    by true q k = (k, ap (λ z. is_directory_by (entry_at v z)) (sym (same_value x b k)) ∙ q)
    by false q k = cc

module _ (f : Frame) (v : Volume) (disk : ℕ → List ℕ) (h : HasAllMends f v disk) where
  abbrev w : Volume
  w = with_disk v disk

  abbrev g : Frame
  g = frame_after f v

  abbrev s : Setting
  s = setting_of f v

  abbrev t : Tree
  t = tree_of f v

  abbrev u : Tree
  u = mended_tree f v disk

  pub kept_entry : (a : Addr) → IsIntactEntry f v a → kept (setting_of f v) (tree_of f v) a ≡ true → is_kept_entry f v a ≡ true
  unfolding is_kept_entry
  kept_entry a i k = and_from (kept s t a) (not (is_holder f v a)) k (ap not (intact.no_holder f v disk h a i))

  mend_there : (a : Addr) → IsIntactEntry f v a → kept s t a ≡ true → (e : Entry) × IsMendOn f v disk a e
  mend_there a i k = settled.mend_at f v disk h a (kept_entry a i k)

  kind_stays : (a : Addr) → IsIntactEntry f v a → kept s t a ≡ true → is_directory_by (entry_at w a) ≡ is_directory_by (entry_at v a)
  kind_stays a i k = let m = mend_there a i k in ap is_directory_by (entry_reads f v disk a m.0 m.1) ∙ sym (ap is_directory_by m.1.entry)

  -- a directory's node is one
  is_directory_node : (b : Addr) → IsIntactEntry f v b → is_directory_by (entry_at v b) ≡ true → (node_at t b).directory ≡ true
  is_directory_node b j q = intact.kind f v disk h b j ∙ sym (ap is_directory_by j.reads) ∙ q

  end_is : (o : Option Link) (z : Tree) → then_at o (follow z []) ≡ target_by o
  unfolding follow
  end_is None z = refl
  end_is (Some l) z = refl

  -- the first link of a name
  link_stays : (a b : Addr) (name : List ℕ) → kept s t a ≡ true → IsIntactEntry f v a → IsIntactEntry f v b → linked f v a name ≡ Some b
      → ((l : Link) → name_of l.says ≡ name → (node_at t b).directory ≡ false → is_pointer l.says ≡ false)
      → (kept s t b ≡ true) × (linked g w a name ≡ Some b)
  unfolding follow
  link_stays a b name k i j e pointer =
      let r = link_of (look_up name (whole_links t a)) b e in
      let path : IsIntactPath s t a (name ∷ []) = (
        intact.is_intact f v disk h a i,
        (
          r.0,
          r.1,
          λ q. pointer r.0 (look_up_name name (whole_links t a) r.0 r.1) (ap (λ x. (node_at t x).directory) (sym r.2) ∙ q),
          subst (λ (x : Addr). IsIntact s t x) (sym r.2) (intact.is_intact f v disk h b j),
        ),
      ) in
      let led : LeadsAlike s t u a (name ∷ []) = path_stays s t u (settled.all f v disk h) (name ∷ []) a k path in
      let same : led.to ≡ b = same_value led.to b (sym led.old ∙ end_is (look_up name (whole_links t a)) t ∙ e) in (
        subst (λ (x : Addr). kept s t x ≡ true) same led.is_kept,
        ap (λ (ls : List Link). target_by (look_up name ls)) ((holder.told_same f v disk h).all_links a)
            ∙ sym (end_is (look_up name (whole_links u a)) u) ∙ led.new ∙ ap Some same,
      )

  abbrev Goes : Addr → Addr → Step → Type 0
  Goes a b step = (kept s t b ≡ true) × (step_from g w a step ≡ Some b)

  stream_stays : (a b : Addr) → kept s t a ≡ true → IsIntactEntry f v a → IsIntactEntry f v b → step_from f v a Stream ≡ Some b → Goes a b Stream
  stream_stays a b k i j e =
      let d = directory_of v (linked f v a []) b e in
      let r = link_stays a b [] k i j d.0 (λ l n q. absurd (false≢true (sym q ∙ is_directory_node b j d.1))) in (
        r.0,
        ap (directory_at w) r.1 ∙ ap (λ c. cond c (Some b) None) (kind_stays b j r.0 ∙ d.1),
      )

  system_goes : (a b : Addr) → IsIntactEntry f v b → same_addr a f.root ≡ true → directory_at v f.system ≡ Some b → Goes a b System
  system_goes a b j root e =
      let d = directory_of v f.system b e in
      let i = intact.is_intact f v disk h b j in
      let n = is_directory_node b j d.1 in
      let k = system_kept f v h.repairable b d.0 i n in
      let stays = system_stays f v h.repairable b d.0 i n in (
        k,
        ap (λ x. step_from x w a System) (holder.frame_kept f v disk h stays)
            ∙ ap (λ c. cond c (directory_at w f.system) None) root
            ∙ ap (directory_at w) d.0
            ∙ ap (λ c. cond c (Some b) None) (kind_stays b j k ∙ d.1),
      )

  system_step : (a b : Addr) → IsIntactEntry f v b → step_from f v a System ≡ Some b → Goes a b System
  system_step a b j e = by (same_addr a f.root) refl e
    where
      by : (c : Bool) → same_addr a f.root ≡ c → cond c (directory_at v f.system) None ≡ Some b → Goes a b System
      by true q k = system_goes a b j q k
      by false q k = cc

  pub step_stays : (step : Step) (a b : Addr) → kept (setting_of f v) (tree_of f v) a ≡ true → IsIntactEntry f v a → IsIntactEntry f v b
      → step_from f v a step ≡ Some b → (kept (setting_of f v) (tree_of f v) b ≡ true) × (step_from (frame_after f v) (with_disk v disk) a step ≡ Some b)
  step_stays (Name name) a b k i j e = link_stays a b (canonical_key (canonical name)) k i j e (λ l n q. no_pointer l.says name n)
  step_stays Stream a b k i j e = stream_stays a b k i j e
  step_stays System a b k i j e = system_step a b j e
