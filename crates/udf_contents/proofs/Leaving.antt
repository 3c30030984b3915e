-- What the mends of kept entries leave.
use Rattle.std.proofs.Common.{◌≡◌, ℕ, ◌<◌, ◌≤◌, List, [], ◌∷◌, ◌++◌, take, length, Bool, true, false, not, ◌&&◌, ◌||◌, cond, Option, Some, None, refl, sym, ap, ◌∙◌, arith}
use Rattle.std.specs.Prelude.{min, is_some, ◌==◌}
use Rattle.std.proofs.lemmas.List.{length-take}
use Rattle.udf_field.specs.declared.address.Addr.{Addr}
use Rattle.udf_file_model.specs.Address.{same_addr}
use Rattle.udf_file_model.specs.Content.{content, runs_bytes}
use Rattle.udf_file_model.specs.Cut.{cut_pieces}
use Rattle.udf_file_model.specs.Entry.{Entry, is_directory}
use Rattle.udf_file_model.specs.Listing.{Volume, good_length, list_for}
use Rattle.udf_file_model.specs.Pieces.{Piece, runs_of}
use Rattle.udf_claims.specs.Winner.{claimed, covers}
use Rattle.udf_claims.specs.declared.run.Run.{Run}
use Rattle.udf_tree_model.specs.Chosen.{fitted}
use Rattle.udf_tree_model.specs.Claimed.{allocation_holds, claims, claims_by, list_stays, mended_length, mended_list}
use Rattle.udf_tree_model.specs.Content.{content_by, content_stays, fitted_bytes, kept_content, mended_content, parent_fid}
use Rattle.udf_tree_model.specs.Frame.{Frame, content_to, entry_at, is_holder, node_with, setting_of, tree_of}
use Rattle.udf_tree_model.specs.Kept.{kept}
use Rattle.udf_tree_model.specs.Node.{Node, good_length as tree_length, node_at}
use Rattle.udf_tree_model.specs.Won.{holds, kept_length}
use Rattle.udf_tree_model.proofs.Members.{same_bools}
use Rattle.udf_tree_model.proofs.Places.{address_same, same_address}
use Rattle.udf_tree_model.proofs.Stating.{length_is, node_is}
use Rattle.udf_contents.specs.declared.contents.MendedContent.{MendedContent}
use Rattle.udf_held.specs.declared.held.Held.{Held}
use Rattle.udf_kept.specs.declared.keeping.Keeping.{Keeping}
use Rattle.udf_found.specs.declared.shape.Shape.{Shape}
use Rattle.udf_contents.specs.After.{Adds, IsMending, IsTold, claims_kept, has_address}
use Rattle.udf_found.specs.Beyond.{HoldsFileSet}
use Rattle.udf_found.specs.Shape.{IsShape}
use Rattle.udf_found.specs.Target.{linking}
use Rattle.udf_found.specs.Wanted.{want}
use Rattle.udf_contents.proofs.Covering.{claimed_one, one_is, or_join, or_nothing}
use Rattle.udf_held.proofs.Fronting.{before_within}
use Rattle.udf_found.proofs.Seeing.{file_set_plain, holder_address}

-- what is written is of a directory
written_kind : (f : Frame) (v : Volume) (h : Held) (e : Entry) (s : Shape) (new : MendedContent) → IsMending f v h e s (Some new) → is_directory e ≡ true
written_kind f v h e s new m = go (is_directory e) refl
  where
    go : (b : Bool) → is_directory e ≡ b → is_directory e ≡ true
    go true k = k
    go false k = absurd (some_none new (m.of_file k))
      where
        some_none : (n : MendedContent) → Some n ≡ None → ⊥
        some_none n i = cc

-- ---- the list
pub written_moves : (f : Frame) (v : Volume) (h : Held) (e : Entry) (s : Shape) (new : MendedContent) → IsMending f v h e s (Some new) → false ≡ list_stays f v h.at e
unfolding list_stays
written_moves f v h e s new m =
    let k = written_kind f v h e s new m in
    sym (ap (λ (b : Bool). allocation_holds f v h.at e && (not b || content_stays f v h.at)) k
    ∙ ap (λ (b : Bool). allocation_holds f v h.at e && b) (m.of_directory k).0
    ∙ never (allocation_holds f v h.at e))
  where
    never : (b : Bool) → (b && false) ≡ false
    never true = refl
    never false = refl

pub none_stays : (f : Frame) (v : Volume) (h : Held) (e : Entry) (s : Shape) (b : Bool) → IsMending f v h e s None → b ≡ allocation_holds f v h.at e → b ≡ list_stays f v h.at e
unfolding list_stays
none_stays f v h e s b m k = k ∙ sym (ap (λ (c : Bool). allocation_holds f v h.at e && c) (stays (is_directory e) refl) ∙ and_true (allocation_holds f v h.at e))
  where
    stays : (c : Bool) → is_directory e ≡ c → (not c || content_stays f v h.at) ≡ true
    stays true i = m.of_directory i
    stays false i = refl

    and_true : (c : Bool) → (c && true) ≡ c
    and_true true = refl
    and_true false = refl

-- ---- the length
pub written_length : (f : Frame) (v : Volume) (h : Held) (e : Entry) (s : Shape) (new : MendedContent) → IsMending f v h e s (Some new) → length new.bytes.items ≡ mended_length f v h.at e
unfolding mended_length
written_length f v h e s new m =
    let k = written_kind f v h e s new m in
    ap (λ (bytes : List ℕ). length bytes) (m.of_directory k).1
    ∙ ap (λ (b : Bool). cond b (length (mended_content f v h.at)) (min e.information (kept_length (setting_of f v) (tree_of f v) h.at))) (sym k)

-- the content of a directory up to less than the good length
pub content_length : (v : Volume) (a : Addr) (e : Entry) (n c : ℕ) → is_directory e ≡ true → n ≤ good_length v a e → c ≡ length (linking v a e) → length (content_to v e (list_for v a e) n) ≡ min n c
unfolding content_to content
content_length v a e n c d l k = let x = to n in let y = k ∙ to (good_length v a e) in omega (arith, x, y, l)
  where
    whole : List ℕ
    whole = cond (e.kind == 3) e.body (runs_bytes v (runs_of (list_for v a e)))

    to : (n : ℕ) → length (content_to v e (list_for v a e) n) ≡ min (min n e.information) (length whole)
    to n = ap (λ (b : Bool). length (cond b (take (min n e.information) whole) [])) d ∙ length-take (min n e.information) whole

pub kept_within : (f : Frame) (v : Volume) (a : Addr) (e : Entry) → 0 < v.size → entry_at v a ≡ Some e → is_holder f v a ≡ false → kept_length (setting_of f v) (tree_of f v) a ≤ good_length v a e
unfolding kept_length tree_length
kept_within f v a e some there other =
    let w = before_within (holds (setting_of f v) (tree_of f v) a) (node_at (tree_of f v) a).list in
    let l = length_is f v a e there other some in
    omega (arith, w, l)

content_left : (f : Frame) (v : Volume) (a : Addr) → content_stays f v a ≡ true → mended_content f v a ≡ kept_content f v a
unfolding mended_content
content_left f v a h = ap (λ (b : Bool). cond b (kept_content f v a) (parent_fid f v a ++ fitted_bytes (fitted (setting_of f v) (tree_of f v) a))) h

pub kept_stays : (f : Frame) (v : Volume) (h : Held) (e : Entry) (s : Shape) (n stated : ℕ) → 0 < v.size → IsMending f v h e s None → stated ≡ cond s.directory s.content s.information
    → n ≡ min h.kept stated → n ≡ mended_length f v h.at e
unfolding mended_length kept_content
kept_stays f v h e s n stated some m k l = go (is_directory e) refl
  where
    kept_bytes : ℕ
    kept_bytes = kept_length (setting_of f v) (tree_of f v) h.at

    known : stated ≡ cond (is_directory e) s.content s.information
    known = k ∙ ap (λ (b : Bool). cond b s.content s.information) m.shape.directory

    stays : is_directory e ≡ true → mended_content f v h.at ≡ content_to v e (list_for v h.at e) kept_bytes
    stays d = content_left f v h.at (m.of_directory d) ∙ ap (content_by f v h.at) m.there

    go : (b : Bool) → is_directory e ≡ b → n ≡ cond b (length (mended_content f v h.at)) (min e.information kept_bytes)
    go true d =
        let within = kept_within f v h.at e some m.there m.other in
        let long = content_length v h.at e kept_bytes s.content d within m.shape.content in
        let same = ap (λ (bytes : List ℕ). length bytes) (stays d) in
        let i = known ∙ ap (λ (b : Bool). cond b s.content s.information) d in
        let j = m.held.kept_is in
        omega (arith, long, same, i, j, l)
    go false d =
        let i = known ∙ ap (λ (b : Bool). cond b s.content s.information) d in
        let j = m.held.kept_is in
        let information = m.shape.information in
        omega (arith, i, j, l, information)

-- ---- an entry
pub mended_added : (blocks : ℕ → ℕ) (f : Frame) (v : Volume) (h : Held) (e : Entry) (s : Shape) (c : Option MendedContent) (size o class : ℕ) (ps : List Piece) (old mid new : List Run) → v.size ≡ size
    → IsMending f v h e s c → ps ≡ mended_list f v h.at e → mid ≡ old ++ want blocks o class h.at 1 ∷ [] → Adds blocks mid new (has_address size ps) → Adds blocks old new (claims f v h.at)
unfolding claims
mended_added blocks f v h e s c size o class ps old mid new z m p i k = record {
  each = λ x low.
      k.each x low
      ∙ ap (λ (rs : List Run). claimed rs x || has_address size ps x) i
      ∙ ap (λ (b : Bool). b || has_address size ps x) (claimed_one old (want blocks o class h.at 1) x)
      ∙ or_join (claimed old x) (covers (want blocks o class h.at 1) x) (has_address size ps x)
      ∙ ap (λ (b : Bool). claimed old x || (b || has_address size ps x)) (one_is blocks x low o class h.at ∙ turned x h.at)
      ∙ ap (λ (n : ℕ). claimed old x || (same_addr h.at x || has_address n ps x)) (sym z)
      ∙ ap (λ (qs : List Piece). claimed old x || (same_addr h.at x || has_address v.size qs x)) p
      ∙ ap (λ (o : Option Entry). claimed old x || claims_by f v h.at o x) (sym m.there);
}
  where
    turned : (x y : Addr) → same_addr x y ≡ same_addr y x
    turned x y = same_bools (same_addr x y) (same_addr y x) (λ n. address_same y x (sym (same_address x y n))) (λ n. address_same x y (sym (same_address y x n)))

pub list_left : (f : Frame) (v : Volume) (a : Addr) (e : Entry) (b : Bool) (ps : List Piece) → b ≡ list_stays f v a e → b ≡ true → ps ≡ list_for v a e → ps ≡ mended_list f v a e
unfolding mended_list
list_left f v a e b ps h t p = p ∙ ap (λ (c : Bool). cond c (list_for v a e) (cut_pieces (mended_length f v a e) (list_for v a e))) (sym t ∙ h)

pub front_left : (f : Frame) (v : Volume) (a : Addr) (e : Entry) (b : Bool) (n : ℕ) (ps : List Piece) → b ≡ list_stays f v a e → b ≡ false → n ≡ mended_length f v a e → ps ≡ list_for v a e
    → cut_pieces n ps ≡ mended_list f v a e
unfolding mended_list
front_left f v a e b n ps h t l p =
    ap (cut_pieces n) p
    ∙ ap (λ (m : ℕ). cut_pieces m (list_for v a e)) l
    ∙ ap (λ (c : Bool). cond c (list_for v a e) (cut_pieces (mended_length f v a e) (list_for v a e))) (sym t ∙ h)

-- ---- a held entry, kept or not
pub mending_is : (f : Frame) (v : Volume) (h : Held) (e : Entry) (s : Shape) (k : Option Keeping) (c : Option MendedContent) → IsTold f v h k c → is_some k ≡ true → h.shape ≡ Some s
    → is_holder f v h.at ≡ false → entry_at v h.at ≡ Some e → IsShape v h.at e s → IsMending f v h e s c
unfolding node_with
mending_is f v h e s k c told kept shaped other there shape = record {
  held = told.held;
  there = there;
  other = other;
  shape = shape;
  of_directory = λ d. told.content.of_kept (test ∙ d);
  of_file = λ d. told.content.of_other (test ∙ d);
}
  where
    and_true : (b : Bool) → (b && true) ≡ b
    and_true true = refl
    and_true false = refl

    kind : h.directory ≡ is_directory e
    kind = told.held.directory ∙ ap (λ (n : Node). n.directory) (node_is f v h.at e there other)

    test : (is_some k && (h.directory && is_some h.shape)) ≡ is_directory e
    test =
        ap (λ (b : Bool). b && (h.directory && is_some h.shape)) kept
        ∙ ap (λ (o : Option Shape). h.directory && is_some o) shaped
        ∙ and_true h.directory
        ∙ kind

pub kept_added : (blocks : ℕ → ℕ) (f : Frame) (v : Volume) (a : Addr) (old new : List Run) → kept (setting_of f v) (tree_of f v) a ≡ true → Adds blocks old new (claims f v a)
    → Adds blocks old new (claims_kept f v a)
kept_added blocks f v a old new e h = record {
  each = λ x low. h.each x low ∙ ap (λ (b : Bool). claimed old x || (b && claims f v a x)) (sym e);
}

nothing_added : (blocks : ℕ → ℕ) (rs : List Run) (test : Addr → Bool) → ((x : Addr) → test x ≡ false) → Adds blocks rs rs test
nothing_added blocks rs test h = record { each = λ x low. sym (ap (λ (b : Bool). claimed rs x || b) (h x) ∙ or_nothing (claimed rs x)) }

pub unkept_added : (blocks : ℕ → ℕ) (f : Frame) (v : Volume) (a : Addr) (rs : List Run) → kept (setting_of f v) (tree_of f v) a ≡ false → Adds blocks rs rs (claims_kept f v a)
unkept_added blocks f v a rs e = nothing_added blocks rs (claims_kept f v a) (λ x. ap (λ (b : Bool). b && claims f v a x) e)

pub holder_added : (blocks : ℕ → ℕ) (f : Frame) (v : Volume) (a : Addr) (rs : List Run) → HoldsFileSet f v → is_holder f v a ≡ true → Adds blocks rs rs (claims_kept f v a)
unfolding claims
holder_added blocks f v a rs set e = nothing_added blocks rs (claims_kept f v a) none
  where
    never : (b : Bool) → (b && false) ≡ false
    never true = refl
    never false = refl

    there : entry_at v a ≡ None
    there = ap (entry_at v) (holder_address f v a e) ∙ (file_set_plain f v set).0

    none : (x : Addr) → claims_kept f v a x ≡ false
    none x = ap (λ (o : Option Entry). kept (setting_of f v) (tree_of f v) a && claims_by f v a o x) there ∙ never (kept (setting_of f v) (tree_of f v) a)
