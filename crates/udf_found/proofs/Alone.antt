-- Scans of a content for its parent FIDs.
use Rattle.std.proofs.Common.{◌≡◌, ℕ, List, [], ◌∷◌, length, Bool, true, false, cond, ◌&&◌, Some, refl, sym, ap, ◌∙◌}
use Rattle.std.specs.Prelude.{◌↔◌, IsTrue}
use Rattle.std.specs.List.{filter, list_all}
use Rattle.std.specs.Str.{bytes_eq}
use Rattle.udf_field.specs.declared.address.Addr.{Addr}
use Rattle.udf_file_model.specs.Fid.{is_parent, target}
use Rattle.udf_file_model.specs.Pack.{IsWholeContent, packed}
use Rattle.udf_file_model.specs.Scan.{Placed, fids, fids_of}
use Rattle.udf_tree_model.proofs.Linking.{name_same, same_name}
use Rattle.udf_tree_model.proofs.Members.{same_bools}
use Rattle.udf_tree_model.specs.Frame.{parent_length}
use Rattle.udf_found.specs.declared.parents.Named.{Named}
use Rattle.udf_found.specs.declared.parents.Named.TheVariants.{Nothing, One, Several}
use Rattle.udf_found.specs.Parents.{alone, is_lawful, is_lawful_kind, more_named, one_of}

-- ---- the first parent FID
pub first_here : (left rest : List Placed) (p : Placed) (n whole : ℕ) → left ≡ p ∷ rest → is_parent p.1 ≡ true → n ≡ length p.1 → parent_length (fids_of left) ≡ whole → n ≡ whole
unfolding parent_length
first_here left rest p n whole e h k i =
    k ∙ sym (ap (λ (b : Bool). cond b (length p.1) (parent_length (fids_of rest))) h) ∙ sym (ap (λ (l : List Placed). parent_length (fids_of l)) e) ∙ i

pub first_later : (left rest : List Placed) (p : Placed) (whole : ℕ) → left ≡ p ∷ rest → is_parent p.1 ≡ false → parent_length (fids_of left) ≡ whole → parent_length (fids_of rest) ≡ whole
unfolding parent_length
first_later left rest p whole e h i = sym (ap (λ (b : Bool). cond b (length p.1) (parent_length (fids_of rest))) h) ∙ sym (ap (λ (l : List Placed). parent_length (fids_of l)) e) ∙ i

pub first_nowhere : (left : List Placed) (whole : ℕ) → left ≡ [] → parent_length (fids_of left) ≡ whole → 40 ≡ whole
unfolding parent_length
first_nowhere left whole e i = sym (ap (λ (l : List Placed). parent_length (fids_of l)) e) ∙ i

-- ---- the kinds of all FIDs
pub kind_here : (left rest : List Placed) (p : Placed) (whole : Bool) → left ≡ p ∷ rest → is_lawful_kind p.1 ≡ false → list_all is_lawful_kind (fids_of left) ≡ whole → false ≡ whole
kind_here left rest p whole e h i = sym (ap (λ (b : Bool). b && list_all is_lawful_kind (fids_of rest)) h) ∙ sym (ap (λ (l : List Placed). list_all is_lawful_kind (fids_of l)) e) ∙ i

pub kind_later : (left rest : List Placed) (p : Placed) (whole : Bool) → left ≡ p ∷ rest → is_lawful_kind p.1 ≡ true → list_all is_lawful_kind (fids_of left) ≡ whole
    → list_all is_lawful_kind (fids_of rest) ≡ whole
kind_later left rest p whole e h i = sym (ap (λ (b : Bool). b && list_all is_lawful_kind (fids_of rest)) h) ∙ sym (ap (λ (l : List Placed). list_all is_lawful_kind (fids_of l)) e) ∙ i

pub kind_end : (left : List Placed) (whole : Bool) → left ≡ [] → list_all is_lawful_kind (fids_of left) ≡ whole → true ≡ whole
kind_end left whole e i = sym (ap (λ (l : List Placed). list_all is_lawful_kind (fids_of l)) e) ∙ i

-- ---- the parent FID that is alone
pub after : Named → List (List ℕ) → Named
after named [] = named
after named (fid ∷ fids) = after (more_named named fid) fids

several : (fids : List (List ℕ)) → after Several fids ≡ Several
unfolding after more_named
several [] = refl
several (fid ∷ fids) = ap (λ (n : Named). after n fids) (stays (is_parent fid)) ∙ several fids
  where
    stays : (b : Bool) → cond b Several Several ≡ Several
    stays true = refl
    stays false = refl

one_then : (at : Addr) (fids : List (List ℕ)) (fid : List ℕ) → (target fid).at ≡ at → one_of (after (One at) fids) ≡ alone (fid ∷ filter is_parent fids)
unfolding after more_named alone
one_then at [] fid e = ap Some (sym e)
one_then at (f ∷ fs) fid e = by (one_then at fs fid e) (is_parent f)
  where
    by : one_of (after (One at) fs) ≡ alone (fid ∷ filter is_parent fs) → (b : Bool)
        → one_of (after (cond b Several (One at)) fs) ≡ alone (fid ∷ cond b (f ∷ filter is_parent fs) (filter is_parent fs))
    by h true = ap one_of (several fs)
    by h false = h

pub alone_is : (fids : List (List ℕ)) → one_of (after Nothing fids) ≡ alone (filter is_parent fids)
unfolding after more_named alone
alone_is [] = refl
alone_is (f ∷ fs) = by (alone_is fs) (is_parent f)
  where
    by : one_of (after Nothing fs) ≡ alone (filter is_parent fs) → (b : Bool)
        → one_of (after (cond b (One (target f).at) Nothing) fs) ≡ alone (cond b (f ∷ filter is_parent fs) (filter is_parent fs))
    by h true = one_then (target f).at fs f refl
    by h false = h

pub named_more : (left rest : List Placed) (p : Placed) (old new whole : Named) → left ≡ p ∷ rest → new ≡ more_named old p.1 → after old (fids_of left) ≡ whole → after new (fids_of rest) ≡ whole
unfolding after
named_more left rest p old new whole e h i = ap (λ (n : Named). after n (fids_of rest)) h ∙ sym (ap (λ (l : List Placed). after old (fids_of l)) e) ∙ i

pub named_end : (left : List Placed) (old whole : Named) → left ≡ [] → after old (fids_of left) ≡ whole → old ≡ whole
unfolding after
named_end left old whole e i = sym (ap (λ (l : List Placed). after old (fids_of l)) e) ∙ i

-- ---- a whole content
whole_is : (size : ℕ) (content : List ℕ) (b : Bool) → (IsTrue b ↔ IsWholeContent size content) → b ≡ bytes_eq content (packed (fids_of (fids size content)))
whole_is size content b h = same_bools b (bytes_eq content (packed (fids_of (fids size content))))
    (λ e. same_name content (packed (fids_of (fids size content))) (h.0 e))
    (λ e. h.1 (name_same content (packed (fids_of (fids size content))) e))

pub whole_kinds : (size : ℕ) (content : List ℕ) (b c : Bool) → (IsTrue b ↔ IsWholeContent size content) → b ≡ true → c ≡ list_all is_lawful_kind (fids_of (fids size content)) → c ≡ is_lawful size content
unfolding is_lawful
whole_kinds size content b c h e k = k ∙ ap (λ (x : Bool). x && list_all is_lawful_kind (fids_of (fids size content))) (sym e ∙ whole_is size content b h)

pub not_whole : (size : ℕ) (content : List ℕ) (b : Bool) → (IsTrue b ↔ IsWholeContent size content) → b ≡ false → false ≡ is_lawful size content
unfolding is_lawful
not_whole size content b h e = ap (λ (x : Bool). x && list_all is_lawful_kind (fids_of (fids size content))) (sym e ∙ whole_is size content b h)
