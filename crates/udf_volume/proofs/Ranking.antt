-- That a map has the best of each kind and subject, from descriptor to descriptor.
use Rattle.std.proofs.Common.{◌≡◌, ℕ, ◌+◌, ◌<◌, arith, refl, sym, ◌∙◌, ap, subst, List, ◌∷◌, length, Bool, true, false, cond, Option, Some, None, eqb}
use Rattle.std.specs.Prelude.{slice_get, IfSome}
use Rattle.std.specs.Option.{ForSome}
use Rattle.std.specs.Ordering.{nat_cmp, is_eq}
use Rattle.std.specs.Str.{bytes_eq}
use Rattle.std.specs.Cmp.Lexicographic.{slice_cmp}
use Rattle.std.specs.BTreeMap.{get, Updates, IsEmpty, is_at}
use Rattle.std.specs.Map.{lookup}
use Rattle.std.proofs.lemmas.Bool.{and_parts, eqb-true}
use Rattle.std.proofs.lemmas.Map.Text.{is_eq-slice_cmp}
use Rattle.std.proofs.lemmas.Slice.Eq.{bytes_eq-Decides}
use Rattle.udf_volume_model.specs.Sequence.{Descriptor}
use Rattle.udf_volume_model.specs.Prevailing.{subject_of, is_of, prevailing_index}
use Rattle.udf_volume.specs.Best.{IsBest, AreBest, Indexes}
use Rattle.udf_volume.proofs.Prevail as best

abbrev found_in : Indexes → ℕ → List ℕ → Option ℕ
found_in map kind subject = get (slice_cmp nat_cmp) map (kind ∷ subject)

pub none_yet : (list : List Descriptor) (map : Indexes) → IsEmpty map → AreBest list 0 map
unfolding AreBest
none_yet list map e = λ kind subject.
    let P : List (List ℕ × ℕ) → Type 0 = λ es. IsBest kind subject list 0 (lookup (is_at (slice_cmp nat_cmp (kind ∷ subject))) es) in
    subst P (sym e) (best.begins kind subject list)

inside_by : (kind : ℕ) (subject : List ℕ) (list : List Descriptor) (i : ℕ) (found : Option ℕ) → IsBest kind subject list i found → i < length list + 1
    → ForSome found (λ b. b < length list)
inside_by kind subject list i None is lt = λ b e. cc
inside_by kind subject list i (Some best) (d, is) lt = λ b e. let same : best ≡ b = cc in omega (arith, is.within, same)

-- the index that a map has lies in the list
pub inside : (list : List Descriptor) (i : ℕ) (map : Indexes) (kind : ℕ) (subject : List ℕ) (found : Option ℕ) → AreBest list i map → i < length list
    → found ≡ found_in map kind subject → ForSome found (λ b. b < length list)
unfolding AreBest
inside list i map kind subject found are lt e =
    let P : Option ℕ → Type 0 = λ o. ForSome o (λ b. b < length list) in
    subst P (sym e) (inside_by kind subject list i (found_in map kind subject) (are kind subject) (omega arith))

-- a descriptor is of its own kind and subject
own : (d : Descriptor) → is_of d.id (subject_of d) d ≡ true
unfolding is_of
own d = bytes_refl (d.id ∷ subject_of d)
  where
    bytes_refl : (xs : List ℕ) → bytes_eq xs xs ≡ true
    bytes_refl xs = (bytes_eq-Decides xs xs).1 refl

same : (kind : ℕ) (subject : List ℕ) (d : Descriptor) → is_eq (slice_cmp nat_cmp (d.id ∷ subject_of d) (kind ∷ subject)) ≡ is_of kind subject d
unfolding is_of
same kind subject d = is_eq-slice_cmp (d.id ∷ subject_of d) (kind ∷ subject)

kind_is : (kind : ℕ) (subject : List ℕ) (d : Descriptor) → is_of kind subject d ≡ true → (d.id ≡ kind) × (subject_of d ≡ subject)
unfolding is_of
kind_is kind subject d of =
    let parts = and_parts (eqb d.id kind) (bytes_eq (subject_of d) subject) of in
    (eqb-true _ _ parts.0, (bytes_eq-Decides (subject_of d) subject).0 parts.1)

taken_by : (list : List Descriptor) (i : ℕ) (d : Descriptor) (index kind : ℕ) (subject : List ℕ) (before : Option ℕ) (b : Bool) → is_of kind subject d ≡ b
    → slice_get list i ≡ Some d → IsBest kind subject list i before → IsBest d.id (subject_of d) list (i + 1) (Some index)
    → IsBest kind subject list (i + 1) (cond b (Some index) before)
taken_by list i d index kind subject before true e here is risen =
    let P : ℕ → List ℕ → Type 0 = λ k s. IsBest k s list (i + 1) (Some index) in
    let are = kind_is kind subject d e in
    subst (λ s. P kind s) are.1 (subst (λ k. P k (subject_of d)) are.0 risen)
taken_by list i d index kind subject before false e here is risen = best.passes kind subject list i d before is here e

-- the best of the front with one descriptor more, which is written to its kind and subject
pub taken : (list : List Descriptor) (i : ℕ) (m n : Indexes) (key : List ℕ) (d : Descriptor) (found : Option ℕ) (index : ℕ) → AreBest list i m → slice_get list i ≡ Some d
    → key ≡ d.id ∷ subject_of d → found ≡ get (slice_cmp nat_cmp) m key
    → ((kind : ℕ) (subject : List ℕ) (descriptor : Descriptor) → IsBest kind subject list i found → slice_get list i ≡ Some descriptor
    → is_of kind subject descriptor ≡ true → IsBest kind subject list (i + 1) (Some index))
    → Updates (slice_cmp nat_cmp) m n key (Some index) → AreBest list (i + 1) n
unfolding AreBest
taken list i m n key d found index are here keyed e higher updates = λ kind subject.
    let written : Updates (slice_cmp nat_cmp) m n (d.id ∷ subject_of d) (Some index) =
    subst (λ k. Updates (slice_cmp nat_cmp) m n k (Some index)) keyed updates in
    let own_found : found ≡ found_in m d.id (subject_of d) = e ∙ ap (get (slice_cmp nat_cmp) m) keyed in
    let P : Option ℕ → Type 0 = λ o. IsBest d.id (subject_of d) list i o in
    let risen : IsBest d.id (subject_of d) list (i + 1) (Some index) =
    higher d.id (subject_of d) d (subst P (sym own_found) (are d.id (subject_of d))) here (own d) in
    let Q : Option ℕ → Type 0 = λ o. IsBest kind subject list (i + 1) o in
    subst Q (sym (written.0 (kind ∷ subject) ∙ ap (λ b. cond b (Some index) (found_in m kind subject)) (same kind subject d)))
    (taken_by list i d index kind subject (found_in m kind subject) (is_of kind subject d) refl here (are kind subject) risen)

-- the index that a whole map has is that of the descriptor that prevails
pub is_found : (list : List Descriptor) (map : Indexes) (kind : ℕ) (subject : List ℕ) (found : Option ℕ) → AreBest list (length list) map
    → found ≡ found_in map kind subject → found ≡ prevailing_index kind subject list
unfolding AreBest
is_found list map kind subject found are e = e ∙ best.is_found kind subject list (length list) (found_in map kind subject) refl (are kind subject)

if_inside : (list : List Descriptor) (found : Option ℕ) → ForSome found (λ b. b < length list) → IfSome found (λ b. b < length list)
if_inside list None lies = tt
if_inside list (Some b) lies = lies b refl

pub is_inside : (list : List Descriptor) (map : Indexes) (kind : ℕ) (subject : List ℕ) (found : Option ℕ) → AreBest list (length list) map
    → found ≡ found_in map kind subject → IfSome found (λ b. b < length list)
unfolding AreBest
is_inside list map kind subject found are e =
    let P : Option ℕ → Type 0 = λ o. IfSome o (λ b. b < length list) in
    subst P (sym e) (if_inside list _ (inside_by kind subject list (length list) (found_in map kind subject) (are kind subject) (omega arith)))
