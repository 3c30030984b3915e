-- Equal lists of descriptors prevail alike, and equal extents.
use Rattle.std.proofs.Common.{◌≡◌, ℕ, refl, ◌∙◌, ap, List, [], ◌∷◌, ◌++◌, Bool, true, Option, Some, None, eqb}
use Rattle.std.specs.List.{list_all}
use Rattle.std.specs.Str.{bytes_eq}
use Rattle.std.proofs.lemmas.Bool.{and_from, and_parts, eq-eqb, eqb-true}
use Rattle.std.proofs.lemmas.Slice.Eq.{bytes_eq-Decides}
use Rattle.udf_volume_model.specs.Sequence.{Descriptor}
use Rattle.udf_volume_model.specs.Anchor.{Extent, Anchor}
use Rattle.udf_volume_model.specs.Prevailing.{prevailing, subject_of}
use Rattle.udf_volume_model.specs.Rules.{same_descriptor, same_for, same_prevailing, same_extent, same_anchor}

pub bytes_same : (xs : List ℕ) → bytes_eq xs xs ≡ true
bytes_same xs = (bytes_eq-Decides xs xs).1 refl

pub same_bytes : (xs ys : List ℕ) → bytes_eq xs ys ≡ true → xs ≡ ys
same_bytes xs ys e = (bytes_eq-Decides xs ys).0 e

descriptor_same : (o : Option Descriptor) → same_descriptor o o ≡ true
descriptor_same None = refl
descriptor_same (Some descriptor) = and_from _ _ (eq-eqb descriptor.id descriptor.id refl) (bytes_same descriptor.body)

all_true : (test : Descriptor → Bool) (xs : List Descriptor) → ((x : Descriptor) → test x ≡ true) → list_all test xs ≡ true
all_true test [] h = refl
all_true test (x ∷ xs) h = and_from _ _ (h x) (all_true test xs h)

pub prevailing_same : (list : List Descriptor) → same_prevailing list list ≡ true
unfolding same_prevailing same_for
prevailing_same list = all_true _ (list ++ list) (λ descriptor. descriptor_same (prevailing descriptor.id (subject_of descriptor) list))

pub extent_is : (a b : Extent) → same_extent a b ≡ true → a ≡ b
unfolding same_extent
extent_is a b e =
    let parts = and_parts (eqb a.bytes b.bytes) (eqb a.start b.start) e in
    let bytes : a.bytes ≡ b.bytes = eqb-true _ _ parts.0 in
    let start : a.start ≡ b.start = eqb-true _ _ parts.1 in
    ap (λ n. record { bytes = n; start = a.start }) bytes ∙ ap (λ n. record { bytes = b.bytes; start = n }) start

pub anchor_is : (a b : Anchor) → same_anchor a b ≡ true → a ≡ b
unfolding same_anchor
anchor_is a b e =
    let parts = and_parts (same_extent a.main b.main) (same_extent a.reserve b.reserve) e in
    ap (λ x. record { main = x; reserve = a.reserve }) (extent_is a.main b.main parts.0)
    ∙ ap (λ x. record { main = b.main; reserve = x }) (extent_is a.reserve b.reserve parts.1)

pub anchor_same : (a : Anchor) → same_anchor a a ≡ true
unfolding same_anchor same_extent
anchor_same a =
    and_from _ _ (and_from _ _ (eq-eqb a.main.bytes a.main.bytes refl) (eq-eqb a.main.start a.main.start refl))
    (and_from _ _ (eq-eqb a.reserve.bytes a.reserve.bytes refl) (eq-eqb a.reserve.start a.reserve.start refl))
