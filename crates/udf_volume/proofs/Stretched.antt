-- Stretches of fixed addresses.
use Rattle.std.proofs.Common.{◌≡◌, refl, sym, ap, ◌∙◌, List, [], ◌∷◌, ◌++◌, Bool, true, false, ◌||◌, Option, Some, None}
use Rattle.std.specs.Prelude.{Result, Ok, Err, IfOk}
use Rattle.std.proofs.lemmas.List.Folds.{list_any-append}
use Rattle.udf_field.specs.declared.address.Addr.{Addr}
use Rattle.udf_volume_model.specs.FileSet.{stretch_has}
use Rattle.udf_volume.specs.declared.stretch.Stretch.{Stretch}
use Rattle.udf_volume.specs.Fixed.{FixedAddresses, in_stretch, stretches_over}

or_none : (b : Bool) → b ≡ (b || false)
or_none true = refl
or_none false = refl

pub no_more : (xs : List Stretch) (o : Option Stretch) → o ≡ None → (a : Addr) → stretches_over xs a ≡ (stretches_over xs a || in_stretch o a)
no_more xs o none a =
    or_none (stretches_over xs a) ∙ ap (λ (p : Option Stretch). stretches_over xs a || in_stretch p a) (sym none)

after_push : (ys xs : List Stretch) (x : Stretch) → ys ≡ xs ++ x ∷ [] → (a : Addr) → stretches_over ys a ≡ (stretches_over xs a || stretch_has x.at x.blocks a)
unfolding stretches_over
after_push ys xs x is a =
    ap (λ (zs : List Stretch). stretches_over zs a) is
    ∙ list_any-append (λ (z : Stretch). stretch_has z.at z.blocks a) xs (x ∷ [])
    ∙ ap (λ (b : Bool). stretches_over xs a || b) (sym (or_none (stretch_has x.at x.blocks a)))

pub one_more : {E : Type 0} (xs : List Stretch) (x : Stretch) (o : Option Stretch) (result : Result FixedAddresses E) → o ≡ Some x
    → IfOk result (λ fixed. fixed.stretches ≡ xs ++ x ∷ []) → IfOk result (λ fixed. (a : Addr) → stretches_over fixed.stretches a ≡ (stretches_over xs a || in_stretch o a))
one_more xs x o (Ok fixed) some is =
    λ a. after_push fixed.stretches xs x is a ∙ ap (λ (p : Option Stretch). stretches_over xs a || in_stretch p a) (sym some)
one_more xs x o (Err e) some is = tt
