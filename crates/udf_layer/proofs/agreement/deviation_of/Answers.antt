-- A table agrees by what it says behind its tag.
use Rattle.std.proofs.Common.{◌≡◌, ◌∙◌, ℕ, Bool, false, cond, List, Option, Some, None, ap, subst, sym}
use Rattle.std.specs.Option.{unwrap_or}
use Rattle.udf_layer.specs.Fronts.{table_bytes}
use Rattle.udf_layer.specs.Read.{IsRead}
use Rattle.udf_layer.specs.declared.agreement.Deviation.{Deviation}
use Rattle.udf_layer.specs.declared.whole_table.WholeTable.{WholeTable}
use Rattle.udf_layer.proofs.Deviating.{not_whole, whole_agrees}
use Rattle.udf_layer.proofs.agreement.deviation_of.Goals as goal
use Rattle.udf_volume_model.specs.SparingTable.{table_number}

-- what is told of a table, by whether it agrees and by its number
abbrev told : ℕ → Bool → Option ℕ → Option Deviation
told at agrees number = cond agrees None (Some (record { at = at; number = unwrap_or number 0 }))

read_as : (number : Option ℕ) (bytes : List ℕ) (found o : Option WholeTable) → found ≡ o → IsRead number bytes found → IsRead number bytes o
read_as number bytes found o e read = let P : Option WholeTable → Type 0 = IsRead number bytes in subst P e read

pub returns-in_default-clause-told : goal.returns-in_default-clause-told
returns-in_default-clause-told c = λ bytes area read.
    let number : Option ℕ = table_number bytes c.args.at area in
    let none : number ≡ None = read_as number (table_bytes area) c.args.found None c.in_default.is read in
    sym (ap (λ b. told c.args.at b number) (not_whole bytes c.args.at area c.args.prevailing.now none) ∙ ap (told c.args.at false) none)

pub returns-then-say_the_same-clause-told : goal.returns-then-say_the_same-clause-told
returns-then-say_the_same-clause-told c = λ bytes area read.
    let number : Option ℕ = table_number bytes c.args.at area in
    let t : (number ≡ Some c.in-Some.table.number) × (c.in-Some.table.bytes.items ≡ table_bytes area) =
    read_as number (table_bytes area) c.args.found (Some c.in-Some.table) c.in-Some.is read in
    sym (ap (λ b. told c.args.at b number)
    (whole_agrees bytes c.args.at c.in-Some.table.number area c.deref.result.now c.args.prevailing.now t.0 (c.deref.ensures.value ∙ t.1) c.requires
    ∙ sym c.say_the_same.ensures ∙ c.if-say_the_same.true))

pub returns-clause-told : goal.returns-clause-told
returns-clause-told c = λ bytes area read.
    let number : Option ℕ = table_number bytes c.args.at area in
    let t : (number ≡ Some c.in-Some.table.number) × (c.in-Some.table.bytes.items ≡ table_bytes area) =
    read_as number (table_bytes area) c.args.found (Some c.in-Some.table) c.in-Some.is read in
    sym (ap (λ b. told c.args.at b number)
    (whole_agrees bytes c.args.at c.in-Some.table.number area c.deref.result.now c.args.prevailing.now t.0 (c.deref.ensures.value ∙ t.1) c.requires
    ∙ sym c.say_the_same.ensures ∙ c.if-say_the_same.false)
    ∙ ap (told c.args.at false) t.0)
