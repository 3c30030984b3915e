use Rattle.std.proofs.Common.{rules, ◌≡◌, ◌<◌, ◌++◌, ◌∷◌, [], List, ℕ, Option, None, true, false, arith, refl, sym, ap, ◌∙◌}
use Rattle.std.specs.Prelude.{is_some}
use Rattle.udf_field.specs.declared.address.Addr.{Addr}
use Rattle.udf_found.specs.declared.arena.Found.{Found}
use Rattle.udf_found.proofs.Beginning.{with_holder, without_file_set, without_pointer}
use Rattle.udf_found.proofs.Told.{address_is}
use Rattle.udf_found.proofs.starts.holder.Goals as goal

pub returns-in_default : goal.returns-in_default
returns-in_default g c f v i s p = without_pointer f v c.new-arena.result c.new-arena.ensures (s ∙ c.in_default.is)

pub returns-then-is_none : goal.returns-then-is_none
returns-then-is_none g c f v i s p =
    let none : is_some c.locate.result ≡ false = search rules in
    without_file_set f v c.new-arena.result c.new-arena.ensures
    (ap (λ (k : Addr → Option ℕ). is_some (k f.file_set)) p ∙ ap (λ (a : Addr). is_some (g.P.Parts.place c.args.parts.now a)) i ∙ ap (λ (o : Option ℕ). is_some o) (sym c.locate.ensures) ∙ none)

pub returns : goal.returns
returns g c f v i s p =
    let some : is_some c.locate.result ≡ true = search rules in
    let part : c.args.file_set.part < 65536 = omega arith in
    let block : c.args.file_set.block < 4294967296 = omega arith in
    let node : Found = record { at = c.args.file_set; level = 0; links = c.in_ok-links.links; shape = None } in
    with_holder f v node c.in-Some.target c.push.new.self (s ∙ c.in-Some.is) i refl c.in_ok-links.ensures refl (address_is c.args.file_set part block)
    (ap (λ (k : Addr → Option ℕ). is_some (k c.args.file_set)) p ∙ ap (λ (o : Option ℕ). is_some o) (sym c.locate.ensures) ∙ some)
    (c.in_ok-push.ensures.ok ∙ ap (λ (l : List Found). l ++ node ∷ []) c.new-arena.ensures)
