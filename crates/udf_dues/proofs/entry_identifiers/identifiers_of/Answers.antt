use Rattle.std.proofs.Common.{◌≡◌, ℕ, Vec, Global, map}
use Rattle.std.specs.Prelude.{unwrap_or}
use Rattle.std.specs.BTreeMap.{get}
use Rattle.std.proofs.lemmas.Result.{IfOk-weaker}
use Rattle.udf_tree_model.specs.Counts.{wanted_id}
use Rattle.udf_held.specs.declared.held.Held.{Held}
use Rattle.udf_dues.specs.Numbered.{id_in}
use Rattle.udf_found.specs.Order.{addr_cmp}
use Rattle.udf_dues.proofs.Assigning.{are_wanted}
use Rattle.udf_dues.proofs.entry_identifiers.identifiers_of.Goals as goal

pub returns : goal.returns
returns c f v same set starts held tests =
    IfOk-weaker c.given_or_own.result
    (λ (ids : Vec ℕ Global). ids.items ≡ map (λ (h : Held). unwrap_or (get addr_cmp c.in_ok-given.given h.at) (id_in h.shape)) c.args.held.now)
    (λ (ids : Vec ℕ Global). ids.items ≡ map (λ (h : Held). wanted_id f v h.at) c.args.held.now)
    (λ ids e. are_wanted f v set starts c.args.held.now held c.args.root same c.args.are_ordinary.now tests c.in_ok-identities.identities.entries c.in_ok-identities.ensures
    (get addr_cmp c.in_ok-given.given) ids.items c.in_ok-given.ensures e)
    c.given_or_own.ensures
