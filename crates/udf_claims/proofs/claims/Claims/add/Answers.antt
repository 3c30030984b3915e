use Rattle.std.proofs.Common.{arith, ◌≡◌, ◌++◌, ◌∷◌, [], List, ◌+◌, ◌*◌, ◌<◌, sym, ap, refl, subst, ◌∙◌}
use Rattle.udf_claims.specs.declared.run.Run.{Run}
use Rattle.udf_claims.specs.Telling.{Tells}
use Rattle.udf_claims.proofs.Telling.{tells_push}
use Rattle.udf_claims.proofs.claims.Claims.add.Goals as goal

pub invariant_of-self-2 : goal.invariant_of-self-2
invariant_of-self-2 c =
    let rs : List Run = c.self.inside.added.items in
    let r : Run = record { owner = c.args.owner; at = c.args.at; blocks = c.args.blocks; class = c.args.class } in
    let items : c.push_reserved.new.self.items ≡ rs ++ r ∷ [] = c.push_reserved.ensures.items ∙ ap (λ l. l ++ r ∷ []) c.reserve.ensures.items in
    let fits : c.args.at.block + c.args.blocks < 4294967296 = omega arith in
    subst (Tells c.share.new.latest c.share.new.sole) (sym items)
    (tells_push c.self.inside.latest c.self.inside.sole c.share.new.latest c.share.new.sole rs r (c.args.class * 281474976710656 + c.number_of.result) (c.args.class * 281474976710656 + c.number_of.result + c.args.blocks) c.self.invariant fits
    c.number_of.ensures.part (omega arith) (ap (λ x. c.args.class * 281474976710656 + x) c.number_of.ensures.number) refl c.in_ok-share.ensures.latest c.in_ok-share.ensures.sole)
