use Rattle.std.proofs.Common.{◌≡◌, ◌+◌, ◌-◌, arith, sym, ap, ◌∙◌}
use Rattle.udf_field.specs.declared.address.Addr.{Addr}
use Rattle.udf_file_model.specs.Address.{addr}
use Rattle.udf_claims.specs.Winner.{claimed}
use Rattle.udf_free.proofs.taken.taken_from.Goals as goal

pub returns : goal.returns
returns c =
    let rs = c.args.survey.now.runs in
    let at = c.in_ok-next.next.at in
    let next = c.in_ok-next.ensures in
    let base : at.part ≡ 0 = omega (arith, c.if-next-ne-BASE.false) in
    record {
      after = omega (arith, next.after, base);
      some = omega (arith, c.min.ensures, next.some, c.if-next-blocks.false);
      within = omega (arith, c.min.ensures, c.if-next-blocks.false);
      before = λ n low high. next.before (addr 0 n) (omega (arith, next.fits)) (omega (arith, base)) (omega (arith, base));
      taken = λ n low high.
          ap (λ (x : Addr). claimed rs x) (ap (λ part. addr part n) (sym base) ∙ ap (addr at.part) (let e : n ≡ at.block + (n - at.block) = omega arith in e))
          ∙ next.claimed_block (n - at.block) (omega (arith, c.min.ensures));
    }
