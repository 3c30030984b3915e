use Rattle.std.proofs.Common.{◌≡◌, ◌+◌, ◌-◌, arith, ◌∙◌, ap, ◌++◌, length, take, drop}
use Rattle.std.proofs.lemmas.List.{drop-drop}
use Rattle.udf_model.specs.Bytes.{written_at}
use Rattle.udf_sample.proofs.block.put.Goals as goal

pub returns : goal.returns
unfolding written_at
returns c =
    let at = c.args.at in
    let n = length c.args.bytes.now in
    let old = c.args.block.now in
    let end : at + (at + n - at) ≡ at + n = omega (arith) in
    let rest : drop (at + n - at) (drop at old) ≡ drop (at + n) old =
    drop-drop (at + n - at) at old ∙ ap (λ k. drop k old) end in
    ap (λ xs. take at old ++ (xs ++ drop (at + n - at) (drop at old))) c.copy_from_slice.ensures.after
    ∙ ap (λ xs. take at old ++ (c.args.bytes.now ++ xs)) rest
