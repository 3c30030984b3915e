use Rattle.std.proofs.Common.{◌≡◌, ◌≤◌, ◌+◌, ◌*◌, ◌/◌, List, ℕ, length, arith, sym, ◌∙◌, ap, subst, true, false, Option, Some}
use Rattle.std.specs.Str.{bytes_eq}
use Rattle.std.proofs.lemmas.Bool.{not-true, not-false}
use Rattle.udf_outside.specs.Stops.{bytes_of}
use Rattle.udf_outside.specs.declared.bench.Role.TheVariants.{Image}
use Rattle.udf_redo.specs.declared.stop.Clash.{Clash}
use Rattle.udf_redo.specs.declared.stop.Clash.TheVariants.{Blocks, Seal}
use Rattle.udf_redo.specs.Log.{seal_of}
use Rattle.udf_redo.proofs.Finding.{head_parts}
use Rattle.udf_redo.proofs.Clashes.{other_count, other_seal, no_clash, seal_is, sealed_inside}
use Rattle.udf_redo.proofs.replaying.clash_of.Goals as goal

pub nonzero_div-blocks : goal.nonzero_div-blocks
nonzero_div-blocks g c = omega (arith, (head_parts c.args.head.now c.requires.lawful).large)

pub returns-then-blocks-head-clause-clash : goal.returns-then-blocks-head-clause-clash
returns-then-blocks-head-clause-clash g c tells =
    let head = c.args.head.now in
    let image = bytes_of Image (g.B.Bench.held c.args.bench.now) in
    let same : c.args.image / head.size ≡ length image / head.size = ap (λ (n : ℕ). n / head.size) (c.requires.image ∙ g.met.B.Bench.sizes c.args.bench.now Image tells c.requires.attached) in
    ap (λ (n : ℕ). let clash : Option Clash = Some (Blocks head.blocks n) in clash) same ∙ sym (other_count head image (λ is. c.if-blocks-head.true (same ∙ is)))

pub digest_of-requires-clause-within : goal.digest_of-requires-clause-within
digest_of-requires-clause-within g c =
    let head = c.args.head.now in
    subst (λ (n : ℕ). (head.first + head.sealed) * head.size ≤ n) c.requires.image (sealed_inside head c.args.image c.if-blocks-head.false (head_parts head c.requires.lawful).inside)

pub digest_of-requires-clause-numbers : goal.digest_of-requires-clause-numbers
digest_of-requires-clause-numbers g c = omega (arith, (head_parts c.args.head.now c.requires.lawful).inside)

pub returns-then-ne-clause-clash : goal.returns-then-ne-clause-clash
returns-then-ne-clause-clash g c tells =
    let head = c.args.head.now in
    let image = bytes_of Image (g.B.Bench.held c.args.bench.now) in
    let count : length image / head.size ≡ head.blocks = ap (λ (n : ℕ). n / head.size) (sym (c.requires.image ∙ g.met.B.Bench.sizes c.args.bench.now Image tells c.requires.attached)) ∙ c.if-blocks-head.false in
    let seal : c.in_ok-seal.seal ≡ seal_of head image = seal_is head image c.in_ok-seal.seal (c.in_ok-seal.ensures.digest tells) in
    let other : bytes_eq (seal_of head image) head.seal ≡ false = ap (λ (s : List ℕ). bytes_eq s head.seal) (sym seal) ∙ not-true _ (sym c.if-ne.ensures) in
    ap (λ (s : List ℕ). let clash : Option Clash = Some (Seal head.seal s) in clash) seal ∙ sym (other_seal head image count other)

pub returns-clause-clash : goal.returns-clause-clash
returns-clause-clash g c tells =
    let head = c.args.head.now in
    let image = bytes_of Image (g.B.Bench.held c.args.bench.now) in
    let count : length image / head.size ≡ head.blocks = ap (λ (n : ℕ). n / head.size) (sym (c.requires.image ∙ g.met.B.Bench.sizes c.args.bench.now Image tells c.requires.attached)) ∙ c.if-blocks-head.false in
    let seal : c.in_ok-seal.seal ≡ seal_of head image = seal_is head image c.in_ok-seal.seal (c.in_ok-seal.ensures.digest tells) in
    let same : bytes_eq (seal_of head image) head.seal ≡ true = ap (λ (s : List ℕ). bytes_eq s head.seal) (sym seal) ∙ not-false _ (sym c.if-ne.ensures) in
    sym (no_clash head image count same)
