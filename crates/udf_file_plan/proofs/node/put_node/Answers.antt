use Rattle.std.proofs.Common.{◌≡◌, ◌∙◌, ◌≤◌, refl, sym, ap, subst, List, ℕ, length, Option, true, false}
use Rattle.std.specs.Prelude.{OnOk, option_map}
use Rattle.udf_outside.specs.Stops.{Held}
use Rattle.udf_entry.specs.ValuesView.{wanted_of}
use Rattle.udf_file_model.specs.Entry.{body_of, descriptor_bytes}
use Rattle.udf_file_model.specs.Listing as listing
use Rattle.udf_file_model.specs.Wanted.{Wanted, own}
use Rattle.udf_tree_model.specs.Claimed.{list_stays, mended_length}
use Rattle.udf_file_model.specs.Content.{block_at}
use Rattle.udf_file_mends.specs.Wanted.{cut_wanted, wanted}
use Rattle.udf_file_mends.specs.Mends.{mend_of, mended_entry}
use Rattle.udf_file_mends.specs.Spread.{Sited}
use Rattle.udf_file_mends.proofs.Joined.{has_entry}
use Rattle.udf_file_plan.specs.Base.{PutsOf, listed}
use Rattle.udf_file_plan.specs.Node.{cut_left, given_by, values_by}
use Rattle.udf_file_plan.specs.Parts.{body_left, bytes_or}
use Rattle.udf_file_plan.proofs.Mended as mended
use Rattle.udf_file_plan.proofs.Own.{own_puts_nothing}
use Rattle.udf_file_plan.proofs.Placed.{inside}
use Rattle.udf_file_plan.proofs.Puts.{puts_as, puts_there}
use Rattle.udf_file_plan.proofs.Standing as standing
use Rattle.udf_file_plan.proofs.Telling as telling
use Rattle.udf_file_plan.proofs.node.put_node.Goals as goal

pub returns-then-is_own-clause-put : goal.returns-then-is_own-clause-put
returns-then-is_own-clause-put g c tells f a told ok at =
    let v = listed c.args.volume.now (g.B.Bench.held c.args.bench.now) (g.P.Parts.place c.args.parts.now) in
    let n = c.node-node.result.now in
    let x = c.args.survey.now in
    let is = telling.node_is f v x told c.args.id n c.node-node.ensures in
    let has = has_entry f v ok n.at is.kept_is in
    let e = has.0 in
    let s = c.stated-stated.result in
    let p = c.pointer-pointer.result in
    let m : Option (List ℕ) = option_map (λ b. b.now) c.mended-mended.result in
    let s_is = telling.stated_is f v x told c.args.id n c.node-node.ensures s c.stated-stated.ensures in
    let m_is = telling.matched c.mended-mended.result _ c.mended-mended.ensures ∙ telling.mended_is f v x told c.args.id n c.node-node.ensures in
    let stays : list_stays f v n.at e ≡ true =
    sym (telling.stays_is f v x told c.args.id n c.node-node.ensures ok e has.1 s m s_is m_is) ∙ sym c.list_stays-stays.ensures ∙ c.if-stays.true in
    let clear = telling.clear_is f v x told c.args.id n c.node-node.ensures ok e has.1 s p s_is c.pointer-pointer.ensures in
    puts_as v c.args.wanted.now c.args.wanted.now (mend_of f v n.at) (mend_of f v a)
    (own_puts_nothing f v ok n.at e is.kept_is has.1 n s p s_is (sym c.is_own.ensures ∙ c.if-is_own.true) is.links_are is.id_is clear stays c.args.wanted.now)
    (ap (mend_of f v) (telling.address_is f v x told c.args.id n c.node-node.ensures a at))

pub returns-in_default-clause-put : goal.returns-in_default-clause-put
returns-in_default-clause-put g c tells f a told ok at =
    let v = listed c.args.volume.now (g.B.Bench.held c.args.bench.now) (g.P.Parts.place c.args.parts.now) in
    let n = c.node-node.result.now in
    let is = telling.node_is f v c.args.survey.now told c.args.id n c.node-node.ensures in
    let has = has_entry f v ok n.at is.kept_is in
    absurd (standing.not_nowhere f v ok n.at has.0 is.kept_is has.1 (sym c.locate.ensures ∙ c.in_default.is))

pub read_block-requires-clause-within : goal.read_block-requires-clause-within
read_block-requires-clause-within g c =
    inside c.args.volume.now (g.P.Parts.place c.args.parts.now) (g.B.Bench.files c.args.bench.now) c.requires.over c.node-node.result.now.at c.in-Some.sector (sym c.in-Some.ensures)

pub returns-in_default-header_at-clause-put : goal.returns-in_default-header_at-clause-put
returns-in_default-header_at-clause-put g c tells f a told ok at =
    let v = listed c.args.volume.now (g.B.Bench.held c.args.bench.now) (g.P.Parts.place c.args.parts.now) in
    let n = c.node-node.result.now in
    let is = telling.node_is f v c.args.survey.now told c.args.id n c.node-node.ensures in
    let has = has_entry f v ok n.at is.kept_is in
    absurd (standing.not_unreadable f v ok n.at has.0 is.kept_is has.1 c.in-Some.sector c.read_block.new.into (sym c.in-Some.ensures) (c.in_ok-read_block.ensures.block tells)
    (sym c.header_at.ensures.value ∙ c.in_default-header_at.is))

pub returns-then-stays-2-clause-put : goal.returns-then-stays-2-clause-put
returns-then-stays-2-clause-put g c tells f a told ok at =
    let v = listed c.args.volume.now (g.B.Bench.held c.args.bench.now) (g.P.Parts.place c.args.parts.now) in
    let n = c.node-node.result.now in
    let x = c.args.survey.now in
    let is = telling.node_is f v x told c.args.id n c.node-node.ensures in
    let has = has_entry f v ok n.at is.kept_is in
    let e = has.0 in
    let s = c.stated-stated.result in
    let p = c.pointer-pointer.result in
    let m : Option (List ℕ) = option_map (λ b. b.now) c.mended-mended.result in
    let now = c.read_block.new.into in
    let place = sym c.in-Some.ensures in
    let stands = c.in_ok-read_block.ensures.block tells in
    let block_is = standing.block_is f v ok n.at e is.kept_is has.1 c.in-Some.sector now place stands in
    let s_is = telling.stated_is f v x told c.args.id n c.node-node.ensures s c.stated-stated.ensures in
    let m_is = telling.matched c.mended-mended.result _ c.mended-mended.ensures ∙ telling.mended_is f v x told c.args.id n c.node-node.ensures in
    let stays : list_stays f v n.at e ≡ true =
    sym (telling.stays_is f v x told c.args.id n c.node-node.ensures ok e has.1 s m s_is m_is) ∙ sym c.list_stays-stays.ensures ∙ c.if-stays-2.true in
    let header_is = telling.same_header c.in-Some-header_at.header e.header _ c.in-Some-header_at.ensures.value
    (standing.header_is f v ok n.at e is.kept_is has.1 c.in-Some.sector now place stands) in
    let clear = telling.clear_is f v x told c.args.id n c.node-node.ensures ok e has.1 s p s_is c.pointer-pointer.ensures in
    let w_is = c.values_of-values.ensures.wanted ∙ ap (λ h. values_by n s p (own h now)) header_is ∙ ap (λ b. values_by n s p (own e.header b)) block_is
    ∙ mended.wanted_stays f v ok n.at e is.kept_is has.1 n s p is.links_are is.id_is clear stays in
    puts_as v c.args.wanted.now c.put_same.new.wanted _ (mend_of f v a)
    (puts_there v c.args.wanted.now c.put_same.new.wanted n.at c.in-Some.sector now (λ b. mended_entry n.at.block c.in-Some-header_at.header (wanted_of c.values_of-values.result (body_of c.in-Some-header_at.header now)) b) place stands
    c.in_ok-put_same.ensures.put)
    (mended.mend_stays f v ok n.at e is.kept_is has.1 _ c.in-Some-header_at.header stays header_is w_is
    ∙ ap (mend_of f v) (telling.address_is f v x told c.args.id n c.node-node.ensures a at))

pub returns-clause-put : goal.returns-clause-put
returns-clause-put g c tells f a told ok at =
    let view : Held → listing.Volume = λ h. listed c.args.volume.now h (g.P.Parts.place c.args.parts.now) in
    let h : Held = g.B.Bench.held c.args.bench.now in
    let v : listing.Volume = view h in
    let n = c.node-node.result.now in
    let x = c.args.survey.now in
    let is = telling.node_is f v x told c.args.id n c.node-node.ensures in
    let has = has_entry f v ok n.at is.kept_is in
    let e = has.0 in
    let s = c.stated-stated.result in
    let p = c.pointer-pointer.result in
    let m : Option (List ℕ) = option_map (λ b. b.now) c.mended-mended.result in
    let now = c.read_block.new.into in
    let header = c.in-Some-header_at.header in
    let bytes = c.min-bytes.result in
    let place = sym c.in-Some.ensures in
    let stands = c.in_ok-read_block.ensures.block tells in
    let once : g.B.Bench.held c.read_block.new.bench ≡ h = c.in_ok-read_block.ensures.reads.held in
    let block_is = standing.block_is f v ok n.at e is.kept_is has.1 c.in-Some.sector now place stands in
    let reads = standing.entry_reads f v ok n.at e is.kept_is has.1 c.in-Some.sector now place stands in
    let s_is = telling.stated_is f v x told c.args.id n c.node-node.ensures s c.stated-stated.ensures in
    let m_is = telling.matched c.mended-mended.result _ c.mended-mended.ensures ∙ telling.mended_is f v x told c.args.id n c.node-node.ensures in
    let cut : list_stays f v n.at e ≡ false =
    sym (telling.stays_is f v x told c.args.id n c.node-node.ensures ok e has.1 s m s_is m_is) ∙ sym c.list_stays-stays.ensures ∙ c.if-stays-2.false in
    let header_is = telling.same_header header e.header _ c.in-Some-header_at.ensures.value
    (standing.header_is f v ok n.at e is.kept_is has.1 c.in-Some.sector now place stands) in
    let clear = telling.clear_is f v x told c.args.id n c.node-node.ensures ok e has.1 s p s_is c.pointer-pointer.ensures in
    let q = given_by v n.at e n m in
    let q_is = mended.given_is f v ok n.at e is.kept_is has.1 n m refl (telling.directory_is f v x told c.args.id n c.node-node.ensures ok e has.1) is.kept_length_is m_is in
    let many : bytes_or bytes q ≡ mended_length f v n.at e =
    ap (bytes_or bytes) q_is ∙ mended.bytes_is f v ok n.at e is.kept_is has.1 s n bytes (telling.least_is f v x told c.args.id n c.node-node.ensures ok e has.1 s bytes s_is c.min-bytes.ensures) in
    let left : body_left e.kind n.at e.body (bytes_or bytes q) q ≡ cut_wanted f v n.at e =
    ap (λ k. body_left e.kind n.at e.body k q) many ∙ ap (body_left e.kind n.at e.body (mended_length f v n.at e)) q_is ∙ mended.body_is f v ok n.at e is.kept_is has.1 in
    let room : length (body_left e.kind n.at e.body (bytes_or bytes q) q) ≤ descriptor_bytes header now =
    subst (λ (k : ℕ). length (body_left e.kind n.at e.body (bytes_or bytes q) q) ≤ k)
    (ap (λ b. descriptor_bytes e.header b) (sym block_is) ∙ ap (λ k. descriptor_bytes k now) (sym header_is))
    (subst (λ (z : List ℕ). length z ≤ descriptor_bytes e.header (block_at v n.at)) (sym left) (mended.left_fits f v ok n.at e is.kept_is has.1 cut)) in
    let w : Wanted = wanted_of c.values_of-values.result e.body in
    let w_is : record w { information = mended_length f v n.at e; object_size = mended_length f v n.at e; body = cut_wanted f v n.at e } ≡ wanted f v n.at e (block_at v n.at) =
    ap (λ (z : Wanted). record z { information = mended_length f v n.at e; object_size = mended_length f v n.at e; body = cut_wanted f v n.at e })
    (c.values_of-values.ensures.wanted ∙ ap (λ k. values_by n s p (own k now)) header_is ∙ ap (λ b. values_by n s p (own e.header b)) block_is)
    ∙ mended.wanted_cut f v ok n.at e is.kept_is has.1 n s p is.links_are is.id_is clear (mended_length f v n.at e) (cut_wanted f v n.at e) cut refl refl in
    let made : cut_left v n.at e w bytes q ≡ mend_of f v a =
    mended.mend_cut f v ok n.at e is.kept_is has.1 w bytes q cut many q_is w_is ∙ ap (mend_of f v) (telling.address_is f v x told c.args.id n c.node-node.ensures a at) in
    let given : Held → Option (List ℕ) = λ k. given_by (view k) n.at e n m in
    let fits = subst (λ (k : Held). length (body_left e.kind n.at e.body (bytes_or bytes (given_by (view k) n.at e n m)) (given_by (view k) n.at e n m)) ≤ descriptor_bytes header now) (sym once) room in
    let put = c.put_shorter.ensures.put tells e reads (stands ∙ ap (λ k. (view k).disk c.in-Some.sector) (sym once)) fits in
    subst (λ (z : List Sited). OnOk c.put_shorter.result (PutsOf v c.args.wanted.now c.put_shorter.new.wanted z)) made
    (subst (λ (k : Held). OnOk c.put_shorter.result (PutsOf (view k) c.args.wanted.now c.put_shorter.new.wanted (cut_left (view k) n.at e w bytes (given_by (view k) n.at e n m)))) once put)
