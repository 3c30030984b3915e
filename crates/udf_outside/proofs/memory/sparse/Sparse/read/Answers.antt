use Rattle.std.proofs.Common.{◌≡◌, ◌∙◌, ap, sym, subst, ℕ, ◌+◌, ◌-◌, ◌<◌, ◌≤◌, min, List, length, get_or, arith}
use Rattle.udf_outside.specs.Stops.{slice_of}
use Rattle.udf_outside.proofs.SparseBytes.{length_sparse, sparse_slice}
use Rattle.udf_outside.proofs.memory.sparse.Sparse.read.Goals as goal

pub read-requires-clause-room : goal.read-requires-clause-room
read-requires-clause-room c =
    let long : length c.args.self.now ≡ c.self.inside.len = sym (ap length c.self.view_is) ∙ length_sparse c.self.inside.front.items c.self.inside.len c.self.inside.blocks c.self.invariant.0 in
    let end : c.self.inside.len < 18446744073709551616 = c.self.invariant.1 in
    omega arith

pub read-requires-clause-within : goal.read-requires-clause-within
read-requires-clause-within c = omega arith

pub returns : goal.returns
returns c =
    let front = c.self.inside.front.items in
    let n = length c.args.into.now in
    let m = c.read_front-first.result in
    let at = c.args.at in
    let long : length c.args.self.now ≡ c.self.inside.len = sym (ap length c.self.view_is) ∙ length_sparse front c.self.inside.len c.self.inside.blocks c.self.invariant.0 in
    let room : at + n ≤ c.self.inside.len = omega arith in
    let size : length c.read.new.into ≡ n = omega arith in
    let same : length c.read_front-first.new.into ≡ n = omega arith in
    let count : m ≡ min n (length front - at) = c.read_front-first.ensures.count ∙ ap (λ (l : List ℕ). min n (length l - at)) c.deref.ensures.value in
    subst (λ (whole : List ℕ). c.read.new.into ≡ slice_of whole at n) c.self.view_is
    (sparse_slice front c.self.inside.len c.self.inside.blocks at n m c.read.new.into c.self.invariant.0 room size count
    (λ k lt. c.read.ensures.skipped k lt ∙ c.read_front-first.ensures.bytes k lt ∙ ap (λ (l : List ℕ). get_or l (at + k) 0) c.deref.ensures.value)
    (λ k le lt. let lt' : k < length c.read_front-first.new.into = omega arith in c.read.ensures.bytes k le lt'))
