use Rattle.std.proofs.Common.{◌≡◌, true, false, nat_eq, rules}
use Rattle.udf_contents.proofs.Renaming.{no_bytes, none_bytes, some_bytes}
use Rattle.udf_contents.proofs.anew.add_fid.Goals as goal

pub returns-then-place-eq0 : goal.returns-then-place-eq0
returns-then-place-eq0 c =
    let none : nat_eq c.args.place 0 ≡ true = search rules in
    no_bytes c.args.size c.args.place c.args.content.now c.args.bytes.now.items none

pub returns-in-Some : goal.returns-in-Some
returns-in-Some c =
    let some : nat_eq c.args.place 0 ≡ false = search rules in
    some_bytes c.extend_from_slice.result c.args.size c.args.place c.args.content.now c.args.bytes.now.items c.extend_from_slice.new.self.items c.in-Some.fid c.bytes.result.now some c.in-Some.ensures c.bytes.ensures c.extend_from_slice.ensures.items

pub returns-in-None : goal.returns-in-None
returns-in-None c =
    let some : nat_eq c.args.place 0 ≡ false = search rules in
    none_bytes c.args.size c.args.place c.args.content.now c.args.bytes.now.items some c.in-None.ensures
