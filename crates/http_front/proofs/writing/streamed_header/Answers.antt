use Rattle.std.proofs.Common.{◌≡◌, nat_lt, false, arith}
use Rattle.std.proofs.lemmas.Grind.{common_steps}
use Rattle.http_front.proofs.writing.streamed_header.Goals as goal

pub returns : goal.returns
returns c =
    let other : nat_lt c.args.version 2 ≡ false = grind (arith, common_steps) in
    rw other c.header.ensures
