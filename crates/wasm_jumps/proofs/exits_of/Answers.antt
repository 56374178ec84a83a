use Rattle.wasm_jumps.proofs.Exiting.{knows_exits}
use Rattle.wasm_jumps.proofs.exits_of.Goals as goal

pub returns-in-Ok : goal.returns-in-Ok
returns-in-Ok c = λ body nests. rw (c.in-Ok.ensures) (knows_exits body c.args.code.now nests)
