use Rattle.std.proofs.Common.{ap, Ok, arith}
use Rattle.wasm_flat.proofs.Zeros.{all_zeros}
use Rattle.wasm_flat.proofs.cells.Cells.extend_zeros.Goals as goal

pub returns : goal.returns
returns c = ap Ok (all_zeros c.loop-group.self c.args.self.now c.groups-groups.result.now c.args.kinds.now c.loop-group.group-index (omega (arith, c.loop-group-test.false)) c.loop-group.invariant c.groups-groups.ensures.locals)
