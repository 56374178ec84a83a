use Rattle.std.proofs.Common.{◌≡◌, drop, []}
use Rattle.wasm_validate.specs.Parts.{constants}
use Rattle.wasm_validate.proofs.constants.constants.Given as goal

abbrev pub invariant-loop-instr : goal.invariant-loop-instr
invariant-loop-instr l = constants (drop l.instr-index l.code) l.globals l.seen ≡ constants l.code l.globals []
