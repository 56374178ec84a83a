use Rattle.std.proofs.Common.{◌≡◌, drop}
use Rattle.wasm_validate.specs.Parts.{each, code_at}
use Rattle.wasm_validate.proofs.code.check_code.Given as goal

abbrev pub invariant-loop-i : goal.invariant-loop-i
invariant-loop-i l = each (code_at l.context l.first l.own) l.i (drop l.i l.code) ≡ each (code_at l.context l.first l.own) 0 l.code
