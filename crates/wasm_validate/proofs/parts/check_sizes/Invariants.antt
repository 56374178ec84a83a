use Rattle.std.proofs.Common.{◌≡◌, drop}
use Rattle.wasm_validate.specs.Parts.{sizes, all_present}
use Rattle.wasm_validate.proofs.parts.check_sizes.Given as goal

abbrev pub invariant-loop-i : goal.invariant-loop-i
invariant-loop-i l = sizes l.part l.range l.i l.seen (all_present (drop l.i l.all)) ≡ sizes l.part l.range 0 l.imported (all_present l.all)
