use Rattle.std.proofs.Common.{◌≡◌, drop}
use Rattle.wasm_validate.specs.declared.fault.Part.TheVariants as parts
use Rattle.wasm_validate.specs.Parts.{each, placed, constant}
use Rattle.wasm_validate.proofs.parts.check_globals.Given as goal

abbrev pub invariant-loop-i : goal.invariant-loop-i
invariant-loop-i l = each (placed parts.Global (λ _ g. constant l.globals g.kind.kind g.start)) l.i (drop l.i l.items) ≡ each (placed parts.Global (λ _ g. constant l.globals g.kind.kind g.start)) 0 l.items
