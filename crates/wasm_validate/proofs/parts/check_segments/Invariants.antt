use Rattle.std.proofs.Common.{◌≡◌, drop}
use Rattle.wasm_validate.specs.declared.fault.Part.TheVariants as parts
use Rattle.wasm_validate.specs.Parts.{each, placed, segment}
use Rattle.wasm_validate.proofs.parts.check_segments.Given as goal

abbrev pub invariant-loop-i : goal.invariant-loop-i
invariant-loop-i l = each (placed parts.Data (λ _ s. segment l.context s)) l.i (drop l.i l.items) ≡ each (placed parts.Data (λ _ s. segment l.context s)) 0 l.items
