use Rattle.std.proofs.Common.{◌≡◌, drop}
use Rattle.wasm_validate.specs.declared.fault.Part.TheVariants as parts
use Rattle.wasm_validate.specs.Parts.{each, placed, element}
use Rattle.wasm_validate.proofs.parts.check_elements.Given as goal

abbrev pub invariant-loop-i : goal.invariant-loop-i
invariant-loop-i l = each (placed parts.Element (λ _ e. element l.context e)) l.i (drop l.i l.items) ≡ each (placed parts.Element (λ _ e. element l.context e)) 0 l.items
