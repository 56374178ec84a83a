use Rattle.std.proofs.Common.{◌≡◌, drop}
use Rattle.wasm_validate.specs.declared.fault.Part.TheVariants as parts
use Rattle.wasm_validate.specs.Parts.{each, placed, import_type}
use Rattle.wasm_validate.proofs.parts.check_imports.Given as goal

abbrev pub invariant-loop-i : goal.invariant-loop-i
invariant-loop-i l = each (placed parts.Import (λ _ i. import_type l.types i.kind)) l.i (drop l.i l.imports) ≡ each (placed parts.Import (λ _ i. import_type l.types i.kind)) 0 l.imports
