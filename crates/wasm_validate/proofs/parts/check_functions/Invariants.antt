use Rattle.std.proofs.Common.{◌≡◌, drop, length, ltb}
use Rattle.wasm_validate.specs.declared.fault.ValidKind.TheVariants.{UnknownType}
use Rattle.wasm_validate.specs.declared.fault.Part.TheVariants as parts
use Rattle.wasm_validate.specs.Parts.{needs, each, placed}
use Rattle.wasm_validate.proofs.parts.check_functions.Given as goal

abbrev pub invariant-loop-i : goal.invariant-loop-i
invariant-loop-i l = each (placed parts.Func (λ _ t. needs (ltb t (length l.types)) UnknownType)) l.i (drop l.i l.functions) ≡ each (placed parts.Func (λ _ t. needs (ltb t (length l.types)) UnknownType)) 0 l.functions
