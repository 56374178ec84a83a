use Rattle.std.proofs.Common.{◌≡◌, ℕ, List, drop, take}
use Rattle.wasm_validate.specs.declared.fault.Part.TheVariants as parts
use Rattle.wasm_validate.specs.Parts.{each, placed, export_at, any_named}
use Rattle.wasm_validate.proofs.Names.{has}
use Rattle.wasm_validate.proofs.parts.check_exports.Given as goal

abbrev pub invariant-loop-i : goal.invariant-loop-i
invariant-loop-i l = record {
  rest : each (placed parts.Export (export_at l.context l.exports)) l.i (drop l.i l.exports) ≡ each (placed parts.Export (export_at l.context l.exports)) 0 l.exports;
  seen : (name : List ℕ) → has l.names name ≡ any_named name (take l.i l.exports);
}
