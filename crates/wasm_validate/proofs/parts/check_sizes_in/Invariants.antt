use Rattle.std.proofs.Common.{◌≡◌, drop}
use Rattle.wasm_validate.specs.declared.fault.Part.TheVariants as parts
use Rattle.wasm_validate.specs.Spaces.{sizes_in}
use Rattle.wasm_validate.specs.Parts.{sizes}
use Rattle.wasm_validate.proofs.parts.check_sizes_in.Given as goal

abbrev pub invariant-loop-i : goal.invariant-loop-i
invariant-loop-i l = sizes parts.Import l.range l.i l.seen (sizes_in l.wanted (drop l.i l.imports)) ≡ sizes parts.Import l.range 0 0 (sizes_in l.wanted l.imports)
