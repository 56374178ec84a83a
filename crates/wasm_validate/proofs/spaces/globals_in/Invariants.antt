use Rattle.std.proofs.Common.{◌≡◌, ◌++◌, drop}
use Rattle.wasm_validate.specs.Spaces.{globals_in}
use Rattle.wasm_validate.proofs.spaces.globals_in.Given as goal

abbrev pub invariant-loop-import : goal.invariant-loop-import
invariant-loop-import l = l.found.items ++ globals_in (drop l.import-index l.imports) ≡ globals_in l.imports
