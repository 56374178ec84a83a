use Rattle.std.proofs.Common.{◌≡◌, ◌++◌, drop}
use Rattle.wasm_validate.specs.Spaces.{functions_in}
use Rattle.wasm_validate.proofs.spaces.functions_in.Given as goal

abbrev pub invariant-loop-import : goal.invariant-loop-import
invariant-loop-import l = l.found.items ++ functions_in (drop l.import-index l.imports) ≡ functions_in l.imports
