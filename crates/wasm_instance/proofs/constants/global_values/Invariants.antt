use Rattle.std.proofs.Common.{◌≡◌, drop}
use Rattle.wasm_meaning.specs.Instance.{global_values}
use Rattle.wasm_instance.proofs.Segments.{following}
use Rattle.wasm_instance.proofs.constants.global_values.Given as goal

abbrev pub invariant-loop-item : goal.invariant-loop-item
invariant-loop-item l = global_values l.items ≡ following l.values (global_values (drop l.item-index l.items))
