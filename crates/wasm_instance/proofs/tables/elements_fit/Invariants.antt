use Rattle.std.proofs.Common.{◌≡◌, drop}
use Rattle.wasm_instance.specs.Placing.{elements_fit}
use Rattle.wasm_instance.proofs.Segments.{both}
use Rattle.wasm_instance.proofs.tables.elements_fit.Given as goal

abbrev pub invariant-loop-element : goal.invariant-loop-element
invariant-loop-element l = elements_fit l.size l.globals l.elements ≡ both l.fit (elements_fit l.size l.globals (drop l.element-index l.elements))
