use Rattle.std.proofs.Common.{◌≡◌, drop}
use Rattle.wasm_instance.specs.Placing.{elements_placed}
use Rattle.wasm_instance.proofs.tables.place_elements.Given as goal

abbrev pub invariant-loop-element : goal.invariant-loop-element
invariant-loop-element l = elements_placed l.globals l.elements l.initial.table.items ≡ elements_placed l.globals (drop l.element-index l.elements) l.table.items
