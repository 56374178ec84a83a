use Rattle.std.proofs.Common.{◌∙◌}
use Rattle.wasm_instance.specs.Placing.{element_placed, elements_placed}
use Rattle.wasm_instance.proofs.Segments.{element_written, element_unwritten, stops_too}
use Rattle.wasm_instance.proofs.tables.place_elements.Goals as goal

pub loop-element-preserved : goal.loop-element-preserved
loop-element-preserved c =
    c.loop-element.invariant ∙ element_written c.args.globals.now c.args.elements.now c.loop-element.table.items c.place.new.table.items c.loop-element.element-index c.element-item.result c.loop-element-test.true c.element-item.is c.in-Ok.ensures

pub returns-in-Err : goal.returns-in-Err
returns-in-Err c =
    stops_too c.in-Err.halt (element_placed c.args.globals.now c.element-item.result c.loop-element.table.items) (elements_placed c.args.globals.now c.args.elements.now c.args.table.now.items) c.in-Err.ensures
    (λ f is. c.loop-element.invariant ∙ element_unwritten c.args.globals.now c.args.elements.now c.loop-element.table.items f c.loop-element.element-index c.element-item.result c.loop-element-test.true c.element-item.is is)
