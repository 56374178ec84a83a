use Rattle.std.proofs.Common.{◌∙◌, ◌+◌, Bool, ap, sym, drop}
use Rattle.wasm_instance.specs.Placing.{element_fits, elements_fit}
use Rattle.wasm_instance.proofs.Segments.{both, element_passed, element_ends, stops_too}
use Rattle.wasm_instance.proofs.tables.elements_fit.Goals as goal

pub loop-element-preserved : goal.loop-element-preserved
loop-element-preserved c =
    c.loop-element.invariant ∙ element_passed c.loop-element.fit c.in-Ok.one c.args.size c.args.globals.now c.args.elements.now c.loop-element.element-index c.element-item.result c.loop-element-test.true c.element-item.is c.in-Ok.ensures
    ∙ ap (λ (x : Bool). both x (elements_fit c.args.size c.args.globals.now (drop (c.loop-element.element-index + 1) c.args.elements.now))) (sym c.both-fit.ensures)

pub returns-in-Err : goal.returns-in-Err
returns-in-Err c =
    stops_too c.in-Err.halt (element_fits c.args.size c.args.globals.now c.element-item.result) (elements_fit c.args.size c.args.globals.now c.args.elements.now) c.in-Err.ensures
    (λ f is. c.loop-element.invariant ∙ element_ends c.loop-element.fit f c.args.size c.args.globals.now c.args.elements.now c.loop-element.element-index c.element-item.result c.loop-element-test.true c.element-item.is is)
