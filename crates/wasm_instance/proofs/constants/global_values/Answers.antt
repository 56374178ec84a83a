use Rattle.std.proofs.Common.{List, [], ◌∙◌, ◌+◌, ap, sym, drop}
use Rattle.wasm_types.specs.declared.values.Value.{Value}
use Rattle.wasm_meaning.specs.Instance.{constant_of, global_values}
use Rattle.wasm_instance.proofs.Segments.{following, global_passed, global_stops, stops_too}
use Rattle.wasm_instance.proofs.constants.global_values.Goals as goal

pub loop-item-preserved : goal.loop-item-preserved
loop-item-preserved c =
    c.loop-item.invariant ∙ global_passed c.loop-item.values c.in-Ok.value c.args.items.now c.loop-item.item-index c.item-item.result c.loop-item-test.true c.item-item.is c.in-Ok.ensures
    ∙ ap (λ (vs : List Value). following vs (global_values (drop (c.loop-item.item-index + 1) c.args.items.now))) (sym c.in_ok-push-in-Ok.ensures)

pub returns-in-Err : goal.returns-in-Err
returns-in-Err c =
    stops_too c.in-Err.halt (constant_of [] c.item-item.result.start) (global_values c.args.items.now) c.in-Err.ensures
    (λ f is. c.loop-item.invariant ∙ global_stops c.loop-item.values f c.args.items.now c.loop-item.item-index c.item-item.result c.loop-item-test.true c.item-item.is is)
