use Rattle.std.proofs.Common.{◌∙◌, ◌+◌, Bool, ap, sym, drop}
use Rattle.wasm_meaning.specs.Instance.{size_of}
use Rattle.wasm_instance.specs.Placing.{segment_fits, segments_fit}
use Rattle.wasm_instance.proofs.Segments.{both, segment_passed, segment_ends, stops_too}
use Rattle.wasm_instance.proofs.memories.segments_fit.Goals as goal

pub loop-segment-preserved : goal.loop-segment-preserved
loop-segment-preserved c =
    c.loop-segment.invariant ∙ segment_passed c.loop-segment.fit c.in-Ok.one (size_of c.args.memory.now) c.args.globals.now c.args.segments.now c.loop-segment.segment-index c.segment-item.result c.loop-segment-test.true c.segment-item.is c.in-Ok.ensures
    ∙ ap (λ (x : Bool). both x (segments_fit (size_of c.args.memory.now) c.args.globals.now (drop (c.loop-segment.segment-index + 1) c.args.segments.now))) (sym c.both-fit.ensures)

pub returns-in-Err : goal.returns-in-Err
returns-in-Err c =
    stops_too c.in-Err.halt (segment_fits (size_of c.args.memory.now) c.args.globals.now c.segment-item.result) (segments_fit (size_of c.args.memory.now) c.args.globals.now c.args.segments.now) c.in-Err.ensures
    (λ f is. c.loop-segment.invariant ∙ segment_ends c.loop-segment.fit f (size_of c.args.memory.now) c.args.globals.now c.args.segments.now c.loop-segment.segment-index c.segment-item.result c.loop-segment-test.true c.segment-item.is is)
