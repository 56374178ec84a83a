use Rattle.std.proofs.Common.{◌∙◌}
use Rattle.wasm_instance.specs.Placing.{segment_placed, segments_placed}
use Rattle.wasm_instance.proofs.Segments.{segment_written, segment_unwritten, stops_too}
use Rattle.wasm_instance.proofs.memories.place_segments.Goals as goal

pub loop-segment-preserved : goal.loop-segment-preserved
loop-segment-preserved c =
    c.loop-segment.invariant ∙ segment_written c.args.globals.now c.args.segments.now c.loop-segment.memory c.place.new.memory c.loop-segment.segment-index c.segment-item.result c.loop-segment-test.true c.segment-item.is c.in-Ok.ensures

pub returns-in-Err : goal.returns-in-Err
returns-in-Err c =
    stops_too c.in-Err.halt (segment_placed c.args.globals.now c.segment-item.result c.loop-segment.memory) (segments_placed c.args.globals.now c.args.segments.now c.args.memory.now) c.in-Err.ensures
    (λ f is. c.loop-segment.invariant ∙ segment_unwritten c.args.globals.now c.args.segments.now c.loop-segment.memory f c.loop-segment.segment-index c.segment-item.result c.loop-segment-test.true c.segment-item.is is)
