use Rattle.std.proofs.Common.{◌≡◌, drop}
use Rattle.wasm_instance.specs.Placing.{segments_placed}
use Rattle.wasm_instance.proofs.memories.place_segments.Given as goal

abbrev pub invariant-loop-segment : goal.invariant-loop-segment
invariant-loop-segment l = segments_placed l.globals l.segments l.initial.memory ≡ segments_placed l.globals (drop l.segment-index l.segments) l.memory
