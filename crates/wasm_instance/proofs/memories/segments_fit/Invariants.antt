use Rattle.std.proofs.Common.{◌≡◌, drop}
use Rattle.wasm_meaning.specs.Instance.{size_of}
use Rattle.wasm_instance.specs.Placing.{segments_fit}
use Rattle.wasm_instance.proofs.Segments.{both}
use Rattle.wasm_instance.proofs.memories.segments_fit.Given as goal

abbrev pub invariant-loop-segment : goal.invariant-loop-segment
invariant-loop-segment l = segments_fit (size_of l.memory) l.globals l.segments ≡ both l.fit (segments_fit (size_of l.memory) l.globals (drop l.segment-index l.segments))
