-- Connections: what they tell as a source, as a sink, and whether they were ended.
use Rattle.std.specs.Prelude.{◌≡◌, ℕ, List, Bool, Option, Result}
use Rattle.edge_outside.specs.declared.fault.Failed.{Failed}
use Rattle.edge_outside.specs.Source.{SourceInMemory, ReadsSource}
use Rattle.edge_outside.specs.Sink.{SinkInMemory, WritesInMemory}

-- a content, where it is told, and a count of faults are after a call what they were before
pub record StaysAsItWas {C : Type 0} (content : Option C) (faults : ℕ) (content' : Option C) (faults' : ℕ) : Type 0 where
  pub same_content : content' ≡ content
  pub same_faults : faults' ≡ faults

-- a connection in memory
pub record ConnInMemory : Type 0 where
  pub source : SourceInMemory
  pub sink : SinkInMemory
  pub ended : Bool

-- a read of a connection in memory is one of its source, and changes nothing else
pub record ReadsConn (before : ConnInMemory) (room : ℕ) (answer : Result (List ℕ) Failed) (after : ConnInMemory) : Type 0 where
  pub source : ReadsSource before.source room answer after.source
  pub sink : after.sink ≡ before.sink
  pub ended : after.ended ≡ before.ended

-- a write of a connection in memory is one of its sink, and changes nothing else
pub record WritesConn (before : ConnInMemory) (piece : List ℕ) (answer : Result (Unit {0}) Failed) (after : ConnInMemory) : Type 0 where
  pub sink : WritesInMemory before.sink piece answer after.sink
  pub source : after.source ≡ before.source
  pub ended : after.ended ≡ before.ended
