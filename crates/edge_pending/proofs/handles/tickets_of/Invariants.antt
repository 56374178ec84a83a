use Rattle.std.proofs.Common.{◌≡◌, take}
use Rattle.edge_pending.specs.Choices.{tickets_of}
use Rattle.edge_pending.proofs.handles.tickets_of.Given as goal

abbrev pub invariant-loop-handle : goal.invariant-loop-handle
invariant-loop-handle l = l.tickets.items ≡ tickets_of l.table (take l.handle-index l.handles)
