use Rattle.std.proofs.Common.{◌≡◌, ◌++◌, drop}
use Rattle.edge_http_calls.specs.Texts.{values_in, values_behind}
use Rattle.edge_http_calls.proofs.texts.values_in.Given as goal

abbrev pub invariant-loop-byte : goal.invariant-loop-byte
invariant-loop-byte l = l.values.items ++ values_behind l.part.items (drop l.byte-index l.text) ≡ values_in l.text
