use Rattle.std.proofs.Common.{◌≡◌, ◌≤◌, length, drop}
use Rattle.wasm_jumps.specs.Backwards.{exits_of, waiting}
use Rattle.wasm_jumps.proofs.read_backwards.Given as goal

abbrev pub invariant-loop-left : goal.invariant-loop-left
invariant-loop-left l = record {
  within : l.left ≤ length l.code;
  long : length l.table.items ≡ length l.code;
  waits : l.ends ≡ waiting (drop l.left l.code) l.left;
  known : drop l.left l.table.items ≡ exits_of (drop l.left l.code) l.left;
}

abbrev pub decreases-loop-left : goal.decreases-loop-left
decreases-loop-left l = l.left
