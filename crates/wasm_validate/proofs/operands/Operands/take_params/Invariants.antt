use Rattle.std.proofs.Common.{◌≡◌, ◌≤◌, length, take, reverse}
use Rattle.wasm_validate.specs.Operands.{take_all}
use Rattle.wasm_validate.proofs.operands.Operands.take_params.Given as goal

abbrev pub invariant-loop-left : goal.invariant-loop-left
invariant-loop-left l = record {
  within : l.left ≤ length l.params;
  so_far : take_all (reverse (take l.left l.params)) l.self ≡ take_all (reverse l.params) l.fn.self;
}

abbrev pub decreases-loop-left : goal.decreases-loop-left
decreases-loop-left l = l.left
