use Rattle.std.proofs.Common.{◌≡◌, ◌+◌, ◌-◌, ◌^◌, length, min, take}
use Rattle.std.specs.List.{sum_by}
use Rattle.call_lines.proofs.limits.spaced_len.Given as goal

abbrev pub invariant-loop-key : goal.invariant-loop-key
invariant-loop-key l = l.total ≡ min (sum_by (λ key. length key + 1) (take l.key-index l.keys)) (2 ^ 64 - 1)
