use Rattle.std.proofs.Common.{arith}
use Rattle.std.proofs.lemmas.Nat.{ones_le_self}
use Rattle.wasm_num.proofs.Counts.{ones_twice, ones_after}
use Rattle.wasm_num.proofs.laws.counts_ones.Goals as goal

pub returns-clause-none : goal.returns-clause-none
returns-clause-none c w = omega (arith, ones_le_self 0)

pub returns-clause-zero : goal.returns-clause-zero
returns-clause-zero c w = ones_twice

pub returns-clause-one : goal.returns-clause-one
returns-clause-one c w = ones_after
