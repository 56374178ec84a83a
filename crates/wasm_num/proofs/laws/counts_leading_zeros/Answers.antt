use Rattle.wasm_num.specs.Numbers.{size}
use Rattle.wasm_num.proofs.Counts.{leading_at}
use Rattle.wasm_num.proofs.laws.counts_leading_zeros.Goals as goal
use lib.Count.{leading_of_zero}

pub returns-clause-none : goal.returns-clause-none
returns-clause-none c w = leading_of_zero (size w)

pub returns-clause-above : goal.returns-clause-above
returns-clause-above c w = leading_at (size w)
