use Rattle.wasm_num.specs.Numbers.{size}
use Rattle.wasm_num.proofs.Counts.{trailing_at}
use Rattle.wasm_num.proofs.laws.counts_trailing_zeros.Goals as goal
use lib.Count.{trailing_of_zero}

pub returns-clause-none : goal.returns-clause-none
returns-clause-none c w = trailing_of_zero (size w)

pub returns-clause-below : goal.returns-clause-below
returns-clause-below c w = trailing_at (size w)
