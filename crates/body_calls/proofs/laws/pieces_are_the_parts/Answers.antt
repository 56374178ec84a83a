use Rattle.body_calls.proofs.RowPieces.{moves_write, append_writes}
use Rattle.body_calls.proofs.laws.pieces_are_the_parts.Goals as goal

pub returns-clause-parts : goal.returns-clause-parts
returns-clause-parts c = λ content t m to then parts trace. moves_write content t m to then parts trace

pub returns-clause-append : goal.returns-clause-append
returns-clause-append c = λ content t m h second state to trace is target. append_writes content t m h second state to is target trace
