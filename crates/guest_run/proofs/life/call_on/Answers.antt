use Rattle.guest_run.proofs.Runs.{exits}
use Rattle.guest_run.proofs.life.call_on.Goals as goal

pub returns-in-Exit-clause-lives : goal.returns-in-Exit-clause-lives
returns-in-Exit-clause-lives c = λ cs meaning x is calling.
    rw (c.ending.ensures, c.word.ensures) (exits cs meaning c.args.left x c.args.arguments.now c.args.machine.now c.args.tables.now (rw c.in-Exit.is at is) calling)

pub returns-in-Row-clause-lives : goal.returns-in-Row-clause-lives
returns-in-Row-clause-lives c = λ cs meaning x is calling. c.start_row.ensures.lives cs meaning x (rw c.in-Row.is at is) calling
