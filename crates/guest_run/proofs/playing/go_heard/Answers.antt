use Rattle.guest_run.proofs.playing.go_heard.Goals as goal

pub returns-clause-comes_to : goal.returns-clause-comes_to
returns-clause-comes_to c = λ meaning h. (rw c.as_slice.ensures.value at c.hear_in-pause.ensures) meaning h
