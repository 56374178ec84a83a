use Rattle.guest_calls.proofs.rows.row.Goals as goal

pub returns-in-Http-clause-row : goal.returns-in-Http-clause-row
returns-in-Http-clause-row c = rw c.in-Http.is (rw c.words_of-words.ensures at c.http_step.ensures.row)

pub returns-in-Parts-clause-row : goal.returns-in-Parts-clause-row
returns-in-Parts-clause-row c = rw c.in-Parts.is (rw c.words_of-words.ensures at c.parts_step.ensures.row)

pub returns-in-Store-clause-row : goal.returns-in-Store-clause-row
returns-in-Store-clause-row c = rw c.in-Store.is (rw (c.long-version.ensures, c.words_of-words.ensures) at c.store_step.ensures.row)

pub returns-in-Wasi-clause-row : goal.returns-in-Wasi-clause-row
returns-in-Wasi-clause-row c = rw c.in-Wasi.is (rw c.words_of-words.ensures at c.wasi_step.ensures.row)

pub returns-in-Outside-clause-row : goal.returns-in-Outside-clause-row
returns-in-Outside-clause-row c = rw c.in-Outside.is (rw c.words_of-words.ensures at c.outside_step.ensures.row)

pub returns-in-Handle-clause-row : goal.returns-in-Handle-clause-row
returns-in-Handle-clause-row c = rw c.in-Handle.is (rw c.words_of-words.ensures at c.handle_step.ensures.row)

pub returns-in-Asking-clause-row : goal.returns-in-Asking-clause-row
returns-in-Asking-clause-row c = rw c.in-Asking.is (rw c.words_of-words.ensures at c.asking_step.ensures.row)
