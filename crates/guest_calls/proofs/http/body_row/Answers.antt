use Rattle.guest_calls.proofs.http.body_row.Goals as goal

pub returns-in-New : goal.returns-in-New
returns-in-New c = rw c.in-New.is c.http_body_new.ensures

pub returns-in-KnownLength : goal.returns-in-KnownLength
returns-in-KnownLength c = rw c.in-KnownLength.is c.http_body_known_length.ensures.row
