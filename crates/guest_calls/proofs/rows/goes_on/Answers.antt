use Rattle.guest_calls.proofs.rows.goes_on.Goals as goal

pub returns-in-Parts-clause-row : goal.returns-in-Parts-clause-row
returns-in-Parts-clause-row c = rw c.in-Parts.is c.parts_heard.ensures.row

pub returns-in-Store-clause-row : goal.returns-in-Store-clause-row
returns-in-Store-clause-row c = rw c.in-Store.is c.store_heard.ensures.row

pub returns-in-Cache-clause-row : goal.returns-in-Cache-clause-row
returns-in-Cache-clause-row c = rw c.in-Cache.is c.cache_heard.ensures.row
