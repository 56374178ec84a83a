use Rattle.guest_calls.proofs.parts.parts_row.Goals as goal

pub returns-in-Append-clause-row : goal.returns-in-Append-clause-row
returns-in-Append-clause-row c = rw c.in-Append.is c.http_body_append.ensures.row

pub returns-in-Read-clause-row : goal.returns-in-Read-clause-row
returns-in-Read-clause-row c = rw c.in-Read.is c.http_body_read.ensures.row

pub returns-in-Write-clause-row : goal.returns-in-Write-clause-row
returns-in-Write-clause-row c = rw c.in-Write.is c.http_body_write.ensures.row

pub returns-in-Close-clause-row : goal.returns-in-Close-clause-row
returns-in-Close-clause-row c = rw c.in-Close.is c.http_body_close.ensures.row

pub returns-in-Abandon-clause-row : goal.returns-in-Abandon-clause-row
returns-in-Abandon-clause-row c = rw c.in-Abandon.is c.http_body_abandon.ensures.row

pub returns-in-SendDownstream-clause-row : goal.returns-in-SendDownstream-clause-row
returns-in-SendDownstream-clause-row c = rw c.in-SendDownstream.is c.http_resp_send_downstream.ensures.row
