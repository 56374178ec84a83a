use Rattle.guest_calls.proofs.http.http_row.Goals as goal

pub returns-in-Request : goal.returns-in-Request
returns-in-Request c = rw c.in-Request.is c.request_row.ensures

pub returns-in-RequestHeaders : goal.returns-in-RequestHeaders
returns-in-RequestHeaders c = rw c.in-RequestHeaders.is c.request_headers.ensures

pub returns-in-Response : goal.returns-in-Response
returns-in-Response c = rw c.in-Response.is c.response_row.ensures

pub returns-in-ResponseHeaders : goal.returns-in-ResponseHeaders
returns-in-ResponseHeaders c = rw c.in-ResponseHeaders.is c.response_headers.ensures

pub returns-in-Body : goal.returns-in-Body
returns-in-Body c = rw c.in-Body.is c.body_row.ensures
