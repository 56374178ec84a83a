use Rattle.guest_calls.proofs.http.request_headers.Goals as goal

pub returns-in-NamesGet : goal.returns-in-NamesGet
returns-in-NamesGet c = rw c.in-NamesGet.is c.http_req_header_names_get.ensures.row

pub returns-in-ValueGet : goal.returns-in-ValueGet
returns-in-ValueGet c = rw c.in-ValueGet.is c.http_req_header_value_get.ensures.row

pub returns-in-ValuesGet : goal.returns-in-ValuesGet
returns-in-ValuesGet c = rw c.in-ValuesGet.is c.http_req_header_values_get.ensures.row

pub returns-in-ValuesSet : goal.returns-in-ValuesSet
returns-in-ValuesSet c = rw c.in-ValuesSet.is c.http_req_header_values_set.ensures.row

pub returns-in-Insert : goal.returns-in-Insert
returns-in-Insert c = rw c.in-Insert.is c.http_req_header_insert.ensures.row

pub returns-in-Append : goal.returns-in-Append
returns-in-Append c = rw c.in-Append.is c.http_req_header_append.ensures.row

pub returns-in-Remove : goal.returns-in-Remove
returns-in-Remove c = rw c.in-Remove.is c.http_req_header_remove.ensures.row
