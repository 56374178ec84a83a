use Rattle.guest_calls.proofs.http.response_row.Goals as goal

pub returns-in-New : goal.returns-in-New
returns-in-New c = rw c.in-New.is c.http_resp_new.ensures

pub returns-in-Close : goal.returns-in-Close
returns-in-Close c = rw c.in-Close.is c.http_resp_close.ensures.row

pub returns-in-VersionGet : goal.returns-in-VersionGet
returns-in-VersionGet c = rw c.in-VersionGet.is c.http_resp_version_get.ensures.row

pub returns-in-VersionSet : goal.returns-in-VersionSet
returns-in-VersionSet c = rw c.in-VersionSet.is c.http_resp_version_set.ensures.row

pub returns-in-StatusGet : goal.returns-in-StatusGet
returns-in-StatusGet c = rw c.in-StatusGet.is c.http_resp_status_get.ensures.row

pub returns-in-StatusSet : goal.returns-in-StatusSet
returns-in-StatusSet c = rw c.in-StatusSet.is c.http_resp_status_set.ensures.row
