use Rattle.guest_calls.proofs.http.request_row.Goals as goal

pub returns-in-New : goal.returns-in-New
returns-in-New c = rw c.in-New.is c.http_req_new.ensures

pub returns-in-Close : goal.returns-in-Close
returns-in-Close c = rw c.in-Close.is c.http_req_close.ensures.row

pub returns-in-VersionGet : goal.returns-in-VersionGet
returns-in-VersionGet c = rw c.in-VersionGet.is c.http_req_version_get.ensures.row

pub returns-in-VersionSet : goal.returns-in-VersionSet
returns-in-VersionSet c = rw c.in-VersionSet.is c.http_req_version_set.ensures.row

pub returns-in-BodyDownstreamGet : goal.returns-in-BodyDownstreamGet
returns-in-BodyDownstreamGet c = rw c.in-BodyDownstreamGet.is c.http_req_body_downstream_get.ensures

pub returns-in-MethodGet : goal.returns-in-MethodGet
returns-in-MethodGet c = rw c.in-MethodGet.is c.http_req_method_get.ensures.row

pub returns-in-MethodSet : goal.returns-in-MethodSet
returns-in-MethodSet c = rw c.in-MethodSet.is c.http_req_method_set.ensures.row

pub returns-in-UriGet : goal.returns-in-UriGet
returns-in-UriGet c = rw c.in-UriGet.is c.http_req_uri_get.ensures.row

pub returns-in-UriSet : goal.returns-in-UriSet
returns-in-UriSet c = rw c.in-UriSet.is c.http_req_uri_set.ensures.row
