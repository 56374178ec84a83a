use Rattle.std.specs.Prelude.{◌+◌, nat_le, [], ◌∷◌, ◌++◌, length, Some, refl}
use Rattle.edge_abi.specs.Buffers.{buffered, octets_put}
use Rattle.edge_abi.specs.Memory.{number_put}
use Rattle.edge_abi.specs.Refusals.{and_then, handled, unless}
use Rattle.edge_abi.specs.Tables.{taken}
use Rattle.edge_abi.specs.Told.{done, plain}
use Rattle.edge_body.specs.Heads.{Request, Response, is_status}
use Rattle.edge_http_calls.specs.Requests.{downstream_asked, given_downstream, new_request, newly, text_asked, with_buffer, with_place}
use Rattle.edge_http_calls.specs.Responses.{new_response}
use Rattle.edge_http_calls.specs.Tables.{with_request, with_response}
use Rattle.edge_http_calls.specs.Texts.{is_request_uri, is_token}
use Rattle.edge_abi.specs.declared.status.Status.TheVariants as status
use Rattle.edge_abi.proofs.Quiet.{judged-quiet, judged-quiet_but, plainly-quiet_but}
use Rattle.edge_http_calls.proofs.laws.refused_rows_change_nothing.Goals as goal

pub returns-clause-req_new : goal.returns-clause-req_new
returns-clause-req_new c = λ t m o. judged-quiet t m (newly t.requests m o) (λ _. done status.Ok (record t { requests = t.requests ++ Some new_request ∷ [] }) (number_put m o 4 (length t.requests + 1))) (λ x replies bad. absurd (bad refl))

pub returns-clause-req_close : goal.returns-clause-req_close
returns-clause-req_close c = λ t m h. judged-quiet t m (handled t.requests h) (λ _. done status.Ok (record t { requests = taken t.requests h }) m) (λ x replies bad. absurd (bad refl))

pub returns-clause-req_version_get : goal.returns-clause-req_version_get
returns-clause-req_version_get c = λ t m h o. judged-quiet t m (with_place t.requests m h o 4) (λ (r : Request). done status.Ok t (number_put m o 4 r.version)) (λ x replies bad. absurd (bad refl))

pub returns-clause-req_version_set : goal.returns-clause-req_version_set
returns-clause-req_version_set c = λ t m h version. judged-quiet t m (and_then (handled t.requests h) (λ _. unless (nat_le version 4) status.Inval)) (λ _. done status.Ok (with_request t h (λ (r : Request). record r { version = version })) m) (λ x replies bad. absurd (bad refl))

pub returns-clause-req_method_set : goal.returns-clause-req_method_set
returns-clause-req_method_set c = λ t m h p n. judged-quiet t m (text_asked is_token t.requests m h p n) (λ text. done status.Ok (with_request t h (λ (r : Request). record r { method = text })) m) (λ x replies bad. absurd (bad refl))

pub returns-clause-req_uri_set : goal.returns-clause-req_uri_set
returns-clause-req_uri_set c = λ t m h p n. judged-quiet t m (text_asked is_request_uri t.requests m h p n) (λ text. done status.Ok (with_request t h (λ (r : Request). record r { uri = text })) m) (λ x replies bad. absurd (bad refl))

pub returns-clause-req_downstream : goal.returns-clause-req_downstream
returns-clause-req_downstream c = λ t m o p. judged-quiet t m (downstream_asked t m o p) (λ _. done status.Ok (given_downstream t) (number_put (number_put m o 4 (length t.requests + 1)) p 4 (length t.bodies + 1))) (λ x replies bad. absurd (bad refl))

pub returns-clause-resp_new : goal.returns-clause-resp_new
returns-clause-resp_new c = λ t m o. judged-quiet t m (newly t.responses m o) (λ _. done status.Ok (record t { responses = t.responses ++ Some new_response ∷ [] }) (number_put m o 4 (length t.responses + 1))) (λ x replies bad. absurd (bad refl))

pub returns-clause-resp_close : goal.returns-clause-resp_close
returns-clause-resp_close c = λ t m h. judged-quiet t m (handled t.responses h) (λ _. done status.Ok (record t { responses = taken t.responses h }) m) (λ x replies bad. absurd (bad refl))

pub returns-clause-resp_version_get : goal.returns-clause-resp_version_get
returns-clause-resp_version_get c = λ t m h o. judged-quiet t m (with_place t.responses m h o 4) (λ (r : Response). done status.Ok t (number_put m o 4 r.version)) (λ x replies bad. absurd (bad refl))

pub returns-clause-resp_version_set : goal.returns-clause-resp_version_set
returns-clause-resp_version_set c = λ t m h version. judged-quiet t m (and_then (handled t.responses h) (λ _. unless (nat_le version 4) status.Inval)) (λ _. done status.Ok (with_response t h (λ (r : Response). record r { version = version })) m) (λ x replies bad. absurd (bad refl))

pub returns-clause-resp_status_get : goal.returns-clause-resp_status_get
returns-clause-resp_status_get c = λ t m h o. judged-quiet t m (with_place t.responses m h o 2) (λ (r : Response). done status.Ok t (number_put m o 2 r.status)) (λ x replies bad. absurd (bad refl))

pub returns-clause-resp_status_set : goal.returns-clause-resp_status_set
returns-clause-resp_status_set c = λ t m h number. judged-quiet t m (and_then (handled t.responses h) (λ _. unless (is_status number) status.Httpinvalidstatus)) (λ _. done status.Ok (with_response t h (λ (r : Response). record r { status = number })) m) (λ x replies bad. absurd (bad refl))

pub returns-clause-req_method_get : goal.returns-clause-req_method_get
returns-clause-req_method_get c = λ t m h b room count. judged-quiet_but t m (with_buffer t.requests m h b room count) (λ (r : Request). plain t (buffered m b room count r.method)) (λ (r : Request). plainly-quiet_but t m count (octets_put m b room count r.method))

pub returns-clause-req_uri_get : goal.returns-clause-req_uri_get
returns-clause-req_uri_get c = λ t m h b room count. judged-quiet_but t m (with_buffer t.requests m h b room count) (λ (r : Request). plain t (buffered m b room count r.uri)) (λ (r : Request). plainly-quiet_but t m count (octets_put m b room count r.uri))
