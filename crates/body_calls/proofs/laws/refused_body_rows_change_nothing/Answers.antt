use Rattle.std.specs.Prelude.{◌+◌, [], length, refl}
use Rattle.edge_abi.specs.declared.status.Status.TheVariants as status
use Rattle.edge_abi.specs.Memory.{number_put}
use Rattle.edge_abi.specs.Refusals.{handled}
use Rattle.edge_abi.specs.Told.{done}
use Rattle.edge_abi.proofs.Quiet.{judged-quiet}
use Rattle.edge_http_calls.specs.declared.tables.BodyState.TheVariants as body
use Rattle.edge_http_calls.specs.Requests.{newly}
use Rattle.edge_http_calls.specs.Tables.{with_body}
use Rattle.edge_http_calls.specs.Bodies.{appendable, appends, readable, reads, writable, writes, abandoning, length_asked}
use Rattle.body_calls.proofs.QuietBodies.{appends_calm, reads_calm, writes_calm, abandoning_calm}
use Rattle.body_calls.proofs.laws.refused_body_rows_change_nothing.Goals as goal

pub returns-clause-new : goal.returns-clause-new
returns-clause-new c = λ t m o. judged-quiet t m (newly t.bodies m o) (λ _. done status.Ok (with_body t (body.Held [])) (number_put m o 4 (length t.bodies + 1))) (λ x replies bad. absurd (bad refl))

pub returns-clause-append : goal.returns-clause-append
returns-clause-append c = λ t m h second. judged-quiet t m (appendable t h second) (appends t m h second) (appends_calm t m h second)

pub returns-clause-read : goal.returns-clause-read
returns-clause-read c = λ t m h b n o. judged-quiet t m (readable t m h b n o) (reads t m h b n o) (reads_calm t m h b n o)

pub returns-clause-write : goal.returns-clause-write
returns-clause-write c = λ t m h p n end o. judged-quiet t m (writable t m h p n end o) (writes t m h p n end o) (writes_calm t m h p n end o)

pub returns-clause-abandon : goal.returns-clause-abandon
returns-clause-abandon c = λ t m h. judged-quiet t m (handled t.bodies h) (abandoning t m h) (abandoning_calm t m h)

pub returns-clause-known_length : goal.returns-clause-known_length
returns-clause-known_length c = λ t m h o. judged-quiet t m (length_asked t m h o) (λ length. done status.Ok t (number_put m o 8 length)) (λ x replies bad. absurd (bad refl))
