use Rattle.std.specs.Prelude.{ℕ, List, refl}
use Rattle.cache_types.specs.declared.calls.Field.{Field}
use Rattle.edge_abi.specs.declared.status.Status.TheVariants as status
use Rattle.edge_abi.specs.Buffers.{octets_put, list_put, buffered, listed}
use Rattle.edge_abi.specs.Told.{plain, done}
use Rattle.edge_abi.proofs.Quiet.{judged-quiet, judged-quiet_but, plainly-quiet_but}
use Rattle.edge_http_calls.specs.Headers.{names_asked, value_asked, values_asked, values_given, value_given, value_added, name_removed}
use Rattle.edge_http_calls.proofs.laws.refused_header_rows_change_nothing.Goals as goal

pub returns-clause-names : goal.returns-clause-names
returns-clause-names c = λ t m fields b room cursor ending count. judged-quiet_but t m (names_asked fields m b room ending count) (λ names. plain t (listed m b room cursor ending count names)) (λ (names : List (List ℕ)). plainly-quiet_but t m count (list_put m b room cursor ending count names))

pub returns-clause-value : goal.returns-clause-value
returns-clause-value c = λ t m fields p n b room count. judged-quiet_but t m (value_asked fields m p n b room count) (λ value. plain t (buffered m b room count value)) (λ (value : List ℕ). plainly-quiet_but t m count (octets_put m b room count value))

pub returns-clause-values : goal.returns-clause-values
returns-clause-values c = λ t m fields p n b room cursor ending count. judged-quiet_but t m (values_asked fields m p n b room ending count) (λ values. plain t (listed m b room cursor ending count values)) (λ (values : List (List ℕ)). plainly-quiet_but t m count (list_put m b room cursor ending count values))

pub returns-clause-values_set : goal.returns-clause-values_set
returns-clause-values_set c = λ t m given fields p n q len. judged-quiet t m (values_given fields m p n q len) (λ (changed : List Field). done status.Ok (given changed) m) (λ x replies bad. absurd (bad refl))

pub returns-clause-insert : goal.returns-clause-insert
returns-clause-insert c = λ t m given fields p n q len. judged-quiet t m (value_given fields m p n q len) (λ (changed : List Field). done status.Ok (given changed) m) (λ x replies bad. absurd (bad refl))

pub returns-clause-append : goal.returns-clause-append
returns-clause-append c = λ t m given fields p n q len. judged-quiet t m (value_added fields m p n q len) (λ (changed : List Field). done status.Ok (given changed) m) (λ x replies bad. absurd (bad refl))

pub returns-clause-remove : goal.returns-clause-remove
returns-clause-remove c = λ t m given fields p n. judged-quiet t m (name_removed fields m p n) (λ (changed : List Field). done status.Ok (given changed) m) (λ x replies bad. absurd (bad refl))
