use Rattle.std.specs.Prelude.{ℕ, Option, None, Some, refl}
use Rattle.cache_types.specs.declared.replies.Hit.{Hit}
use Rattle.wasm_memory.specs.Linear.{Linear}
use Rattle.edge_abi.specs.declared.status.Status.TheVariants as status
use Rattle.edge_abi.specs.Buffers.{buffered, octets_put}
use Rattle.edge_abi.specs.Memory.{number_put}
use Rattle.edge_abi.specs.Refusals.{handled}
use Rattle.edge_abi.specs.Told.{done, plain}
use Rattle.edge_abi.specs.Quiet.{RowIsQuiet}
use Rattle.edge_abi.proofs.Quiet.{judged-quiet, judged-quiet_but, plainly-quiet_but}
use Rattle.cache_calls.specs.Wanted.{Wanted}
use Rattle.cache_calls.specs.Tables.{HttpAndCache, without_busy}
use Rattle.cache_calls.specs.declared.kinds.CacheKind.TheVariants as kind
use Rattle.cache_calls.specs.declared.under_way.Asking.{Asking}
use Rattle.cache_calls.specs.Asks.{lookup_asked, busy_asked, wait_asked, insert_asked, tx_insert_asked, stream_back_asked, update_asked, cancel_asked, close_asked, purge_asked, state_asked, hit_asked, length_asked, metadata_asked}
use Rattle.cache_calls.specs.Rows.{put_off, closing, body_asked, body_given}
use Rattle.cache_calls.proofs.Calls.{asking-quiet, calling-quiet}
use Rattle.cache_calls.proofs.laws.refused_cache_rows_change_nothing.Goals as goal

pub returns-clause-lookup : goal.returns-clause-lookup
returns-clause-lookup c = λ t m p n mask q o. calling-quiet t m (lookup_asked kind.Lookup t m p n mask q o)

pub returns-clause-transaction_lookup : goal.returns-clause-transaction_lookup
returns-clause-transaction_lookup c = λ t m p n mask q o. calling-quiet t m (lookup_asked kind.Transaction t m p n mask q o)

pub returns-clause-transaction_lookup_async : goal.returns-clause-transaction_lookup_async
returns-clause-transaction_lookup_async c = λ t m p n mask q o. judged-quiet t m (busy_asked t m p n mask q o) (put_off t m o) (λ x replies bad. absurd (bad refl))

pub returns-clause-busy_handle_wait : goal.returns-clause-busy_handle_wait
returns-clause-busy_handle_wait c = λ t m h o. calling-quiet t m (wait_asked t.cache m h o)

pub returns-clause-close_busy : goal.returns-clause-close_busy
returns-clause-close_busy c = λ t m h. judged-quiet t m (handled t.cache.busy h) (λ (w : Wanted). done status.Ok (without_busy t h) m) (λ x replies bad. absurd (bad refl))

pub returns-clause-insert : goal.returns-clause-insert
returns-clause-insert c = λ t m p n mask q o. calling-quiet t m (insert_asked t.http m p n mask q o)

pub returns-clause-transaction_insert : goal.returns-clause-transaction_insert
returns-clause-transaction_insert c = λ t m h mask q o. calling-quiet t m (tx_insert_asked t m h mask q o)

pub returns-clause-stream_back : goal.returns-clause-stream_back
returns-clause-stream_back c = λ t m h mask q o back. calling-quiet t m (stream_back_asked t m h mask q o back)

pub returns-clause-transaction_update : goal.returns-clause-transaction_update
returns-clause-transaction_update c = λ t m h mask q. calling-quiet t m (update_asked t m h mask q)

pub returns-clause-transaction_cancel : goal.returns-clause-transaction_cancel
returns-clause-transaction_cancel c = λ t m h. calling-quiet t m (cancel_asked t.cache h)

closing-quiet : (t : HttpAndCache) (m : Linear) (h : ℕ) (asked : Option Asking) → RowIsQuiet t m (closing t m h asked)
closing-quiet t m h None = λ replies bad. absurd (bad refl)
closing-quiet t m h (Some asked) = asking-quiet t m asked

pub returns-clause-close : goal.returns-clause-close
returns-clause-close c = λ t m h. judged-quiet t m (close_asked t.cache h) (closing t m h) (closing-quiet t m h)

pub returns-clause-get_state : goal.returns-clause-get_state
returns-clause-get_state c = λ t m h o. judged-quiet t m (state_asked t.cache m h o) (λ bits. done status.Ok t (number_put m o 4 bits)) (λ x replies bad. absurd (bad refl))

pub returns-clause-get_user_metadata : goal.returns-clause-get_user_metadata
returns-clause-get_user_metadata c = λ t m h b room count. judged-quiet_but t m (metadata_asked t.cache m h b room count) (λ (hit : Hit). plain t (buffered m b room count hit.metadata)) (λ (hit : Hit). plainly-quiet_but t m count (octets_put m b room count hit.metadata))

pub returns-clause-get_length : goal.returns-clause-get_length
returns-clause-get_length c = λ t m h o. judged-quiet t m (length_asked t.cache m h o) (λ length. done status.Ok t (number_put m o 8 length)) (λ x replies bad. absurd (bad refl))

pub returns-clause-get_max_age : goal.returns-clause-get_max_age
returns-clause-get_max_age c = λ t m h o. judged-quiet t m (hit_asked t.cache m h o) (λ (hit : Hit). done status.Ok t (number_put m o 8 hit.max_age)) (λ x replies bad. absurd (bad refl))

pub returns-clause-get_stale : goal.returns-clause-get_stale
returns-clause-get_stale c = λ t m h o. judged-quiet t m (hit_asked t.cache m h o) (λ (hit : Hit). done status.Ok t (number_put m o 8 hit.stale)) (λ x replies bad. absurd (bad refl))

pub returns-clause-get_age : goal.returns-clause-get_age
returns-clause-get_age c = λ t m h o. judged-quiet t m (hit_asked t.cache m h o) (λ (hit : Hit). done status.Ok t (number_put m o 8 hit.age)) (λ x replies bad. absurd (bad refl))

pub returns-clause-get_body : goal.returns-clause-get_body
returns-clause-get_body c = λ t m h mask o. judged-quiet t m (body_asked t m h mask o) (body_given t m o) (λ x replies bad. absurd (bad refl))

pub returns-clause-purge : goal.returns-clause-purge
returns-clause-purge c = λ t m p n mask. calling-quiet t m (purge_asked m p n mask)
