-- The rows of `fastly_cache` and `fastly_purge`.
use Rattle.std.specs.Prelude.{ℕ, ◌+◌, ◌==◌, [], ◌∷◌, length, Option, None, Some, Result, Ok}
use Rattle.cache_types.specs.declared.outer.OuterCall.TheVariants as call
use Rattle.cache_types.specs.declared.replies.Hit.{Hit}
use Rattle.wasm_memory.specs.Linear.{Linear}
use Rattle.edge_abi.specs.declared.status.Status.TheVariants as status
use Rattle.edge_abi.specs.declared.status.Refusal.{Refusal}
use Rattle.edge_abi.specs.Memory.{number_put}
use Rattle.edge_abi.specs.Refusals.{and_then, unless, placed, handled}
use Rattle.edge_abi.specs.Buffers.{buffered}
use Rattle.edge_abi.specs.Told.{Row, ask, judged, plain, done}
use Rattle.edge_body.specs.declared.body.Part.{Part}
use Rattle.edge_body.specs.declared.body.Part.TheVariants.{Rest}
use Rattle.edge_http_calls.specs.declared.tables.BodyState.TheVariants as body
use Rattle.cache_calls.specs.Wanted.{Wanted}
use Rattle.cache_calls.specs.Tables.{HttpAndCache, with_busy, without_busy, without_handle, with_new_body}
use Rattle.cache_calls.specs.Asks.{room_in, lookup_asked, busy_asked, wait_asked, insert_asked, tx_insert_asked, stream_back_asked, update_asked, cancel_asked, close_asked, purge_asked, state_asked, hit_of, hit_asked, length_asked, metadata_asked}
use Rattle.cache_calls.specs.Replies.{resumed}
use Rattle.cache_calls.specs.declared.kinds.CacheKind.TheVariants as kind
use Rattle.cache_calls.specs.declared.tables.CacheHandle.{CacheHandle}
use Rattle.cache_calls.specs.declared.under_way.Asking.{Asking}

-- a call on the cache, and what its reply becomes
abbrev pub asking : HttpAndCache → Linear → Asking → Row HttpAndCache
asking t m a = ask (call.Cache a.call) (resumed a.under t m)

-- a row whose one outer call this is, behind its refusals
abbrev pub calling : HttpAndCache → Linear → Result Asking Refusal → Row HttpAndCache
calling t m asked = judged t m asked (asking t m)

-- ---- lookups

-- lookup(p,n,mask,p,o4)
abbrev pub cache_lookup : HttpAndCache → Linear → ℕ → ℕ → ℕ → ℕ → ℕ → Row HttpAndCache
cache_lookup t m p n mask q o = calling t m (lookup_asked kind.Lookup t m p n mask q o)

-- transaction_lookup(p,n,mask,p,o4): its reply waits where another guest is to insert
abbrev pub cache_transaction_lookup : HttpAndCache → Linear → ℕ → ℕ → ℕ → ℕ → ℕ → Row HttpAndCache
cache_transaction_lookup t m p n mask q o = calling t m (lookup_asked kind.Transaction t m p n mask q o)

-- key and headers are kept; the number of their handle is told
abbrev pub put_off : HttpAndCache → Linear → ℕ → Wanted → Row HttpAndCache
put_off t m o w = done status.Ok (with_busy t w) (number_put m o 4 (length t.cache.busy + 1))

-- transaction_lookup_async(p,n,mask,p,o4): no call yet
abbrev pub cache_transaction_lookup_async : HttpAndCache → Linear → ℕ → ℕ → ℕ → ℕ → ℕ → Row HttpAndCache
cache_transaction_lookup_async t m p n mask q o =
    judged t m (busy_asked t m p n mask q o) (put_off t m o)

-- cache_busy_handle_wait(h,o4): the busy handle is taken where the lookup was made
abbrev pub cache_cache_busy_handle_wait : HttpAndCache → Linear → ℕ → ℕ → Row HttpAndCache
cache_cache_busy_handle_wait t m h o = calling t m (wait_asked t.cache m h o)

-- close_busy(h)
abbrev pub cache_close_busy : HttpAndCache → Linear → ℕ → Row HttpAndCache
cache_close_busy t m h = judged t m (handled t.cache.busy h) (λ (w : Wanted). done status.Ok (without_busy t h) m)

-- ---- insertions

-- insert(p,n,mask,p,o4)
abbrev pub cache_insert : HttpAndCache → Linear → ℕ → ℕ → ℕ → ℕ → ℕ → Row HttpAndCache
cache_insert t m p n mask q o = calling t m (insert_asked t.http m p n mask q o)

-- transaction_insert(h,mask,p,o4): the headers are those of the lookup
abbrev pub cache_transaction_insert : HttpAndCache → Linear → ℕ → ℕ → ℕ → ℕ → Row HttpAndCache
cache_transaction_insert t m h mask q o = calling t m (tx_insert_asked t m h mask q o)

-- transaction_insert_and_stream_back(h,mask,p,o4,o4)
abbrev pub cache_transaction_insert_and_stream_back : HttpAndCache → Linear → ℕ → ℕ → ℕ → ℕ → ℕ → Row HttpAndCache
cache_transaction_insert_and_stream_back t m h mask q o back = calling t m (stream_back_asked t m h mask q o back)

-- ---- what else a transaction does

-- transaction_update(h,mask,p): rule and length stay
abbrev pub cache_transaction_update : HttpAndCache → Linear → ℕ → ℕ → ℕ → Row HttpAndCache
cache_transaction_update t m h mask q = calling t m (update_asked t m h mask q)

-- transaction_cancel(h)
abbrev pub cache_transaction_cancel : HttpAndCache → Linear → ℕ → Row HttpAndCache
cache_transaction_cancel t m h = calling t m (cancel_asked t.cache h)

-- where there is no lookup, nothing is told to the cache
abbrev pub closing : HttpAndCache → Linear → ℕ → Option Asking → Row HttpAndCache
closing t m h None = done status.Ok (without_handle t h) m
closing t m h (Some asked) = asking t m asked

-- close(h): the handle is taken where the lookup was closed
abbrev pub cache_close : HttpAndCache → Linear → ℕ → Row HttpAndCache
cache_close t m h = judged t m (close_asked t.cache h) (closing t m h)

-- ---- what a handle tells

-- get_state(h,o4)
abbrev pub cache_get_state : HttpAndCache → Linear → ℕ → ℕ → Row HttpAndCache
cache_get_state t m h o = judged t m (state_asked t.cache m h o) (λ bits. done status.Ok t (number_put m o 4 bits))

-- get_user_metadata(h,b,n,o4)
abbrev pub cache_get_user_metadata : HttpAndCache → Linear → ℕ → ℕ → ℕ → ℕ → Row HttpAndCache
cache_get_user_metadata t m h b room count =
    judged t m (metadata_asked t.cache m h b room count) (λ (hit : Hit). plain t (buffered m b room count hit.metadata))

-- get_length(h,o8), get_max_age_ns(h,o8), get_stale_while_revalidate_ns(h,o8), get_age_ns(h,o8)
abbrev pub cache_get_length : HttpAndCache → Linear → ℕ → ℕ → Row HttpAndCache
cache_get_length t m h o = judged t m (length_asked t.cache m h o) (λ length. done status.Ok t (number_put m o 8 length))

abbrev pub cache_get_max_age_ns : HttpAndCache → Linear → ℕ → ℕ → Row HttpAndCache
cache_get_max_age_ns t m h o = judged t m (hit_asked t.cache m h o) (λ (hit : Hit). done status.Ok t (number_put m o 8 hit.max_age))

abbrev pub cache_get_stale_while_revalidate_ns : HttpAndCache → Linear → ℕ → ℕ → Row HttpAndCache
cache_get_stale_while_revalidate_ns t m h o = judged t m (hit_asked t.cache m h o) (λ (hit : Hit). done status.Ok t (number_put m o 8 hit.stale))

abbrev pub cache_get_age_ns : HttpAndCache → Linear → ℕ → ℕ → Row HttpAndCache
cache_get_age_ns t m h o = judged t m (hit_asked t.cache m h o) (λ (hit : Hit). done status.Ok t (number_put m o 8 hit.age))

-- the hit from its first byte on
abbrev pub hit_part : CacheHandle → Hit → Part
hit_part handle hit = Rest handle.name 0 hit.length

abbrev pub body_asked : HttpAndCache → Linear → ℕ → ℕ → ℕ → Result Part Refusal
body_asked t m h mask o =
    and_then (handled t.cache.handles h) (λ (handle : CacheHandle).
    and_then (placed m o 4) (λ _.
    and_then (unless (mask == 0) status.Unsupported) (λ _.
    and_then (hit_of handle) (λ (hit : Hit).
    and_then (room_in t.http.bodies) (λ _. Ok (hit_part handle hit))))))

-- a held body of one part; its number is told
abbrev pub body_given : HttpAndCache → Linear → ℕ → Part → Row HttpAndCache
body_given t m o part = done status.Ok (with_new_body t (body.Held (part ∷ []))) (number_put m o 4 (length t.http.bodies + 1))

-- get_body(h,mask,p,o4): the place of its options isn't looked at
abbrev pub cache_get_body : HttpAndCache → Linear → ℕ → ℕ → ℕ → Row HttpAndCache
cache_get_body t m h mask o =
    judged t m (body_asked t m h mask o) (body_given t m o)

-- ---- a purge

-- purge_surrogate_key(p,n,mask,p): the place of its options isn't looked at
abbrev pub purge_purge_surrogate_key : HttpAndCache → Linear → ℕ → ℕ → ℕ → Row HttpAndCache
purge_purge_surrogate_key t m p n mask = calling t m (purge_asked m p n mask)
