-- What the reply to a row's one call on the cache becomes: a handle or a body, and a status.
use Rattle.std.specs.Prelude.{ℕ, ◌+◌, false, length, Option, Some, Result, Ok, Err}
use Rattle.cache_types.specs.Found.{bits_for}
use Rattle.cache_types.specs.declared.calls.Terms.{Terms}
use Rattle.cache_types.specs.declared.outer.OuterReply.{OuterReply}
use Rattle.cache_types.specs.declared.outer.OuterReply.TheVariants as reply
use Rattle.cache_types.specs.declared.replies.Hit.{Hit}
use Rattle.cache_types.specs.declared.replies.Reply.{Reply}
use Rattle.cache_types.specs.declared.replies.Reply.TheVariants as said
use Rattle.wasm_memory.specs.Linear.{Linear}
use Rattle.edge_abi.specs.declared.status.Status.TheVariants as status
use Rattle.edge_abi.specs.declared.status.Refusal.{Refusal}
use Rattle.edge_abi.specs.declared.status.Refusal.TheVariants.{Told}
use Rattle.edge_abi.specs.Memory.{number_put}
use Rattle.edge_abi.specs.Told.{Row, judged, done}
use Rattle.edge_http_calls.specs.declared.tables.BodyState.TheVariants as body
use Rattle.cache_calls.specs.Tables.{HttpAndCache, with_handle, without_handle, without_busy, with_new_body}
use Rattle.cache_calls.specs.declared.kinds.CacheKind.{CacheKind}
use Rattle.cache_calls.specs.declared.kinds.CacheKind.TheVariants as kind
use Rattle.cache_calls.specs.declared.tables.CacheHandle.{CacheHandle}
use Rattle.cache_calls.specs.declared.under_way.UnderWay.{UnderWay}
use Rattle.cache_calls.specs.declared.under_way.UnderWay.TheVariants.{Looking, Waiting, Inserting, StreamingBack, Telling, Closing}
use Rattle.cache_calls.specs.declared.replies.Looked.{Looked}

-- ---- what the cache said: with Refused a call is inval, and what it is never answered is an error

abbrev pub looked_by : ℕ → Reply → Result Looked Refusal
looked_by number (said.Got bits hit) = Ok (record { number = number; bits = bits; hit = hit })
looked_by number said.Refused = Err (Told status.Inval)
looked_by number _ = Err (Told status.Error)

-- the entry of a lookup, and what it found
abbrev pub looked_in : OuterReply → Result Looked Refusal
looked_in (reply.Cache stepped) = looked_by stepped.number stepped.reply
looked_in _ = Err (Told status.Error)

abbrev pub made_by : ℕ → Reply → Result ℕ Refusal
made_by number said.Made = Ok number
made_by number said.Refused = Err (Told status.Inval)
made_by number _ = Err (Told status.Error)

-- the entry of an insertion, which names its object
abbrev pub made_in : OuterReply → Result ℕ Refusal
made_in (reply.Cache stepped) = made_by stepped.number stepped.reply
made_in _ = Err (Told status.Error)

abbrev pub done_by : Reply → Result (Unit {0}) Refusal
done_by said.Done = Ok tt
done_by said.Refused = Err (Told status.Inval)
done_by _ = Err (Told status.Error)

abbrev pub done_in : OuterReply → Result (Unit {0}) Refusal
done_in (reply.Cache stepped) = done_by stepped.reply
done_in _ = Err (Told status.Error)

-- ---- what comes of it

-- a handle on what a lookup found
abbrev pub handle_of : CacheKind → Looked → CacheHandle
handle_of kind looked = record { name = looked.number; kind = kind; bits = looked.bits; hit = looked.hit }

-- its number is told
abbrev pub opened : HttpAndCache → Linear → CacheKind → ℕ → Looked → Row HttpAndCache
opened t m kind o looked = done status.Ok (with_handle t (handle_of kind looked)) (number_put m o 4 (length t.cache.handles + 1))

-- a body that fills the object; its number is told
abbrev pub filling : HttpAndCache → Linear → ℕ → ℕ → Row HttpAndCache
filling t m o object = done status.Ok (with_new_body t (body.Filling object)) (number_put m o 4 (length t.http.bodies + 1))

-- a new object as if a lookup had found it: as old as it was from the start, as long as was declared
abbrev pub new_hit : ℕ → Terms → Option ℕ → Hit
new_hit object terms length = record {
  object = object;
  age = terms.initial_age;
  max_age = terms.max_age;
  stale = terms.stale;
  length = length;
  metadata = terms.metadata;
}

abbrev pub streamed_back : ℕ → Terms → Option ℕ → CacheHandle
streamed_back object terms length =
    record { name = object; kind = kind.Streamed; bits = bits_for terms terms.initial_age false; hit = Some (new_hit object terms length) }

-- the body, and a handle on the object
abbrev pub streaming : HttpAndCache → Linear → ℕ → ℕ → Terms → Option ℕ → ℕ → Row HttpAndCache
streaming t m o back terms declared object =
    done status.Ok (with_handle (with_new_body t (body.Filling object)) (streamed_back object terms declared))
    (number_put (number_put m o 4 (length t.http.bodies + 1)) back 4 (length t.cache.handles + 1))

-- how each row goes on with the reply to its call
abbrev pub resumed : UnderWay → HttpAndCache → Linear → OuterReply → Row HttpAndCache
resumed (Looking kind o) t m reply = judged t m (looked_in reply) (opened t m kind o)
resumed (Waiting busy o) t m reply = judged t m (looked_in reply) (opened (without_busy t busy) m kind.Transaction o)
resumed (Inserting o) t m reply = judged t m (made_in reply) (filling t m o)
resumed (StreamingBack o back terms declared) t m reply = judged t m (made_in reply) (streaming t m o back terms declared)
resumed Telling t m reply = judged t m (done_in reply) (λ _. done status.Ok t m)
resumed (Closing h) t m reply = judged t m (done_in reply) (λ _. done status.Ok (without_handle t h) m)
