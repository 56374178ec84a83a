-- Rows whose one outer call is a cache's.
use Rattle.std.proofs.Common.{refl}
use Rattle.cache_types.specs.declared.outer.OuterReply.{OuterReply}
use Rattle.cache_types.specs.declared.outer.OuterCall.TheVariants as call
use Rattle.std.specs.Prelude.{Result}
use Rattle.wasm_memory.specs.Linear.{Linear}
use Rattle.edge_abi.specs.declared.status.Refusal.{Refusal}
use Rattle.edge_abi.specs.declared.status.Status.TheVariants as status
use Rattle.edge_abi.specs.Told.{done}
use Rattle.edge_abi.specs.Quiet.{RowIsQuiet}
use Rattle.edge_abi.proofs.Quiet.{judged-quiet, ask-quiet}
use Rattle.cache_calls.specs.declared.kinds.CacheKind.TheVariants as kind
use Rattle.cache_calls.specs.declared.under_way.Asking.{Asking}
use Rattle.cache_calls.specs.declared.under_way.UnderWay.{UnderWay}
use Rattle.cache_calls.specs.declared.under_way.UnderWay.TheVariants.{Looking, Waiting, Inserting, StreamingBack, Telling, Closing}
use Rattle.cache_calls.specs.Tables.{HttpAndCache, without_busy, without_handle}
use Rattle.cache_calls.specs.Replies.{looked_in, made_in, done_in, opened, filling, streaming, resumed}
use Rattle.cache_calls.specs.Rows.{asking, calling}

-- what a reply becomes changes nothing where it isn't ok
pub resumed-quiet : (under : UnderWay) (t : HttpAndCache) (m : Linear) (reply : OuterReply) → RowIsQuiet t m (resumed under t m reply)
resumed-quiet (Looking kind o) t m reply = judged-quiet t m (looked_in reply) (opened t m kind o) (λ x replies bad. absurd (bad refl))
resumed-quiet (Waiting busy o) t m reply = judged-quiet t m (looked_in reply) (opened (without_busy t busy) m kind.Transaction o) (λ x replies bad. absurd (bad refl))
resumed-quiet (Inserting o) t m reply = judged-quiet t m (made_in reply) (filling t m o) (λ x replies bad. absurd (bad refl))
resumed-quiet (StreamingBack o back terms declared) t m reply = judged-quiet t m (made_in reply) (streaming t m o back terms declared) (λ x replies bad. absurd (bad refl))
resumed-quiet Telling t m reply = judged-quiet t m (done_in reply) (λ _. done status.Ok t m) (λ x replies bad. absurd (bad refl))
resumed-quiet (Closing h) t m reply = judged-quiet t m (done_in reply) (λ _. done status.Ok (without_handle t h) m) (λ x replies bad. absurd (bad refl))

pub asking-quiet : (t : HttpAndCache) (m : Linear) (a : Asking) → RowIsQuiet t m (asking t m a)
asking-quiet t m a = ask-quiet t m (call.Cache a.call) (resumed a.under t m) (resumed-quiet a.under t m)

pub calling-quiet : (t : HttpAndCache) (m : Linear) (asked : Result Asking Refusal) → RowIsQuiet t m (calling t m asked)
calling-quiet t m asked = judged-quiet t m asked (asking t m) (asking-quiet t m)
