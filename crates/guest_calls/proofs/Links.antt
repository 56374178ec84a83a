-- No row on stores and none of the cache asks a link: what a row asks first stands in its definition.
use Rattle.std.proofs.Common.{◌≡◌, ◌∙◌, Bool, false, ℕ, List, [], Option, None, Some, ap, sym, refl}
use Rattle.std.specs.Prelude.{Result, Ok, Err}
use Rattle.cache_types.specs.declared.outer.OuterCall.TheVariants as call
use Rattle.cache_types.specs.declared.outer.OuterReply.{OuterReply}
use Rattle.wasm_memory.specs.Linear.{Linear}
use Rattle.edge_abi.specs.declared.asked.Step.{Step}
use Rattle.edge_abi.specs.declared.asked.Step.TheVariants.{Done, Outer}
use Rattle.edge_abi.specs.declared.status.Refusal.{Refusal}
use Rattle.edge_abi.specs.declared.status.Refusal.TheVariants.{Told as Refused, OutOfMemory}
use Rattle.edge_abi.specs.Told.{Told, Wants, Gives, Row, ask, judged}
use Rattle.edge_abi.specs.Goes.{Goes}
use Rattle.body_calls.specs.Links.{asks_link, IsUnlinked}
use Rattle.edge_stores.specs.Numbers.{allowed}
use Rattle.edge_stores.specs.Logs.{line_asked, logging}
use Rattle.edge_stores.specs.UnderWays.{resumed as store_resumed}
use Rattle.edge_stores.specs.Wasi.{write_asked, writing, clock_asked}
use Rattle.edge_stores.specs.declared.tables.StoreTables.{StoreTables}
use Rattle.edge_stores.specs.declared.under_way.UnderWay.TheVariants.{Timing}
use Rattle.cache_calls.specs.Tables.{HttpAndCache}
use Rattle.cache_calls.specs.Asks.{lookup_asked, wait_asked, insert_asked, tx_insert_asked, stream_back_asked, update_asked, cancel_asked, close_asked, purge_asked}
use Rattle.cache_calls.specs.Rows.{asking as asking_it, closing}
use Rattle.cache_calls.specs.declared.kinds.CacheKind.TheVariants as kind
use Rattle.cache_calls.specs.declared.under_way.Asking.{Asking}
use Rattle.guest_calls.specs.declared.call.OutsideCall.{OutsideCall}
use Rattle.guest_calls.specs.declared.call.OutsideCall.TheVariants as outside
use Rattle.guest_calls.specs.declared.call.AskingCall.{AskingCall}
use Rattle.guest_calls.specs.declared.call.AskingCall.TheVariants as asking
use Rattle.guest_calls.specs.declared.words.Words.{Words}
use Rattle.guest_calls.specs.Rows.{outside_row, asking_row}

-- what is asked next is a link's
abbrev pub wants_link : {A : Type 0} → Told A → Bool
wants_link (Wants call) = asks_link call
wants_link (Gives a replies) = false

-- so a step of such a row asks none
pub unlinked : {T U : Type 0} (goes_on : U → T → Linear → OuterReply → Row T) (row : Row T) (x : T) (m : Linear) (step : Step U) → wants_link (row []) ≡ false → Goes goes_on row step x m → IsUnlinked step
unlinked goes_on row x m (Done number) none goes = tt
unlinked goes_on row x m (Outer call under) none goes = sym (ap wants_link goes.1) ∙ none

judged_none : {T X : Type 0} (t : T) (m : Linear) (asked : Result X Refusal) (next : X → Row T) → ((x : X) → wants_link (next x []) ≡ false) → wants_link (judged t m asked next []) ≡ false
judged_none t m (Err (Refused said)) next none = refl
judged_none t m (Err OutOfMemory) next none = refl
judged_none t m (Ok x) next none = none x

allowed_none : {T X : Type 0} (t : T) (m : Linear) (asked : Result X Refusal) (next : X → Row T) → ((x : X) → wants_link (next x []) ≡ false) → wants_link (allowed t m asked next []) ≡ false
allowed_none t m (Err (Refused said)) next none = refl
allowed_none t m (Err OutOfMemory) next none = refl
allowed_none t m (Ok x) next none = none x

pub outside_none : (call : OutsideCall) (w : Words) (t : StoreTables) (m : Linear) → wants_link (outside_row call w t m []) ≡ false
outside_none outside.LogWrite w t m = judged_none t m (line_asked t m w.a w.b w.c w.d) (logging t m w.b w.c w.d) (λ x. refl)
outside_none outside.FdWrite w t m = allowed_none t m (write_asked m w.a w.b w.c w.d) (writing t m w.d) (λ x. refl)
outside_none outside.ClockTimeGet w t m = allowed_none t m (clock_asked m w.a w.c) (λ _. ask (call.Now w.a) (store_resumed (Timing w.c) t m)) (λ x. refl)

closing_none : (t : HttpAndCache) (m : Linear) (h : ℕ) (asked : Option Asking) → wants_link (closing t m h asked []) ≡ false
closing_none t m h None = refl
closing_none t m h (Some asked) = refl

calling_none : (t : HttpAndCache) (m : Linear) (asked : Result Asking Refusal) → wants_link (judged t m asked (asking_it t m) []) ≡ false
calling_none t m asked = judged_none t m asked (asking_it t m) (λ x. refl)

pub asking_none : (call : AskingCall) (w : Words) (t : HttpAndCache) (m : Linear) → wants_link (asking_row call w t m []) ≡ false
asking_none asking.Lookup w t m = calling_none t m (lookup_asked kind.Lookup t m w.a w.b w.c w.d w.e)
asking_none asking.Insert w t m = calling_none t m (insert_asked t.http m w.a w.b w.c w.d w.e)
asking_none asking.TransactionLookup w t m = calling_none t m (lookup_asked kind.Transaction t m w.a w.b w.c w.d w.e)
asking_none asking.BusyHandleWait w t m = calling_none t m (wait_asked t.cache m w.a w.b)
asking_none asking.TransactionInsert w t m = calling_none t m (tx_insert_asked t m w.a w.b w.c w.d)
asking_none asking.TransactionInsertAndStreamBack w t m = calling_none t m (stream_back_asked t m w.a w.b w.c w.d w.e)
asking_none asking.TransactionUpdate w t m = calling_none t m (update_asked t m w.a w.b w.c)
asking_none asking.TransactionCancel w t m = calling_none t m (cancel_asked t.cache w.a)
asking_none asking.Close w t m = judged_none t m (close_asked t.cache w.a) (closing t m w.a) (closing_none t m w.a)
asking_none asking.PurgeSurrogateKey w t m = calling_none t m (purge_asked m w.a w.b w.c)
