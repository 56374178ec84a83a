-- What one outer call of a guest did.
use Rattle.std.specs.Prelude.{◌≡◌, ◌⊎◌, ℕ, ◌+◌, ◌<◌, ◌≤◌, Bool, true, false, List, [], ◌∷◌, ◌++◌, length, All, Contains, IsTrue, Option, None, Some, Result, Ok, Err, IfOk, IfErr, IsErr}
use Rattle.std.specs.List.{flat_map}
use mathlib.Core.List.{IsPrefix}
use Rattle.turnstile.specs.Log.{entries_of}
use Rattle.turnstile.specs.Pass.{PassView, IsSamePass}
use Rattle.cache_types.specs.declared.calls.CacheCall.{CacheCall}
use Rattle.cache_types.specs.declared.calls.CacheCall.TheVariants.{Begin}
use Rattle.cache_types.specs.declared.entries.Entry.{Entry}
use Rattle.cache_types.specs.declared.outer.OuterCall.{OuterCall}
use Rattle.cache_types.specs.declared.outer.OuterCall.TheVariants as call
use Rattle.cache_types.specs.declared.outer.OuterReply.{OuterReply}
use Rattle.cache_types.specs.declared.outer.OuterReply.TheVariants as reply
use Rattle.cache_types.specs.declared.outer.Outcome.{Outcome}
use Rattle.cache_types.specs.declared.outer.Outcome.TheVariants as outcome
use Rattle.cache_types.specs.Entries.{newest_first, moment_after}
use Rattle.cache_types.specs.Legal.{IsLegal}
use Rattle.cache_types.specs.Step.{is_full}
use Rattle.cache_hub.specs.declared.faults.UntilFault.{UntilFault}
use Rattle.cache_hub.specs.declared.faults.UntilFault.TheVariants as until_fault
use Rattle.cache_hub.specs.Calls.{own_of, MayAsk, HasWhole}
use Rattle.player.specs.Plays.{Answered, is_end_call}
use Rattle.player.specs.Runs.{is_answer}

-- what a worker has while it runs a guest: its pass, the guest (0 before its Begin), the last reading, and its clock
pub record Stand (T C : Type 0) : Type 0 where
  pub pass : PassView T Entry
  pub guest : ℕ
  pub last : ℕ
  pub clock : C

abbrev pub stand : {T C : Type 0} → PassView T Entry → ℕ → ℕ → C → Stand T C
stand pass guest last clock = record { pass = pass; guest = guest; last = last; clock = clock }

-- the last of one reading and those behind it
abbrev pub last_of : ℕ → List ℕ → ℕ
last_of first [] = first
last_of first (reading ∷ readings) = last_of reading readings

-- the entry stands in the list under this number, and was made at one of these readings
pub record IsTimed (list : List Entry) (readings : List ℕ) (x : ℕ × Entry) : Type 0 where
  pub before : List Entry
  pub stands : IsPrefix (before ++ x.1 ∷ []) list
  pub number : x.0 ≡ length before + 1
  pub reading : ℕ
  pub among : Contains readings reading
  pub moment : x.1.moment ≡ moment_after (newest_first before) reading

-- the readings that a reply tells
abbrev pub told_by : OuterReply → List ℕ
told_by (reply.Now reading) = reading ∷ []
told_by _ = []

-- all that a guest was told
abbrev pub told_in : List Answered → List ℕ
told_in trace = flat_map (λ (a : Answered). told_by a.reply) trace

-- these stand among those, in this order
abbrev pub AreAmong : List ℕ → List ℕ → Type 0
AreAmong [] all = Unit {0}
AreAmong (x ∷ xs) [] = ⊥
AreAmong (x ∷ xs) (y ∷ all) = ((x ≡ y) × AreAmong xs all) ⊎ AreAmong (x ∷ xs) all

-- Nobody answers calls on a link: a start has failed, so no ticket is given.
abbrev pub IsUnlinked : OuterCall → OuterReply → Type 0
IsUnlinked (call.Start address request) r = r ≡ reply.LinkFailed
IsUnlinked (call.Poll ticket) r = r ≡ reply.LinkFailed
IsUnlinked (call.WaitFor ticket) r = r ≡ reply.LinkFailed
IsUnlinked (call.AnyOf tickets) r = r ≡ reply.Index 0
IsUnlinked _ r = Unit {0}

-- Why a guest may be stopped: a later reading at the deadline; a step of the call that it asked which found no room; a
-- client that is gone; want of memory. `Asked` says of a call that it was asked, `Gone` that the client is gone.
abbrev pub IsCause : ℕ → ℕ → ℕ → List ℕ → List Entry → (OuterCall → Type 0) → Type 0 → Outcome → Type 0
IsCause most first limit readings seen Asked Gone (outcome.Timeout start reading) = (start ≡ first) × Contains readings reading × (first + limit ≤ reading)
IsCause most first limit readings seen Asked Gone outcome.HistoryFull = (list : List Entry) × (c : CacheCall) × Asked (call.Cache c) × IsPrefix list seen × IsTrue (is_full (newest_first list) most c)
IsCause most first limit readings seen Asked Gone outcome.ClientGone = Gone
IsCause most first limit readings seen Asked Gone outcome.OutOfMemory = Unit {0}
IsCause most first limit readings seen Asked Gone _ = ⊥

abbrev pub outcome_of : ℕ → UntilFault → Outcome
outcome_of first (until_fault.Timeout reading) = outcome.Timeout first reading
outcome_of first until_fault.Full = outcome.HistoryFull
outcome_of first until_fault.OutOfMemory = outcome.OutOfMemory

-- a Begin names its guest
abbrev pub named : CacheCall → ℕ → ℕ → ℕ
named Begin guest number = number
named _ guest number = guest

abbrev pub is_gone : Option Outcome → Bool
is_gone (Some outcome.ClientGone) = true
is_gone _ = false

-- no call on the cache finds that the client is gone
abbrev pub IsCacheGiven : Result OuterReply Outcome → Type 0
IsCacheGiven (Ok r) = Unit {0}
IsCacheGiven (Err outcome.ClientGone) = ⊥
IsCacheGiven (Err why) = Unit {0}

-- the readings that a call may take beyond one for each entry, loss or idle turn
abbrev pub spare : Result OuterReply Outcome → ℕ
spare (Ok r) = length (told_by r)
spare (Err why) = 1

-- a call on the cache asks what the hub asks, and one on tickets names one at least
abbrev pub MayAskOuter : {T : Type 0} → PassView T Entry → ℕ → OuterCall → Type 0
MayAskOuter pass guest (call.Cache c) = MayAsk pass guest c
MayAskOuter pass guest (call.AnyOf tickets) = 0 < length tickets
MayAskOuter pass guest _ = Unit {0}

-- a call on the cache that was refused, or another call
abbrev pub NoEntry : OuterCall → Result OuterReply Outcome → Type 0
NoEntry (call.Cache c) given = IsErr given
NoEntry _ given = Unit {0}

abbrev pub listed : Option (ℕ × Entry) → List (ℕ × Entry)
listed None = []
listed (Some x) = x ∷ []

-- the first entry of a guest names it: it is new
abbrev pub IsNamed : {T C : Type 0} → ℕ × Entry → Stand T C → Stand T C → CacheCall → Type 0
IsNamed x old new Begin = (x.0 ≡ new.guest) × (x.1.number ≡ new.guest) × (0 < new.guest) × (own_of new.guest (entries_of old.pass.mine) ≡ [])
IsNamed x old new _ = new.guest ≡ old.guest

-- the entry that was gained is the call with its reply
abbrev pub IsGain : {T C : Type 0} → OuterCall → Result OuterReply Outcome → Stand T C → Stand T C → Option (ℕ × Entry) → Type 0
IsGain c given old new None = NoEntry c given × (new.guest ≡ old.guest)
IsGain c given old new (Some x) = (c ≡ call.Cache x.1.call) × (given ≡ Ok (reply.Cache (record { number = x.1.number; reply = x.1.reply }))) × (x.1.guest ≡ new.guest) × IsNamed x old new x.1.call

-- One outer call was answered, or the guest is to stop. `Reads` says which readings were made, `Share` what a pass has of
-- the one history.
pub record Outside {T C : Type 0} (Reads : C → List ℕ → C → Type 0) (Share : PassView T Entry → Type 0) (most first limit : ℕ) (c : OuterCall) (given : Result OuterReply Outcome) (old new : Stand T C) : Type 0 where
  pub gained : Option (ℕ × Entry)
  pub readings : List ℕ
  pub clock : Reads old.clock readings new.clock
  pub last : new.last ≡ last_of old.last readings
  pub mine : new.pass.mine ≡ old.pass.mine ++ listed gained
  pub same : IsSamePass old.pass new.pass
  pub whole : HasWhole new.pass
  pub share : Share old.pass → Share new.pass
  pub longer : IsPrefix old.pass.seen new.pass.seen
  pub legal : IsLegal old.pass.seen → IsLegal new.pass.seen
  pub gain : IsGain c given old new gained
  pub timed : All (IsTimed new.pass.seen (old.last ∷ readings)) (listed gained)
  pub end : is_end_call (Some c) ≡ true → (readings ≡ []) × All (IsTimed new.pass.seen (old.last ∷ [])) (listed gained)
  pub told : IfOk given (λ r. AreAmong (told_by r) readings)
  pub count : length readings + old.pass.lost + old.pass.idle ≤ spare given + length (listed gained) + new.pass.lost + new.pass.idle
  pub answers : IfOk given (λ r. IsTrue (is_answer c r))
  pub unlinked : IfOk given (IsUnlinked c)
  pub cause : IfErr given (IsCause most first limit readings new.pass.seen (λ asked. asked ≡ c) (Unit {0}))
  pub no_end : IfErr given (λ _. is_end_call (Some c) ≡ false)
