-- What one guest's work did.
use Rattle.std.specs.Prelude.{◌≡◌, ◌⊎◌, ℕ, ◌+◌, ◌<◌, ◌≤◌, true, false, List, [], ◌∷◌, ◌++◌, length, All, IsTrue, IfSome, Option, None, Some}
use mathlib.Core.List.{IsPrefix}
use Rattle.turnstile.specs.Pass.{PassView}
use Rattle.cache_types.specs.declared.calls.CacheCall.TheVariants.{End}
use Rattle.cache_types.specs.declared.entries.Entry.{Entry}
use Rattle.cache_types.specs.declared.outer.Done.{Done}
use Rattle.cache_types.specs.declared.outer.OuterCall.{OuterCall}
use Rattle.cache_types.specs.declared.outer.OuterCall.TheVariants as call
use Rattle.cache_types.specs.declared.outer.OuterReply.{OuterReply}
use Rattle.cache_types.specs.declared.outer.Outcome.{Outcome}
use Rattle.cache_types.specs.Entries.{newest_first, is_end, has_ended}
use Rattle.cache_types.specs.Legal.{IsLegal}
use Rattle.cache_types.specs.Limits.{is_within_limits}
use Rattle.cache_hub.specs.Calls.{IsOpener}
use Rattle.edge_outside.specs.Faults.{Rose}
use Rattle.edge_outside.specs.Sink.{Write}
use Rattle.player.specs.declared.turn.Turn.TheVariants.{Outer, Over}
use Rattle.player.specs.Plays.{Program, Answered, replies_of, events_of}
use Rattle.player.specs.Runs.{Follows, are_answers}
use Rattle.schedule_play.specs.Blocks.{own, told_of, cache_calls}
use Rattle.guest_answers.specs.Wire.{frame, frames, answer_behind, is_headless, failure, sent}
use Rattle.edge_work.specs.Sent.{all_written, lost}
use Rattle.edge_work.specs.Outside.{last_of, IsTimed, told_in, AreAmong, IsUnlinked, IsCause, is_gone}

-- an End stands behind these
abbrev pub IsEndBehind : List Answered → List Answered → Type 0
IsEndBehind before trace = (reply : OuterReply) × (trace ≡ before ++ record { call = call.Cache End; reply = reply } ∷ [])

abbrev pub HasEnd : List Answered → Type 0
HasEnd trace = (before : List Answered) × IsEndBehind before trace

-- stopped behind these calls: where the guest had begun, its End is one call more
abbrev pub IsStoppedAt : List Answered → List Answered → Type 0
IsStoppedAt [] trace = trace ≡ []
IsStoppedAt (begin ∷ before) trace = IsEndBehind (begin ∷ before) trace

-- the calls are a whole run of the program, or its calls up to the stop
abbrev pub IsRunOf : Program → List Answered → List Answered → Option Outcome → Outcome → Type 0
IsRunOf next before trace None outcome = Follows next trace × (next (replies_of trace) ≡ Over outcome)
IsRunOf next before trace (Some why) outcome = (outcome ≡ why) × Follows next before × IsStoppedAt before trace

-- behind these calls each program that the guest began with makes this one
abbrev pub IsAsked : (Program → Type 0) → List Answered → OuterCall → Type 0
IsAsked Began before c = (next : Program) → Began next → next (replies_of before) ≡ Outer c

-- the calls on the cache are exactly the guest's entries in the history
abbrev pub IsTied : List Entry → ℕ → List Answered → Type 0
IsTied history guest trace = cache_calls trace ≡ told_of (own (newest_first history) guest)

-- the last of the entries is an End that was made at this reading
pub record EndsAt (history : List Entry) (gained : List (ℕ × Entry)) (reading : ℕ) : Type 0 where
  pub older : List (ℕ × Entry)
  pub last : ℕ × Entry
  pub all : gained ≡ older ++ last ∷ []
  pub end : IsTrue (is_end last.1.call)
  pub timed : IsTimed history (reading ∷ []) last

-- a guest that began, and made its End at the last reading of its clock
pub record IsKnown (history : List Entry) (gained : List (ℕ × Entry)) (trace : List Answered) (reading guest : ℕ) : Type 0 where
  pub positive : 0 < guest
  pub opener : IsOpener gained guest
  pub tied : IsTied history guest trace
  pub ends : HasEnd trace
  pub ended : IsTrue (has_ended (newest_first history) guest)
  pub end : EndsAt history gained reading

-- one that never began
pub record IsNobody (gained : List (ℕ × Entry)) (trace : List Answered) (guest : ℕ) : Type 0 where
  pub guest_is : guest ≡ 0
  pub no_calls : trace ≡ []
  pub no_entries : gained ≡ []

-- the frames of the calls before were written, and then the write of the next call's failed
pub record IsBrokenOff {K : Type 0} (Writes : K → List Write → K → Type 0) (faults : K → ℕ) (Began : Program → Type 0) (method : List ℕ) (before : List Answered) (old new : K) : Type 0 where
  pub next : OuterCall
  pub asked : IsAsked Began before next
  pub some : 0 < length (frame (answer_behind method before) next)
  pub writes : Writes old (all_written (frames method before) ++ lost (frame (answer_behind method before) next)) new
  pub rose : Rose (faults old) (faults new)

-- The writes that the sink got, in one of three forms: the whole answer; the frames up to the write that failed, where
-- the client was gone; a failed write of the failure, where no head was sent.
abbrev pub HasSent : {K : Type 0} → (K → List Write → K → Type 0) → (K → ℕ) → (Program → Type 0) → List ℕ → List Answered → List Answered → Option Outcome → K → K → Type 0
HasSent Writes faults Began method before trace stopped old new =
    ((is_gone stopped ≡ false) × Writes old (all_written (sent method trace)) new)
    ⊎ (((is_gone stopped ≡ true) × IsBrokenOff Writes faults Began method before old new)
    ⊎ ((is_gone stopped ≡ false) × (is_headless (answer_behind method trace) ≡ true) × Writes old (lost failure) new × Rose (faults old) (faults new)))

-- One guest's work: its calls, and those before its stop, if it was stopped; the entries that its pass gained; the readings
-- of its clock. `Reads` says which readings were made, `Writes` which writes, `Began` what the guest's program is.
pub record WorkedOne {T C K : Type 0} (Reads : C → List ℕ → C → Type 0) (Writes : K → List Write → K → Type 0) (faults : K → ℕ) (Began : Program → Type 0) (most limit index : ℕ) (method : List ℕ) (pass pass' : PassView T Entry) (clock clock' : C) (sink sink' : K) (done : Done) : Type 0 where
  pub trace : List Answered
  pub before : List Answered
  pub stopped : Option Outcome
  pub gained : List (ℕ × Entry)
  pub first : ℕ
  pub readings : List ℕ
  pub index_is : done.index ≡ index
  pub events_are : done.trace ≡ events_of trace
  pub answers : IsTrue (are_answers trace)
  pub unlinked : All (λ (a : Answered). IsUnlinked a.call a.reply) trace
  pub runs : (next : Program) → Began next → IsRunOf next before trace stopped done.outcome
  pub cause : IfSome stopped (IsCause most first limit readings pass'.seen (IsAsked Began before) (Rose (faults sink) (faults sink')))
  pub guest : IsNobody gained trace done.guest ⊎ IsKnown pass'.seen gained trace (last_of first readings) done.guest
  pub mine : pass'.mine ≡ pass.mine ++ gained
  pub of_guest : All (λ (x : ℕ × Entry). x.1.guest ≡ done.guest) gained
  pub limits : All (λ (x : ℕ × Entry). IsTrue (is_within_limits x.1.call)) gained
  pub longer : IsPrefix pass.seen pass'.seen
  pub legal : IsLegal pass.seen → IsLegal pass'.seen
  pub read : Reads clock (first ∷ readings) clock'
  pub timed : All (IsTimed pass'.seen (first ∷ readings)) gained
  pub told : AreAmong (told_in trace) readings
  pub count : length (first ∷ readings) + pass.lost + pass.idle ≤ 2 + length (told_in trace) + length gained + pass'.lost + pass'.idle
  pub client : HasSent Writes faults Began method before trace stopped sink sink'
