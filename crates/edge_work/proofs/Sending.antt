-- What a call on the client gives.
use Rattle.std.proofs.Common.{◌≡◌, inl, inr, ℕ, ◌<◌, ◌==◌, Bool, true, false, true≢false, List, [], ◌∷◌, length, Option, Result, Ok, Err, refl, sym, ap, subst, arith}
use Rattle.std.proofs.lemmas.Bool.Decides.{nat_tests}
use Rattle.cache_types.specs.declared.outer.OuterCall.{OuterCall}
use Rattle.cache_types.specs.declared.outer.OuterCall.TheVariants as call
use Rattle.cache_types.specs.declared.outer.OuterReply.{OuterReply}
use Rattle.cache_types.specs.declared.outer.OuterReply.TheVariants as reply
use Rattle.cache_types.specs.declared.outer.Outcome.{Outcome}
use Rattle.cache_types.specs.declared.outer.Outcome.TheVariants as outcome
use Rattle.edge_outside.specs.declared.fault.Failed.{Failed}
use Rattle.edge_outside.specs.Faults.{Rose, Counts}
use Rattle.edge_outside.specs.Made.{Made, made_none, made_one}
use Rattle.edge_outside.specs.Reads.{failed}
use Rattle.edge_outside.specs.Sink.{SinkContent, IsWrite}
use Rattle.guest_answers.specs.declared.answer.Answer.{Answer}
use Rattle.guest_answers.specs.declared.answer.Answer.TheVariants.{Headless, Headed, Closed}
use Rattle.guest_answers.specs.Wire.{frame, failure}
use Rattle.edge_work.specs.Sent.{written, Stays, Sends, ToClient, IsWriteGiven, Fails}
use Rattle.edge_work.specs.Outside.{IsCacheGiven}
use Rattle.edge_work.proofs.Lists.{stays}

-- a call with a frame
abbrev is_sent : OuterCall → Bool
is_sent (call.Head bytes) = true
is_sent (call.Piece bytes) = true
is_sent (call.Close whole) = true
is_sent _ = false

-- every other call has none
pub frame_of_other : (answer : Answer) (c : OuterCall) → is_sent c ≡ false → frame answer c ≡ []
frame_of_other Headless (call.Head bytes) is = absurd (true≢false is)
frame_of_other Headless c is = refl
frame_of_other (Headed framing) (call.Piece bytes) is = absurd (true≢false is)
frame_of_other (Headed framing) (call.Close whole) is = absurd (true≢false is)
frame_of_other (Headed framing) c is = refl
frame_of_other Closed c is = refl

pub counted : {told : Type 0} (a b : ℕ) → Counts told a b → Stays a b
counted a b c = (c.later, λ h. c.fits)

pub is_nothing : (bytes : List ℕ) → (length bytes == 0) ≡ true → bytes ≡ []
is_nothing [] is = refl
is_nothing (byte ∷ bytes) is = let p : length (byte ∷ bytes) ≡ 0 = grind (arith, nat_tests) in absurd (omega (arith, p))

pub is_something : (bytes : List ℕ) → (length bytes == 0) ≡ false → 0 < length bytes
is_something bytes is = grind (arith, nat_tests)

module _ {K : Type 0} (writes : K → List ℕ → Result (Unit {0}) Failed → K → Type 0) (content : K → Option SinkContent) (faults : K → ℕ) where
  -- no bytes
  pub none : (bytes : List ℕ) (r : OuterReply) (sink sink' : K) → bytes ≡ [] → sink' ≡ sink → Sends (Made (IsWrite writes content)) faults bytes (Ok r) sink sink'
  none bytes r sink sink' empty same =
      subst (λ l. Made (IsWrite writes content) sink (written l) sink' × Stays (faults sink) (faults sink')) (sym empty)
      (subst (λ s. Made (IsWrite writes content) sink [] s) (sym same) (made_none (IsWrite writes content) sink), stays (faults sink) (faults sink') (ap faults same))

  -- a call on the cache
  pub none_cached : (answer : Answer) (c : OuterCall) (given : Result OuterReply Outcome) (sink sink' : K) → frame answer c ≡ [] → sink' ≡ sink → IsCacheGiven given → Sends (Made (IsWrite writes content)) faults (frame answer c) given sink sink'
  none_cached answer c (Ok r) sink sink' empty same kind = none (frame answer c) r sink sink' empty same
  none_cached answer c (Err outcome.ClientGone) sink sink' empty same kind = absurd kind
  none_cached answer c (Err why) sink sink' empty same kind = same

  -- a write that was made
  pub one : (bytes : List ℕ) (sink sink' : K) → 0 < length bytes → IsWrite writes content sink bytes (Ok tt) sink' → Stays (faults sink) (faults sink') → Sends (Made (IsWrite writes content)) faults bytes (Ok reply.Sent) sink sink'
  one [] sink sink' some write stay = absurd (omega arith)
  one (byte ∷ bytes) sink sink' some write stay = (made_one (IsWrite writes content) sink (byte ∷ bytes) (Ok tt) sink' write, stay)

  -- and one that failed
  pub broken : (bytes : List ℕ) (e : Failed) (sink sink' : K) → 0 < length bytes → IsWrite writes content sink bytes (Err e) sink' → Rose (faults sink) (faults sink') → Stays (faults sink) (faults sink') → Sends (Made (IsWrite writes content)) faults bytes (Err outcome.ClientGone) sink sink'
  broken bytes e sink sink' some write rose stay = (some, made_one (IsWrite writes content) sink bytes (Err failed) sink' write, rose, stay)

  -- the failure
  pub fails : (given : Result OuterReply Outcome) (sink sink' : K) → ToClient (Made (IsWrite writes content)) faults failure given sink sink' → IsWriteGiven given → Fails (Made (IsWrite writes content)) faults sink sink'
  fails (Ok r) sink sink' c w = inl c.sends
  fails (Err outcome.ClientGone) sink sink' c w = inr (c.sends.1, c.sends.2, c.sends.3)
  fails (Err outcome.OutOfMemory) sink sink' c w = absurd w
  fails (Err why) sink sink' c w = absurd c.kind
