-- What a sink got.
use Rattle.std.specs.Prelude.{◌≡◌, ◌⊎◌, ◌<◌, ◌≤◌, ℕ, Bool, true, false, List, [], ◌∷◌, length, Result, Ok, Err}
use Rattle.std.specs.List.{flat_map}
use Rattle.cache_types.specs.declared.outer.OuterReply.{OuterReply}
use Rattle.cache_types.specs.declared.outer.OuterReply.TheVariants as reply
use Rattle.cache_types.specs.declared.outer.Outcome.{Outcome}
use Rattle.cache_types.specs.declared.outer.Outcome.TheVariants as outcome
use Rattle.edge_outside.specs.Faults.{Rose, last_count}
use Rattle.edge_outside.specs.Reads.{failed}
use Rattle.edge_outside.specs.Sink.{Write}
use Rattle.guest_answers.specs.Wire.{failure}

-- one write of these bytes, or none where there are no bytes
abbrev pub written : List ℕ → List Write
written [] = []
written (byte ∷ bytes) = (byte ∷ bytes, Ok tt) ∷ []

abbrev pub all_written : List (List ℕ) → List Write
all_written pieces = flat_map written pieces

-- one write of them, which failed
abbrev pub lost : List ℕ → List Write
lost bytes = (bytes, Err failed) ∷ []

-- a count that didn't fall, and went past no last value
abbrev pub Stays : ℕ → ℕ → Type 0
Stays before after = (before ≤ after) × (before ≤ last_count → after ≤ last_count)

-- What a sink got of one call with these bytes: where it was answered all of them; where the client is gone a write of them
-- failed, and the count rose; where the guest is to stop for another cause, nothing. `Writes` says which writes were made.
abbrev pub Sends : {K : Type 0} → (K → List Write → K → Type 0) → (K → ℕ) → List ℕ → Result OuterReply Outcome → K → K → Type 0
Sends Writes faults bytes (Ok r) old new = Writes old (written bytes) new × Stays (faults old) (faults new)
Sends Writes faults bytes (Err outcome.ClientGone) old new = (0 < length bytes) × Writes old (lost bytes) new × Rose (faults old) (faults new) × Stays (faults old) (faults new)
Sends Writes faults bytes (Err why) old new = new ≡ old

-- what a call on the client is answered
abbrev pub IsClientGiven : Result OuterReply Outcome → Type 0
IsClientGiven (Ok r) = r ≡ reply.Sent
IsClientGiven (Err outcome.ClientGone) = Unit {0}
IsClientGiven (Err outcome.OutOfMemory) = Unit {0}
IsClientGiven (Err why) = ⊥

-- a write takes no memory
abbrev pub IsWriteGiven : Result OuterReply Outcome → Type 0
IsWriteGiven (Err outcome.OutOfMemory) = ⊥
IsWriteGiven _ = Unit {0}

-- bytes for the client
pub record ToClient {K : Type 0} (Writes : K → List Write → K → Type 0) (faults : K → ℕ) (bytes : List ℕ) (given : Result OuterReply Outcome) (old new : K) : Type 0 where
  pub sends : Sends Writes faults bytes given old new
  pub kind : IsClientGiven given

-- the failure was written, or its write failed
abbrev pub Fails : {K : Type 0} → (K → List Write → K → Type 0) → (K → ℕ) → K → K → Type 0
Fails Writes faults old new = (Writes old (written failure) new × Stays (faults old) (faults new)) ⊎ (Writes old (lost failure) new × Rose (faults old) (faults new) × Stays (faults old) (faults new))

-- nothing more where the answer is done, else the failure
abbrev pub Finished : {K : Type 0} → (K → List Write → K → Type 0) → (K → ℕ) → Bool → K → K → Type 0
Finished Writes faults true old new = new ≡ old
Finished Writes faults false old new = Fails Writes faults old new
