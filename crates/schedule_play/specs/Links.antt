-- Calls on a link, and what they tell a guest.
use Rattle.std.specs.Prelude.{◌≡◌, ◌⊎◌, ℕ, List, [], ◌∷◌, Option, None, Some, option_map, Result, Ok, Err, if◌then◌else◌}
use Rattle.std.specs.List.{filter_map}
use Rattle.edge_outside.specs.declared.fault.IoFault.{IoFault}
use Rattle.edge_outside.specs.declared.fault.IoFault.TheVariants.{Failed, OutOfMemory}
use Rattle.cache_types.specs.declared.outer.OuterCall.{OuterCall}
use Rattle.cache_types.specs.declared.outer.OuterCall.TheVariants as call
use Rattle.cache_types.specs.declared.outer.OuterReply.{OuterReply}
use Rattle.cache_types.specs.declared.outer.OuterReply.TheVariants as reply
use Rattle.player.specs.Plays.{Answered}
use Rattle.player.specs.Runs.{is_link}

-- a call on a link with the reply that its guest was told: none where no memory was found
abbrev pub LinkCall : Type 0
LinkCall = OuterCall × Option OuterReply

-- the reply that stands for each answer
abbrev pub started : Result ℕ IoFault → Option OuterReply
started (Ok ticket) = Some (reply.Started ticket)
started (Err Failed) = Some reply.LinkFailed
started (Err OutOfMemory) = None

abbrev pub polled : Result (Option (List ℕ)) IoFault → Option OuterReply
polled (Ok None) = Some reply.NotReady
polled (Ok (Some bytes)) = Some (reply.Ready bytes)
polled (Err Failed) = Some reply.LinkFailed
polled (Err OutOfMemory) = None

abbrev pub waited : Result (List ℕ) IoFault → Option OuterReply
waited (Ok bytes) = Some (reply.Ready bytes)
waited (Err Failed) = Some reply.LinkFailed
waited (Err OutOfMemory) = None

-- the guest is told it, unless no memory was found to keep it
abbrev pub IsKept : Option OuterReply → Option OuterReply → Type 0
IsKept answer said = (said ≡ answer) ⊎ (said ≡ None)

-- the call was made on the link, and its guest was told this
abbrev pub Asks : {L : Type 0} → (L → List ℕ → List ℕ → Result ℕ IoFault → L → Type 0) → (L → ℕ → Result (Option (List ℕ)) IoFault → L → Type 0) → (L → ℕ → Result (List ℕ) IoFault → L → Type 0) → (L → List ℕ → ℕ → L → Type 0) → L → OuterCall → Option OuterReply → L → Type 0
Asks starts polls waits chooses before (call.Start address request) said after = (answer : Result ℕ IoFault) × starts before address request answer after × IsKept (started answer) said
Asks starts polls waits chooses before (call.Poll ticket) said after = (answer : Result (Option (List ℕ)) IoFault) × polls before ticket answer after × IsKept (polled answer) said
Asks starts polls waits chooses before (call.WaitFor ticket) said after = (answer : Result (List ℕ) IoFault) × waits before ticket answer after × IsKept (waited answer) said
Asks starts polls waits chooses before (call.AnyOf tickets) said after = (index : ℕ) × chooses before tickets index after × (said ≡ Some (reply.Index index))
Asks starts polls waits chooses before other said after = ⊥

-- the calls that were answered
abbrev pub answered_call : LinkCall → Option Answered
answered_call asked = option_map (λ said. record { call = asked.0; reply = said }) asked.1

abbrev pub answers_in : List LinkCall → List Answered
answers_in calls = filter_map answered_call calls

-- a call that the link answers is one call on it, and any other none
abbrev pub calls_of : OuterCall → Option OuterReply → List LinkCall
calls_of asked said = if is_link asked then (asked, said) ∷ [] else []
