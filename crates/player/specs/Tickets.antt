-- Which tickets a guest holds: each from the reply that gave it to the one that takes it.
use Rattle.std.specs.Prelude.{◌≡◌, ℕ, Bool, true, false, ◌&&◌, not, List, [], ◌∷◌, filter, ◌==◌}
use Rattle.std.specs.List.{list_any}
use Rattle.cache_types.specs.declared.outer.OuterCall.{OuterCall}
use Rattle.cache_types.specs.declared.outer.OuterCall.TheVariants as call
use Rattle.cache_types.specs.declared.outer.OuterReply.{OuterReply}
use Rattle.cache_types.specs.declared.outer.OuterReply.TheVariants as reply
use Rattle.player.specs.Plays.{Answered}

-- the call asks for the response under this ticket
abbrev pub asks_for : OuterCall → ℕ → Bool
asks_for (call.Poll named) ticket = named == ticket
asks_for (call.WaitFor named) ticket = named == ticket
asks_for call ticket = false

-- the reply is a response or a failure, which takes the ticket
abbrev pub takes : OuterReply → Bool
takes (reply.Ready bytes) = true
takes reply.LinkFailed = true
takes reply = false

abbrev pub lets_go : OuterCall → OuterReply → ℕ → Bool
lets_go call reply ticket = asks_for call ticket && takes reply

abbrev pub with_given : OuterReply → List ℕ → List ℕ
with_given (reply.Started ticket) held = ticket ∷ held
with_given reply held = held

-- the tickets held behind one more answered call
abbrev pub held_after : List ℕ → Answered → List ℕ
held_after held a = with_given a.reply (filter (λ ticket. not (lets_go a.call a.reply ticket)) held)

abbrev pub held_behind : List ℕ → List Answered → List ℕ
held_behind held [] = held
held_behind held (a ∷ trace) = held_behind (held_after held a) trace

abbrev pub is_among : List ℕ → ℕ → Bool
is_among held ticket = list_any (λ other. other == ticket) held

-- the ticket is held behind these calls
abbrev pub holds : List Answered → ℕ → Bool
holds trace ticket = is_among (held_behind [] trace) ticket

-- a ticket that the reply gives isn't held yet
abbrev pub IsFresh : List ℕ → OuterReply → Type 0
IsFresh held (reply.Started ticket) = is_among held ticket ≡ false
IsFresh held reply = Unit {0}

abbrev pub AreFreshBehind : List ℕ → List Answered → Type 0
AreFreshBehind held [] = Unit {0}
AreFreshBehind held (a ∷ trace) = IsFresh held a.reply × AreFreshBehind (held_after held a) trace

-- each ticket was given where it wasn't held
abbrev pub AreFresh : List Answered → Type 0
AreFresh trace = AreFreshBehind [] trace
