-- The tickets of guests, and those that stand open at the link.
use Rattle.std.specs.Prelude.{◌≡◌, ◌≢◌, ◌⊎◌, ℕ, Bool, false, List, length, Option, None, Some, IsTrue}
use Rattle.std.specs.List.{All}
use Rattle.cache_types.specs.declared.outer.OuterCall.{OuterCall}
use Rattle.cache_types.specs.declared.outer.OuterCall.TheVariants as call
use Rattle.cache_types.specs.declared.outer.OuterReply.{OuterReply}
use Rattle.cache_types.specs.declared.outer.OuterReply.TheVariants as reply
use Rattle.cache_types.specs.Limits.{is_from_to}
use Rattle.player.specs.May.{is_address}
use Rattle.player.specs.Tickets.{asks_for, lets_go, holds}
use Rattle.schedule_play.specs.Schedule.{Seat, seat_at, is_closed}

-- what a link asks of a call
abbrev pub MayAskLink : (ℕ → Type 0) → OuterCall → Type 0
MayAskLink is_open (call.Start address request) = IsTrue (is_address address)
MayAskLink is_open (call.Poll ticket) = is_open ticket
MayAskLink is_open (call.WaitFor ticket) = is_open ticket
MayAskLink is_open (call.AnyOf tickets) = IsTrue (is_from_to 1 100 (length tickets)) × All is_open tickets
MayAskLink is_open call = Unit {0}

-- the ticket may be gone behind the call: it was asked for, and its response came, or no memory was found
abbrev pub may_go : OuterCall → Option OuterReply → ℕ → Bool
may_go call (Some reply) ticket = lets_go call reply ticket
may_go call None ticket = asks_for call ticket

-- what a call leaves open, and what it opens
pub record MovesTickets (before after : ℕ → Type 0) (call : OuterCall) (said : Option OuterReply) : Type 0 where
  pub stays : (ticket : ℕ) → before ticket → may_go call said ticket ≡ false → after ticket
  pub opens : (ticket : ℕ) → said ≡ Some (reply.Started ticket) → after ticket × (before ticket → ⊥)

-- a guest that goes on has this ticket
abbrev pub Owns : Seat → ℕ → Type 0
Owns seat ticket = (is_closed seat ≡ false) × IsTrue (holds seat.trace ticket)

-- its tickets stand open
abbrev pub HasTickets : (ℕ → Type 0) → Seat → Type 0
HasTickets is_open seat = (ticket : ℕ) → Owns seat ticket → is_open ticket

-- what a guest's step does to tickets: those of others stay open, and a new one was nobody's
pub record TurnsTickets (before after : ℕ → Type 0) (seat moved : Seat) : Type 0 where
  pub keeps : (ticket : ℕ) → before ticket → (Owns seat ticket → ⊥) → after ticket
  pub has : HasTickets after moved
  pub new : (ticket : ℕ) → Owns moved ticket → Owns seat ticket ⊎ (before ticket → ⊥)

-- the tickets of all guests: no two have one in common
pub record HaveTickets (is_open : ℕ → Type 0) (seats : List Seat) : Type 0 where
  pub each : (at : ℕ) → HasTickets is_open (seat_at seats at)
  pub apart : (at other ticket : ℕ) → at ≢ other → Owns (seat_at seats at) ticket → Owns (seat_at seats other) ticket → ⊥
