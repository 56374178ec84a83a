-- The tickets that a guest's pending handles keep, and what a row makes of them: it names only tickets that are held, whatever
-- it is answered, and leaves handles that keep no others. So a ticket whose response or failure was told is named no more.
use Rattle.std.specs.Prelude.{◌≡◌, ℕ, ◌&&◌, List, [], ◌∷◌, length, Option, None, Some, IsTrue}
use Rattle.std.specs.List.{list_all}
use Rattle.cache_types.specs.Limits.{is_from_to}
use Rattle.cache_types.specs.declared.outer.OuterCall.{OuterCall}
use Rattle.cache_types.specs.declared.outer.OuterCall.TheVariants as call
use Rattle.cache_types.specs.declared.outer.OuterReply.{OuterReply}
use Rattle.wasm_memory.specs.Linear.{Linear}
use Rattle.edge_abi.specs.Tables.{held}
use Rattle.edge_abi.specs.Told.{Told, Wants, Gives, After, Row}
use Rattle.edge_abi.specs.declared.asked.Step.{Step}
use Rattle.edge_abi.specs.declared.asked.Step.TheVariants.{Done, Outer}
use Rattle.edge_pending.specs.Tables.{HttpAndPending}
use Rattle.edge_pending.specs.declared.tables.Pending.{Pending}
use Rattle.edge_pending.specs.declared.tables.PendingState.{PendingState}
use Rattle.edge_pending.specs.declared.tables.PendingState.TheVariants.{Ticket, Came, Broken}
use Rattle.player.specs.May.{is_address}
use Rattle.player.specs.Plays.{Answered}
use Rattle.player.specs.Runs.{is_answer}
use Rattle.player.specs.Tickets.{is_among, IsFresh, held_after}

-- the ticket that a handle keeps
abbrev pub in_state : PendingState → Option ℕ
in_state (Ticket n) = Some n
in_state (Came bytes) = None
in_state Broken = None

abbrev pub in_handle : Option Pending → Option ℕ
in_handle None = None
in_handle (Some pending) = in_state pending.state

abbrev pub ticket_at : List (Option Pending) → ℕ → Option ℕ
ticket_at table h = in_handle (held table h)

-- each ticket that a handle keeps is held by the guest, and no two handles keep one
pub record Owns (has : List ℕ) (table : List (Option Pending)) : Type 0 where
  pub each : (h n : ℕ) → ticket_at table h ≡ Some n → IsTrue (is_among has n)
  pub apart : (h k n : ℕ) → ticket_at table h ≡ Some n → ticket_at table k ≡ Some n → h ≡ k

-- the call names only tickets that are held, 1 to 100 in a choice, and an address of the bytes 21 to 7E
abbrev pub MayName : List ℕ → OuterCall → Type 0
MayName has (call.Start address request) = IsTrue (is_address address)
MayName has (call.Poll n) = IsTrue (is_among has n)
MayName has (call.WaitFor n) = IsTrue (is_among has n)
MayName has (call.AnyOf ns) = IsTrue (is_from_to 1 100 (length ns) && list_all (is_among has) ns)
MayName has other = Unit {0}

abbrev pub answered : OuterCall → OuterReply → Answered
answered asked reply = record { call = asked; reply = reply }

-- by what a row does next: a call, or what it leaves
abbrev pub Each : {A : Type 0} → Told A → (OuterCall → Type 0) → (A → Type 0) → Type 0
Each (Wants asked) Asks Leaves = Asks asked
Each (Gives after rest) Asks Leaves = Leaves after

abbrev pub Leaves : List ℕ → After HttpAndPending → Type 0
Leaves has after = Owns has after.tables.sent.pending

-- the row keeps to its tickets under these replies, as long as each is one to the call before it and gives a new ticket
abbrev pub Tame : List ℕ → Row HttpAndPending → List OuterReply → Type 0
Tame has row [] = Each (row []) (MayName has) (Leaves has)
Tame has row (reply ∷ replies) =
    Each (row [])
    (λ asked. MayName has asked × (IsTrue (is_answer asked reply) → IsFresh has reply → Tame (held_after has (answered asked reply)) (λ more. row (reply ∷ more)) replies))
    (Leaves has)

abbrev pub IsTame : List ℕ → Row HttpAndPending → Type 0
IsTame has row = (replies : List OuterReply) → Tame has row replies

-- the same of one step of it: how it goes on is tame with the tickets that are held then
module _ {U : Type 0} (resumed : U → HttpAndPending → Linear → OuterReply → Row HttpAndPending) where
  abbrev pub WaitsTame : List ℕ → OuterCall → U → HttpAndPending → Linear → Type 0
  WaitsTame has asked under t m = (reply : OuterReply) → IsTrue (is_answer asked reply) → IsFresh has reply → IsTame (held_after has (answered asked reply)) (resumed under t m reply)

  abbrev pub StepsTame : List ℕ → Step U → HttpAndPending → Linear → Type 0
  StepsTame has (Done number) t m = Owns has t.sent.pending
  StepsTame has (Outer asked under) t m = MayName has asked × WaitsTame has asked under t m
