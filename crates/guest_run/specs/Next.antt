-- What a module guest does next when it was given these replies: the functions of its code that begin run one after another,
-- with the fuel of the whole run, each call of an import is the row that it is, and no state is kept between two calls but by
-- playing again from the start.
use Rattle.std.specs.Prelude.{ℕ, zero, suc, List, [], ◌∷◌, Option, None, Some, slice_get}
use Rattle.cache_types.specs.declared.calls.CacheCall.TheVariants.{End}
use Rattle.cache_types.specs.declared.outer.OuterCall.TheVariants as call
use Rattle.cache_types.specs.declared.outer.Outcome.{Outcome}
use Rattle.cache_types.specs.declared.outer.Outcome.TheVariants as outcome
use Rattle.cache_types.specs.declared.outer.TrapNumber.{TrapNumber}
use Rattle.cache_types.specs.declared.outer.TrapNumber.TheVariants as number
use Rattle.wasm_types.specs.declared.values.TrapKind.{TrapKind}
use Rattle.wasm_types.specs.declared.values.TrapKind.TheVariants as kind
use Rattle.wasm_types.specs.declared.values.Value.{Value}
use Rattle.wasm_types.specs.declared.values.Value.TheVariants.{I32}
use Rattle.wasm_types.specs.Nested.{Body}
use Rattle.wasm_memory.specs.Linear.{Linear, blank}
use Rattle.wasm_meaning.specs.declared.off.Off.TheVariants as off
use Rattle.wasm_meaning.specs.World.{World}
use Rattle.wasm_meaning.specs.Frames.{Program as Code, Function, State}
use Rattle.wasm_meaning.specs.Runs.{Ending, Ended, Returned, Stopped, Called, OutOfFuel, first, runs, resumed}
use Rattle.module_machine.specs.Standing.{in_memory}
use Rattle.edge_abi.specs.Told.{Told, Wants, Gives, After, Answer, Number, Code as Exits}
use Rattle.player.specs.declared.turn.Turn.{Turn}
use Rattle.player.specs.declared.turn.Turn.TheVariants.{Outer, Over}
use Rattle.player.specs.Plays.{Program}
use Rattle.guest_calls.specs.declared.call.Call.{Call}
use Rattle.guest_calls.specs.declared.tables.GuestTables.{GuestTables}
use Rattle.guest_calls.specs.Rows.{row_of}

-- the place of a trap's kind in the list of kinds
abbrev pub trap_number : TrapKind → TrapNumber
trap_number kind.Unreachable = number.Unreachable
trap_number kind.DivideByZero = number.DivideByZero
trap_number kind.Overflow = number.Overflow
trap_number kind.OutOfBounds = number.OutOfBounds
trap_number kind.TableBounds = number.TableBounds
trap_number kind.NullElement = number.NullElement
trap_number kind.IndirectType = number.IndirectType
trap_number kind.StackFull = number.StackFull
trap_number kind.Segment = number.Segment

-- a program that has ended makes its End, and then it is over
abbrev pub ends : Outcome → Program
ends outcome [] = Outer (call.Cache End)
ends outcome (ended ∷ replies) = Over outcome

-- the memory that a row sees; a module with imports has one, and else it is empty
abbrev pub memory_or : Option Linear → Linear
memory_or None = blank 0 0
memory_or (Some m) = m

abbrev pub memory_in : State → Linear
memory_in s = memory_or s.world.memory

-- how a program goes on: with so many units left, where its code stands, with its tables
abbrev pub Goes_on : Type 0
Goes_on = ℕ → State → GuestTables → Program

-- behind a row: the code goes on with the number that the call answers, or the guest exits
abbrev pub answered : Answer → GuestTables → Linear → ℕ → State → Goes_on → Program
answered (Number number) t m left s goes replies = goes left (resumed (Some (I32 number)) (in_memory m s)) t replies
answered (Exits code) t m left s goes replies = ends (outcome.Exited code) replies

-- a row's outer call, or what follows the row
abbrev pub after_row : Told (After GuestTables) → ℕ → State → Goes_on → Turn
after_row (Wants call) left s goes = Outer call
after_row (Gives after replies) left s goes = answered after.answer after.tables after.memory left s goes replies

-- the call of an import; valid code calls no other function outside
abbrev pub after_call : Option Call → List Value → ℕ → State → GuestTables → Goes_on → Program
after_call None arguments left s t goes replies = ends (outcome.Trapped number.Unreachable) replies
after_call (Some call) arguments left s t goes replies = after_row (row_of call arguments t (memory_in s) replies) left s goes

-- behind a run of the code, which may go on behind its return and behind a call; valid code is never stuck
abbrev pub after_ending : List Call → Goes_on → Ending → ℕ → State → GuestTables → Goes_on → Program
after_ending calls back Returned left s t goes replies = back left s t replies
after_ending calls back (Stopped (off.Trap kind)) left s t goes replies = ends (outcome.Trapped (trap_number kind)) replies
after_ending calls back (Stopped off.Stuck) left s t goes replies = ends (outcome.Trapped number.Unreachable) replies
after_ending calls back OutOfFuel left s t goes replies = ends outcome.OutOfFuel replies
after_ending calls back (Called x arguments) left s t goes replies = after_call (slice_get calls x) arguments left s t goes replies

abbrev pub after_run : List Call → Goes_on → Ended → GuestTables → Goes_on → Program
after_run calls back e t goes replies = after_ending calls back e.ending e.left e.state t goes replies

-- Code that is run with so much fuel, of which what is left behind a call is all that follows has. A call costs a unit, so a
-- bound above the fuel is never reached.
abbrev pub live : ℕ → Code → List Call → Goes_on → Goes_on
live zero code calls back fuel s t replies = ends outcome.OutOfFuel replies
live (suc bound) code calls back fuel s t replies = after_run calls back (runs fuel code s) t (λ left s' t' replies'. live bound code calls back left s' t' replies') replies

-- ---- functions, one after another

-- a function that begins with nothing
pub record Entry : Type 0 where
  pub function : Function
  pub body : Body

-- Each begins where the one before returned, in the world that it left and with what fuel is left; to begin costs none. The
-- program ends behind the last one.
abbrev pub in_turn : Code → List Call → List Entry → ℕ → World → GuestTables → Program
in_turn code calls [] left w t replies = ends outcome.Returned replies
in_turn code calls (e ∷ es) left w t replies = live (suc left) code calls (λ left' s t' replies'. in_turn code calls es left' s.world t' replies') left (first e.function e.body w) t replies

-- how code goes on behind its return, where these begin then
abbrev pub begins : Code → List Call → List Entry → Goes_on
begins code calls entries left s t replies = in_turn code calls entries left s.world t replies
