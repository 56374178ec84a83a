-- What code does with so much fuel. Fuel is this project's own: each instruction takes one unit when it is executed.
use Rattle.std.specs.Prelude.{ℕ, zero, suc, ◌+◌, Bool, true, false, if◌then◌else◌, Option, Some, None, Result, Ok, Err, List, [], ◌∷◌, ◌++◌, length, take, drop, reverse, slice_get}
use Rattle.wasm_types.specs.declared.values.Value.{Value}
use Rattle.wasm_types.specs.Nested.{Body, Done}
use Rattle.wasm_meaning.specs.declared.off.Off.{Off}
use Rattle.wasm_meaning.specs.World.{World}
use Rattle.wasm_meaning.specs.Frames.{Label, Frame, Function, Program, State}
use Rattle.wasm_meaning.specs.Meaning.{step, frame_of}

-- ---- ends cost nothing (sections 4.4.6 and 4.4.7)

-- the blocks of which nothing is left have ended, and left their operands to the block round them
abbrev pub settled_in : List Label → List Value → Body → Frame → Frame
settled_in [] vs body f = record f { labels = []; operands = vs; body = body }
settled_in (l ∷ ls) vs Done f = settled_in ls (vs ++ l.below) l.rest f
settled_in (l ∷ ls) vs body f = record f { labels = l ∷ ls; operands = vs; body = body }

abbrev pub standing : Frame → Frame
standing f = settled_in f.labels f.operands f.body f

abbrev pub is_done : Body → Bool
is_done Done = true
is_done body = false

-- a call has ended, and left its operands to its caller
abbrev pub back : Frame → Frame → Frame
back f caller = record caller { operands = f.operands ++ caller.operands }

-- where the next instruction is executed; nothing is left where no call is left
abbrev pub settled : World → List Frame → Frame → State
settled w [] f = record { frame = standing f; callers = []; world = w }
settled w (c ∷ cs) f = if is_done (standing f).body then settled w cs (back (standing f) c) else record { frame = standing f; callers = c ∷ cs; world = w }

abbrev pub next : State → State
next s = settled s.world s.callers s.frame

-- ---- runs

-- all calls have returned; an instruction stopped the code; an import was called with these arguments; more fuel is needed
pub data Ending : Type 0 where
  Returned : Ending
  Stopped : Off → Ending
  Called : ℕ → List Value → Ending
  OutOfFuel : Ending

-- How a run ended, the fuel that is left, and where the code stands: behind a call of an import, whose arguments are taken,
-- and before an instruction that stopped it.
pub record Ended : Type 0 where
  pub ending : Ending
  pub left : ℕ
  pub state : State

-- so many operands, the topmost one last, and the state without them
abbrev pub arguments : ℕ → State → List Value
arguments n s = reverse (take n s.frame.operands)

abbrev pub taken : ℕ → State → State
taken n s = record s { frame = record s.frame { operands = drop n s.frame.operands } }

abbrev pub params_of : Option Function → ℕ
params_of None = 0
params_of (Some f) = length f.kind.params

abbrev pub suspended : ℕ → ℕ → ℕ → State → Ended
suspended x params n s = record { ending = Called x (arguments params s); left = n; state = taken params s }

-- with no fuel
abbrev pub dry : Bool → State → Ended
dry true s = record { ending = Returned; left = 0; state = s }
dry false s = record { ending = OutOfFuel; left = 0; state = s }

-- behind an instruction
abbrev pub gone : Program → (State → Ended) → ℕ → State → Result (Option ℕ × State) Off → Ended
gone p goes n s (Ok (None, after)) = goes after
gone p goes n s (Ok (Some x, after)) = suspended x (params_of (slice_get p.functions x)) n after
gone p goes n s (Err e) = record { ending = Stopped e; left = n; state = s }

-- with a unit, and n more
abbrev pub fed : Program → (State → Ended) → ℕ → Bool → State → Ended
fed p goes n true s = record { ending = Returned; left = n + 1; state = s }
fed p goes n false s = gone p goes n s (step p s.frame.body s.frame s)

-- What code does with so much fuel.
abbrev pub runs : ℕ → Program → State → Ended
runs zero p s = dry (is_done (next s).frame.body) (next s)
runs (suc n) p s = fed p (runs n p) n (is_done (next s).frame.body) (next s)

-- ---- where runs begin, and go on

-- a function that is called with nothing
abbrev pub first : Function → Body → World → State
first f body w = record { frame = frame_of f body []; callers = []; world = w }

-- an import has answered
abbrev pub resumed : Option Value → State → State
resumed None s = s
resumed (Some v) s = record s { frame = record s.frame { operands = v ∷ s.frame.operands } }

-- a run that ended for want of fuel goes on with more; any other keeps it
abbrev pub continued : Ending → Program → ℕ → Ended → Ended
continued OutOfFuel p n e = runs n p e.state
continued ending p n e = record e { left = e.left + n }
