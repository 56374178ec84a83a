-- What one instruction does (section 4.4). Blocks, branches and calls are here, all else is in `Acts`.
use Rattle.std.specs.Prelude.{ℕ, ◌==◌, nat_lt, Bool, true, false, if◌then◌else◌, Option, Some, None, Result, Ok, Err, List, [], ◌∷◌, ◌++◌, length, take, drop, reverse, slice_get, map}
use Rattle.std.specs.Option.{is_some}
use Rattle.wasm_types.specs.declared.types.ValueType.{ValueType}
use Rattle.wasm_types.specs.declared.types.FuncType.{FuncType}
use Rattle.wasm_types.specs.declared.values.TrapKind.TheVariants.{StackFull, TableBounds, NullElement, IndirectType}
use Rattle.wasm_types.specs.declared.values.Value.{Value}
use Rattle.wasm_types.specs.declared.instructions.Instr.{Instr}
use Rattle.wasm_types.specs.declared.instructions.Instr.TheVariants.{Br, BrIf, BrTable, Return, Call, CallIndirect, LocalGet, LocalSet, LocalTee}
use Rattle.wasm_types.specs.Nested.{Body, Done, Goes, InBlock, InLoop, InIf, InIfElse}
use Rattle.wasm_meaning.specs.declared.off.Off.{Off}
use Rattle.wasm_meaning.specs.declared.off.Off.TheVariants.{Stuck, Trap}
use Rattle.wasm_meaning.specs.Steps.{◌>>=◌, found}
use Rattle.wasm_meaning.specs.Kinds.{same_function_type, zero_of}
use Rattle.wasm_meaning.specs.Acts.{acts, as32, set_at}
use Rattle.wasm_meaning.specs.Frames.{Label, Frame, Function, Program, State}

-- ---- blocks (sections 4.4.5 and 4.4.6)

-- a block is entered with no operands of its own
abbrev pub entered : Bool → Option (Option ValueType × Body) → Body → Body → List Value → Frame → Frame
entered keeps again inner rest below f = record f {
  labels = record { again = again; keeps = keeps; rest = rest; below = below } ∷ f.labels;
  operands = [];
  body = inner;
}

-- the topmost operand, where there is a result
abbrev pub kept : Bool → List Value → Result (List Value) Off
kept false vs = Ok []
kept true [] = Err Stuck
kept true (v ∷ vs) = Ok (v ∷ [])

-- to a label: a block is left at its end with its result, a loop is executed again
abbrev pub to_label : Option (Option ValueType × Body) → Label → List Label → Frame → Result Frame Off
to_label None l ls f = kept l.keeps f.operands >>= λ vs. Ok (record f { labels = l ∷ ls; operands = vs; body = Done })
to_label (Some loop) l ls f = Ok (record f { labels = ls; operands = l.below; body = InLoop loop.0 loop.1 l.rest })

-- out of the function: its end is what is left
abbrev pub returned : Frame → Result Frame Off
returned f = kept f.keeps f.operands >>= λ vs. Ok (record f { labels = []; operands = vs; body = Done })

-- to the innermost block; the function itself is the outermost one
abbrev pub to_first : List Label → Frame → Result Frame Off
to_first [] f = returned f
to_first (l ∷ ls) f = to_label l.again l ls f

-- out of so many blocks, to the next one
abbrev pub branch : ℕ → Frame → Result Frame Off
branch n f = if nat_lt (length f.labels) n then Err Stuck else to_first (drop n f.labels) f

-- what a test takes from the operands
abbrev pub tested : List Value → Result (ℕ × List Value) Off
tested [] = Err Stuck
tested (v ∷ vs) = as32 v >>= λ n. Ok (n, vs)

abbrev pub branch_unless : Bool → ℕ → Frame → Result Frame Off
branch_unless true n f = Ok f
branch_unless false n f = branch n f

-- a label of a table, or the one for what is past its end
abbrev pub label_of : Option ℕ → ℕ → ℕ
label_of None other = other
label_of (Some n) other = n

-- ---- locals (section 4.4.3)

abbrev pub set_local : ℕ → List Value → List Value → Frame → Result Frame Off
set_local x [] vs f = Err Stuck
set_local x (v ∷ below) vs f = set_at x v f.locals >>= λ ls. Ok (record f { operands = vs; locals = ls })

abbrev pub all_but_first : List Value → List Value
all_but_first [] = []
all_but_first (v ∷ vs) = vs

-- ---- calls (section 4.4.7)

-- the frame of a function that is called with the arguments on top of these operands
abbrev pub frame_of : Function → Body → List Value → Frame
frame_of f body vs = record {
  keeps = is_some f.kind.result;
  locals = reverse (take (length f.kind.params) vs) ++ map zero_of f.locals;
  labels = [];
  operands = [];
  body = body;
}

abbrev pub entered_function : Function → Body → Frame → State → State
entered_function callee body f s = record s {
  frame = frame_of callee body f.operands;
  callers = (record f { operands = drop (length callee.kind.params) f.operands }) ∷ s.callers;
}

-- a step that calls no import
abbrev pub on : {A : Type 0} → Result A Off → Result (Option ℕ × A) Off
on (Ok s) = Ok (None, s)
on (Err e) = Err e

-- this project's own: with the new one there are at most 2,048 active frames
abbrev pub within : Bool → State → Result State Off
within true s = Ok s
within false s = Err (Trap StackFull)

-- an import makes no frame; it takes its arguments when the code has stopped
abbrev pub called : ℕ → Function → Option Body → Frame → State → Result (Option ℕ × State) Off
called x callee None f s = Ok (Some x, record s { frame = f })
called x callee (Some body) f s = on (within (nat_lt (length s.callers) 2047) (entered_function callee body f s))

abbrev pub call_of : ℕ → Option Function → Frame → State → Result (Option ℕ × State) Off
call_of x None f s = Err Stuck
call_of x (Some callee) f s = if nat_lt (length f.operands) (length callee.kind.params) then Err Stuck else called x callee callee.body f s

-- the function that an entry of the table names, if it has this type
abbrev pub of_type : ℕ → FuncType → Option Function → Frame → State → Result (Option ℕ × State) Off
of_type y t None f s = Err Stuck
of_type y t (Some callee) f s = if same_function_type callee.kind t then call_of y (Some callee) f s else Err (Trap IndirectType)

abbrev pub through : Program → Option (Option ℕ) → FuncType → Frame → State → Result (Option ℕ × State) Off
through p None t f s = Err (Trap TableBounds)
through p (Some None) t f s = Err (Trap NullElement)
through p (Some (Some y)) t f s = of_type y t (slice_get p.functions y) f s

-- ---- one instruction

abbrev pub in_frame : State → Result Frame Off → Result State Off
in_frame s (Ok f) = Ok (record s { frame = f })
in_frame s (Err e) = Err e

-- one that opens no block and calls nothing; f is the frame behind it
abbrev pub plain : Instr → Frame → State → Result State Off
plain (Br n) f s = in_frame s (branch n f)
plain (BrIf n) f s = in_frame s (tested f.operands >>= λ p. branch_unless (p.0 == 0) n (record f { operands = p.1 }))
plain (BrTable ns other) f s = in_frame s (tested f.operands >>= λ p. branch (label_of (slice_get ns p.0) other) (record f { operands = p.1 }))
plain Return f s = in_frame s (returned f)
plain (LocalGet x) f s = in_frame s (found (slice_get f.locals x) >>= λ v. Ok (record f { operands = v ∷ f.operands }))
plain (LocalSet x) f s = in_frame s (set_local x f.operands (all_but_first f.operands) f)
plain (LocalTee x) f s = in_frame s (set_local x f.operands f.operands f)
plain i f s = acts i (record { operands = f.operands; world = s.world }) >>= λ d. Ok (record s { frame = record f { operands = d.operands }; world = d.world })

-- one that may call; the answer names the import that it calls, if it calls one
abbrev pub goes : Program → Instr → Frame → State → Result (Option ℕ × State) Off
goes p (Call x) f s = call_of x (slice_get p.functions x) f s
goes p (CallIndirect x) f s = tested f.operands >>= λ o. found (slice_get p.types x) >>= λ t. through p (slice_get p.table o.0) t (record f { operands = o.1 }) s
goes p i f s = on (plain i f s)

-- the first of a sequence
abbrev pub step : Program → Body → Frame → State → Result (Option ℕ × State) Off
step p Done f s = Err Stuck
step p (Goes i q rest) f s = goes p i (record f { body = rest }) s
step p (InBlock r inner rest) f s = Ok (None, record s { frame = entered (is_some r) None inner rest f.operands f })
step p (InLoop r inner rest) f s = Ok (None, record s { frame = entered (is_some r) (Some (r, inner)) inner rest f.operands f })
step p (InIf r inner rest) f s =
    tested f.operands >>= λ o. Ok (None, record s { frame = entered (is_some r) None (if o.0 == 0 then Done else inner) rest o.1 f })
step p (InIfElse r first second rest) f s =
    tested f.operands >>= λ o. Ok (None, record s { frame = entered (is_some r) None (if o.0 == 0 then second else first) rest o.1 f })
