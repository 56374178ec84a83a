-- The machine's own steps, on flat code with marks for the open blocks. No public contract above this crate cites them.
use Rattle.std.specs.Prelude.{ℕ, ◌+◌, ◌-◌, ◌==◌, nat_lt, Bool, true, false, ◌&&◌, if◌then◌else◌, Option, Some, None, Result, Ok, Err, List, [], ◌∷◌, ◌++◌, length, take, drop, reverse, map, slice_get}
use Rattle.std.specs.Option.{is_some}
use Rattle.stacks.specs.Tops.{first_set, head_of, tail_of}
use Rattle.wasm_types.specs.declared.types.ValueType.{ValueType}
use Rattle.wasm_types.specs.declared.types.FuncType.{FuncType}
use Rattle.wasm_types.specs.declared.values.Value.{Value}
use Rattle.wasm_types.specs.declared.values.Value.TheVariants.{I32}
use Rattle.wasm_types.specs.declared.values.TrapKind.TheVariants.{StackFull, TableBounds, NullElement, IndirectType}
use Rattle.wasm_types.specs.declared.instructions.Instr.{Instr}
use Rattle.wasm_types.specs.declared.instructions.Instr.TheVariants.{Block, Loop, If, Else, End, Br, BrIf, BrTable, Return, Call, CallIndirect, LocalGet, LocalSet, LocalTee}
use Rattle.wasm_meaning.specs.declared.off.Off.{Off}
use Rattle.wasm_meaning.specs.declared.off.Off.TheVariants.{Stuck, Trap}
use Rattle.wasm_meaning.specs.Steps.{◌>>=◌, found}
use Rattle.wasm_meaning.specs.Kinds.{same_function_type, zero_of}
use Rattle.wasm_meaning.specs.Acts.{acts, set_at, pop32}
use Rattle.wasm_meaning.specs.Meaning.{label_of}
use Rattle.wasm_flat.specs.declared.thread.Mark.{Mark}
use Rattle.wasm_flat.specs.declared.thread.Frame.{Frame}
use Rattle.wasm_flat.specs.declared.thread.Callee.{Callee}
use Rattle.wasm_flat.specs.declared.thread.Thread.{Thread}
use Rattle.wasm_flat.specs.declared.halt.Next.{Next}
use Rattle.wasm_flat.specs.declared.halt.Next.TheVariants.{On, Import, Over, Dry}
use Rattle.wasm_flat.specs.declared.step.Item.{Item}
use Rattle.wasm_flat.specs.declared.step.Item.TheVariants.{Ends, Parts, Goes}

-- one more where it holds
abbrev pub bit : Bool → ℕ
bit true = 1
bit false = 0

-- a step that only goes on
abbrev pub onward : {A : Type 0} → Result A Off → Result (Next × A) Off
onward (Ok t) = Ok (On, t)
onward (Err e) = Err e

-- the operands that a branch leaves: those round the block, and one on top where it keeps one
abbrev pub cut_to : ℕ → List Value → List Value
cut_to height vs = drop (length vs - height) vs

abbrev pub cut : Bool → ℕ → List Value → Result (List Value) Off
cut false height vs = Ok (cut_to height vs)
cut true height [] = Err Stuck
cut true height (v ∷ vs) = Ok (v ∷ cut_to height vs)

abbrev pub with_operands : Thread → List Value → Thread
with_operands t vs = record t { desk = record t.desk { operands = vs } }

abbrev pub cut_in : Bool → ℕ → Thread → Result Thread Off
cut_in keeps height t = cut keeps height t.desk.operands >>= λ vs. Ok (with_operands t vs)

abbrev pub opened : Bool → ℕ → Bool → Thread → Thread
opened looping target keeps t = record t { marks = record { looping = looping; target = target; height = length t.desk.operands; keeps = keeps } ∷ t.marks }

abbrev pub exit_at : ℕ → Thread → Result ℕ Off
exit_at here t = found (slice_get t.exits.now here)

abbrev pub is_else : Option Instr → Bool
is_else (Some Else) = true
is_else i = false

-- the place of a block's end, from that of the end or the else that follows its beginning
abbrev pub end_from : Bool → ℕ → Thread → Result ℕ Off
end_from true exit t = exit_at exit t
end_from false exit t = Ok exit

-- behind the else, or at the end
abbrev pub if_place : Bool → Bool → ℕ → ℕ → ℕ
if_place false parts exit next = next
if_place true true exit next = exit + 1
if_place true false exit next = exit

abbrev pub block : Option ValueType → ℕ → Thread → Result Thread Off
block r here t = exit_at here t >>= λ exit. Ok (opened false exit (is_some r) t)

abbrev pub if_block : Option ValueType → ℕ → Thread → Result Thread Off
if_block r here t =
    exit_at here t >>= λ exit. end_from (is_else (slice_get t.code.now exit)) exit t >>= λ end. pop32 t.desk >>= λ p.
    Ok (record (opened false end (is_some r) (record t { desk = p.1 })) { place = if_place (p.0 == 0) (is_else (slice_get t.code.now exit) && nat_lt exit (length t.code.now)) exit t.place })

abbrev pub parted_at : Option Mark → Thread → Result Thread Off
parted_at None t = Err Stuck
parted_at (Some m) t = if nat_lt m.target (length t.code.now) then Ok (record t { place = m.target + 1; marks = tail_of t.marks }) else Err Stuck

-- the blocks of the function that are open
abbrev pub own : Thread → ℕ
own t = length t.marks - t.floor

abbrev pub give_back : Thread → Result Thread Off
give_back t = cut t.keeps t.height t.desk.operands >>= λ vs. Ok (record (with_operands t vs) { place = length t.code.now - 1; marks = drop (own t) t.marks })

abbrev pub to_mark : ℕ → Mark → Thread → Result Thread Off
to_mark n m t = cut m.keeps m.height t.desk.operands >>= λ vs. Ok (record (with_operands t vs) { place = m.target; marks = drop (n + bit m.looping) t.marks })

abbrev pub branch : ℕ → Thread → Result Thread Off
branch n t =
    if nat_lt n (own t) then (found (slice_get t.marks n) >>= λ m. to_mark n m t)
    else (if n == own t then give_back t else Err Stuck)

abbrev pub branch_if : ℕ → Thread → Result Thread Off
branch_if n t = pop32 t.desk >>= λ p. if p.0 == 0 then Ok (record t { desk = p.1 }) else branch n (record t { desk = p.1 })

abbrev pub branch_table : List ℕ → ℕ → Thread → Result Thread Off
branch_table ns other t = pop32 t.desk >>= λ p. branch (label_of (slice_get ns p.0) other) (record t { desk = p.1 })

-- ---- locals

abbrev pub local_get : ℕ → Thread → Result Thread Off
local_get x t =
    if nat_lt x (length t.locals - t.base) then (found (slice_get t.locals (t.base + x)) >>= λ v. Ok (with_operands t (v ∷ t.desk.operands))) else Err Stuck

abbrev pub put_local : ℕ → Value → Thread → Result Thread Off
put_local x v t = if nat_lt x (length t.locals - t.base) then (set_at (t.base + x) v t.locals >>= λ vs. Ok (record t { locals = vs })) else Err Stuck

abbrev pub local_set : ℕ → Thread → Result Thread Off
local_set x t = found (head_of t.desk.operands) >>= λ v. put_local x v (with_operands t (tail_of t.desk.operands))

abbrev pub local_tee : ℕ → Thread → Result Thread Off
local_tee x t = found (head_of t.desk.operands) >>= λ v. put_local x v t

-- ---- calls

abbrev pub waiting : Thread → Frame
waiting t = record { function = t.function; place = t.place; floor = t.floor; base = t.base; height = t.height; keeps = t.keeps }

abbrev pub left_to : Frame → Thread → Result Thread Off
left_to f t = found (slice_get t.callees.now f.function) >>= λ c. Ok (record t {
  locals = take t.base t.locals;
  code = c.code;
  exits = c.exits;
  function = f.function;
  place = f.place;
  floor = f.floor;
  base = f.base;
  height = f.height;
  keeps = f.keeps;
})

abbrev pub caller_of : Option Frame → Thread → Result (Next × Thread) Off
caller_of None t = Ok (Over, t)
caller_of (Some f) t = onward (left_to f t)

abbrev pub leave : Thread → Result (Next × Thread) Off
leave t = caller_of (head_of t.frames) (record t { frames = tail_of t.frames })

abbrev pub end : ℕ → Thread → Result (Next × Thread) Off
end behind t = if nat_lt t.floor (length t.marks) then Ok (On, record t { place = behind; marks = tail_of t.marks }) else leave t

abbrev pub entered : ℕ → Callee → Thread → Thread
entered x c t = record t {
  desk = record t.desk { operands = drop (length c.kind.now.params) t.desk.operands };
  locals = t.locals ++ (reverse (take (length c.kind.now.params) t.desk.operands) ++ map zero_of c.locals.now);
  code = c.code;
  exits = c.exits;
  function = x;
  place = 0;
  floor = length t.marks;
  base = length t.locals;
  height = length t.desk.operands - length c.kind.now.params;
  keeps = is_some c.kind.now.result;
  frames = waiting t ∷ t.frames;
}

abbrev pub called : ℕ → Callee → Thread → Result (Next × Thread) Off
called x c t = if c.defined then (if nat_lt (length t.frames) 2047 then Ok (On, entered x c t) else Err (Trap StackFull)) else Ok (Import x, t)

abbrev pub call_to : ℕ → Option Callee → Thread → Result (Next × Thread) Off
call_to x None t = Err Stuck
call_to x (Some c) t = if nat_lt (length t.desk.operands) (length c.kind.now.params) then Err Stuck else called x c t

abbrev pub call : ℕ → Thread → Result (Next × Thread) Off
call x t = call_to x (slice_get t.callees.now x) t

abbrev pub of_type : ℕ → FuncType → Option Callee → Thread → Result (Next × Thread) Off
of_type y k None t = Err Stuck
of_type y k (Some c) t = if same_function_type c.kind.now k then call y t else Err (Trap IndirectType)

abbrev pub through : Option (Option ℕ) → FuncType → Thread → Result (Next × Thread) Off
through None k t = Err (Trap TableBounds)
through (Some None) k t = Err (Trap NullElement)
through (Some (Some y)) k t = of_type y k (slice_get t.callees.now y) t

abbrev pub call_indirect : ℕ → Thread → Result (Next × Thread) Off
call_indirect x t = pop32 t.desk >>= λ p. found (slice_get t.types.now x) >>= λ k. through (slice_get t.table.now p.0) k (record t { desk = p.1 })

-- ---- calls of imports

-- a place for the answer
abbrev pub awaiting : Bool → Thread → Thread
awaiting true t = with_operands t (I32 0 ∷ t.desk.operands)
awaiting false t = t

abbrev pub taken_from : ℕ → Thread → List Value × Thread
taken_from n t = (reverse (take n t.desk.operands), with_operands t (drop n t.desk.operands))

abbrev pub suspended : Option Callee → Thread → Result (List Value × Thread) Off
suspended None t = Err Stuck
suspended (Some c) t =
    if nat_lt (length t.desk.operands) (length c.kind.now.params) then Err Stuck
    else Ok ((taken_from (length c.kind.now.params) t).0, awaiting (is_some c.kind.now.result) (taken_from (length c.kind.now.params) t).1)

-- the answer in its place
abbrev pub filled : Option Value → Thread → Thread
filled None t = t
filled (Some v) t = with_operands t (first_set v t.desk.operands)

-- ---- the beginning

abbrev pub started : Option Callee → ℕ → Thread → Result Thread Off
started None x t = Err Stuck
started (Some c) x t = Ok (record t {
  desk = record t.desk { operands = [] };
  marks = [];
  frames = [];
  locals = map zero_of c.locals.now;
  code = c.code;
  exits = c.exits;
  function = x;
  place = 0;
  floor = 0;
  base = 0;
  height = 0;
  keeps = is_some c.kind.now.result;
})

-- an instruction; the thread's place is the one behind it
abbrev pub step : Instr → ℕ → Thread → Result Thread Off
step (Block r) here t = block r here t
step (Loop r) here t = Ok (opened true here false t)
step (If r) here t = if_block r here t
step (Br n) here t = branch n t
step (BrIf n) here t = branch_if n t
step Return here t = give_back t
step (BrTable ns other) here t = branch_table ns other t
step (LocalGet x) here t = local_get x t
step (LocalSet x) here t = local_set x t
step (LocalTee x) here t = local_tee x t
step i here t = acts i t.desk >>= λ d. Ok (record t { desk = d })

abbrev pub goes : Instr → ℕ → Thread → Result (Next × Thread) Off
goes (Call x) here t = call x t
goes (CallIndirect x) here t = call_indirect x t
goes i here t = onward (step i here t)

-- ---- what stands at the thread's place

abbrev pub beyond : Thread → Thread
beyond t = record t { place = t.place + 1 }

-- an end, an else, or an instruction
abbrev pub item_of : Instr → Item
item_of End = Ends
item_of Else = Parts
item_of i = Goes

abbrev pub advanced_by : Item → Instr → ℕ → Thread → Result (Next × Thread) Off
advanced_by Ends i left t = end (t.place + 1) t
advanced_by Parts i left t = onward (parted_at (head_of t.marks) t)
advanced_by Goes i left t = if left == 0 then Ok (Dry, t) else goes i t.place (beyond t)

abbrev pub advanced_at : Option Instr → ℕ → Thread → Result (Next × Thread) Off
advanced_at None left t = Err Stuck
advanced_at (Some i) left t = advanced_by (item_of i) i left t

abbrev pub advanced : ℕ → Thread → Result (Next × Thread) Off
advanced left t = advanced_at (slice_get t.code.now t.place) left t

-- an instruction takes a unit
abbrev pub spent_by : Item → ℕ → ℕ
spent_by Ends left = left
spent_by Parts left = left
spent_by Goes left = left - 1

abbrev pub spent_at : Option Instr → ℕ → ℕ
spent_at None left = left
spent_at (Some i) left = spent_by (item_of i) left

abbrev pub spent : ℕ → Thread → ℕ
spent left t = spent_at (slice_get t.code.now t.place) left
