-- Calls, and calls through the table.
use Rattle.std.proofs.Common.{◌≡◌, ℕ, ◌+◌, ◌≤◌, ◌⊎◌, inl, inr, refl, ap, subst, ◌∙◌, Ok, Err, Some, None, true, false, Bool, Option, List, [], ◌∷◌, length, drop, slice_get, nat_lt, if◌then◌else◌, Result, arith}
use Rattle.std.proofs.lemmas.Bool.{le-ltb, ltb-false}
use Rattle.wasm_types.specs.declared.types.FuncType.{FuncType}
use Rattle.wasm_types.specs.declared.values.Value.{Value}
use Rattle.wasm_types.specs.declared.values.TrapKind.TheVariants.{StackFull, IndirectType}
use Rattle.wasm_types.specs.declared.values.Value.TheVariants.{I32, I64}
use Rattle.wasm_types.specs.declared.instructions.Instr.{Instr}
use Rattle.wasm_types.specs.declared.instructions.Instr.TheVariants.{CallIndirect}
use Rattle.wasm_types.specs.Nested.{Body, flat_onto}
use Rattle.wasm_flat.specs.declared.thread.Mark.{Mark}
use Rattle.wasm_flat.specs.declared.thread.Callee.{Callee}
use Rattle.wasm_flat.specs.declared.thread.Thread.{Thread}
use Rattle.wasm_meaning.specs.declared.off.Off.{Off}
use Rattle.wasm_meaning.specs.declared.off.Off.TheVariants.{Stuck, Trap}
use Rattle.wasm_meaning.specs.Steps.{◌>>=◌, found}
use Rattle.wasm_meaning.specs.Frames.{Program, Function, Frame, State}
use Rattle.wasm_meaning.specs.Meaning.{in_frame, tested, label_of, set_local, entered, on}
use Rattle.wasm_meaning.specs.Meaning as meaning
use Rattle.wasm_flat.specs.Flat.{beyond, with_operands, opened, onward}
use Rattle.wasm_flat.specs.declared.halt.Next.{Next}
use Rattle.wasm_flat.specs.declared.halt.Next.TheVariants.{On, Import}
use Rattle.wasm_flat.specs.Flat as flat
use Rattle.wasm_machine.specs.Standing.{IsAt, piled}
use Rattle.wasm_machine.proofs.Passing.{with_top, passed_at, top_is}
use Rattle.wasm_machine.proofs.Agreement.{Agrees}
use Rattle.std.proofs.lemmas.List.{length-append}
use Rattle.wasm_flat.specs.declared.thread.Frame.{Frame as Waiting}
use Rattle.wasm_meaning.specs.Kinds.{same_function_type}
use Rattle.wasm_machine.specs.Standing.{IsFunction, HasBody, Waits}
use Rattle.wasm_machine.proofs.Places.{piled_split}
use Rattle.wasm_machine.proofs.Calling.{function_at, entered_at}
use Rattle.wasm_machine.proofs.Testing.{left_top, untested}

-- an import that is called has its arguments
abbrev pub Ready : Program → ℕ → State → Type 0
Ready program x s = (f : Function) × (slice_get program.functions x ≡ Some f) × (length f.kind.params ≤ length s.frame.operands)

-- the machine goes where the meaning goes, calls the import that it calls, and stops as it does
abbrev pub StepsAgree : Program → Result (Next × Thread) Off → Result (Option ℕ × State) Off → Type 0
StepsAgree program flat (Ok (None, s)) = (t : Thread) × (flat ≡ Ok (On, t)) × IsAt program t s
StepsAgree program flat (Ok (Some x, s)) = (t : Thread) × (flat ≡ Ok (Import x, t)) × IsAt program t s × Ready program x s
StepsAgree program flat (Err e) = (e ≡ Stuck) ⊎ (flat ≡ Err e)

pub lifted : (program : Program) (flat : Result Thread Off) (r : Result State Off) → Agrees program flat r → StepsAgree program (onward flat) (on r)
lifted program flat (Ok s) (t, e, a) = (t, ap onward e, a)
lifted program flat (Err e) (inl h) = inl h
lifted program flat (Err e) (inr h) = inr (ap onward h)

waits_count : (callees : List Callee) (cs : List Frame) (ws : List Waiting) (operands : List Value) (marks : List Mark) (locals : List Value) → Waits callees cs ws operands marks locals → length ws ≡ length cs
waits_count callees [] ws operands marks locals w = ap length w.0
waits_count callees (c ∷ cs) ws operands marks locals w = let n : length w.1 ≡ length cs = waits_count callees cs w.1 w.3 w.4 w.5 w.9 in omega (arith, ap length w.6)

entered_within : (program : Program) (t : Thread) (s : State) (i : Instr) (x : ℕ) (rest : Body) (c : Callee) (f : Function) (body : Body) (a : IsAt program t s) (b : Bool)
    → drop t.place t.code.now ≡ i ∷ flat_onto rest a.frame.behind
    → slice_get t.callees.now x ≡ Some c → IsFunction c f → HasBody (Some body) c → length f.kind.params ≤ length s.frame.operands
    → StepsAgree program (if b then Ok (On, flat.entered x c (beyond t)) else Err (Trap StackFull)) (on (meaning.within b (meaning.entered_function f body (record s.frame { body = rest }) s)))
entered_within program t s i x rest c f body a true at found is has enough = (flat.entered x c (beyond t), refl, entered_at program t s i x rest c f body a at found is has enough)
entered_within program t s i x rest c f body a false at found is has enough = inr refl

called_agrees : (program : Program) (t : Thread) (s : State) (i : Instr) (x : ℕ) (rest : Body) (c : Callee) (f : Function) (a : IsAt program t s) (o : Option Body)
    → drop t.place t.code.now ≡ i ∷ flat_onto rest a.frame.behind
    → slice_get program.functions x ≡ Some f → slice_get t.callees.now x ≡ Some c → IsFunction c f → HasBody o c → length f.kind.params ≤ length s.frame.operands
    → StepsAgree program (flat.called x c (beyond t)) (meaning.called x f o (record s.frame { body = rest }) s)
called_agrees program t s i x rest c f a None at known found is has enough = rw has (beyond t, refl, passed_at program t s i rest a at, (f, known, enough))
called_agrees program t s i x rest c f a (Some body) at known found is has enough =
    let count : length t.frames ≡ length s.callers = waits_count t.callees.now s.callers t.frames a.below a.outer a.lower a.callers in
    let test : nat_lt (length t.frames) 2047 ≡ nat_lt (length s.callers) 2047 = ap (λ n. nat_lt n 2047) count in
    rw (has.0, test) (entered_within program t s i x rest c f body a (nat_lt (length s.callers) 2047) at found is has enough)

enough_called : (program : Program) (t : Thread) (s : State) (i : Instr) (x : ℕ) (rest : Body) (c : Callee) (f : Function) (a : IsAt program t s) (b : Bool) → nat_lt (length s.frame.operands) (length f.kind.params) ≡ b
    → drop t.place t.code.now ≡ i ∷ flat_onto rest a.frame.behind
    → slice_get program.functions x ≡ Some f → slice_get t.callees.now x ≡ Some c → IsFunction c f
    → StepsAgree program (flat.call_to x (Some c) (beyond t)) (if b then Err Stuck else meaning.called x f f.body (record s.frame { body = rest }) s)
enough_called program t s i x rest c f a true e at known found is = inl refl
enough_called program t s i x rest c f a false e at known found is =
    let enough : length f.kind.params ≤ length s.frame.operands = ltb-false (length s.frame.operands) (length f.kind.params) e in
    let all : length t.desk.operands ≡ length s.frame.operands + length (piled [] s.frame.labels a.below) =
    ap length (a.frame.operands_are ∙ piled_split s.frame.operands s.frame.labels a.below) ∙ length-append s.frame.operands (piled [] s.frame.labels a.below) in
    let same : length c.kind.now.params ≡ length f.kind.params = ap (λ k. length k.params) is.kind in
    let test : nat_lt (length t.desk.operands) (length c.kind.now.params) ≡ false = le-ltb (length t.desk.operands) (length c.kind.now.params) (omega arith) in
    rw test (called_agrees program t s i x rest c f a f.body at known found is is.body enough)

known_called : (program : Program) (t : Thread) (s : State) (i : Instr) (x : ℕ) (rest : Body) (a : IsAt program t s) (o : Option Function) → slice_get program.functions x ≡ o
    → drop t.place t.code.now ≡ i ∷ flat_onto rest a.frame.behind
    → StepsAgree program (flat.call x (beyond t)) (meaning.call_of x o (record s.frame { body = rest }) s)
known_called program t s i x rest a None e at = inl refl
known_called program t s i x rest a (Some f) e at =
    let c = function_at x t.callees.now program.functions f a.functions e in
    rw (c.1) (enough_called program t s i x rest c.0 f a (nat_lt (length s.frame.operands) (length f.kind.params)) refl at e c.1 c.2)

pub call_agrees : (program : Program) (t : Thread) (s : State) (i : Instr) (x : ℕ) (rest : Body) (a : IsAt program t s) → drop t.place t.code.now ≡ i ∷ flat_onto rest a.frame.behind
    → StepsAgree program (flat.call x (beyond t)) (meaning.call_of x (slice_get program.functions x) (record s.frame { body = rest }) s)
call_agrees program t s i x rest a at = known_called program t s i x rest a (slice_get program.functions x) refl at

-- ---- through the table

typed_call : (program : Program) (t : Thread) (s : State) (i : Instr) (y : ℕ) (k : FuncType) (rest : Body) (a : IsAt program t s) (c : Callee) (f : Function) (b : Bool)
    → drop t.place t.code.now ≡ i ∷ flat_onto rest a.frame.behind → slice_get program.functions y ≡ Some f
    → StepsAgree program (if b then flat.call y (beyond t) else Err (Trap IndirectType)) (if b then meaning.call_of y (Some f) (record s.frame { body = rest }) s else Err (Trap IndirectType))
typed_call program t s i y k rest a c f true at e = known_called program t s i y rest a (Some f) e at
typed_call program t s i y k rest a c f false at e = inr refl

of_type_agrees : (program : Program) (t : Thread) (s : State) (i : Instr) (y : ℕ) (k : FuncType) (rest : Body) (a : IsAt program t s) (o : Option Function) → slice_get program.functions y ≡ o
    → drop t.place t.code.now ≡ i ∷ flat_onto rest a.frame.behind
    → StepsAgree program (flat.of_type y k (slice_get t.callees.now y) (beyond t)) (meaning.of_type y k o (record s.frame { body = rest }) s)
of_type_agrees program t s i y k rest a None e at = inl refl
of_type_agrees program t s i y k rest a (Some f) e at =
    let c = function_at y t.callees.now program.functions f a.functions e in
    let same : same_function_type c.0.kind.now k ≡ same_function_type f.kind k = ap (λ g. same_function_type g k) c.2.kind in
    let known : flat.of_type y k (slice_get t.callees.now y) (beyond t) ≡ flat.of_type y k (Some c.0) (beyond t) = ap (λ o. flat.of_type y k o (beyond t)) c.1 in
    rw (known, same) (typed_call program t s i y k rest a c.0 f (same_function_type f.kind k) at e)

through_agrees : (program : Program) (t : Thread) (s : State) (i : Instr) (k : FuncType) (rest : Body) (a : IsAt program t s) (o : Option (Option ℕ))
    → drop t.place t.code.now ≡ i ∷ flat_onto rest a.frame.behind
    → StepsAgree program (flat.through o k (beyond t)) (meaning.through program o k (record s.frame { body = rest }) s)
through_agrees program t s i k rest a None at = inr refl
through_agrees program t s i k rest a (Some None) at = inr refl
through_agrees program t s i k rest a (Some (Some y)) at = of_type_agrees program t s i y k rest a (slice_get program.functions y) refl at

-- a call reads the frame that it is given, and not that of the state
same_called : (x : ℕ) (c : Function) (o : Option Body) (f g : Frame) (s : State) → meaning.called x c o f s ≡ meaning.called x c o f (record s { frame = g })
same_called x c None f g s = refl
same_called x c (Some body) f g s = refl

same_call : (x : ℕ) (o : Option Function) (f g : Frame) (s : State) → meaning.call_of x o f s ≡ meaning.call_of x o f (record s { frame = g })
same_call x None f g s = refl
same_call x (Some c) f g s = ap (λ r. if nat_lt (length f.operands) (length c.kind.params) then Err Stuck else r) (same_called x c c.body f g s)

same_of_type : (y : ℕ) (k : FuncType) (o : Option Function) (f g : Frame) (s : State) → meaning.of_type y k o f s ≡ meaning.of_type y k o f (record s { frame = g })
same_of_type y k None f g s = refl
same_of_type y k (Some c) f g s = ap (λ r. if same_function_type c.kind k then r else Err (Trap IndirectType)) (same_call y (Some c) f g s)

same_through : (program : Program) (o : Option (Option ℕ)) (k : FuncType) (f g : Frame) (s : State) → meaning.through program o k f s ≡ meaning.through program o k f (record s { frame = g })
same_through program None k f g s = refl
same_through program (Some None) k f g s = refl
same_through program (Some (Some y)) k f g s = same_of_type y k (slice_get program.functions y) f g s

typed_through : (program : Program) (t : Thread) (s : State) (g : Frame) (i : Instr) (n : ℕ) (rest : Body) (a : IsAt program t s) (o : Option FuncType)
    → drop t.place t.code.now ≡ i ∷ flat_onto rest a.frame.behind
    → StepsAgree program (found o >>= λ k. flat.through (slice_get program.table n) k (beyond t)) (found o >>= λ k. meaning.through program (slice_get program.table n) k (record s.frame { body = rest }) (record s { frame = g }))
typed_through program t s g i n rest a None at = inl refl
typed_through program t s g i n rest a (Some k) at =
    let Q : Result (Option ℕ × State) Off → Type 0 = λ r. StepsAgree program (flat.through (slice_get program.table n) k (beyond t)) r in
    subst Q (same_through program (slice_get program.table n) k (record s.frame { body = rest }) g s) (through_agrees program t s i k rest a (slice_get program.table n) at)

indirect : (program : Program) (t : Thread) (s : State) (i : Instr) (x : ℕ) (rest : Body) (a : IsAt program t s) → drop t.place t.code.now ≡ i ∷ flat_onto rest a.frame.behind
    → (vs : List Value) → s.frame.operands ≡ vs
    → StepsAgree program (flat.call_indirect x (beyond t)) (tested vs >>= λ o. found (slice_get program.types x) >>= λ k. meaning.through program (slice_get program.table o.0) k (record s.frame { body = rest; operands = o.1 }) s)
indirect program t s i x rest a at [] e = inl refl
indirect program t s i x rest a at (I64 n ∷ vs) e = inl refl
indirect program t s i x rest a at (I32 n ∷ vs) e =
    let kind : slice_get t.types.now x ≡ slice_get program.types x = ap (λ ts. slice_get ts x) a.types in
    let element : slice_get t.table.now n ≡ slice_get program.table n = ap (λ ts. slice_get ts n) a.table in
    rw (top_is program t s a (I32 n) vs e, kind, element) (typed_through program (left_top program t s a vs) (with_top s vs) s.frame i n rest (untested program t s a vs) (slice_get program.types x) at)

pub call_indirect_agrees : (program : Program) (t : Thread) (s : State) (i : Instr) (x : ℕ) (rest : Body) (a : IsAt program t s) → drop t.place t.code.now ≡ i ∷ flat_onto rest a.frame.behind
    → StepsAgree program (flat.goes (CallIndirect x) t.place (beyond t)) (meaning.goes program (CallIndirect x) (record s.frame { body = rest }) s)
call_indirect_agrees program t s i x rest a at = indirect program t s i x rest a at s.frame.operands refl
