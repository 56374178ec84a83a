-- Instructions that take a test.
use Rattle.std.proofs.Common.{◌≡◌, ℕ, inl, refl, Ok, true, false, Bool, List, [], ◌∷◌, drop, slice_get, ◌==◌, if◌then◌else◌}
use Rattle.wasm_types.specs.declared.values.Value.{Value}
use Rattle.wasm_types.specs.declared.values.Value.TheVariants.{I32, I64}
use Rattle.wasm_types.specs.declared.instructions.Instr.{Instr}
use Rattle.wasm_types.specs.declared.instructions.Instr.TheVariants.{BrIf, BrTable}
use Rattle.wasm_types.specs.Nested.{Body, flat_onto}
use Rattle.wasm_flat.specs.declared.thread.Thread.{Thread}
use Rattle.wasm_meaning.specs.Steps.{◌>>=◌}
use Rattle.wasm_meaning.specs.Frames.{Program, State}
use Rattle.wasm_meaning.specs.Meaning.{in_frame, tested, label_of, set_local, entered, on}
use Rattle.wasm_meaning.specs.Meaning as meaning
use Rattle.wasm_flat.specs.Flat.{beyond, with_operands, opened}
use Rattle.wasm_flat.specs.Flat as flat
use Rattle.wasm_machine.specs.Standing.{IsAt, piled}
use Rattle.wasm_machine.proofs.Passing.{with_top, passed_at, topped_at, top_is}
use Rattle.wasm_machine.proofs.Agreement.{Agrees}
use Rattle.wasm_machine.proofs.Branching.{branch_agrees}

-- the thread and the state when the test was taken
abbrev pub left_top : (program : Program) (t : Thread) (s : State) → IsAt program t s → List Value → Thread
left_top program t s a vs = with_operands t (piled vs s.frame.labels a.below)

abbrev pub untested : (program : Program) (t : Thread) (s : State) (a : IsAt program t s) (vs : List Value) → IsAt program (left_top program t s a vs) (with_top s vs)
untested program t s a vs = topped_at program t s a vs (piled vs s.frame.labels a.below) refl

chosen_branch : (program : Program) (t : Thread) (s : State) (rest : Body) (i : Instr) (a : IsAt program t s) → drop t.place t.code.now ≡ i ∷ flat_onto rest a.frame.behind
    → (n : ℕ) (vs : List Value) (b : Bool)
    → Agrees program (if b then Ok (beyond (left_top program t s a vs)) else flat.branch n (beyond (left_top program t s a vs))) (in_frame s (meaning.branch_unless b n (record s.frame { body = rest; operands = vs })))
chosen_branch program t s rest i a at n vs true = (beyond (left_top program t s a vs), refl, passed_at program (left_top program t s a vs) (with_top s vs) i rest (untested program t s a vs) at)
chosen_branch program t s rest i a at n vs false = branch_agrees program (left_top program t s a vs) (with_top s vs) rest (untested program t s a vs) n

tested_branch : (program : Program) (t : Thread) (s : State) (rest : Body) (i : Instr) (a : IsAt program t s) → drop t.place t.code.now ≡ i ∷ flat_onto rest a.frame.behind
    → (n : ℕ) (vs : List Value) → s.frame.operands ≡ vs
    → Agrees program (flat.branch_if n (beyond t)) (in_frame s (tested vs >>= λ p. meaning.branch_unless ((p.0 == 0)) n (record s.frame { body = rest; operands = p.1 })))
tested_branch program t s rest i a at n [] e = inl refl
tested_branch program t s rest i a at n (I64 k ∷ vs) e = inl refl
tested_branch program t s rest i a at n (I32 k ∷ vs) e = rw (top_is program t s a (I32 k) vs e) (chosen_branch program t s rest i a at n vs ((k == 0)))

pub branch_if_agrees : (program : Program) (t : Thread) (s : State) (rest : Body) (n : ℕ) (a : IsAt program t s) → drop t.place t.code.now ≡ BrIf n ∷ flat_onto rest a.frame.behind
    → Agrees program (flat.step (BrIf n) t.place (beyond t)) (meaning.plain (BrIf n) (record s.frame { body = rest }) s)
branch_if_agrees program t s rest n a at = tested_branch program t s rest (BrIf n) a at n s.frame.operands refl

table_branch : (program : Program) (t : Thread) (s : State) (rest : Body) (a : IsAt program t s) (ns : List ℕ) (other : ℕ) (vs : List Value) → s.frame.operands ≡ vs
    → Agrees program (flat.branch_table ns other (beyond t)) (in_frame s (tested vs >>= λ p. meaning.branch (label_of (slice_get ns p.0) other) (record s.frame { body = rest; operands = p.1 })))
table_branch program t s rest a ns other [] e = inl refl
table_branch program t s rest a ns other (I64 k ∷ vs) e = inl refl
table_branch program t s rest a ns other (I32 k ∷ vs) e =
    rw (top_is program t s a (I32 k) vs e) (branch_agrees program (left_top program t s a vs) (with_top s vs) rest (untested program t s a vs) (label_of (slice_get ns k) other))

pub branch_table_agrees : (program : Program) (t : Thread) (s : State) (rest : Body) (ns : List ℕ) (other : ℕ) (a : IsAt program t s)
    → Agrees program (flat.step (BrTable ns other) t.place (beyond t)) (meaning.plain (BrTable ns other) (record s.frame { body = rest }) s)
branch_table_agrees program t s rest ns other a = table_branch program t s rest a ns other s.frame.operands refl
