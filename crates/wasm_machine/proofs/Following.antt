-- What the machine meets next is what the meaning goes on with.
use Rattle.std.proofs.Common.{◌≡◌, ℕ, zero, suc, ◌+◌, ◌-◌, ◌≤◌, ◌⊎◌, inl, inr, refl, ap, ◌∙◌, Ok, Err, Some, None, true, false, Bool, Option, List, [], ◌∷◌, ◌++◌, length, drop, slice_get, nat_lt, ◌==◌, if◌then◌else◌, Result, arith}
use Rattle.std.specs.Option.{is_some}
use Rattle.std.proofs.lemmas.Bool.{le-ltb}
use Rattle.wasm_types.specs.declared.types.ValueType.{ValueType}
use Rattle.wasm_types.specs.declared.values.Value.{Value}
use Rattle.wasm_types.specs.declared.values.TrapKind.{TrapKind}
use Rattle.wasm_types.specs.declared.instructions.Instr.{Instr}
use Rattle.wasm_types.specs.declared.instructions.Instr.TheVariants.{Block, Loop, If, Else, End, Br, BrIf, BrTable, Return, Call, CallIndirect, LocalGet, LocalSet, LocalTee}
use Rattle.wasm_types.specs.Nested.{Body, Done, Goes, InBlock, InLoop, InIf, InIfElse, flat_onto, role_of, Plain}
use Rattle.wasm_flat.specs.declared.thread.Mark.{Mark}
use Rattle.wasm_flat.specs.declared.thread.Thread.{Thread}
use Rattle.wasm_meaning.specs.declared.off.Off.{Off}
use Rattle.wasm_meaning.specs.declared.off.Off.TheVariants.{Stuck, Trap}
use Rattle.stacks.specs.Tops.{head_of}
use Rattle.wasm_meaning.specs.Steps.{◌>>=◌}
use Rattle.wasm_meaning.specs.Frames.{Program, Frame, Label, State}
use Rattle.wasm_meaning.specs.Meaning.{in_frame, tested, label_of, set_local, entered, on}
use Rattle.wasm_meaning.specs.Meaning as meaning
use Rattle.wasm_meaning.specs.Runs as running
use Rattle.wasm_flat.specs.Flat.{beyond, with_operands, opened}
use Rattle.wasm_flat.specs.Flat as flat
use Rattle.wasm_machine.specs.Standing.{IsAt, AreOpen, LeadsTo, Closes}
use Rattle.wasm_machine.proofs.Places.{stands}
use Rattle.wasm_machine.proofs.Agreement.{Agrees, Returns}
use Rattle.std.proofs.lemmas.Bool.{eqb-true}
use Rattle.wasm_flat.specs.declared.step.Item.TheVariants as items
use Rattle.wasm_meaning.specs.World.{World}
use Rattle.wasm_meaning.specs.Runs.{Ended, OutOfFuel, Returned, runs, next, standing, settled, settled_in, back, is_done, gone, suspended, params_of}
use Rattle.wasm_machine.specs.Running.{IsStuck, Tells}
use Rattle.wasm_machine.specs.declared.running.Stop.TheVariants as stops
use Rattle.wasm_flat.specs.declared.halt.Next.{Next}
use Rattle.wasm_flat.specs.declared.halt.Next.TheVariants.{On, Import, Over, Dry}
use Rattle.wasm_machine.proofs.Agreement.{acts_agree, block_agrees, loop_agrees}
use Rattle.wasm_machine.proofs.Branching.{branch_agrees, return_out_agrees}
use Rattle.wasm_machine.proofs.Testing.{branch_if_agrees, branch_table_agrees}
use Rattle.wasm_machine.proofs.Localing.{local_get_agrees, local_set_agrees, local_tee_agrees}
use Rattle.wasm_machine.proofs.Parting.{part_agrees, if_agrees, if_else_agrees}
use Rattle.wasm_machine.proofs.Endings.{at_end, after_end, end_agrees}
use Rattle.wasm_machine.proofs.Returning.{at_return, after_return, return_agrees}
use Rattle.wasm_machine.proofs.Going.{Ready, StepsAgree, lifted, call_agrees, call_indirect_agrees}

-- ---- one instruction

plain_agrees : (program : Program) (t : Thread) (s : State) (i : Instr) (rest : Body) (a : IsAt program t s) → role_of i ≡ Plain → drop t.place t.code.now ≡ i ∷ flat_onto rest a.frame.behind
    → Agrees program (flat.step i t.place (beyond t)) (meaning.plain i (record s.frame { body = rest }) s)
plain_agrees program t s (Block r) rest a q at = absurd cc
plain_agrees program t s (Loop r) rest a q at = absurd cc
plain_agrees program t s (If r) rest a q at = absurd cc
plain_agrees program t s (Br n) rest a q at = branch_agrees program t s rest a n
plain_agrees program t s (BrIf n) rest a q at = branch_if_agrees program t s rest n a at
plain_agrees program t s (BrTable ns other) rest a q at = branch_table_agrees program t s rest ns other a
plain_agrees program t s Return rest a q at = return_out_agrees program t s rest a
plain_agrees program t s (LocalGet x) rest a q at = local_get_agrees program t s rest x a at
plain_agrees program t s (LocalSet x) rest a q at = local_set_agrees program t s rest x a at
plain_agrees program t s (LocalTee x) rest a q at = local_tee_agrees program t s rest x a at
plain_agrees program t s i rest a q at = acts_agree program t s i rest a at

goes_agree : (program : Program) (t : Thread) (s : State) (i : Instr) (rest : Body) (a : IsAt program t s) → role_of i ≡ Plain → drop t.place t.code.now ≡ i ∷ flat_onto rest a.frame.behind
    → StepsAgree program (flat.goes i t.place (beyond t)) (meaning.goes program i (record s.frame { body = rest }) s)
goes_agree program t s (Call x) rest a q at = call_agrees program t s (Call x) x rest a at
goes_agree program t s (CallIndirect x) rest a q at = call_indirect_agrees program t s (CallIndirect x) x rest a at
goes_agree program t s i rest a q at = lifted program (flat.step i t.place (beyond t)) (meaning.plain i (record s.frame { body = rest }) s) (plain_agrees program t s i rest a q at)

-- a test that is taken goes on the same
on_bound : {A : Type 0} (program : Program) (flat : Result (Next × Thread) Off) (r : Result A Off) (f : A → State) → StepsAgree program flat (on (r >>= λ o. Ok (f o))) → StepsAgree program flat (r >>= λ o. Ok (None, f o))
on_bound program flat (Ok o) f h = h
on_bound program flat (Err e) f h = h

-- an instruction stands there, and does what the body begins with
pub record Executes (program : Program) (t : Thread) (s : State) : Type 0 where
  pub instruction : Instr
  pub found : slice_get t.code.now t.place ≡ Some instruction
  pub item : flat.item_of instruction ≡ items.Goes
  pub agrees : StepsAgree program (flat.goes instruction t.place (beyond t)) (meaning.step program s.frame.body s.frame s)

item_plain : (i : Instr) → role_of i ≡ Plain → flat.item_of i ≡ items.Goes
item_plain End q = absurd cc
item_plain Else q = absurd cc
item_plain i q = refl

-- a state by its parts
abbrev pub state : Body → List Label → List Frame → Frame → World → State
state b ls cs f w = record { frame = record f { labels = ls; body = b }; callers = cs; world = w }

abbrev if_begun : State → Option ValueType → Body → Body → Body → ℕ × List Value → State
if_begun s r otherwise chosen rest o = record s { frame = entered (is_some r) None (if (o.0 == 0) then otherwise else chosen) rest o.1 s.frame }

executes : (program : Program) (t : Thread) (b : Body) (ls : List Label) (cs : List Frame) (f : Frame) (w : World) (a : IsAt program t (state b ls cs f w)) → is_done b ≡ false → Executes program t (state b ls cs f w)
executes program t Done ls cs f w a e = absurd cc
executes program t (Goes i q rest) ls cs f w a e = record {
  instruction = i;
  found = stands t.place t.code.now i (flat_onto rest a.frame.behind) a.frame.at;
  item = item_plain i q;
  agrees = goes_agree program t (state (Goes i q rest) ls cs f w) i rest a q a.frame.at;
}
executes program t (InBlock r inner rest) ls cs f w a e = record {
  instruction = Block r;
  found = stands t.place t.code.now (Block r) (flat_onto inner (End ∷ flat_onto rest a.frame.behind)) a.frame.at;
  item = refl;
  agrees = lifted program (flat.block r t.place (beyond t)) (Ok (record (state (InBlock r inner rest) ls cs f w) { frame = entered (is_some r) None inner rest f.operands (state (InBlock r inner rest) ls cs f w).frame })) (block_agrees program t (state (InBlock r inner rest) ls cs f w) r inner rest a a.frame.at);
}
executes program t (InLoop r inner rest) ls cs f w a e = record {
  instruction = Loop r;
  found = stands t.place t.code.now (Loop r) (flat_onto inner (End ∷ flat_onto rest a.frame.behind)) a.frame.at;
  item = refl;
  agrees = lifted program (Ok (opened true t.place false (beyond t))) (Ok (record (state (InLoop r inner rest) ls cs f w) { frame = entered (is_some r) (Some (r, inner)) inner rest f.operands (state (InLoop r inner rest) ls cs f w).frame })) (loop_agrees program t (state (InLoop r inner rest) ls cs f w) r inner rest a a.frame.at);
}
executes program t (InIf r inner rest) ls cs f w a e = record {
  instruction = If r;
  found = stands t.place t.code.now (If r) (flat_onto inner (End ∷ flat_onto rest a.frame.behind)) a.frame.at;
  item = refl;
  agrees = on_bound program (flat.onward (flat.if_block r t.place (beyond t))) (tested f.operands) (if_begun (state (InIf r inner rest) ls cs f w) r Done inner rest)
      (lifted program (flat.if_block r t.place (beyond t)) (tested f.operands >>= λ o. Ok (if_begun (state (InIf r inner rest) ls cs f w) r Done inner rest o)) (if_agrees program t (state (InIf r inner rest) ls cs f w) r inner rest a a.frame.at));
}
executes program t (InIfElse r first second rest) ls cs f w a e = record {
  instruction = If r;
  found = stands t.place t.code.now (If r) (flat_onto first (Else ∷ flat_onto second (End ∷ flat_onto rest a.frame.behind))) a.frame.at;
  item = refl;
  agrees = on_bound program (flat.onward (flat.if_block r t.place (beyond t))) (tested f.operands) (if_begun (state (InIfElse r first second rest) ls cs f w) r second first rest)
      (lifted program (flat.if_block r t.place (beyond t)) (tested f.operands >>= λ o. Ok (if_begun (state (InIfElse r first second rest) ls cs f w) r second first rest o)) (if_else_agrees program t (state (InIfElse r first second rest) ls cs f w) r first second rest a a.frame.at));
}

-- ---- ends cost nothing

other_frame : (ls : List Label) (vs : List Value) (b : Body) (f : Frame) (ks : List Label) (ws : List Value) (c : Body) → settled_in ls vs b f ≡ settled_in ls vs b (record f { labels = ks; operands = ws; body = c })
other_frame [] vs b f ks ws c = refl
other_frame (l ∷ ls) vs Done f ks ws c = other_frame ls (vs ++ l.below) l.rest f ks ws c
other_frame (l ∷ ls) vs b f ks ws c = refl

same_settled : (w : World) (cs : List Frame) (f g : Frame) → standing f ≡ standing g → settled w cs f ≡ settled w cs g
same_settled w [] f g e = ap (λ x. record { frame = x; callers = []; world = w }) e
same_settled w (c ∷ cs) f g e = ap (λ x. if is_done x.body then settled w cs (back x c) else record { frame = x; callers = c ∷ cs; world = w }) e

same_runs : (n : ℕ) (program : Program) (s now : State) → next s ≡ next now → runs n program s ≡ runs n program now
same_runs zero program s now e = ap (λ x. running.dry (is_done x.frame.body) x) e
same_runs (suc n) program s now e = ap (λ x. running.fed program (runs n program) n (is_done x.frame.body) x) e

stays : (b : Body) → is_done b ≡ false → (ls : List Label) (cs : List Frame) (f : Frame) (w : World) → next (state b ls cs f w) ≡ state b ls cs f w
stays Done e ls cs f w = absurd cc
stays b e [] [] f w = refl
stays b e [] (c ∷ cs) f w = refl
stays b e (l ∷ ls) [] f w = refl
stays b e (l ∷ ls) (c ∷ cs) f w = refl

-- ---- what is met next

-- what the first state means with the fuel is what the machine's next state means with what is left of it
abbrev pub Follows : Program → ℕ → ℕ → State → Result (Next × Thread) Off → Type 0
Follows program left less s (Ok (On, new)) = IsStuck (runs left program s).ending ⊎ ((now : State) × IsAt program new now × (runs left program s ≡ runs less program now))
Follows program left less s (Ok (Import x, new)) =
    IsStuck (runs left program s).ending ⊎ ((now : State) × IsAt program new now × Ready program x now × (runs left program s ≡ suspended x (params_of (slice_get program.functions x)) less now))
Follows program left less s (Ok (Over, new)) = IsStuck (runs left program s).ending ⊎ Tells program new stops.Returned less (runs left program s)
Follows program left less s (Ok (Dry, new)) = IsStuck (runs left program s).ending ⊎ Tells program new stops.OutOfFuel less (runs left program s)
Follows program left less s (Err Stuck) = IsStuck (runs left program s).ending
Follows program left less s (Err (Trap kind)) = IsStuck (runs left program s).ending ⊎ ((any : Thread) → any.desk.world ≡ s.world → Tells program any (stops.Trapped kind) less (runs left program s))

stuck_ending : (program : Program) (n left : ℕ) (s : State) → runs left program s ≡ gone program (runs n program) n s (Err Stuck) → IsStuck (runs left program s).ending
stuck_ending program n left s h = ap (λ x. x.ending) h

told_trap : (program : Program) (t : Thread) (s : State) (kind : TrapKind) (n : ℕ) (e : Ended) → e ≡ record { ending = running.Stopped (Trap kind); left = n; state = s } → t.desk.world ≡ s.world → Tells program t (stops.Trapped kind) n e
told_trap program t s kind n e is same = rw is (refl, refl, same, tt)

followed : (program : Program) (left n : ℕ) (s : State) (flat : Result (Next × Thread) Off) (r : Result (Option ℕ × State) Off)
    → StepsAgree program flat r → runs left program s ≡ gone program (runs n program) n s r → Follows program left n s flat
followed program left n s flat (Ok (None, now)) (t, e, a) h = rw e (inr (now, a, h))
followed program left n s flat (Ok (Some x, now)) (t, e, a, ready) h = rw e (inr (now, a, ready, h))
followed program left n s flat (Err Stuck) (inr is) h = rw is (stuck_ending program n left s h)
followed program left n s flat (Err (Trap kind)) (inr is) h = rw is (inr (λ any same. told_trap program any s kind n (runs left program s) h same))
followed program left n s (Ok (On, new)) (Err e) (inl stuck) h = inl (ap (λ x. x.ending) h ∙ ap (λ x. running.Stopped x) stuck)
followed program left n s (Ok (Import x, new)) (Err e) (inl stuck) h = inl (ap (λ x. x.ending) h ∙ ap (λ x. running.Stopped x) stuck)
followed program left n s (Ok (Over, new)) (Err e) (inl stuck) h = inl (ap (λ x. x.ending) h ∙ ap (λ x. running.Stopped x) stuck)
followed program left n s (Ok (Dry, new)) (Err e) (inl stuck) h = inl (ap (λ x. x.ending) h ∙ ap (λ x. running.Stopped x) stuck)
followed program left n s (Err Stuck) (Err e) (inl stuck) h = ap (λ x. x.ending) h ∙ ap (λ x. running.Stopped x) stuck
followed program left n s (Err (Trap kind)) (Err e) (inl stuck) h = inl (ap (λ x. x.ending) h ∙ ap (λ x. running.Stopped x) stuck)

told_dry : (program : Program) (t : Thread) (s : State) (e : Ended) → e ≡ record { ending = OutOfFuel; left = 0; state = s } → t.desk.world ≡ s.world → Tells program t stops.OutOfFuel 0 e
told_dry program t s e is same = rw is (refl, refl, same, tt)

-- an instruction that finds a unit, or none
executed_dry : (program : Program) (t : Thread) (b : Body) (ls : List Label) (cs : List Frame) (f : Frame) (w : World) (a : IsAt program t (state b ls cs f w)) → is_done b ≡ false → (x : Executes program t (state b ls cs f w))
    → Follows program zero (flat.spent zero t) (state b ls cs f w) (flat.advanced zero t)
executed_dry program t b ls cs f w a begun x =
    let out : runs zero program (state b ls cs f w) ≡ record { ending = OutOfFuel; left = 0; state = state b ls cs f w } =
    ap (λ y. running.dry (is_done y.frame.body) y) (stays b begun ls cs f w) ∙ ap (λ d. running.dry d (state b ls cs f w)) begun in
    rw (x.found, x.item) (inr (told_dry program t (state b ls cs f w) (runs zero program (state b ls cs f w)) out a.world))

unit_there : (n : ℕ) (b : Bool) → (suc n == 0) ≡ b → (suc n == 0) ≡ false
unit_there n true e = let none : suc n ≡ 0 = eqb-true (suc n) 0 e in absurd (omega arith)
unit_there n false e = e

some_unit : (n : ℕ) → ((suc n) == 0) ≡ false
some_unit n = unit_there n (((suc n) == 0)) refl

executed_fed : (program : Program) (n : ℕ) (t : Thread) (b : Body) (ls : List Label) (cs : List Frame) (f : Frame) (w : World) → is_done b ≡ false → (x : Executes program t (state b ls cs f w))
    → Follows program (suc n) (flat.spent (suc n) t) (state b ls cs f w) (flat.advanced (suc n) t)
executed_fed program n t b ls cs f w begun x =
    let goes : runs (suc n) program (state b ls cs f w) ≡ gone program (runs n program) n (state b ls cs f w) (meaning.step program b (state b ls cs f w).frame (state b ls cs f w)) =
    ap (λ y. running.fed program (runs n program) n (is_done y.frame.body) y) (stays b begun ls cs f w) ∙ ap (λ d. running.fed program (runs n program) n d (state b ls cs f w)) begun in
    let less : suc n - 1 ≡ n = omega arith in
    rw (x.found, x.item, some_unit n, less) (followed program (suc n) n (state b ls cs f w) (flat.goes x.instruction t.place (beyond t)) (meaning.step program b (state b ls cs f w).frame (state b ls cs f w)) x.agrees goes)

past_end : (f : Frame) (l : Label) (ls : List Label) (cs : List Frame) (w : World) → next (at_end f l ls cs w) ≡ next (after_end f l ls cs w)
past_end f l ls cs w = same_settled w cs (at_end f l ls cs w).frame (after_end f l ls cs w).frame
    (other_frame ls (f.operands ++ l.below) l.rest (at_end f l ls cs w).frame ls (f.operands ++ l.below) l.rest)

-- an end, or the else behind a part
parted : (program : Program) (left : ℕ) (t : Thread) (s now : State) (r : Result Thread Off) → Agrees program r (Ok now) → next s ≡ next now → Follows program left left s (flat.onward r)
parted program left t s now r (new, e, a) same = rw e (inr (now, a, same_runs left program s now same))

ended : (program : Program) (left : ℕ) (t : Thread) (s now : State) (r : Result (Next × Thread) Off) → Returns program r now → next s ≡ next now → Follows program left left s r
ended program left t s now r (new, e, a) same = rw e (inr (now, a, same_runs left program s now same))

end_of_block : (program : Program) (left : ℕ) (t : Thread) (f : Frame) (l : Label) (ls : List Label) (cs : List Frame) (w : World) (a : IsAt program t (at_end f l ls cs w))
    (m : Mark) (ms : List Mark) (after : List Instr) → t.marks ≡ m ∷ ms → AreOpen t.code.now a.below a.outer ls ms after → (g : Option (Option ValueType × Body)) → LeadsTo g t.code.now l after m → Closes g a.frame.behind l.rest after
    → Follows program left (flat.spent left t) (at_end f l ls cs w) (flat.advanced left t)
end_of_block program left t f l ls cs w a m ms after is o None leads (inl e) =
    let found : slice_get t.code.now t.place ≡ Some End = stands t.place t.code.now End (flat_onto l.rest after) (a.frame.at ∙ e) in
    rw found (ended program left t (at_end f l ls cs w) (after_end f l ls cs w) (flat.end (t.place + 1) t) (end_agrees program t f l ls cs w a m ms after is e o) (past_end f l ls cs w))
end_of_block program left t f l ls cs w a m ms after is o None leads (inr (second, e)) =
    let found : slice_get t.code.now t.place ≡ Some Else = stands t.place t.code.now Else (flat_onto second (End ∷ flat_onto l.rest after)) (a.frame.at ∙ e) in
    rw found (parted program left t (at_end f l ls cs w) (after_end f l ls cs w) (flat.parted_at (head_of t.marks) t) (part_agrees program t f l ls cs w a m ms after is leads o) (past_end f l ls cs w))
end_of_block program left t f l ls cs w a m ms after is o (Some loop) leads e =
    let found : slice_get t.code.now t.place ≡ Some End = stands t.place t.code.now End (flat_onto l.rest after) (a.frame.at ∙ e) in
    rw found (ended program left t (at_end f l ls cs w) (after_end f l ls cs w) (flat.end (t.place + 1) t) (end_agrees program t f l ls cs w a m ms after is e o) (past_end f l ls cs w))

end_of_call : (program : Program) (left : ℕ) (t : Thread) (f c : Frame) (cs : List Frame) (w : World) (a : IsAt program t (at_return f c cs w))
    → Follows program left (flat.spent left t) (at_return f c cs w) (flat.advanced left t)
end_of_call program left t f c cs w a =
    let found : slice_get t.code.now t.place ≡ Some End = stands t.place t.code.now End [] (a.frame.at ∙ a.frame.open_blocks.1) in
    rw found (ended program left t (at_return f c cs w) (after_return f c cs w) (flat.end (t.place + 1) t) (return_agrees program t f c cs w a) refl)

over_all : (program : Program) (n : ℕ) (f : Frame) (w : World) (new : Thread) → new.desk.world ≡ w → Tells program new stops.Returned n (runs n program (state Done [] [] f w))
over_all program zero f w new same = (refl, refl, same, tt)
over_all program (suc n) f w new same = (refl, omega arith, same, tt)

end_of_all : (program : Program) (left : ℕ) (t : Thread) (f : Frame) (w : World) (a : IsAt program t (state Done [] [] f w))
    → Follows program left (flat.spent left t) (state Done [] [] f w) (flat.advanced left t)
end_of_all program left t f w a =
    let found : slice_get t.code.now t.place ≡ Some End = stands t.place t.code.now End [] (a.frame.at ∙ a.frame.open_blocks.1) in
    let marks : t.marks ≡ a.outer = a.frame.open_blocks.0 in
    let low : length t.marks ≤ t.floor = omega (arith, ap length marks, a.frame.floor) in
    let test : nat_lt t.floor (length t.marks) ≡ false = le-ltb t.floor (length t.marks) low in
    rw (found, test, a.callers.0) (inr (over_all program left f w (record t { frames = [] }) a.world))

-- ---- all together

by_fuel : (program : Program) (left : ℕ) (t : Thread) (b : Body) (ls : List Label) (cs : List Frame) (f : Frame) (w : World) → IsAt program t (state b ls cs f w) → is_done b ≡ false
    → Follows program left (flat.spent left t) (state b ls cs f w) (flat.advanced left t)
by_fuel program zero t b ls cs f w a begun = executed_dry program t b ls cs f w a begun (executes program t b ls cs f w a begun)
by_fuel program (suc n) t b ls cs f w a begun = executed_fed program n t b ls cs f w begun (executes program t b ls cs f w a begun)

by_parts : (program : Program) (left : ℕ) (t : Thread) (b : Body) (ls : List Label) (cs : List Frame) (f : Frame) (w : World) → IsAt program t (state b ls cs f w)
    → Follows program left (flat.spent left t) (state b ls cs f w) (flat.advanced left t)
by_parts program left t Done [] [] f w a = end_of_all program left t f w a
by_parts program left t Done [] (c ∷ cs) f w a = end_of_call program left t f c cs w a
by_parts program left t Done (l ∷ ls) cs f w a =
    let o = a.frame.open_blocks in
    end_of_block program left t f l ls cs w a o.0 o.1 o.2 o.3 o.7 l.again o.6 o.4
by_parts program left t b ls cs f w a = by_fuel program left t b ls cs f w a refl

pub follows_next : (program : Program) (left : ℕ) (t : Thread) (s : State) → IsAt program t s → Follows program left (flat.spent left t) s (flat.advanced left t)
follows_next program left t s a = by_parts program left t s.frame.body s.frame.labels s.callers s.frame s.world a
