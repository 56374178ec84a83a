-- At a call of an import the machine stands where any answer leads on.
use Rattle.std.proofs.Common.{◌≡◌, ℕ, ◌+◌, ◌≤◌, refl, sym, ap, subst, ◌∙◌, Ok, Some, None, true, false, Bool, Option, List, [], ◌∷◌, length, take, drop, reverse, slice_get, nat_lt, Result, arith}
use Rattle.std.specs.Option.{is_some}
use Rattle.std.proofs.lemmas.Bool.{le-ltb}
use Rattle.wasm_types.specs.declared.values.Value.{Value}
use Rattle.wasm_flat.specs.declared.thread.Callee.{Callee}
use Rattle.wasm_flat.specs.declared.thread.Thread.{Thread}
use Rattle.wasm_meaning.specs.Frames.{Program, Function, State}
use Rattle.wasm_meaning.specs.Runs.{suspended, params_of, arguments, taken, resumed}
use Rattle.wasm_flat.specs.Flat.{beyond, with_operands, opened}
use Rattle.wasm_flat.specs.Flat as flat
use Rattle.wasm_machine.specs.Standing.{IsAt, piled}
use Rattle.wasm_machine.proofs.Passing.{topped_at}
use Rattle.wasm_machine.specs.declared.running.Stop.{Stop}
use Rattle.wasm_machine.specs.declared.running.Stop.TheVariants as stops
use Rattle.wasm_machine.specs.Running.{Answers, kind_of, Tells, with_world, in_world}
use Rattle.wasm_meaning.specs.World.{World}
use Rattle.wasm_machine.specs.Suspended.{Suspends}
use Rattle.wasm_machine.specs.Standing.{IsFunction}
use Rattle.wasm_machine.proofs.Places.{piled_split}
use Rattle.wasm_machine.proofs.Leaving.{piled_cons}
use Rattle.wasm_machine.proofs.Calling.{function_at, take_piled, drop_piled}
use Rattle.wasm_machine.proofs.Going.{Ready}
use Rattle.std.proofs.lemmas.List.{length-append}

-- whatever fits
answered : (program : Program) (t : Thread) (s : State) (a : IsAt program t s) (n : ℕ) → n ≤ length s.frame.operands → (keeps : Bool) (value : Option Value) → is_some value ≡ keeps
    → IsAt program (flat.filled value (flat.awaiting keeps (with_operands t (drop n t.desk.operands)))) (resumed value (taken n s))
answered program t s a n enough true None e = absurd cc
answered program t s a n enough false (Some v) e = absurd cc
answered program t s a n enough false None e =
    topped_at program t s a (drop n s.frame.operands) (drop n t.desk.operands) (ap (drop n) a.frame.operands_are ∙ drop_piled n s.frame.operands s.frame.labels a.below enough)
answered program t s a n enough true (Some v) e =
    topped_at program t s a (v ∷ drop n s.frame.operands) (v ∷ drop n t.desk.operands)
    (ap (λ vs. v ∷ vs) (ap (drop n) a.frame.operands_are ∙ drop_piled n s.frame.operands s.frame.labels a.below enough) ∙ sym (piled_cons v (drop n s.frame.operands) s.frame.labels a.below))

-- in another world it stands at the same place
moved_at : (program : Program) (t : Thread) (s : State) (w : World) → IsAt program t s → IsAt program (with_world w t) (in_world w s)
moved_at program t s w a = record {
  functions = a.functions;
  types = a.types;
  table = a.table;
  below = a.below;
  outer = a.outer;
  lower = a.lower;
  code = record { callee = a.code.callee; found = a.code.found; code_is = a.code.code_is; exits = a.code.exits };
  code_exits = a.code_exits;
  world = refl;
  frame = a.frame;
  callers = a.callers;
}

moved_answered : (program : Program) (t : Thread) (s : State) (w : World) (value : Option Value) → IsAt program (flat.filled value t) (resumed value s)
    → IsAt program (flat.filled value (with_world w t)) (resumed value (in_world w s))
moved_answered program t s w None a = moved_at program t s w a
moved_answered program t s w (Some v) a = moved_at program (flat.filled (Some v) t) (resumed (Some v) s) w a

same_world : (keeps : Bool) (t : Thread) → (flat.awaiting keeps t).desk.world ≡ t.desk.world
same_world true t = refl
same_world false t = refl

-- what the machine's call of an import makes
abbrev suspended_by : Callee → Thread → List Value × Thread
suspended_by c t = (reverse (take (length c.kind.now.params) t.desk.operands), flat.awaiting (is_some c.kind.now.result) (with_operands t (drop (length c.kind.now.params) t.desk.operands)))

made : (t : Thread) (c : Callee) → length c.kind.now.params ≤ length t.desk.operands → flat.suspended (Some c) t ≡ Ok (suspended_by c t)
made t c enough = let test : nat_lt (length t.desk.operands) (length c.kind.now.params) ≡ false = le-ltb (length t.desk.operands) (length c.kind.now.params) enough in rw test refl

parts : {A B E : Type 0} (p q : A × B) (r : Result (A × B) E) → r ≡ Ok p → r ≡ Ok q → (p.0 ≡ q.0) × (p.1 ≡ q.1)
parts p q r h k = let same : p ≡ q = cc in (ap (λ x. x.0) same, ap (λ x. x.1) same)

told_of : (program : Program) (t new : Thread) (s : State) (a : IsAt program t s) (x less : ℕ) (f : Function) (c : Callee) (arguments_told : List Value)
    → slice_get program.functions x ≡ Some f → length f.kind.params ≤ length s.frame.operands → IsFunction c f → flat.suspended (Some c) t ≡ Ok (arguments_told, new)
    → Tells program new (stops.HostCall x arguments_told) less (suspended x (params_of (slice_get program.functions x)) less s)
told_of program t new s a x less f c told known enough is h =
    let same : length c.kind.now.params ≡ length f.kind.params = ap (λ k. length k.params) is.kind in
    let all : length t.desk.operands ≡ length s.frame.operands + length (piled [] s.frame.labels a.below) =
    ap length (a.frame.operands_are ∙ piled_split s.frame.operands s.frame.labels a.below) ∙ length-append s.frame.operands (piled [] s.frame.labels a.below) in
    let count : length c.kind.now.params ≡ params_of (slice_get program.functions x) = same ∙ ap params_of (sym known) in
    let both : (told ≡ (suspended_by c t).0) × (new ≡ (suspended_by c t).1) = parts (told, new) (suspended_by c t) (flat.suspended (Some c) t) h (made t c (omega arith)) in
    let few : length c.kind.now.params ≤ length s.frame.operands = omega arith in
    let taken_same : reverse (take (length c.kind.now.params) t.desk.operands) ≡ arguments (params_of (slice_get program.functions x)) s =
    ap (λ vs. reverse (take (length c.kind.now.params) vs)) a.frame.operands_are ∙ ap reverse (take_piled (length c.kind.now.params) s.frame.operands s.frame.labels a.below few) ∙ ap (λ n. reverse (take n s.frame.operands)) count in (
      ap (λ vs. stops.HostCall x vs) (both.0 ∙ taken_same),
      refl,
      ap (λ (u : Thread). u.desk.world) both.1 ∙ same_world (is_some c.kind.now.result) (with_operands t (drop (length c.kind.now.params) t.desk.operands)) ∙ a.world,
      λ value w fits.
          let kept : is_some value ≡ is_some c.kind.now.result = kind_fits value f known fits ∙ ap (λ k. is_some k.result) (sym is.kind) in
          let at : IsAt program (flat.filled value (suspended_by c t).1) (resumed value (taken (length c.kind.now.params) s)) = answered program t s a (length c.kind.now.params) few (is_some c.kind.now.result) value kept in
          let P : ℕ → Type 0 = λ n. IsAt program (flat.filled value (suspended_by c t).1) (resumed value (taken n s)) in
          let Q : Thread → Type 0 = λ u. IsAt program (flat.filled value u) (resumed value (taken (params_of (slice_get program.functions x)) s)) in
          moved_answered program new (taken (params_of (slice_get program.functions x)) s) w value (subst Q (sym both.1) (subst P count at)),
    )
  where
    kind_fits : (value : Option Value) (g : Function) → slice_get program.functions x ≡ Some g → Answers (kind_of (slice_get program.functions x)) value → is_some value ≡ is_some g.kind.result
    kind_fits value g e w = let R : Option Function → Type 0 = λ o. Answers (kind_of o) value in subst R e w

pub told_out : (program : Program) (t new : Thread) (s : State) (a : IsAt program t s) (x less : ℕ) (stop : Stop) → Ready program x s → Suspends x stop new (flat.suspended (slice_get t.callees.now x) t)
    → Tells program new stop less (suspended x (params_of (slice_get program.functions x)) less s)
told_out program t new s a x less stops.OutOfMemory r h = tt
told_out program t new s a x less (stops.HostCall y told) (f, known, enough) h =
    let c = function_at x t.callees.now program.functions f a.functions known in
    let is : flat.suspended (Some c.0) t ≡ Ok (told, new) = ap (λ o. flat.suspended o t) (sym c.1) ∙ h.1 in
    rw (h.0) (told_of program t new s a x less f c.0 told known enough c.2 is)
told_out program t new s a x less stop r h = absurd h
