-- The machine does what the meaning says.
use Rattle.std.proofs.Common.{◌≡◌, ℕ, ◌⊎◌, inl, inr, ap, subst, ◌∙◌, Ok, Err, slice_get, Result}
use Rattle.wasm_meaning.specs.declared.off.Off.{Off}
use Rattle.wasm_meaning.specs.declared.off.Off.TheVariants as offs
use Rattle.wasm_meaning.specs.Frames.{Program, State}
use Rattle.wasm_meaning.specs.Runs.{runs}
use Rattle.wasm_flat.specs.declared.thread.Thread.{Thread}
use Rattle.wasm_flat.specs.declared.halt.Next.{Next}
use Rattle.wasm_flat.specs.declared.halt.Next.TheVariants.{On, Import, Over, Dry}
use Rattle.wasm_flat.specs.declared.halt.Halt.{Halt}
use Rattle.wasm_flat.specs.declared.halt.Halt.TheVariants as halts
use Rattle.wasm_flat.specs.Made.{Stops, KeepsWorld}
use Rattle.wasm_flat.specs.Flat.{advanced, spent, suspended}
use Rattle.wasm_machine.specs.declared.running.Stop.{Stop}
use Rattle.wasm_machine.specs.declared.running.Stop.TheVariants as stops
use Rattle.wasm_machine.specs.Standing.{IsAt}
use Rattle.wasm_machine.specs.Running.{IsStuck, Tells}
use Rattle.wasm_machine.specs.Suspended.{Suspends, stop_by}
use Rattle.wasm_machine.proofs.Following.{Follows, follows_next}
use Rattle.wasm_machine.proofs.Suspending.{told_out}

-- what the first state means with all the fuel is what some state that the machine stands at means with what is left
abbrev pub Reached : Program → ℕ → ℕ → State → Thread → Type 0
Reached program fuel left s t = (now : State) × IsAt program t now × (runs fuel program s ≡ runs left program now)

-- the run isn't stuck with this fuel
abbrev pub Free : Program → ℕ → State → Type 0
Free program fuel s = IsStuck (runs fuel program s).ending → ⊥

stuck_too : (program : Program) (fuel left : ℕ) (s now : State) → runs fuel program s ≡ runs left program now → IsStuck (runs left program now).ending → IsStuck (runs fuel program s).ending
stuck_too program fuel left s now e h = ap (λ x. x.ending) e ∙ h

-- what is met next, told of a step that was taken
met : (program : Program) (left : ℕ) (t : Thread) (now : State) (r : Result (Next × Thread) Off) → IsAt program t now → advanced left t ≡ r → Follows program left (spent left t) now r
met program left t now r a h = let P = λ (x : Result (Next × Thread) Off). Follows program left (spent left t) now x in subst P h (follows_next program left t now a)

step_on : (program : Program) (fuel left less : ℕ) (s now : State) (new : Thread) → Free program fuel s → runs fuel program s ≡ runs left program now
    → Follows program left less now (Ok (On, new)) → Reached program fuel less s new
step_on program fuel left less s now new free e (inl stuck) = absurd (free (stuck_too program fuel left s now e stuck))
step_on program fuel left less s now new free e (inr (then_at, a, h)) = (then_at, a, e ∙ h)

pub goes_on : (program : Program) (fuel left new_left : ℕ) (s : State) (t new : Thread) → Free program fuel s → Reached program fuel left s t → advanced left t ≡ Ok (On, new) → new_left ≡ spent left t
    → Reached program fuel new_left s new
goes_on program fuel left new_left s t new free (now, a, e) h took =
    rw took (step_on program fuel left (spent left t) s now new free e (met program left t now (Ok (On, new)) a h))

call_out : (program : Program) (fuel left less x : ℕ) (s now : State) (mid new : Thread) (stop : Stop) → Free program fuel s → runs fuel program s ≡ runs left program now
    → Follows program left less now (Ok (Import x, mid)) → Suspends x stop new (suspended (slice_get mid.callees.now x) mid) → Tells program new stop less (runs fuel program s)
call_out program fuel left less x s now mid new stop free e (inl stuck) out = absurd (free (stuck_too program fuel left s now e stuck))
call_out program fuel left less x s now mid new stop free e (inr (at_call, a, ready, h)) out = rw (e ∙ h) (told_out program mid new at_call a x less stop ready out)

pub calls_out : (program : Program) (fuel left new_left x : ℕ) (s : State) (t mid new : Thread) (stop : Stop) → Free program fuel s → Reached program fuel left s t → advanced left t ≡ Ok (Import x, mid) → new_left ≡ spent left t
    → Suspends x stop new (suspended (slice_get mid.callees.now x) mid) → Tells program new stop new_left (runs fuel program s)
calls_out program fuel left new_left x s t mid new stop free (now, a, e) h took out =
    rw took (call_out program fuel left (spent left t) x s now mid new stop free e (met program left t now (Ok (Import x, mid)) a h) out)

-- a run that is stuck, or ended so
abbrev EndsSo : Program → ℕ → State → Thread → Stop → ℕ → Type 0
EndsSo program left now new stop less = IsStuck (runs left program now).ending ⊎ Tells program new stop less (runs left program now)

told_end : (program : Program) (fuel left less : ℕ) (s now : State) (new : Thread) (stop : Stop) → Free program fuel s → runs fuel program s ≡ runs left program now
    → EndsSo program left now new stop less → Tells program new stop less (runs fuel program s)
told_end program fuel left less s now new stop free e (inl stuck) = absurd (free (stuck_too program fuel left s now e stuck))
told_end program fuel left less s now new stop free e (inr h) = rw e h

pub is_over : (program : Program) (fuel left new_left : ℕ) (s : State) (t new : Thread) → Free program fuel s → Reached program fuel left s t → advanced left t ≡ Ok (Over, new) → new_left ≡ spent left t
    → Tells program new stops.Returned new_left (runs fuel program s)
is_over program fuel left new_left s t new free (now, a, e) h took =
    rw took (told_end program fuel left (spent left t) s now new stops.Returned free e (met program left t now (Ok (Over, new)) a h))

pub is_dry : (program : Program) (fuel left new_left : ℕ) (s : State) (t new : Thread) → Free program fuel s → Reached program fuel left s t → advanced left t ≡ Ok (Dry, new) → new_left ≡ spent left t
    → Tells program new stops.OutOfFuel new_left (runs fuel program s)
is_dry program fuel left new_left s t new free (now, a, e) h took =
    rw took (told_end program fuel left (spent left t) s now new stops.OutOfFuel free e (met program left t now (Ok (Dry, new)) a h))

trapped : (program : Program) (fuel left less : ℕ) (s now : State) (new : Thread) (stop : Stop) → Free program fuel s → runs fuel program s ≡ runs left program now → new.desk.world ≡ now.world
    → IsStuck (runs left program now).ending ⊎ ((any : Thread) → any.desk.world ≡ now.world → Tells program any stop less (runs left program now)) → Tells program new stop less (runs fuel program s)
trapped program fuel left less s now new stop free e same (inl stuck) = absurd (free (stuck_too program fuel left s now e stuck))
trapped program fuel left less s now new stop free e same (inr h) = rw e (h new same)

-- globals and memory after a halt
abbrev pub Kept : Halt → Thread → Thread → Type 0
Kept e t new = KeepsWorld {X = Next} (Err e) t.desk.world new.desk.world

told_by : (program : Program) (fuel left : ℕ) (s : State) (t new : Thread) (e : Halt) → Free program fuel s → Reached program fuel left s t → Stops e (advanced left t) → Kept e t new → Tells program new (stop_by e) (spent left t) (runs fuel program s)
told_by program fuel left s t new halts.Memory free r h kept = tt
told_by program fuel left s t new halts.Stuck free r h kept = tt
told_by program fuel left s t new (halts.Trap kind) free (now, a, same) h kept =
    trapped program fuel left (spent left t) s now new (stops.Trapped kind) free same (kept ∙ a.world) (met program left t now (Err (offs.Trap kind)) a h)

pub halts_so : (program : Program) (fuel left new_left : ℕ) (s : State) (t new : Thread) (e : Halt) (stop : Stop) → Free program fuel s → Reached program fuel left s t → Stops e (advanced left t) → Kept e t new → new_left ≡ spent left t → stop ≡ stop_by e
    → Tells program new stop new_left (runs fuel program s)
halts_so program fuel left new_left s t new e stop free r h kept took is = rw (is, took) (told_by program fuel left s t new e free r h kept)
