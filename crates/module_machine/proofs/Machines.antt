-- Machines stand where the meaning does.
use Rattle.std.specs.Option.{is_some}
use Rattle.std.proofs.Common.{◌≡◌, ℕ, Bor, Some, None, Ok, Option, List, [], true, false, Bool, slice_get, refl, sym, ap, subst, ◌∙◌, nat_lt}
use Rattle.wasm_types.specs.declared.types.ValueType.{ValueType}
use Rattle.wasm_types.specs.declared.types.FuncType.{FuncType}
use Rattle.wasm_types.specs.declared.values.Value.{Value}
use Rattle.wasm_types.specs.declared.modules.Module.{Module}
use Rattle.wasm_types.specs.Nested.{Body}
use Rattle.wasm_validate.specs.Rules.{Context}
use Rattle.wasm_memory.specs.Linear.{Linear}
use Rattle.wasm_meaning.specs.World.{World, Desk}
use Rattle.wasm_meaning.specs.Frames.{Program, Function, State}
use Rattle.wasm_meaning.specs.Runs.{Ending, Ended, Returned, Stopped, Called, OutOfFuel, runs, first, resumed}
use Rattle.wasm_meaning.specs.Instance.{Instance, IsProgram, instance_of}
use Rattle.wasm_sound.specs.Typed.{IsStuck, Fits, HasMemory, WorldTyped, StateTyped, FunctionTyped, within}
use Rattle.wasm_sound.specs.Typed as typing
use Rattle.wasm_sound.proofs.Lawful.{unstuck, goes_on, keeps_world}
use Rattle.wasm_flat.specs.declared.thread.Callee.{Callee}
use Rattle.wasm_flat.specs.declared.thread.Thread.{Thread}
use Rattle.wasm_flat.specs.Flat.{filled}
use Rattle.wasm_machine.specs.declared.running.Stop.{Stop}
use Rattle.wasm_machine.specs.declared.running.Stop.TheVariants as stops
use Rattle.wasm_machine.specs.Standing.{IsAt, HasProgram, AreFunctions}
use Rattle.wasm_machine.specs.Running.{Answers, kind_of, with_world, in_world}
use Rattle.wasm_machine.specs.Running as running
use Rattle.module_machine.specs.declared.image.Image.{Image}
use Rattle.module_machine.specs.declared.machine.Machine.{Machine}
use Rattle.module_machine.specs.Shared.{Shares, IsImage}
use Rattle.module_machine.specs.Standing.{in_memory, with_memory, IsIdle, Stands, FitsImport, thread_of, Waits, Starts, LeadsOn, Tells}

-- ---- answers

fits_answers : (r : Option ValueType) (value : Option Value) → Fits r value → is_some value ≡ is_some r
fits_answers None None h = refl
fits_answers None (Some v) h = absurd h
fits_answers (Some t) None h = absurd h
fits_answers (Some t) (Some v) h = refl

import_answers : (o : Option Function) (value : Option Value) → FitsImport o value → Answers (kind_of o) value
import_answers None value h = absurd h
import_answers (Some f) value h = fits_answers f.kind.result value h

import_fits : (c : Context) (t : FuncType) (o : Option Function) (value : Option Value) → FunctionTyped c t o → FitsImport o value → Fits t.result value
import_fits c t None value typed h = absurd h
import_fits c t (Some f) value typed h = let P : FuncType → Type 0 = λ k. Fits k.result value in subst P typed.0 h

moved_typed : (c : Context) (value : Option Value) (s : State) (w : World) → StateTyped c (resumed value s) → WorldTyped c w → StateTyped c (resumed value (in_world w s))
moved_typed c None s w k t = record { locals = k.locals; result = k.result; frame = k.frame; callers = k.callers; world = t }
moved_typed c (Some v) s w k t = record { locals = k.locals; result = k.result; frame = k.frame; callers = k.callers; world = t }

-- ---- where a run leads

leads_so : (p : Program) (c : Context) (machine : Machine) (s : State) (ending : Ending) → Shares c p machine.image.now → (thread_of machine).desk.world ≡ s.world → WorldTyped c s.world
    → running.LeadsOn p (thread_of machine) s ending → typing.StandsAt c ending s → LeadsOn p machine s ending
leads_so p c machine s Returned shares same typed on at = record {
  context = c;
  shares = shares;
  world = same;
  starts = λ x f body known none has. shares.starts x f body s.world known none has typed;
}
leads_so p c machine s (Called x arguments) shares same typed on (t, known, args, leads) = record {
  context = c;
  shares = shares;
  world = same;
  world_typed = typed;
  goes_on = λ value w fits now. (
    moved_typed c value s w (leads value (import_fits c t (slice_get p.functions x) value (shares.typed.functions x t known) fits)) now,
    on value w (import_answers (slice_get p.functions x) value fits),
  );
}
leads_so p c machine s (Stopped off) shares same typed on at = tt
leads_so p c machine s OutOfFuel shares same typed on at = tt

by_stop : (p : Program) (c : Context) (machine : Machine) (stop : Stop) (left : ℕ) (e : Ended) → Shares c p machine.image.now → WorldTyped c e.state.world → typing.StandsAt c e.ending e.state
    → running.Tells p (thread_of machine) stop left e → Tells p machine stop left e
by_stop p c machine stops.OutOfMemory left e shares typed at h = tt
by_stop p c machine (stops.HostCall x arguments) left e shares typed at (why, fuel, world, on) = (why, fuel, ap (λ (w : World). w.memory) world, leads_so p c machine e.state e.ending shares world typed on at)
by_stop p c machine stops.Returned left e shares typed at (why, fuel, world, on) = (why, fuel, ap (λ (w : World). w.memory) world, leads_so p c machine e.state e.ending shares world typed on at)
by_stop p c machine (stops.Trapped kind) left e shares typed at (why, fuel, world, on) = (why, fuel, ap (λ (w : World). w.memory) world, leads_so p c machine e.state e.ending shares world typed on at)
by_stop p c machine stops.OutOfFuel left e shares typed at (why, fuel, world, on) = (why, fuel, ap (λ (w : World). w.memory) world, leads_so p c machine e.state e.ending shares world typed on at)

pub never_stuck : (p : Program) (s : State) (machine : Machine) → Stands p s machine → (n : ℕ) → IsStuck (runs n p s).ending → ⊥
never_stuck p s machine h n = unstuck h.context p s h.shares.typed h.typed n

-- what a run tells of the thread it tells of the machine
pub tells_so : (p : Program) (s : State) (old new : Machine) (before thread : Thread) (stop : Stop) (left fuel : ℕ) → Stands p s old → before ≡ thread_of old → new.image ≡ old.image → thread_of new ≡ thread
    → ((program : Program) (now : State) → IsAt program before now → (running.IsStuck (runs fuel program now).ending → ⊥) → running.Tells program thread stop left (runs fuel program now))
    → Tells p new stop left (runs fuel p s)
tells_so p s old new before thread stop left fuel h at image same told =
    let A : Thread → Type 0 = λ t. IsAt p t s in
    let T : Thread → Type 0 = λ t. running.Tells p t stop left (runs fuel p s) in
    let S : Bor Image → Type 0 = λ i. Shares h.context p i.now in
    by_stop p h.context new stop left (runs fuel p s) (subst S (sym image) h.shares) (keeps_world h.context p s h.shares.typed h.typed fuel) (goes_on h.context p s h.shares.typed h.typed fuel)
    (subst T (sym same) (told p s (subst A (sym at) h.stands) (never_stuck p s old h fuel)))

-- ---- before and after

pub idle_so : (m : Module) (machine : Machine) (i : Instance) → IsImage m machine.image.now → instance_of m ≡ Ok i → (thread_of machine).desk.world ≡ i.world → (p : Program) → IsProgram m i p → IsIdle p i.world machine
idle_so m machine i image started same p is = record {
  context = within m;
  shares = image.shares i p started is;
  world = same;
  starts = image.begins i p started is;
}

pub starts_so : (m : Module) (machine : Machine) (i : Instance) → IsImage m machine.image.now → instance_of machine.image.now.whole.now ≡ Ok i → (thread_of machine).desk.world ≡ i.world → Starts m (Ok machine)
starts_so m machine i image started same =
    let e : instance_of m ≡ Ok i = ap instance_of (sym image.whole) ∙ started in (i, e, λ p is. idle_so m machine i image e same p is)

-- the thread has its program
has_program : (p : Program) (c : Context) (image : Image) (t : Thread) → Shares c p image → t.callees.now ≡ image.callees.items → t.types.now ≡ image.types.now → t.table.now ≡ image.table.now → HasProgram p t
has_program p c image t shares functions types table = record {
  functions = let F : List Callee → Type 0 = λ cs. AreFunctions cs p.functions in subst F (sym functions) shares.functions;
  types = types ∙ shares.types;
  table = table ∙ shares.table;
}

filled_in : (value : Option Value) (machine : Machine) → thread_of (record machine { thread = filled value machine.thread }) ≡ filled value (thread_of machine)
filled_in None machine = refl
filled_in (Some v) machine = refl

resumed_so : (p : Program) (x : ℕ) (s : State) (old : Machine) (value : Option Value) → Waits p x s old → FitsImport (slice_get p.functions x) value → Stands p (resumed value s) (record old { thread = filled value old.thread })
resumed_so p x s old value h fits =
    let both = h.goes_on value s.world fits h.world_typed in
    let P : World → Type 0 = λ w. IsAt p (filled value (with_world w (thread_of old))) (resumed value (in_world s.world s)) in
    let Q : Thread → Type 0 = λ t. IsAt p t (resumed value s) in
    record { context = h.context; shares = h.shares; typed = both.0; stands = subst Q (sym (filled_in value old)) (subst P (sym h.world) both.1) }

memory_typed : (c : Context) (w : World) (m : Linear) → WorldTyped c w → WorldTyped c (record w { memory = Some m })
memory_typed c w m h = record { globals = h.globals; memory = there (nat_lt 0 c.memories) }
  where
    there : (b : Bool) → HasMemory b (Some m)
    there false = tt
    there true = tt

pub written_so : (p : Program) (x : ℕ) (s : State) (machine : Machine) (m : Linear) → Waits p x s machine → Waits p x (in_memory m s) (with_memory (Some m) machine)
written_so p x s machine m h = record {
  context = h.context;
  shares = h.shares;
  world = ap (λ (w : World). record w { memory = Some m }) h.world;
  world_typed = memory_typed h.context s.world m h.world_typed;
  goes_on = λ value w fits typed. h.goes_on value w fits typed;
}

-- with a thread that is this one
pub resumed_as : (p : Program) (x : ℕ) (s : State) (old : Machine) (thread : Thread) (value : Option Value) → thread ≡ filled value old.thread → Waits p x s old → FitsImport (slice_get p.functions x) value
    → Stands p (resumed value s) (record old { thread = thread })
resumed_as p x s old thread value same h fits =
    let P : Thread → Type 0 = λ t. Stands p (resumed value s) (record old { thread = t }) in
    subst P (sym same) (resumed_so p x s old value h fits)

-- a function has begun, where the thread has the memory and its program again
pub started_so : (p : Program) (w : World) (x : ℕ) (f : Function) (body : Body) (old entered ready left : Machine) (thread : Thread) → IsIdle p w old → entered.image ≡ old.image → entered.thread ≡ thread_of old → ready.image ≡ entered.image
    → ready.thread.callees.now ≡ entered.image.now.callees.items → ready.thread.types.now ≡ entered.image.now.types.now → ready.thread.table.now ≡ entered.image.now.table.now → ready.thread.desk ≡ entered.thread.desk
    → left.image ≡ ready.image → thread_of left ≡ thread → slice_get p.functions x ≡ Some f → f.kind.params ≡ [] → f.body ≡ Some body
    → ((program : Program) (g : Function) (b : Body) → HasProgram program ready.thread → slice_get program.functions x ≡ Some g → g.kind.params ≡ [] → g.body ≡ Some b → IsAt program thread (first g b ready.thread.desk.world))
    → Stands p (first f body w) left
started_so p w x f body old entered ready left thread h image at images functions types table desk lefts same known none has begun =
    let S : Bor Image → Type 0 = λ i. Shares h.context p i.now in
    let shares : Shares h.context p entered.image.now = subst S (sym image) h.shares in
    let A : World → Type 0 = λ v. IsAt p thread (first f body v) in
    let Q : Thread → Type 0 = λ t. IsAt p t (first f body w) in
    let world : ready.thread.desk.world ≡ w = ap (λ (d : Desk). d.world) desk ∙ ap (λ (t : Thread). t.desk.world) at ∙ h.world in
    record {
      context = h.context;
      shares = subst S (sym (lefts ∙ images)) shares;
      typed = h.starts x f body known none has;
      stands = subst Q (sym same) (subst A world (begun p f body (has_program p h.context entered.image.now ready.thread shares functions types table) known none has));
    }

pub first_unstuck : (p : Program) (w : World) (x : ℕ) (f : Function) (body : Body) (old : Machine) → IsIdle p w old → slice_get p.functions x ≡ Some f → f.kind.params ≡ [] → f.body ≡ Some body
    → (n : ℕ) → IsStuck (runs n p (first f body w)).ending → ⊥
first_unstuck p w x f body old h known none has n = unstuck h.context p (first f body w) h.shares.typed (h.starts x f body known none has) n
