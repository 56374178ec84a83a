-- Valid modules start in typed states, and typed code is never stuck.
use Rattle.std.proofs.Common.{◌≡◌, ℕ, Option, Some, Ok, [], slice_get, sym, subst, ◌∙◌, ap}
use Rattle.wasm_types.specs.declared.types.FuncType.{FuncType}
use Rattle.wasm_types.specs.declared.modules.Module.{Module}
use Rattle.wasm_types.specs.Nested.{Body}
use Rattle.wasm_validate.specs.Rules.{Context, function_at}
use Rattle.wasm_validate.specs.Valid.{IsValid}
use Rattle.wasm_meaning.specs.Frames.{Program, Function, State}
use Rattle.wasm_meaning.specs.Runs.{runs, first}
use Rattle.wasm_meaning.specs.Instance.{AllFunctions, IsProgram, Instance, instance_of}
use Rattle.wasm_sound.specs.Typed.{IsStuck, BodyTyped, FunctionTyped, ProgramTyped, WorldTyped, StateTyped, StandsAt, within}
use Rattle.wasm_sound.proofs.Preserving.{never_stuck, stands_at, world_kept}
use Rattle.wasm_sound.proofs.Plain.{plain_safe}
use Rattle.wasm_sound.proofs.Starting.{starts_typed, first_typed}

pub program_typed : (m : Module) (i : Instance) (p : Program) → IsValid m → AllFunctions m.imports → instance_of m ≡ Ok i → IsProgram m i p → ProgramTyped (within m) p
program_typed m i p valid all started is = (starts_typed m i p valid all started is).0

pub first_state_typed : (m : Module) (i : Instance) (p : Program) → IsValid m → AllFunctions m.imports → instance_of m ≡ Ok i → IsProgram m i p
    → (x : ℕ) (t : FuncType) (f : Function) (body : Body) → function_at (within m) x ≡ Ok t → t.params ≡ [] → slice_get p.functions x ≡ Some f → f.body ≡ Some body → StateTyped (within m) (first f body i.world)
first_state_typed m i p valid all started is x t f body known none there has =
    let c : Context = within m in
    let typed = starts_typed m i p valid all started is in
    let P : Option Function → Type 0 = λ o. FunctionTyped c t o in
    let function : FunctionTyped c t (Some f) = subst P there (typed.0.functions x t known) in
    let Q : FuncType → Type 0 = λ a. BodyTyped c a f.locals f.body in
    let R : Option Body → Type 0 = λ b. BodyTyped c f.kind f.locals b in
    let nothing : f.kind.params ≡ [] = ap (λ (a : FuncType). a.params) function.0 ∙ none in
    first_typed c f body i.world typed.1 nothing (subst R has (subst Q (sym function.0) function.1))

pub unstuck : (c : Context) (p : Program) (s : State) → ProgramTyped c p → StateTyped c s → (n : ℕ) → IsStuck (runs n p s).ending → ⊥
unstuck c p s typed k n stuck = never_stuck c p (plain_safe c p typed) n s k stuck

pub goes_on : (c : Context) (p : Program) (s : State) → ProgramTyped c p → StateTyped c s → (n : ℕ) → StandsAt c (runs n p s).ending (runs n p s).state
goes_on c p s typed k n = stands_at c p typed (plain_safe c p typed) n s k

pub keeps_world : (c : Context) (p : Program) (s : State) → ProgramTyped c p → StateTyped c s → (n : ℕ) → WorldTyped c (runs n p s).state.world
keeps_world c p s typed k n = world_kept c p (plain_safe c p typed) n s k

pub valid_unstuck : (m : Module) (i : Instance) (p : Program) → IsValid m → AllFunctions m.imports → instance_of m ≡ Ok i → IsProgram m i p
    → (x : ℕ) (t : FuncType) (f : Function) (body : Body) → function_at (within m) x ≡ Ok t → t.params ≡ [] → slice_get p.functions x ≡ Some f → f.body ≡ Some body → (n : ℕ) → IsStuck (runs n p (first f body i.world)).ending → ⊥
valid_unstuck m i p valid all started is x t f body known none there has =
    unstuck (within m) p (first f body i.world) (program_typed m i p valid all started is) (first_state_typed m i p valid all started is x t f body known none there has)
