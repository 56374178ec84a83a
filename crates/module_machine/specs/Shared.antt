-- What all guests of a module share.
use Rattle.std.specs.Prelude.{◌≡◌, ℕ, Ok, Some, [], slice_get}
use Rattle.wasm_types.specs.declared.modules.Module.{Module}
use Rattle.wasm_types.specs.Nested.{Body}
use Rattle.wasm_validate.specs.Rules.{Context}
use Rattle.wasm_validate.specs.Ready.{IsReady}
use Rattle.wasm_validate.specs.Valid.{IsValid}
use Rattle.wasm_jumps.specs.Exits.{AllKnow}
use Rattle.wasm_meaning.specs.World.{World}
use Rattle.wasm_meaning.specs.Frames.{Program, Function}
use Rattle.wasm_meaning.specs.Runs.{first}
use Rattle.wasm_meaning.specs.Instance.{Instance, IsProgram, AllFunctions, instance_of}
use Rattle.wasm_sound.specs.Typed.{WorldTyped, StateTyped, ProgramTyped, within}
use Rattle.wasm_machine.specs.Standing.{AreFunctions}
use Rattle.module_machine.specs.declared.prepared.Prepared.{Prepared}
use Rattle.module_machine.specs.declared.image.Image.{Image}

-- the ends of blocks are known, and the table is that of the instance
pub record IsPrepared (m : Module) (prepared : Prepared) : Type 0 where
  pub jumps : AllKnow m.code prepared.jumps
  pub table : (i : Instance) → instance_of m ≡ Ok i → prepared.table.items ≡ i.table
  pub none : prepared.none ≡ []

-- the functions, types and table of a program that is typed
pub record Shares (c : Context) (p : Program) (image : Image) : Type 0 where
  pub functions : AreFunctions image.callees.items p.functions
  pub types : image.types.now ≡ p.types
  pub table : image.table.now ≡ p.table
  pub typed : ProgramTyped c p
  pub starts : (x : ℕ) (f : Function) (body : Body) (w : World) → slice_get p.functions x ≡ Some f → f.kind.params ≡ [] → f.body ≡ Some body → WorldTyped c w → StateTyped c (first f body w)

-- those of the program that the module is, once it has an instance
pub record IsImage (m : Module) (image : Image) : Type 0 where
  pub whole : image.whole.now ≡ m
  pub ready : IsReady m
  pub valid : IsValid m
  pub imports : AllFunctions m.imports
  pub shares : (i : Instance) (p : Program) → instance_of m ≡ Ok i → IsProgram m i p → Shares (within m) p image
  pub begins : (i : Instance) (p : Program) → instance_of m ≡ Ok i → IsProgram m i p
      → (x : ℕ) (f : Function) (body : Body) → slice_get p.functions x ≡ Some f → f.kind.params ≡ [] → f.body ≡ Some body → StateTyped (within m) (first f body i.world)
