-- What code finds when a module starts (section 4.5.4), where all its imports are functions.
use Rattle.std.specs.Prelude.{◌≡◌, ℕ, ◌+◌, min, nat_le, Bool, true, ◌&&◌, if◌then◌else◌, Option, Some, None, Result, Ok, Err, List, [], ◌∷◌, ◌++◌, length, take, drop, map, replicate, slice_get}
use Rattle.wasm_types.specs.declared.types.FuncType.{FuncType}
use Rattle.wasm_types.specs.declared.types.Limits.{Limits}
use Rattle.wasm_types.specs.declared.values.TrapKind.TheVariants.{Segment as segment_fault}
use Rattle.wasm_types.specs.declared.values.Value.{Value}
use Rattle.wasm_types.specs.declared.instructions.Instr.{Instr}
use Rattle.wasm_types.specs.declared.instructions.Instr.TheVariants.{GlobalGet, Const}
use Rattle.wasm_types.specs.declared.modules.Code.{Code}
use Rattle.wasm_types.specs.declared.modules.Element.{Element}
use Rattle.wasm_types.specs.declared.modules.GlobalItem.{GlobalItem}
use Rattle.wasm_types.specs.declared.modules.Import.{Import}
use Rattle.wasm_types.specs.declared.modules.ImportKind.{ImportKind}
use Rattle.wasm_types.specs.declared.modules.ImportKind.TheVariants as kinds
use Rattle.wasm_types.specs.declared.modules.Module.{Module}
use Rattle.wasm_types.specs.declared.modules.Segment.{Segment}
use Rattle.wasm_types.specs.Nested.{Body, Nests}
use Rattle.wasm_validate.specs.Spaces.{functions_in}
use Rattle.wasm_memory.specs.Bytes.{written}
use Rattle.wasm_memory.specs.Linear.{Linear, blank, with_bytes}
use Rattle.wasm_meaning.specs.declared.off.Off.{Off}
use Rattle.wasm_meaning.specs.declared.off.Off.TheVariants.{Stuck, Trap}
use Rattle.wasm_meaning.specs.Steps.{◌>>=◌, found}
use Rattle.wasm_meaning.specs.World.{World}
use Rattle.wasm_meaning.specs.Frames.{Function, Program}
use Rattle.wasm_meaning.specs.Acts.{as32}

-- imports that are all functions
abbrev pub IsFunctionImport : ImportKind → Type 0
IsFunctionImport (kinds.Function t) = Unit {0}
IsFunctionImport kind = ⊥

abbrev pub AllFunctions : List Import → Type 0
AllFunctions [] = Unit {0}
AllFunctions (i ∷ is) = IsFunctionImport i.kind × AllFunctions is

-- ---- functions

-- an imported function has a type and no body
abbrev pub AreImported : List FuncType → List ℕ → List Function → Type 0
AreImported types [] [] = Unit {0}
AreImported types [] (f ∷ fs) = ⊥
AreImported types (t ∷ ts) [] = ⊥
AreImported types (t ∷ ts) (f ∷ fs) = (slice_get types t ≡ Some f.kind) × (f.locals ≡ []) × (f.body ≡ None) × AreImported types ts fs

-- the body of a defined one is the nested instructions that its code is
abbrev pub IsCode : Code → Function → Type 0
IsCode c f = (f.locals ≡ c.locals) × ((body : Body) × (f.body ≡ Some body) × Nests c.body body)

abbrev pub AreDefined : List FuncType → List ℕ → List Code → List Function → Type 0
AreDefined types [] [] [] = Unit {0}
AreDefined types (t ∷ ts) (c ∷ cs) (f ∷ fs) = (slice_get types t ≡ Some f.kind) × IsCode c f × AreDefined types ts cs fs
AreDefined types ts cs fs = ⊥

-- ---- constant expressions (section 3.3.7): one instruction

abbrev pub constant_of : List Value → List Instr → Result Value Off
constant_of globals (Const v ∷ rest) = Ok v
constant_of globals (GlobalGet x ∷ rest) = found (slice_get globals x)
constant_of globals code = Err Stuck

-- the first values of globals; they see imported globals alone, of which there are none
abbrev pub global_values : List GlobalItem → Result (List Value) Off
global_values [] = Ok []
global_values (g ∷ gs) = constant_of [] g.start >>= λ v. global_values gs >>= λ vs. Ok (v ∷ vs)

-- ---- segments: an offset, and what stands from there on

abbrev pub offset_of : List Value → List Instr → Result ℕ Off
offset_of globals code = constant_of globals code >>= λ v. as32 v

abbrev pub elements_of : List Value → List Element → Result (List (ℕ × List ℕ)) Off
elements_of globals [] = Ok []
elements_of globals (e ∷ es) = offset_of globals e.offset >>= λ n. elements_of globals es >>= λ rest. Ok ((n, e.functions) ∷ rest)

abbrev pub segments_of : List Value → List Segment → Result (List (ℕ × List ℕ)) Off
segments_of globals [] = Ok []
segments_of globals (s ∷ ss) = offset_of globals s.offset >>= λ n. segments_of globals ss >>= λ rest. Ok ((n, s.bytes) ∷ rest)

-- each ends within so many places, also one that is empty
abbrev pub all_within : ℕ → List (ℕ × List ℕ) → Bool
all_within size [] = true
all_within size (s ∷ ss) = nat_le (s.0 + length s.1) size && all_within size ss

-- one after another, so that a later one writes over an earlier one
abbrev pub with_elements : List (ℕ × List ℕ) → List (Option ℕ) → List (Option ℕ)
with_elements [] table = table
with_elements (s ∷ ss) table = with_elements ss (take s.0 table ++ (map Some s.1 ++ drop (s.0 + length s.1) table))

abbrev pub with_segments : List (ℕ × List ℕ) → List ℕ → List ℕ
with_segments [] bytes = bytes
with_segments (s ∷ ss) bytes = with_segments ss (written bytes s.0 s.1)

-- ---- the table and the memory

abbrev pub empty_table : List Limits → List (Option ℕ)
empty_table [] = []
empty_table (l ∷ ls) = replicate l.least None

-- this project's own: a memory has at most 2,048 pages
abbrev pub most_pages : Option ℕ → ℕ
most_pages None = 2048
most_pages (Some most) = min most 2048

abbrev pub empty_memory : List Limits → Option Linear
empty_memory [] = None
empty_memory (l ∷ ls) = Some (blank l.least (most_pages l.most))

abbrev pub size_of : Option Linear → ℕ
size_of None = 0
size_of (Some m) = length m.bytes

abbrev pub filled : List (ℕ × List ℕ) → Option Linear → Option Linear
filled bytes None = None
filled bytes (Some m) = Some (with_bytes m (with_segments bytes m.bytes))

-- ---- the instance

pub record Instance : Type 0 where
  pub table : List (Option ℕ)
  pub world : World

-- all bounds are tested before anything is written
abbrev pub placed : Module → List Value → List (ℕ × List ℕ) → List (ℕ × List ℕ) → Result Instance Off
placed m globals elements bytes =
    if all_within (length (empty_table m.tables)) elements && all_within (size_of (empty_memory m.memories)) bytes
    then Ok (record { table = with_elements elements (empty_table m.tables); world = record { globals = globals; memory = filled bytes (empty_memory m.memories) } })
    else Err (Trap segment_fault)

abbrev pub instance_of : Module → Result Instance Off
instance_of m =
    global_values m.globals >>= λ globals. elements_of globals m.elements >>= λ elements. segments_of globals m.segments >>= λ bytes. placed m globals elements bytes

-- the program that the code of a module is, with the table of an instance
pub record IsProgram (m : Module) (i : Instance) (p : Program) : Type 0 where
  pub imported : List Function
  pub defined : List Function
  pub functions : p.functions ≡ imported ++ defined
  pub imports : AreImported m.types (functions_in m.imports) imported
  pub code : AreDefined m.types m.functions m.code defined
  pub types : p.types ≡ m.types
  pub table : p.table ≡ i.table
