-- Programs for the worked rows.
use Rattle.std.specs.Prelude.{ℕ, refl, Some, None, List, [], ◌∷◌}
use Rattle.wasm_types.specs.declared.types.ValueType.{ValueType}
use Rattle.wasm_types.specs.declared.types.ValueType.TheVariants as types
use Rattle.wasm_types.specs.declared.types.FuncType.{FuncType}
use Rattle.wasm_types.specs.declared.values.Value.TheVariants.{I32}
use Rattle.wasm_types.specs.declared.instructions.Binary.TheVariants.{Add, DivS}
use Rattle.wasm_types.specs.declared.instructions.Compare.TheVariants.{LtU}
use Rattle.wasm_types.specs.declared.instructions.LoadKind.TheVariants as loads
use Rattle.wasm_types.specs.declared.instructions.Instr.TheVariants.{Nop, Br, BrIf, BrTable, Call, CallIndirect, Drop, LocalGet, LocalTee, Load, Const, I32Binary, I32Compare, End}
use Rattle.wasm_types.specs.declared.modules.Module.{Module}
use Rattle.wasm_types.specs.Nested.{Body, Done, Goes, InBlock, InLoop, InIf}
use Rattle.wasm_memory.specs.Linear.{blank}
use Rattle.wasm_meaning.specs.World.{World}
use Rattle.wasm_meaning.specs.Frames.{Function, Program}
use Rattle.wasm_meaning.specs.Runs.{Ending, Ended, runs, first}

abbrev pub nothing : FuncType
nothing = record { params = []; result = None }

abbrev pub defined : List ValueType → Body → Function
defined locals body = record { kind = nothing; locals = locals; body = Some body }

-- an imported function that takes a number and gives one
abbrev pub asks : Function
asks = record { kind = record { params = types.I32 ∷ []; result = Some types.I32 }; locals = []; body = None }

-- functions with a table of four entries, of which the first names the function 0 and the second the import; one type
abbrev pub program : List ValueType → Body → Program
program locals body = record { functions = defined locals body ∷ asks ∷ []; types = nothing ∷ []; table = Some 0 ∷ Some 1 ∷ None ∷ None ∷ [] }

abbrev pub world : World
world = record { globals = []; memory = Some (blank 0 1) }

-- how a function ends with so much fuel, and the fuel that is left
abbrev pub run : ℕ → List ValueType → Body → Ended
run fuel locals body = runs fuel (program locals body) (first (defined locals body) body world)

abbrev pub told : Ended → Ending × ℕ
told e = (e.ending, e.left)

-- ---- bodies

abbrev pub three_nops : Body
three_nops = Goes Nop refl (Goes Nop refl (Goes Nop refl Done))

abbrev pub endless : Body
endless = InLoop None (Goes (Br 0) refl Done) Done

-- its local is counted up to 2
abbrev pub counting : Body
counting = InLoop None
    (Goes (LocalGet 0) refl (Goes (Const (I32 1)) refl (Goes (I32Binary Add) refl (Goes (LocalTee 0) refl
    (Goes (Const (I32 2)) refl (Goes (I32Compare LtU) refl (Goes (BrIf 0) refl Done)))))))
    Done

abbrev pub calls_itself : Body
calls_itself = Goes (Call 0) refl Done

abbrev pub divides : ℕ → ℕ → Body
divides a b = Goes (Const (I32 a)) refl (Goes (Const (I32 b)) refl (Goes (I32Binary DivS) refl (Goes Drop refl Done)))

abbrev pub loads_from : ℕ → Body
loads_from place = Goes (Const (I32 place)) refl (Goes (Load loads.I32 2 0) refl (Goes Drop refl Done))

abbrev pub calls_entry : ℕ → Body
calls_entry n = Goes (Const (I32 n)) refl (Goes (CallIndirect 0) refl Done)

abbrev pub calls_import : Body
calls_import = Goes (Const (I32 7)) refl (Goes (Call 1) refl (Goes Drop refl Done))

-- one nop more behind each block
abbrev pub branches_by : ℕ → Body
branches_by n = InBlock None (InBlock None (Goes (Const (I32 n)) refl (Goes (BrTable (0 ∷ []) 1) refl Done)) (Goes Nop refl Done)) (Goes Nop refl Done)

-- an if without an else, with a nop in it
abbrev pub tests_for : ℕ → Body
tests_for n = Goes (Const (I32 n)) refl (InIf None (Goes Nop refl Done) Done)

-- a module that is a memory without pages and a segment of no bytes at an offset
abbrev pub places_at : ℕ → Module
places_at offset = record {
  types = [];
  imports = [];
  functions = [];
  tables = [];
  memories = record { least = 0; most = None } ∷ [];
  globals = [];
  exports = [];
  start = None;
  elements = [];
  code = [];
  segments = record { memory = 0; offset = Const (I32 offset) ∷ End ∷ []; bytes = [] } ∷ [];
}
