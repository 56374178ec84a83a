-- Programs whose results are told, for the worked rows.
use Rattle.std.specs.Prelude.{ℕ, refl, Some, List, [], ◌∷◌, replicate}
use Rattle.wasm_types.specs.declared.types.ValueType.TheVariants as types
use Rattle.wasm_types.specs.declared.values.Value.{Value}
use Rattle.wasm_types.specs.declared.values.Value.TheVariants.{I32}
use Rattle.wasm_types.specs.declared.instructions.Binary.TheVariants.{Add, Sub}
use Rattle.wasm_types.specs.declared.instructions.LoadKind.{LoadKind}
use Rattle.wasm_types.specs.declared.instructions.StoreKind.TheVariants as stores
use Rattle.wasm_types.specs.declared.instructions.Instr.TheVariants.{Br, Call, Select, LocalGet, GlobalGet, GlobalSet, Load, Store, Const, I32Binary}
use Rattle.wasm_types.specs.Nested.{Body, Done, Goes, InBlock}
use Rattle.wasm_meaning.specs.World.{World}
use Rattle.wasm_meaning.specs.Frames.{Function}
use Rattle.wasm_meaning.specs.Runs.{runs, first}

-- a function that gives a number
abbrev pub giving : Body → Function
giving body = record { kind = record { params = []; result = Some types.I32 }; locals = []; body = Some body }

-- a function of two numbers: the first without the second
abbrev pub difference : Function
difference = record {
  kind = record { params = types.I32 ∷ types.I32 ∷ []; result = Some types.I32 };
  locals = [];
  body = Some (Goes (LocalGet 0) refl (Goes (LocalGet 1) refl (Goes (I32Binary Sub) refl Done)));
}

-- a global that is 3, and a memory of eight bytes
abbrev pub small_world : World
small_world = record { globals = I32 3 ∷ []; memory = Some (record { bytes = replicate 8 0; most = 1 }) }

-- what a function leaves that gives a number
abbrev pub result_of : Body → List Value
result_of body = (runs 99 (record { functions = giving body ∷ difference ∷ []; types = []; table = [] }) (first (giving body) body small_world)).state.frame.operands

-- ---- bodies

abbrev pub calls_difference : ℕ → ℕ → Body
calls_difference a b = Goes (Const (I32 a)) refl (Goes (Const (I32 b)) refl (Goes (Call 1) refl Done))

abbrev pub selects : ℕ → ℕ → ℕ → Body
selects a b test = Goes (Const (I32 a)) refl (Goes (Const (I32 b)) refl (Goes (Const (I32 test)) refl (Goes Select refl Done)))

-- a number is stored at 4, and something loaded from a place
abbrev pub stores_and_loads : ℕ → LoadKind → ℕ → Body
stores_and_loads n kind place =
    Goes (Const (I32 4)) refl (Goes (Const (I32 n)) refl (Goes (Store stores.I32 2 0) refl (Goes (Const (I32 place)) refl (Goes (Load kind 0 1) refl Done))))

-- the global with a number added
abbrev pub adds_to_global : ℕ → Body
adds_to_global n = Goes (GlobalGet 0) refl (Goes (Const (I32 n)) refl (Goes (I32Binary Add) refl (Goes (GlobalSet 0) refl (Goes (GlobalGet 0) refl Done))))

-- out of a block with two operands, of which the upper one is its result
abbrev pub leaves_with : ℕ → ℕ → Body
leaves_with a b = InBlock (Some types.I32) (Goes (Const (I32 a)) refl (Goes (Const (I32 b)) refl (Goes (Br 0) refl Done))) Done
