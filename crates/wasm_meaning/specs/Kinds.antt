-- The types of values and functions.
use Rattle.std.specs.Prelude.{Bool, true, false, ◌&&◌}
use Rattle.wasm_types.specs.declared.types.ValueType.{ValueType}
use Rattle.wasm_types.specs.declared.types.ValueType.TheVariants.{I32, I64}
use Rattle.wasm_types.specs.declared.types.FuncType.{FuncType}
use Rattle.wasm_types.specs.Types.{same_result, same_types}
use Rattle.wasm_types.specs.declared.values.Value.{Value}
use Rattle.wasm_types.specs.declared.values.Value.TheVariants as values

-- two types of functions are one where their parameters and results are, whatever their indices
abbrev pub same_function_type : FuncType → FuncType → Bool
same_function_type t u = same_result t.result u.result && same_types t.params u.params

-- what a local is at first (section 4.4.7)
abbrev pub zero_of : ValueType → Value
zero_of I32 = values.I32 0
zero_of I64 = values.I64 0

abbrev pub same_kind : Value → Value → Bool
same_kind (values.I32 m) (values.I32 n) = true
same_kind (values.I32 m) (values.I64 n) = false
same_kind (values.I64 m) (values.I32 n) = false
same_kind (values.I64 m) (values.I64 n) = true
