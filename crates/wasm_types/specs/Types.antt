-- Types, compared (section 2.3).
use Rattle.std.specs.Prelude.{Bool, true, false, ◌&&◌, List, [], ◌∷◌, Option, None, Some}
use Rattle.wasm_types.specs.declared.types.ValueType.{ValueType}
use Rattle.wasm_types.specs.declared.types.ValueType.TheVariants as types

abbrev pub same_type : ValueType → ValueType → Bool
same_type types.I32 types.I32 = true
same_type types.I64 types.I64 = true
same_type a b = false

abbrev pub same_result : Option ValueType → Option ValueType → Bool
same_result None None = true
same_result (Some a) (Some b) = same_type a b
same_result a b = false

abbrev pub same_types : List ValueType → List ValueType → Bool
same_types [] [] = true
same_types (a ∷ rest) (b ∷ others) = same_type a b && same_types rest others
same_types rest others = false
