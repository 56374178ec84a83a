-- Steps that may find a fault.
use Rattle.std.specs.Prelude.{ℕ, Option, Some, None, Result, Ok, Err}
use Rattle.wasm_validate.specs.declared.fault.ValidKind.{ValidKind}
pub use Rattle.basics.specs.Stops.{◌>>=◌, Fails, Gives, Makes, MakesOf}

-- what an index finds, or the fault of finding nothing
abbrev pub found : {A E : Type 0} → E → Option A → Result A E
found e None = Err e
found e (Some x) = Ok x

-- a fault, if there is one
abbrev pub unless : {A E : Type 0} → A → Option E → Result A E
unless x None = Ok x
unless x (Some e) = Err e

-- a fault, with the number of its instruction
abbrev pub told : {A : Type 0} → ℕ → Result A ValidKind → Result A (ValidKind × ℕ)
told at (Ok x) = Ok x
told at (Err kind) = Err (kind, at)
