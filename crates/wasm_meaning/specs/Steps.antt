-- Steps that may stop the code.
use Rattle.std.specs.Prelude.{Result, Ok, Err, Option, Some, None}
use Rattle.wasm_meaning.specs.declared.off.Off.{Off}
use Rattle.wasm_meaning.specs.declared.off.Off.TheVariants.{Stuck}

infixl 10 ◌>>=◌
abbrev pub ◌>>=◌ : {A B : Type 0} → Result A Off → (A → Result B Off) → Result B Off
(Ok x) >>= f = f x
(Err e) >>= f = Err e

-- what is there: code that was typed finds it
abbrev pub found : {A : Type 0} → Option A → Result A Off
found None = Err Stuck
found (Some x) = Ok x
