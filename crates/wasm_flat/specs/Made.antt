-- What a function of the machine makes of a state is what a step gives, unless memory ran out.
use Rattle.std.specs.Prelude.{◌≡◌, Result, Ok, Err}
use Rattle.wasm_meaning.specs.declared.off.Off.{Off}
use Rattle.wasm_meaning.specs.declared.off.Off.TheVariants as offs
use Rattle.wasm_meaning.specs.World.{World}
use Rattle.wasm_flat.specs.declared.halt.Halt.{Halt}
use Rattle.wasm_flat.specs.declared.halt.Halt.TheVariants.{Stuck, Memory, Trap}

abbrev pub Stops : {Y : Type 0} → Halt → Result Y Off → Type 0
Stops Memory step = Unit {0}
Stops Stuck step = step ≡ Err offs.Stuck
Stops (Trap kind) step = step ≡ Err (offs.Trap kind)

abbrev pub Makes : {X Y : Type 0} → Result X Halt → Y → Result Y Off → Type 0
Makes (Ok x) new step = step ≡ Ok new
Makes (Err e) new step = Stops e step

-- the same of a function that also gives a value
abbrev pub MakesOf : {X Y : Type 0} → Result X Halt → Y → Result (X × Y) Off → Type 0
MakesOf (Ok x) new step = step ≡ Ok (x, new)
MakesOf (Err e) new step = Stops e step

-- the same of a value alone
abbrev pub Gives : {X : Type 0} → Result X Halt → Result X Off → Type 0
Gives (Ok x) step = step ≡ Ok x
Gives (Err e) step = Stops e step

-- where the code is stuck or traps, globals and memory are as they were
abbrev pub KeepsWorld : {X : Type 0} → Result X Halt → World → World → Type 0
KeepsWorld (Ok x) old new = Unit {0}
KeepsWorld (Err Memory) old new = Unit {0}
KeepsWorld (Err e) old new = new ≡ old
