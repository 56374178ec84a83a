-- Work that may stop, since memory ran out or there is a fault.
use Rattle.std.specs.Prelude.{◌≡◌, Result, Ok, Err}
use Rattle.basics.specs.declared.stop.Stop.{Stop}
use Rattle.basics.specs.declared.stop.Stop.TheVariants as stop

-- then the next
infixl 10 ◌>>=◌
abbrev pub ◌>>=◌ : {F A B : Type 0} → Result A F → (A → Result B F) → Result B F
(Ok x) >>= f = f x
(Err e) >>= f = Err e

-- where work stopped for a fault, the definition has that fault
abbrev pub Fails : {F Y : Type 0} → Stop F → Result Y F → Type 0
Fails stop.Memory defined = Unit {0}
Fails (stop.Fault fault) defined = defined ≡ Err fault

-- what a function returned, seen by view, is what the definition gives, unless memory ran out
abbrev pub Gives : {F X Y : Type 0} → (X → Y) → Result X (Stop F) → Result Y F → Type 0
Gives view (Ok x) defined = defined ≡ Ok (view x)
Gives view (Err e) defined = Fails e defined

-- what a function made of a state is what the definition gives, unless memory ran out
abbrev pub Makes : {F X Y : Type 0} → Result X (Stop F) → Y → Result Y F → Type 0
Makes (Ok x) new defined = defined ≡ Ok new
Makes (Err e) new defined = Fails e defined

-- the same of a function that also returns a value
abbrev pub MakesOf : {F X Y : Type 0} → Result X (Stop F) → Y → Result (X × Y) F → Type 0
MakesOf (Ok x) new defined = defined ≡ Ok (x, new)
MakesOf (Err e) new defined = Fails e defined
