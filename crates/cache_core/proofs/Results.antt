-- Facts under an Ok and under an Err.
use Rattle.std.specs.Prelude.{◌≡◌, Option, Some, None, is_some, option_copied, Result, Ok, Err, OnOk, OnErr, refl}
use Rattle.std.proofs.Common.{Bor}

pub on_ok : {A E : Type 0} (r : Result A E) {P Q : Type 0} → (P → Q) → OnOk r P → OnOk r Q
on_ok (Ok a) f h = f h
on_ok (Err e) f h = tt

pub on_err : {A E : Type 0} (r : Result A E) {P Q : Type 0} → (P → Q) → OnErr r P → OnErr r Q
on_err (Ok a) f h = tt
on_err (Err e) f h = f h

pub always_err : {A E : Type 0} (r : Result A E) {P : Type 0} → P → OnErr r P
always_err (Ok a) p = tt
always_err (Err e) p = p

pub always_ok : {A E : Type 0} (r : Result A E) {P : Type 0} → P → OnOk r P
always_ok (Ok a) p = p
always_ok (Err e) p = tt

pub some_copied : {X : Type 0} (o : Option (Bor X)) → is_some o ≡ is_some (option_copied o)
some_copied None = refl
some_copied (Some b) = refl
