-- What a step that found no fault has given, and how steps follow each other.
use Rattle.std.proofs.Common.{◌≡◌, ℕ, Option, Some, None, Result, Ok, Err, refl, ap}
use Rattle.wasm_validate.specs.declared.fault.ValidKind.{ValidKind}
use Rattle.wasm_validate.specs.Steps.{◌>>=◌, unless, told}
pub use Rattle.basics.proofs.Results.{bind_ok, needs_ok, guard_ok, same_after}

abbrev pub done : {A E : Type 0} → A → Result A E
done x = Ok x

pub ok_is : {A E : Type 0} (x y : A) → done {E = E} x ≡ done {E = E} y → x ≡ y
ok_is x y e = cc

pub unless_ok : {A E : Type 0} (x y : A) (o : Option E) → unless x o ≡ Ok y → (o ≡ None) × (x ≡ y)
unless_ok {A} {E} x y None e = (refl, ok_is {E = E} x y e)
unless_ok x y (Some d) e = absurd cc

pub told_ok : {A : Type 0} (n : ℕ) (r : Result A ValidKind) (y : A) → told n r ≡ Ok y → r ≡ Ok y
told_ok {A} n (Ok x) y e = ap (λ (z : A). done z) (ok_is {E = ValidKind × ℕ} x y e)
told_ok n (Err d) y e = absurd cc

-- ---- the same steps, otherwise grouped

pub stepped : {A B Y Z : Type 0} (n : ℕ) (r : Result A ValidKind) (g : A → B) (k : B → Result Z (ValidKind × ℕ)) (w : A → Result Y (ValidKind × ℕ)) (fin : Y → Result Z (ValidKind × ℕ)) → ((x : A) → k (g x) ≡ (w x >>= fin))
    → (told n (r >>= λ x. Ok (g x)) >>= k) ≡ ((told n r >>= w) >>= fin)
stepped n (Ok x) g k w fin h = h x
stepped n (Err d) g k w fin h = refl

pub chained : {X Y Z E : Type 0} (r : Result X E) (k : X → Result Z E) (w : X → Result Y E) (fin : Y → Result Z E) → ((x : X) → k x ≡ (w x >>= fin)) → (r >>= k) ≡ ((r >>= w) >>= fin)
chained (Ok x) k w fin h = h x
chained (Err d) k w fin h = refl

pub closing : {A B C Y Z : Type 0} (n : ℕ) (x : Result A ValidKind) (y : Result B ValidKind) (g : B → C) (k : C → Result Z (ValidKind × ℕ)) (w : B → Result Y (ValidKind × ℕ)) (fin : Y → Result Z (ValidKind × ℕ)) → ((o : B) → k (g o) ≡ (w o >>= fin))
    → (told n (x >>= λ _. (y >>= λ o. Ok (g o))) >>= k) ≡ ((told n (x >>= λ _. y) >>= w) >>= fin)
closing n (Err d) y g k w fin h = refl
closing n (Ok x) (Err d) g k w fin h = refl
closing n (Ok x) (Ok y) g k w fin h = h y

pub closing_if : {A B C S O Y Z : Type 0} (n : ℕ) (x : Result A ValidKind) (z : Option ValidKind) (s : S) (o : O) (f : S → Result C ValidKind) (y : O → Result B ValidKind) (g : B → C) (k : C → Result Z (ValidKind × ℕ)) (w : B → Result Y (ValidKind × ℕ)) (fin : Y → Result Z (ValidKind × ℕ))
    → f s ≡ (y o >>= λ p. Ok (g p)) → ((p : B) → k (g p) ≡ (w p >>= fin))
    → (told n (x >>= λ _. unless s z >>= f) >>= k) ≡ ((told n (x >>= λ _. unless o z >>= y) >>= w) >>= fin)
closing_if n (Err d) z s o f y g k w fin e h = refl
closing_if n (Ok x) (Some d) s o f y g k w fin e h = refl
closing_if {A} {B} {C} n (Ok x) None s o f y g k w fin e h = rw e (closing n (done {E = ValidKind} x) (y o) g k w fin h)
