-- Each part is checked without a fault exactly where it is valid.
use Rattle.std.proofs.Common.{◌≡◌, ℕ, ◌+◌, ◌<◌, Bool, true, ltb, Result, Ok, Err, List, [], ◌∷◌, refl, ap}
use Rattle.std.proofs.lemmas.Bool.{ltb-true, lt-ltb}
use Rattle.wasm_validate.specs.declared.fault.ValidKind.{ValidKind}
use Rattle.wasm_validate.specs.declared.fault.Part.{Part}
use Rattle.wasm_validate.specs.declared.fault.ValidFault.{ValidFault}
use Rattle.wasm_validate.specs.Steps.{told}
use Rattle.wasm_validate.specs.Faults.{in_part}
use Rattle.wasm_validate.specs.Valid.{AllAt}
use Rattle.wasm_validate.specs.Parts.{Checked, needs, each, placed, every}
use Rattle.wasm_validate.proofs.Results.{bind_ok, needs_ok, done, ok_is}

abbrev pub Passes : {A E : Type 0} → Result A E → Type 0
Passes {A} r = (x : A) × (r ≡ Ok x)

-- each item, one after the other
pub each_all : {A : Type 0} (check : ℕ → A → Result (Unit {0}) ValidFault) (P : ℕ → A → Type 0) → ((k : ℕ) (x : A) → check k x ≡ Ok tt → P k x) → (k : ℕ) (xs : List A) → each check k xs ≡ Ok tt → AllAt P k xs
each_all check P h k [] e = tt
each_all check P h k (x ∷ xs) e =
    let b = bind_ok (check k x) (λ _. each check (k + 1) xs) tt e in
    (h k x b.1, each_all check P h (k + 1) xs b.2)

pub all_each : {A : Type 0} (check : ℕ → A → Result (Unit {0}) ValidFault) (P : ℕ → A → Type 0) → ((k : ℕ) (x : A) → P k x → check k x ≡ Ok tt) → (k : ℕ) (xs : List A) → AllAt P k xs → each check k xs ≡ Ok tt
all_each check P h k [] a = refl
all_each check P h k (x ∷ xs) a = rw (h k x a.0) (all_each check P h (k + 1) xs a.1)

-- the same where items hold by themselves a fact that the converse needs
pub all_each_with : {A : Type 0} (check : ℕ → A → Result (Unit {0}) ValidFault) (P Q : ℕ → A → Type 0) → ((k : ℕ) (x : A) → Q k x → check k x ≡ Ok tt → P k x) → (k : ℕ) (xs : List A) → AllAt Q k xs → each check k xs ≡ Ok tt → AllAt P k xs
all_each_with check P Q h k [] a e = tt
all_each_with check P Q h k (x ∷ xs) a e =
    let b = bind_ok (check k x) (λ _. each check (k + 1) xs) tt e in
    (h k x a.0 b.1, all_each_with check P Q h (k + 1) xs a.1 b.2)

pub placed_ok : {X : Type 0} (part : Part) (k : ℕ) (r : Result X ValidKind) (x : X) → in_part part k (told 0 r) ≡ Ok x → r ≡ Ok x
placed_ok {X} part k (Ok x) y e = ap (λ (z : X). done z) (ok_is {E = ValidFault} x y e)
placed_ok part k (Err d) y e = absurd cc

pub ok_placed : {X : Type 0} (part : Part) (k : ℕ) (r : Result X ValidKind) (x : X) → r ≡ Ok x → in_part part k (told 0 r) ≡ Ok x
ok_placed part k r x e = rw e refl

pub every_all : {A : Type 0} (part : Part) (check : ℕ → A → Checked) (P : ℕ → A → Type 0) → ((k : ℕ) (x : A) → check k x ≡ Ok tt → P k x) → (xs : List A) → every part check xs ≡ Ok tt → AllAt P 0 xs
every_all part check P h xs e = each_all (placed part check) P (λ k x f. h k x (placed_ok part k (check k x) tt f)) 0 xs e

pub all_every : {A : Type 0} (part : Part) (check : ℕ → A → Checked) (P : ℕ → A → Type 0) → ((k : ℕ) (x : A) → P k x → check k x ≡ Ok tt) → (xs : List A) → AllAt P 0 xs → every part check xs ≡ Ok tt
all_every part check P h xs a = all_each (placed part check) P (λ k x p. ok_placed part k (check k x) tt (h k x p)) 0 xs a

-- ---- tests

pub need_ok : (b : Bool) (kind : ValidKind) → needs b kind ≡ Ok tt → b ≡ true
need_ok b kind e = (needs_ok b kind (done tt) tt e).0

pub ok_need : (b : Bool) (kind : ValidKind) → b ≡ true → needs b kind ≡ Ok tt
ok_need b kind e = rw e refl

pub below_ok : (a b : ℕ) (kind : ValidKind) → needs (ltb a b) kind ≡ Ok tt → a < b
below_ok a b kind e = ltb-true a b (need_ok (ltb a b) kind e)

pub ok_below : (a b : ℕ) (kind : ValidKind) → a < b → needs (ltb a b) kind ≡ Ok tt
ok_below a b kind h = ok_need (ltb a b) kind (lt-ltb a b h)
