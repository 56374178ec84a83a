-- What a step that did not fail has given.
use Rattle.std.proofs.Common.{◌≡◌, ℕ, Bool, true, false, cond, eqb, List, Result, Ok, refl, sym, ap, subst, inl, inr}
use Rattle.std.proofs.lemmas.Bool.{cases_Bool, eqb-true}
use Rattle.wasm_code.specs.declared.fault.ReadFault.{ReadFault}
pub use Rattle.basics.proofs.Results.{bind_ok, needs_ok, guard_ok, chosen}

abbrev pub done : {A : Type 0} → A → Result A ReadFault
done x = Ok x

abbrev pub pair : {A B : Type 0} → A → B → A × B
pair x y = (x, y)

pub ok_is : {A : Type 0} (x y : A) → done x ≡ done y → x ≡ y
ok_is x y e = cc

pub ap2_pair : {A B : Type 0} {a c : A} {b d : B} → a ≡ c → b ≡ d → pair a b ≡ pair c d
ap2_pair p q = cc

pub pair_is : {A : Type 0} (x y : A) (rest after : List ℕ) → done (pair x rest) ≡ done (pair y after) → (x ≡ y) × (rest ≡ after)
pair_is {A} x y rest after e =
    let same = ok_is (pair x rest) (pair y after) e in
    (ap (λ (p : A × List ℕ). p.0) same, ap (λ (p : A × List ℕ). p.1) same)

pub same_ok : {A : Type 0} (x y : A) (rest after : List ℕ) → x ≡ y → rest ≡ after → done (pair x rest) ≡ done (pair y after)
same_ok {A} x y rest after p q = ap (λ (z : A × List ℕ). done z) (ap2_pair p q)

-- a choice by a number: what holds where the test holds, and where it doesn't
pub choice : {T : Type 0} (b k : ℕ) (x y z : T) (P : ℕ → Type 0) → (x ≡ z → P k) → (y ≡ z → P b) → cond (eqb b k) x y ≡ z → P b
choice b k x y z P p q e =
    elim (cases_Bool (eqb b k)) [
      | inl t ↦ subst P (sym (eqb-true b k t)) (p (rw t at e))
      | inr f ↦ q (rw f at e)
    ]

pub tested : {T : Type 0} (t : Bool) (x y z : T) (P : Type 0) → (t ≡ true → x ≡ z → P) → (t ≡ false → y ≡ z → P) → cond t x y ≡ z → P
tested true x y z P p q e = p refl e
tested false x y z P p q e = q refl e
