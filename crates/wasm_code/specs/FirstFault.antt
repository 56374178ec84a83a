-- What it means that a fault is the first one.
use Rattle.std.specs.Prelude.{◌≡◌, ◌⊎◌, ℕ, Err, List, [], ◌++◌}
use Rattle.wasm_code.specs.declared.fault.ReadKind.{ReadKind}
use Rattle.wasm_code.specs.declared.fault.ReadFault.{ReadFault}
use Rattle.wasm_code.specs.declared.scope.Scope.{Scope}
use Rattle.wasm_code.specs.Reading.{Reading, fault_at, short_of}

-- nothing is wrong before the place: what stands there alone, in any scope, is cut off at its end
abbrev pub IsRightSoFar : {A : Type 0} → (Scope → List ℕ → Reading A) → List ℕ → Type 0
IsRightSoFar read front = (scope : Scope) → read scope front ≡ Err (short_of scope)

-- nothing that follows mends it: the same fault is told at the same place, whatever comes behind
abbrev pub IsNotMended : {A : Type 0} → (Scope → List ℕ → Reading A) → ReadKind → List ℕ → List ℕ → Type 0
IsNotMended read kind front tail = (scope : Scope) (more : List ℕ) → read scope (front ++ (tail ++ more)) ≡ Err (fault_at kind scope (tail ++ more))

-- the fault stands where the bytes after front begin, and is the cut itself, or is there whatever follows
pub record IsFirst {A : Type 0} (read : Scope → List ℕ → Reading A) (scope : Scope) (bytes : List ℕ) (fault : ReadFault) : Type 0 where
  pub front : List ℕ
  pub tail : List ℕ
  pub parts : bytes ≡ front ++ tail
  pub before : IsRightSoFar read front
  pub there : ((tail ≡ []) × (fault ≡ short_of scope)) ⊎ ((kind : ReadKind) × (fault ≡ fault_at kind scope tail) × IsNotMended read kind front tail)

abbrev pub TellsFirst : {A : Type 0} → (Scope → List ℕ → Reading A) → Type 0
TellsFirst read = (scope : Scope) (bytes : List ℕ) (fault : ReadFault) → read scope bytes ≡ Err fault → IsFirst read scope bytes fault
