-- What it means that the fault of a part, of sections and of a module is the first one. Nothing is wrong before its place,
-- and nothing that follows mends it, with the exceptions that have names here.
use Rattle.std.specs.Prelude.{◌≡◌, ◌⊎◌, ◌<◌, ℕ, Bool, true, false, Result, Ok, Err, List, [], ◌++◌, length}
use Rattle.wasm_types.specs.declared.modules.Module.{Module}
use Rattle.wasm_code.specs.declared.fault.ReadKind.{ReadKind}
use Rattle.wasm_code.specs.declared.fault.ReadKind.TheVariants.{Truncated, SectionSize, BadLeb, TooLarge, CountMismatch}
use Rattle.wasm_code.specs.declared.fault.ReadFault.{ReadFault}
use Rattle.wasm_code.specs.declared.scope.Scope.{Scope}
use Rattle.wasm_code.specs.Reading.{fault_at, short_of, u32_at}
use Rattle.wasm_reader.specs.Grammar.{IsModule}
use Rattle.wasm_reader.specs.Sections.{module_at}

-- ---- in a scope

-- a part of a module that is right so far is cut off at its end
abbrev pub IsCut : {A : Type 0} → Scope → Result A ReadFault → Type 0
IsCut scope read = read ≡ Err (short_of scope)

-- sections that are right so far are a module already, or are cut off, or have different counts of functions and bodies,
-- which is told only when the bytes end
abbrev pub IsUnfinished : Scope → Result Module ReadFault → Type 0
IsUnfinished scope (Ok m) = Unit {0}
IsUnfinished scope (Err fault) = (fault ≡ short_of scope) ⊎ (fault ≡ fault_at CountMismatch scope [])

-- the stated size of a section is too small for what it holds: what stands before the place is right up to there, where
-- that size ends
abbrev pub IsOutgrown : {A : Type 0} → (Scope → List ℕ → Result A ReadFault) → ReadFault → List ℕ → Type 0
IsOutgrown read fault front = (fault.kind ≡ SectionSize) × ((scope : Scope) → read scope front ≡ Err (fault_at SectionSize scope []))

-- this, where there are sections, and else never
abbrev pub MayOutgrow : {A : Type 0} → Bool → (Scope → List ℕ → Result A ReadFault) → ReadFault → List ℕ → Type 0
MayOutgrow true read fault front = IsOutgrown read fault front
MayOutgrow false read fault front = ⊥

-- the same fault is told at the same place, whatever comes behind
abbrev pub IsNotMended : {A : Type 0} → (Scope → List ℕ → Result A ReadFault) → ReadKind → List ℕ → List ℕ → Type 0
IsNotMended read kind front tail = (scope : Scope) (more : List ℕ) → read scope (front ++ (tail ++ more)) ≡ Err (fault_at kind scope (tail ++ more))

-- a number that has no end yet
abbrev pub IsCutNumber : List ℕ → Type 0
IsCutNumber bytes = (scope : Scope) → u32_at scope bytes ≡ Err (short_of scope)

-- too many parameters are told at a body's count of groups, here cut off: if the count turns out to be no number, this is
-- told, at the same place
abbrev pub IsCutCount : {A : Type 0} → (Scope → List ℕ → Result A ReadFault) → ReadKind → List ℕ → List ℕ → Type 0
IsCutCount read kind front tail =
    (kind ≡ TooLarge)
    × IsCutNumber tail
    × ((scope : Scope) → read scope (front ++ tail) ≡ Err (fault_at TooLarge scope tail))
    × ((scope : Scope) (more : List ℕ) → (read scope (front ++ (tail ++ more)) ≡ Err (fault_at TooLarge scope (tail ++ more))) ⊎ (read scope (front ++ (tail ++ more)) ≡ Err (fault_at BadLeb scope (tail ++ more))))

-- the fault stands where the bytes after front begin; Ends says what is told of text that is right so far, and sections
-- whether what is read has sections
pub record IsFirstBut {A : Type 0} (sections : Bool) (Ends : Scope → Result A ReadFault → Type 0) (read : Scope → List ℕ → Result A ReadFault) (scope : Scope) (bytes : List ℕ) (fault : ReadFault) : Type 0 where
  pub front : List ℕ
  pub tail : List ℕ
  pub parts : bytes ≡ front ++ tail
  pub before : ((s : Scope) → Ends s (read s front)) ⊎ MayOutgrow sections read fault front
  pub there : ((tail ≡ []) × Ends scope (Err fault)) ⊎ ((kind : ReadKind) × (fault ≡ fault_at kind scope tail) × (IsNotMended read kind front tail ⊎ IsCutCount read kind front tail))

abbrev pub TellsFirstBut : {A : Type 0} → (Scope → Result A ReadFault → Type 0) → (Scope → List ℕ → Result A ReadFault) → Type 0
TellsFirstBut Ends read = (scope : Scope) (bytes : List ℕ) (fault : ReadFault) → read scope bytes ≡ Err fault → IsFirstBut false Ends read scope bytes fault

-- the same of what has sections
abbrev pub SectionsTellFirst : {A : Type 0} → (Scope → Result A ReadFault → Type 0) → (Scope → List ℕ → Result A ReadFault) → Type 0
SectionsTellFirst Ends read = (scope : Scope) (bytes : List ℕ) (fault : ReadFault) → read scope bytes ≡ Err fault → IsFirstBut true Ends read scope bytes fault

-- ---- of a whole module

-- what is told of bytes that are right so far, alone: they are a module, or the fault stands at their very end
abbrev pub EndsAt : ℕ → Result Module ReadFault → Type 0
EndsAt end (Ok m) = Unit {0}
EndsAt end (Err fault) = ((fault.kind ≡ Truncated) ⊎ (fault.kind ≡ CountMismatch)) × (fault.place ≡ end)

-- what is told of these bytes, which begin with those of the fault and go on: the same fault. But they may be too many,
-- which is told first; and a count of groups behind too many parameters, cut off before, may turn out to be no number.
abbrev pub StillTells : ReadFault → List ℕ → List ℕ → Type 0
StillTells fault tail bytes =
    (module_at bytes ≡ Err fault)
    ⊎ (((16777216 < length bytes) × (module_at bytes ≡ Err (record { kind = TooLarge; place = 0 })))
    ⊎ ((fault.kind ≡ TooLarge) × IsCutNumber tail × (module_at bytes ≡ Err (record { kind = BadLeb; place = fault.place }))))

-- the fault stands where the bytes after front begin
pub record IsFirstFault (bytes : List ℕ) (fault : ReadFault) : Type 0 where
  pub front : List ℕ
  pub tail : List ℕ
  pub parts : bytes ≡ front ++ tail
  pub place : fault.place ≡ length front
  -- nothing is wrong before the place, but for the stated size of a section that ends there and is too small for what it holds
  pub before : EndsAt (length front) (module_at front) ⊎ ((fault.kind ≡ SectionSize) × (module_at front ≡ Err fault))
  -- the fault stands at the end of the bytes, or nothing that follows them mends them: no module begins with them
  pub there : ((tail ≡ []) × ((fault.kind ≡ Truncated) ⊎ (fault.kind ≡ CountMismatch))) ⊎ (((more : List ℕ) → StillTells fault tail (bytes ++ more)) × ((more : List ℕ) (m : Module) → IsModule (bytes ++ more) m → ⊥))
