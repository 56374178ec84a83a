-- Reading from left to right, with the first fault that is met. What is left to read are the last bytes of a scope, so
-- their length tells the place.
use Rattle.std.specs.Prelude.{◌≡◌, ◌⊎◌, ℕ, zero, suc, ◌+◌, ◌-◌, ◌*◌, ◌/◌, min, nat_lt, if◌then◌else◌, Option, Some, None, Result, Ok, Err, List, [], ◌∷◌, length}
use Rattle.wasm_code.specs.declared.fault.ReadKind.{ReadKind}
use Rattle.wasm_code.specs.declared.fault.ReadKind.TheVariants.{BadLeb, TooLarge, OutOfMemory}
use Rattle.wasm_code.specs.declared.fault.ReadFault.{ReadFault}
use Rattle.basics.specs.declared.stop.Stop.{Stop}
use Rattle.basics.specs.declared.stop.Stop.TheVariants as stops
pub use Rattle.basics.specs.Stops.{◌>>=◌, Gives, Fails}
use Rattle.wasm_code.specs.declared.scope.Scope.{Scope}
use Rattle.wasm_code.specs.Grammar as grammar

-- a value and the bytes after it, or the first fault
abbrev pub Reading : Type 0 → Type 0
Reading A = Result (A × List ℕ) ReadFault

-- a fault where these bytes begin; a place too great to tell is told as the greatest
abbrev pub fault_at : ReadKind → Scope → List ℕ → ReadFault
fault_at kind scope bytes = record { kind = kind; place = min (scope.end - length bytes) 4294967295 }

-- the fault of passing the end
abbrev pub short_of : Scope → ReadFault
short_of scope = record { kind = scope.short; place = min scope.end 4294967295 }

abbrev pub no_memory : ReadFault
no_memory = record { kind = OutOfMemory; place = 0 }

abbrev pub told_of : Stop ReadFault → ReadFault
told_of stops.Memory = no_memory
told_of (stops.Fault fault) = fault

-- The same of a call that tells want of memory as a fault.
abbrev pub Answers : {X Y : Type 0} → (X → Y) → Result X ReadFault → Result Y ReadFault → Type 0
Answers view (Ok x) read = read ≡ Ok (view x)
Answers view (Err fault) read = (fault ≡ no_memory) ⊎ (read ≡ Err fault)

-- ---- numbers: what is wrong with one is told at its first byte

unfoldable pub unsigned_at : ReadFault → ReadFault → ℕ → List ℕ → Reading ℕ
unsigned_at bad short limit [] = Err short
unsigned_at bad short limit (byte ∷ bytes) =
    if nat_lt byte 128
    then (if nat_lt byte limit then Ok (byte, bytes) else Err bad)
    else (if nat_lt 128 limit
    then (unsigned_at bad short (limit / 128) bytes >>= λ high. Ok (128 * high.0 + (byte - 128), high.1))
    else Err bad)

abbrev pub last_signed : ℕ → ℕ → Option ℕ
last_signed = grammar.last_signed

abbrev pub ok_or : {A : Type 0} → ReadFault → Option A → List ℕ → Reading A
ok_or bad None rest = Err bad
ok_or bad (Some x) rest = Ok (x, rest)

unfoldable pub signed_at : ReadFault → ReadFault → ℕ → List ℕ → Reading ℕ
signed_at bad short limit [] = Err short
signed_at bad short limit (byte ∷ bytes) =
    if nat_lt byte 128
    then ok_or bad (grammar.last_signed limit byte) bytes
    else (if nat_lt 128 limit
    then (signed_at bad short (limit / 128) bytes >>= λ high. Ok (128 * high.0 + (byte - 128), high.1))
    else Err bad)

unfoldable pub u32_at : Scope → List ℕ → Reading ℕ
u32_at scope bytes = unsigned_at (fault_at BadLeb scope bytes) (short_of scope) 4294967296 bytes

unfoldable pub s32_at : Scope → List ℕ → Reading ℕ
s32_at scope bytes = signed_at (fault_at BadLeb scope bytes) (short_of scope) 4294967296 bytes

unfoldable pub s64_at : Scope → List ℕ → Reading ℕ
s64_at scope bytes = signed_at (fault_at BadLeb scope bytes) (short_of scope) 18446744073709551616 bytes

-- ---- vectors

unfoldable pub count_at : ℕ → Scope → List ℕ → Reading ℕ
count_at limit scope bytes =
    u32_at scope bytes >>= λ count. if nat_lt limit count.0 then Err (fault_at TooLarge scope bytes) else Ok (count.0, count.1)

unfoldable pub many_at : {A : Type 0} → (List ℕ → Reading A) → ℕ → List ℕ → Reading (List A)
many_at read zero bytes = Ok ([], bytes)
many_at read (suc n) bytes = read bytes >>= λ first. many_at read n first.1 >>= λ others. Ok (first.0 ∷ others.0, others.1)

unfoldable pub vector_at : {A : Type 0} → ℕ → (Scope → List ℕ → Reading A) → Scope → List ℕ → Reading (List A)
vector_at limit read scope bytes = count_at limit scope bytes >>= λ count. many_at (read scope) count.0 count.1
