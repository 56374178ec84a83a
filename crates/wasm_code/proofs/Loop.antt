-- Reading items one after the other, as a loop does.
use Rattle.wasm_code.specs.declared.fault.ReadFault.{ReadFault}
use Rattle.std.proofs.Common.{◌≡◌, ℕ, suc, Bool, true, false, ◌-◌, ◌+◌, ◌≤◌, ◌<◌, List, [], ◌∷◌, ◌++◌, Ok, Err, refl, sym, ap, ◌∙◌, append_assoc, arith}
use Rattle.std.proofs.lemmas.List.{append-nil}
use Rattle.basics.specs.declared.stop.Stop.{Stop}
use Rattle.basics.specs.declared.stop.Stop.TheVariants as stops
use Rattle.wasm_types.specs.declared.instructions.Instr.{Instr}
use Rattle.wasm_types.specs.Nested.{role_of}
use Rattle.wasm_code.specs.declared.scope.Scope.{Scope}
use Rattle.wasm_code.specs.Reading.{Reading, ◌>>=◌, Fails, short_of, many_at}
use Rattle.wasm_code.specs.Instructions.{instr_at, is_last, opens_after, instrs_at}

-- what was read before, and what is still read
abbrev pub with_front : {A : Type 0} → List A → Reading (List A) → Reading (List A)
with_front front read = read >>= λ x. Ok (front ++ x.0, x.1)

pub regroup : {A : Type 0} (front : List A) (n : A) (read : Reading (List A)) → with_front front (read >>= λ x. Ok (n ∷ x.0, x.1)) ≡ with_front (front ++ n ∷ []) read
regroup {A} front n (Ok x) = ap (λ (ns : List A). Ok (ns, x.1)) (simp append_assoc)
regroup front n (Err f) = refl

pub goes_on : {A : Type 0} (item_at : List ℕ → Reading A) (front : List A) (count i : ℕ) (bytes : List ℕ) (n : A) (after : List ℕ) (total : Reading (List A)) → i < count → item_at bytes ≡ Ok (n, after)
    → with_front front (many_at item_at (count - i) bytes) ≡ total → with_front (front ++ n ∷ []) (many_at item_at (count - (i + 1)) after) ≡ total
unfolding many_at
goes_on item_at front count i bytes n after total lt h so_far =
    let k : count - i ≡ suc (count - (i + 1)) = omega arith in
    let one : with_front front (many_at item_at (count - i) bytes) ≡ with_front (front ++ n ∷ []) (many_at item_at (count - (i + 1)) after) = rw (k, h) (regroup front n (many_at item_at (count - (i + 1)) after)) in
    sym one ∙ so_far

pub ends : {A : Type 0} (item_at : List ℕ → Reading A) (e : Stop ReadFault) (front : List A) (count i : ℕ) (bytes : List ℕ) (total : Reading (List A)) → i < count → Fails e (item_at bytes)
    → with_front front (many_at item_at (count - i) bytes) ≡ total → Fails e total
unfolding many_at
ends item_at stops.Memory front count i bytes total lt h so_far = tt
ends item_at (stops.Fault f) front count i bytes total lt h so_far =
    let k : count - i ≡ suc (count - (i + 1)) = omega arith in
    let one : with_front front (many_at item_at (count - i) bytes) ≡ Err f = rw (k, h) refl in
    sym so_far ∙ one

pub is_done : {A : Type 0} (item_at : List ℕ → Reading A) (front : List A) (count i : ℕ) (bytes : List ℕ) (total : Reading (List A)) → count ≤ i → with_front front (many_at item_at (count - i) bytes) ≡ total → total ≡ Ok (front, bytes)
unfolding many_at
is_done {A} item_at front count i bytes total le so_far =
    let k : count - i ≡ 0 = omega arith in
    let one : with_front front (many_at item_at (count - i) bytes) ≡ Ok (front, bytes) = rw k (ap (λ (ns : List A). Ok (ns, bytes)) (append-nil front)) in
    sym so_far ∙ one

-- ---- the instructions of an expression

pub turn : (most : ℕ) (opens : List Bool) (scope : Scope) (front : List Instr) (bytes after : List ℕ) (i : Instr) → instr_at opens scope bytes ≡ Ok (i, after) → is_last (role_of i) opens ≡ false
    → with_front front (instrs_at (suc most) opens scope bytes) ≡ with_front (front ++ i ∷ []) (instrs_at most (opens_after (role_of i) opens) scope after)
unfolding instrs_at
turn most opens scope front bytes after i read last = rw (read, last) (regroup front i (instrs_at most (opens_after (role_of i) opens) scope after))

pub last_turn : (most : ℕ) (opens : List Bool) (scope : Scope) (front : List Instr) (bytes after : List ℕ) (i : Instr) → instr_at opens scope bytes ≡ Ok (i, after) → is_last (role_of i) opens ≡ true
    → with_front front (instrs_at (suc most) opens scope bytes) ≡ Ok (front ++ i ∷ [], after)
unfolding instrs_at
last_turn most opens scope front bytes after i read last = rw (read, last) refl

pub no_turn : (most : ℕ) (opens : List Bool) (scope : Scope) (front : List Instr) (bytes : List ℕ) (e : Stop ReadFault) (total : Reading (List Instr)) → Fails e (instr_at opens scope bytes)
    → with_front front (instrs_at (suc most) opens scope bytes) ≡ total → Fails e total
unfolding instrs_at
no_turn most opens scope front bytes stops.Memory total read so_far = tt
no_turn most opens scope front bytes (stops.Fault f) total read so_far =
    let one : with_front front (instrs_at (suc most) opens scope bytes) ≡ Err f = rw read refl in
    sym so_far ∙ one

pub no_more : (opens : List Bool) (scope : Scope) (front : List Instr) (bytes : List ℕ) → with_front front (instrs_at 0 opens scope bytes) ≡ Err (short_of scope)
unfolding instrs_at
no_more opens scope front bytes = refl

pub with_none : {A : Type 0} (read : Reading (List A)) → with_front [] read ≡ read
with_none (Ok x) = refl
with_none (Err f) = refl
