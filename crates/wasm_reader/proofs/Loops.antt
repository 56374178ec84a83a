-- What the loops of the reader keep.
use Rattle.std.proofs.Common.{◌≡◌, ℕ, suc, ◌+◌, ◌-◌, ◌≤◌, List, [], ◌∷◌, ◌++◌, length, Some, None, Result, Ok, Err, refl, sym, ◌∙◌, replicate}
use Rattle.wasm_types.specs.declared.types.ValueType.{ValueType}
use Rattle.wasm_types.specs.declared.types.FuncType.{FuncType}
use Rattle.wasm_types.specs.declared.modules.Code.{Code}
use Rattle.wasm_code.specs.declared.fault.ReadFault.{ReadFault}
use Rattle.basics.specs.declared.stop.Stop.{Stop}
use Rattle.basics.specs.declared.stop.Stop.TheVariants as stops
use Rattle.wasm_code.specs.declared.scope.Scope.{Scope}
use Rattle.wasm_code.specs.Reading.{Reading, Fails, count_at}
use Rattle.wasm_code.specs.Instructions.{value_type_at}
use Rattle.wasm_code.proofs.ExactNumbers.{count_exact}
use Rattle.wasm_code.proofs.Loop.{with_front, regroup}
use Rattle.wasm_reader.specs.Grammar.{params_of}
use Rattle.wasm_reader.specs.Sections.{next_custom_at, customs_from, locals_from, sized_at, body_at, bodies_at}

-- ---- custom sections

pub customs_go : (most : ℕ) (scope : Scope) (bytes after : List ℕ) → next_custom_at scope bytes ≡ Ok (Some after) → customs_from (suc most) scope bytes ≡ customs_from most scope after
unfolding customs_from
customs_go most scope bytes after e = rw e refl

pub customs_stop : (most : ℕ) (scope : Scope) (bytes : List ℕ) → next_custom_at scope bytes ≡ Ok None → customs_from (suc most) scope bytes ≡ Ok bytes
unfolding customs_from
customs_stop most scope bytes e = rw e refl

pub customs_fail : (most : ℕ) (scope : Scope) (bytes : List ℕ) (e : Stop ReadFault) (total : Result (List ℕ) ReadFault) → Fails e (next_custom_at scope bytes) → customs_from (suc most) scope bytes ≡ total → Fails e total
unfolding customs_from
customs_fail most scope bytes stops.Memory total read so_far = tt
customs_fail most scope bytes (stops.Fault f) total read so_far =
    let one : customs_from (suc most) scope bytes ≡ Err f = rw read refl in
    sym so_far ∙ one

pub customs_done : (scope : Scope) (bytes : List ℕ) → customs_from 0 scope bytes ≡ Ok bytes
unfolding customs_from
customs_done scope bytes = refl

-- ---- locals

pub count_below : (limit : ℕ) (scope : Scope) (bytes rest : List ℕ) (n : ℕ) → count_at limit scope bytes ≡ Ok (n, rest) → n ≤ limit
count_below limit scope bytes rest n e = ((count_exact limit scope).sound bytes rest n e).0

pub locals_go : (params most count : ℕ) (before : List ValueType) (scope : Scope) (bytes mid after : List ℕ) (kind : ValueType) → count_at (4096 - (params + length before)) scope bytes ≡ Ok (count, mid) → value_type_at scope mid ≡ Ok (kind, after)
    → locals_from params before (suc most) scope bytes ≡ locals_from params (before ++ replicate count kind) most scope after
unfolding locals_from
locals_go params most count before scope bytes mid after kind c k = rw (c, k) refl

pub locals_no_count : (params most : ℕ) (before : List ValueType) (scope : Scope) (bytes : List ℕ) (e : Stop ReadFault) (total : Reading (List ValueType)) → Fails e (count_at (4096 - (params + length before)) scope bytes) → locals_from params before (suc most) scope bytes ≡ total → Fails e total
unfolding locals_from
locals_no_count params most before scope bytes stops.Memory total read so_far = tt
locals_no_count params most before scope bytes (stops.Fault f) total read so_far =
    let one : locals_from params before (suc most) scope bytes ≡ Err f = rw read refl in
    sym so_far ∙ one

pub locals_no_kind : (params most count : ℕ) (before : List ValueType) (scope : Scope) (bytes mid : List ℕ) (e : Stop ReadFault) (total : Reading (List ValueType)) → count_at (4096 - (params + length before)) scope bytes ≡ Ok (count, mid) → Fails e (value_type_at scope mid) → locals_from params before (suc most) scope bytes ≡ total → Fails e total
unfolding locals_from
locals_no_kind params most count before scope bytes mid stops.Memory total c read so_far = tt
locals_no_kind params most count before scope bytes mid (stops.Fault f) total c read so_far =
    let one : locals_from params before (suc most) scope bytes ≡ Err f = rw (c, read) refl in
    sym so_far ∙ one

pub locals_done : (params : ℕ) (before : List ValueType) (scope : Scope) (bytes : List ℕ) → locals_from params before 0 scope bytes ≡ Ok (before, bytes)
unfolding locals_from
locals_done params before scope bytes = refl

-- ---- bodies

pub bodies_go : (types : List FuncType) (functions : List ℕ) (index most : ℕ) (scope : Scope) (front : List Code) (bytes after : List ℕ) (body : Code) → sized_at scope.short (body_at (params_of types functions index)) scope bytes ≡ Ok (body, after)
    → with_front front (bodies_at types functions index (suc most) scope bytes) ≡ with_front (front ++ body ∷ []) (bodies_at types functions (suc index) most scope after)
unfolding bodies_at
bodies_go types functions index most scope front bytes after body e = rw e (regroup front body (bodies_at types functions (suc index) most scope after))

pub bodies_fail : (types : List FuncType) (functions : List ℕ) (index most : ℕ) (scope : Scope) (front : List Code) (bytes : List ℕ) (e : Stop ReadFault) (total : Reading (List Code)) → Fails e (sized_at scope.short (body_at (params_of types functions index)) scope bytes)
    → with_front front (bodies_at types functions index (suc most) scope bytes) ≡ total → Fails e total
unfolding bodies_at
bodies_fail types functions index most scope front bytes stops.Memory total read so_far = tt
bodies_fail types functions index most scope front bytes (stops.Fault f) total read so_far =
    let one : with_front front (bodies_at types functions index (suc most) scope bytes) ≡ Err f = rw read refl in
    sym so_far ∙ one

pub bodies_done : (types : List FuncType) (functions : List ℕ) (index : ℕ) (scope : Scope) (front : List Code) (bytes : List ℕ) → with_front front (bodies_at types functions index 0 scope bytes) ≡ with_front front (Ok ([], bytes))
unfolding bodies_at
bodies_done types functions index scope front bytes = refl
