-- How many tables or memories there are, and that there is one at most.
use Rattle.std.proofs.Common.{◌≡◌, ℕ, ◌+◌, Option, Some, None, Ok, List, [], ◌∷◌, ◌++◌, length, refl, ap, arith}
use Rattle.std.proofs.lemmas.List.{length-append}
use Rattle.wasm_types.specs.declared.types.Limits.{Limits}
use Rattle.wasm_validate.specs.declared.fault.ValidFault.{ValidFault}
use Rattle.wasm_validate.specs.declared.fault.Part.{Part}
use Rattle.wasm_validate.specs.declared.fault.Part.TheVariants as parts
use Rattle.wasm_types.specs.declared.modules.ExportKind.TheVariants as exports
use Rattle.wasm_types.specs.declared.modules.Module.{Module}
use Rattle.wasm_validate.specs.Steps.{◌>>=◌, told}
use Rattle.wasm_validate.specs.Faults.{in_part}
use Rattle.wasm_validate.specs.Spaces.{present, sizes_in, tables_of, memories_of}
use Rattle.wasm_validate.specs.Parts.{size, sizes, all_present, tables_at, memories_at}
use Rattle.wasm_validate.proofs.Results.{bind_ok, ok_is}

pub sizes_count : (part : Part) (range k seen : ℕ) (ls : List (Option Limits)) (n : ℕ) → sizes part range k seen ls ≡ Ok n → n ≡ seen + length (present ls)
sizes_count part range k seen [] n e = let same = ok_is {E = ValidFault} seen n e in omega (arith, same)
sizes_count part range k seen (None ∷ ls) n e = sizes_count part range (k + 1) seen ls n e
sizes_count part range k seen (Some l ∷ ls) n e =
    let b = bind_ok (in_part part k (told 0 (size range seen l))) (λ _. sizes part range (k + 1) (seen + 1) ls) n e in
    let h = sizes_count part range (k + 1) (seen + 1) ls n b.2 in
    omega (arith, h)

pub present_all : (ls : List Limits) → present (all_present ls) ≡ ls
present_all [] = refl
present_all (l ∷ ls) = ap (λ (z : List Limits). l ∷ z) (present_all ls)

-- with those that are imported
sum_of : (part other : Part) (range : ℕ) (ls : List (Option Limits)) (own : List Limits) (n : ℕ) → (sizes part range 0 0 ls >>= λ k. sizes other range 0 k (all_present own)) ≡ Ok n → n ≡ length (present ls ++ own)
sum_of part other range ls own n e =
    let b = bind_ok (sizes part range 0 0 ls) (λ k. sizes other range 0 k (all_present own)) n e in
    let one = sizes_count part range 0 0 ls b.0 b.1 in
    let two = sizes_count other range 0 b.0 (all_present own) n b.2 in
    omega (arith, one, rw (present_all own) at two, length-append (present ls) own)

pub tables_count : (m : Module) (n : ℕ) → tables_at m ≡ Ok n → n ≡ length (tables_of m)
unfolding tables_at
tables_count m n e = sum_of parts.Import parts.Table 4294967296 (sizes_in exports.Table m.imports) m.tables n e

pub memories_count : (m : Module) (n : ℕ) → memories_at m ≡ Ok n → n ≡ length (memories_of m)
unfolding memories_at
memories_count m n e = sum_of parts.Import parts.Memory 65536 (sizes_in exports.Memory m.imports) m.memories n e
