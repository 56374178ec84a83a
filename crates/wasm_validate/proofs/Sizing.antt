-- Tables and memories are checked without a fault exactly where their limits are valid and there is one at most.
use Rattle.std.proofs.Common.{◌≡◌, ℕ, ◌+◌, ◌≤◌, ◌<◌, true, ltb, leb, ◌&&◌, Option, Some, None, Ok, List, [], ◌∷◌, ◌++◌, length, refl, arith}
use Rattle.std.proofs.lemmas.List.{length-append}
use Rattle.std.proofs.lemmas.Bool.{leb-true, le-leb}
use Rattle.wasm_types.specs.declared.types.Limits.{Limits}
use Rattle.wasm_types.specs.declared.modules.ExportKind.TheVariants as exports
use Rattle.wasm_types.specs.declared.modules.Module.{Module}
use Rattle.wasm_validate.specs.declared.fault.ValidKind.TheVariants.{BadLimits, MoreThanOne}
use Rattle.wasm_validate.specs.declared.fault.ValidFault.{ValidFault}
use Rattle.wasm_validate.specs.declared.fault.Part.{Part}
use Rattle.wasm_validate.specs.declared.fault.Part.TheVariants as parts
use Rattle.wasm_validate.specs.Steps.{◌>>=◌, told}
use Rattle.wasm_validate.specs.Faults.{in_part}
use Rattle.wasm_validate.specs.Spaces.{present, sizes_in, tables_of, memories_of}
use Rattle.wasm_validate.specs.Valid.{AllAt, IsWithin, AreLimits}
use Rattle.wasm_validate.specs.Parts.{needs, within, size, sizes, all_present, tables_at, memories_at}
use Rattle.wasm_validate.proofs.Results.{bind_ok, ok_is}
use Rattle.wasm_validate.proofs.ConstantExpressions.{and_first, and_second}
use Rattle.wasm_validate.proofs.Sized.{sizes_count, present_all}
use Rattle.wasm_validate.proofs.PartByPart.{placed_ok, need_ok, below_ok, ok_below}

within_ok : (range least : ℕ) (most : Option ℕ) → within range least most ≡ true → IsWithin least most range
within_ok range least None e = leb-true least range e
within_ok range least (Some most) e =
    let rest = and_second (leb least range) (leb most range && leb least most) e in
    (leb-true least range (and_first (leb least range) (leb most range && leb least most) e), leb-true most range (and_first (leb most range) (leb least most) rest), leb-true least most (and_second (leb most range) (leb least most) rest))

ok_within : (range least : ℕ) (most : Option ℕ) → IsWithin least most range → within range least most ≡ true
ok_within range least None h = le-leb least range h
ok_within range least (Some most) h = rw (le-leb least range h.0, le-leb most range h.1, le-leb least most h.2) refl

size_ok : (range seen : ℕ) (l : Limits) → size range seen l ≡ Ok tt → AreLimits range l × (seen < 1)
size_ok range seen l e =
    let b = bind_ok (needs (within range l.least l.most) BadLimits) (λ _. needs (ltb seen 1) MoreThanOne) tt e in
    (within_ok range l.least l.most (need_ok (within range l.least l.most) BadLimits b.1), below_ok seen 1 MoreThanOne b.2)

ok_size : (range seen : ℕ) (l : Limits) → AreLimits range l → seen < 1 → size range seen l ≡ Ok tt
ok_size range seen l h lt = rw (ok_within range l.least l.most h) (ok_below seen 1 MoreThanOne lt)

sizes_ok : (part : Part) (range k seen j : ℕ) (ls : List (Option Limits)) (n : ℕ) → seen ≤ 1 → sizes part range k seen ls ≡ Ok n → AllAt (λ _ l. AreLimits range l) j (present ls) × (n ≤ 1)
sizes_ok part range k seen j [] n h e = (tt, omega (arith, h, ok_is {E = ValidFault} seen n e))
sizes_ok part range k seen j (None ∷ ls) n h e = sizes_ok part range (k + 1) seen j ls n h e
sizes_ok part range k seen j (Some l ∷ ls) n h e =
    let b = bind_ok (in_part part k (told 0 (size range seen l))) (λ _. sizes part range (k + 1) (seen + 1) ls) n e in
    let s = size_ok range seen l (placed_ok part k (size range seen l) tt b.1) in
    let r = sizes_ok part range (k + 1) (seen + 1) (j + 1) ls n (omega (arith, s.1)) b.2 in
    ((s.0, r.0), r.1)

ok_sizes : (part : Part) (range k seen j : ℕ) (ls : List (Option Limits)) → AllAt (λ _ l. AreLimits range l) j (present ls) → seen + length (present ls) ≤ 1 → (n : ℕ) × (sizes part range k seen ls ≡ Ok n)
ok_sizes part range k seen j [] a h = (seen, refl)
ok_sizes part range k seen j (None ∷ ls) a h = ok_sizes part range (k + 1) seen j ls a h
ok_sizes part range k seen j (Some l ∷ ls) a h =
    let s = ok_size range seen l a.0 (omega (arith, h)) in
    let r = ok_sizes part range (k + 1) (seen + 1) (j + 1) ls a.1 (omega (arith, h)) in
    (r.0, rw s r.1)

-- all of two lists
all_moved : {A : Type 0} (P : ℕ → A → Type 0) → ((j k : ℕ) (x : A) → P j x → P k x) → (j k : ℕ) (xs : List A) → AllAt P j xs → AllAt P k xs
all_moved P h j k [] a = tt
all_moved P h j k (x ∷ xs) a = (h j k x a.0, all_moved P h (j + 1) (k + 1) xs a.1)

all_both : {A : Type 0} (P : ℕ → A → Type 0) → ((j k : ℕ) (x : A) → P j x → P k x) → (j i k : ℕ) (xs ys : List A) → AllAt P j xs → AllAt P i ys → AllAt P k (xs ++ ys)
all_both P h j i k [] ys a b = all_moved P h i k ys b
all_both P h j i k (x ∷ xs) ys a b = (h j k x a.0, all_both P h (j + 1) i (k + 1) xs ys a.1 b)

all_first : {A : Type 0} (P : ℕ → A → Type 0) (k : ℕ) (xs ys : List A) → AllAt P k (xs ++ ys) → AllAt P k xs
all_first P k [] ys a = tt
all_first P k (x ∷ xs) ys a = (a.0, all_first P (k + 1) xs ys a.1)

all_second : {A : Type 0} (P : ℕ → A → Type 0) → ((j k : ℕ) (x : A) → P j x → P k x) → (k i : ℕ) (xs ys : List A) → AllAt P k (xs ++ ys) → AllAt P i ys
all_second P h k i [] ys a = all_moved P h k i ys a
all_second P h k i (x ∷ xs) ys a = all_second P h (k + 1) i xs ys a.1

-- imported and defined ones
both_ok : (part other : Part) (range : ℕ) (ls : List (Option Limits)) (own : List Limits) (n : ℕ) → (sizes part range 0 0 ls >>= λ k. sizes other range 0 k (all_present own)) ≡ Ok n
    → AllAt (λ _ l. AreLimits range l) 0 (present ls ++ own) × (length (present ls ++ own) ≤ 1)
both_ok part other range ls own n e =
    let b = bind_ok (sizes part range 0 0 ls) (λ k. sizes other range 0 k (all_present own)) n e in
    let one = sizes_ok part range 0 0 0 ls b.0 (omega arith) b.1 in
    let two = sizes_ok other range 0 b.0 0 (all_present own) n one.1 b.2 in
    let count = sizes_count part range 0 0 ls b.0 b.1 in
    let all = sizes_count other range 0 b.0 (all_present own) n b.2 in
    let mine = rw (present_all own) at two.0 in
    (all_both (λ _ l. AreLimits range l) (λ j k x p. p) 0 0 0 (present ls) own one.0 mine, omega (arith, two.1, count, rw (present_all own) at all, length-append (present ls) own))

ok_both : (part other : Part) (range : ℕ) (ls : List (Option Limits)) (own : List Limits) → AllAt (λ _ l. AreLimits range l) 0 (present ls ++ own) → length (present ls ++ own) ≤ 1
    → (n : ℕ) × ((sizes part range 0 0 ls >>= λ k. sizes other range 0 k (all_present own)) ≡ Ok n)
ok_both part other range ls own a h =
    let sum = length-append (present ls) own in
    let one = ok_sizes part range 0 0 0 ls (all_first (λ _ l. AreLimits range l) 0 (present ls) own a) (omega (arith, h, sum)) in
    let count = sizes_count part range 0 0 ls one.0 one.1 in
    let mine : AllAt (λ _ l. AreLimits range l) 0 (present (all_present own)) = rw (present_all own) (all_second (λ _ l. AreLimits range l) (λ j k x p. p) 0 0 (present ls) own a) in
    let fits : one.0 + length (present (all_present own)) ≤ 1 = rw (present_all own) (omega (arith, h, sum, count)) in
    let two = ok_sizes other range 0 one.0 0 (all_present own) mine fits in
    (two.0, rw one.1 two.1)

pub tables_ok : (m : Module) (n : ℕ) → tables_at m ≡ Ok n → AllAt (λ _ l. AreLimits 4294967296 l) 0 (tables_of m) × (length (tables_of m) ≤ 1)
unfolding tables_at
tables_ok m n e = both_ok parts.Import parts.Table 4294967296 (sizes_in exports.Table m.imports) m.tables n e

pub ok_tables : (m : Module) → AllAt (λ _ l. AreLimits 4294967296 l) 0 (tables_of m) → length (tables_of m) ≤ 1 → (n : ℕ) × (tables_at m ≡ Ok n)
unfolding tables_at
ok_tables m a h = ok_both parts.Import parts.Table 4294967296 (sizes_in exports.Table m.imports) m.tables a h

pub memories_ok : (m : Module) (n : ℕ) → memories_at m ≡ Ok n → AllAt (λ _ l. AreLimits 65536 l) 0 (memories_of m) × (length (memories_of m) ≤ 1)
unfolding memories_at
memories_ok m n e = both_ok parts.Import parts.Memory 65536 (sizes_in exports.Memory m.imports) m.memories n e

pub ok_memories : (m : Module) → AllAt (λ _ l. AreLimits 65536 l) 0 (memories_of m) → length (memories_of m) ≤ 1 → (n : ℕ) × (memories_at m ≡ Ok n)
unfolding memories_at
ok_memories m a h = ok_both parts.Import parts.Memory 65536 (sizes_in exports.Memory m.imports) m.memories a h
