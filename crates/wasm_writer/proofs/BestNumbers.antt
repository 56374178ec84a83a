-- The spellings of numbers are in the grammar and the shortest.
use Rattle.std.proofs.Common.{◌≡◌, ℕ, zero, suc, ◌+◌, ◌-◌, ◌*◌, ◌/◌, ◌%◌, ◌<◌, ◌≤◌, false, ltb, leb, List, [], ◌∷◌, ◌++◌, length, refl, arith, inl, inr}
use Rattle.std.proofs.lemmas.Bool.{cases_Bool, ltb-true, ltb-false, lt-ltb, le-ltb, leb-true, leb-false}
use Rattle.wasm_code.specs.Grammar.{IsUnsigned, IsU32}
use Rattle.wasm_writer.specs.Numbers.{number_text}
use Rattle.wasm_writer.proofs.Leb.{number_last, number_step}
use Rattle.wasm_writer.proofs.Best.{Octets, AreBest}

-- s times so many powers of 128
abbrev pub scaled : ℕ → ℕ → ℕ
scaled zero s = s
scaled (suc k) s = 128 * scaled k s

-- ---- unsigned

last_spells : (limit n : ℕ) (after : List ℕ) → n < 128 → n < limit → IsUnsigned limit (number_text n ++ after) n after
last_spells limit n after one below =
    let low = lt-ltb n 128 one in
    rw (number_last n one, low) (below, refl, refl)

unsigned_spells : (k s n : ℕ) (after : List ℕ) → s ≤ 128 → n < scaled k s → IsUnsigned (scaled k s) (number_text n ++ after) n after
unsigned_spells zero s n after small below = last_spells s n after (omega (arith, small, below)) below
unsigned_spells (suc k) s n after small below =
    elim (cases_Bool (ltb n 128)) [
      | inl low ↦ last_spells (128 * scaled k s) n after (ltb-true n 128 low) below
      | inr high ↦
          let more = ltb-false n 128 high in
          let long : ltb (128 + n % 128) 128 ≡ false = le-ltb (128 + n % 128) 128 (omega arith) in
          let parted : 128 * scaled k s / 128 ≡ scaled k s = omega arith in
          let inner = unsigned_spells k s (n / 128) after small (omega (arith, below)) in
          rw (number_step n more, long, parted) (omega (arith, below, more), (n / 128, inner, omega arith))
    ]

-- one more group of seven bits makes the text one byte longer at most
unsigned_fewer : (n high byte : ℕ) (rest bytes : List ℕ) → byte < 256 → 128 ≤ byte → n ≡ 128 * high + (byte - 128) → length (number_text high) + length rest ≤ length bytes → length (number_text n) + length rest ≤ suc (length bytes)
unsigned_fewer n high byte rest bytes octet first is inner =
    elim (cases_Bool (ltb n 128)) [
      | inl low ↦ rw (number_last n (ltb-true n 128 low)) (omega (arith, inner))
      | inr more ↦
          let shift : n / 128 ≡ high = omega (arith, octet, first, is) in
          rw (number_step n (ltb-false n 128 more), shift) (omega (arith, inner))
    ]

-- what is spelled is below the limit, and has no fewer bytes than its text
unsigned_least : (limit : ℕ) (bytes rest : List ℕ) (n : ℕ) → Octets bytes → IsUnsigned limit bytes n rest → (n < limit) × (length (number_text n) + length rest ≤ length bytes) × Octets rest
unsigned_least limit [] rest n all is = absurd is
unsigned_least limit (b ∷ bytes) rest n all is =
    elim (cases_Bool (ltb b 128)) [
      | inl low ↦
          let parts = rw low at is in
          let one = ltb-true b 128 low in
          let last = number_last b one in
          rw (parts.1, ← parts.2, last) (parts.0, omega arith, all.1)
      | inr high ↦
          let parts = rw high at is in
          let first = ltb-false b 128 high in
          let inner = unsigned_least (limit / 128) bytes rest parts.1.0 all.1 parts.1.1 in
          (omega (arith, inner.0, parts.1.2, all.0), unsigned_fewer n parts.1.0 b rest bytes all.0 first parts.1.2 inner.1, inner.2)
    ]

pub u32_spells : (n : ℕ) (after : List ℕ) → n < 4294967296 → IsU32 (number_text n ++ after) n after
u32_spells n after below = unsigned_spells 4 16 n after (omega arith) below

pub u32_below : (bytes rest : List ℕ) (n : ℕ) → Octets bytes → IsU32 bytes n rest → n < 4294967296
u32_below bytes rest n all is = (unsigned_least 4294967296 bytes rest n all is).0

pub u32_best : AreBest IsU32 number_text
u32_best n bytes rest all is =
    let least = unsigned_least 4294967296 bytes rest n all is in
    record {
      spells = λ after. u32_spells n after least.0;
      fewest = least.1;
      octets = least.2;
    }

-- the text of a smaller number is no longer
fewer_within : (most m n : ℕ) → n ≤ most → m ≤ n → length (number_text m) ≤ length (number_text n)
fewer_within zero m n few less =
    let none : n ≡ 0 = omega (arith, few) in
    let same : m ≡ n = omega (arith, none, less) in
    rw same (omega arith)
fewer_within (suc most) m n few less =
    elim (cases_Bool (ltb n 128)) [
      | inl low ↦
          let short = ltb-true n 128 low in
          rw (number_last n short, number_last m (omega (arith, short, less))) (omega arith)
      | inr high ↦
          let more = ltb-false n 128 high in
          elim (cases_Bool (ltb m 128)) [
            | inl short ↦ rw (number_step n more, number_last m (ltb-true m 128 short)) (omega arith)
            | inr long ↦
                let inner = fewer_within most (m / 128) (n / 128) (omega (arith, few, more)) (omega (arith, less)) in
                rw (number_step n more, number_step m (ltb-false m 128 long)) (omega (arith, inner))
          ]
    ]

pub number_fewer : (m n : ℕ) → m ≤ n → length (number_text m) ≤ length (number_text n)
number_fewer m n less = fewer_within n m n (omega arith) less

shifted : (n : ℕ) → length (number_text (128 * n)) ≤ suc (length (number_text n))
shifted zero = rw (number_last 0 (omega arith)) (omega arith)
shifted (suc n) =
    let back : 128 * suc n / 128 ≡ suc n = omega arith in
    rw (number_step (128 * suc n) (omega arith), back) (omega arith)

-- the text of a sum has one byte at most beyond those of its parts
pub sum_fewer : (m n : ℕ) → length (number_text (m + n)) ≤ length (number_text m) + length (number_text n) + 1
sum_fewer m n =
    elim (cases_Bool (leb m n)) [
      | inl less ↦ omega (arith, number_fewer (m + n) (128 * n) (omega (arith, leb-true m n less)), shifted n)
      | inr more ↦ omega (arith, number_fewer (m + n) (128 * m) (omega (arith, leb-false m n more)), shifted m)
    ]
