-- The spellings of signed numbers are in the grammar and the shortest.
use Rattle.std.proofs.Common.{◌≡◌, ℕ, zero, suc, ◌+◌, ◌-◌, ◌*◌, ◌/◌, ◌%◌, ◌<◌, ◌≤◌, Bool, true, false, ltb, leb, List, [], ◌∷◌, ◌++◌, length, Option, Some, None, refl, sym, ap, ◌∙◌, subst, arith, inl, inr}
use Rattle.std.proofs.lemmas.Bool.{cases_Bool, ltb-true, ltb-false, lt-ltb, le-ltb, leb-true, le-leb}
use Rattle.wasm_code.specs.Grammar.{last_signed, IsSigned, IsS32, IsS64}
use Rattle.wasm_writer.specs.Numbers.{seven_bits, signed_text, i32_text, i64_text}
use Rattle.wasm_writer.proofs.Leb.{signed_last, signed_step}
use Rattle.wasm_writer.proofs.Best.{Octets, Beats, AreBest}
use Rattle.wasm_writer.proofs.BestNumbers.{scaled}

-- a number of so many bits in two's complement: itself, or the negative one whose complement it is
abbrev in_two : Bool → ℕ → ℕ → ℕ
in_two false limit m = m
in_two true limit m = limit - 1 - m

low_bits : (negative : Bool) (k : ℕ) → k < 128 → seven_bits negative k < 128
low_bits false k p = p
low_bits true k p = omega arith

-- ---- the last byte

last_is : (negative : Bool) (half m : ℕ) → m < 64 → m < half → last_signed (2 * half) (seven_bits negative m) ≡ Some (in_two negative (2 * half) m)
last_is false half m one below =
    let halved : 2 * half / 2 ≡ half = omega arith in
    let low = lt-ltb m 64 one in
    let fits = lt-ltb m half below in
    rw (halved, low, fits) refl
last_is true half m one below =
    let halved : 2 * half / 2 ≡ half = omega arith in
    let low : ltb (127 - m) 64 ≡ false = le-ltb (127 - m) 64 (omega (arith, one)) in
    let fits : leb 128 (half + (127 - m)) ≡ true = le-leb 128 (half + (127 - m)) (omega (arith, one, below)) in
    let same : 2 * half + (127 - m) - 128 ≡ 2 * half - 1 - m = omega (arith, one, below) in
    rw (halved, low, fits, same) refl

last_spells : (negative : Bool) (half m : ℕ) (after : List ℕ) → m < 64 → m < half → IsSigned (2 * half) (signed_text negative m ++ after) (in_two negative (2 * half) m) after
last_spells negative half m after one below =
    let low = lt-ltb (seven_bits negative m) 128 (low_bits negative m (omega (arith, one))) in
    rw (signed_last negative m one, low) (last_is negative half m one below, refl)

-- ---- a byte before others

-- the value of seven bits before a number
joined : (negative : Bool) (half m : ℕ) → m < 128 * half → in_two negative (2 * (128 * half)) m ≡ 128 * in_two negative (2 * half) (m / 128) + (128 + seven_bits negative (m % 128) - 128)
joined false half m below = omega arith
joined true half m below = omega (arith, below)

signed_spells : (negative : Bool) (k s m : ℕ) (after : List ℕ) → s ≤ 64 → m < scaled k s → IsSigned (2 * scaled k s) (signed_text negative m ++ after) (in_two negative (2 * scaled k s) m) after
signed_spells negative zero s m after small below = last_spells negative s m after (omega (arith, small, below)) below
signed_spells negative (suc k) s m after small below =
    elim (cases_Bool (ltb m 64)) [
      | inl low ↦ last_spells negative (128 * scaled k s) m after (ltb-true m 64 low) below
      | inr high ↦
          let more = ltb-false m 64 high in
          let long : ltb (128 + seven_bits negative (m % 128)) 128 ≡ false = le-ltb (128 + seven_bits negative (m % 128)) 128 (omega arith) in
          let parted : 2 * (128 * scaled k s) / 128 ≡ 2 * scaled k s = omega arith in
          let inner = signed_spells negative k s (m / 128) after small (omega (arith, below)) in
          rw (signed_step negative m more, long, parted) (omega (arith, below, more), (in_two negative (2 * scaled k s) (m / 128), inner, joined negative (scaled k s) m below))
    ]

-- ---- what is spelled

-- the sign and the seven-bit groups of what some bytes spell, which has no fewer bytes than its text
record Signed (half n : ℕ) (bytes rest : List ℕ) : Type 0 where
  pub negative : Bool
  pub number : ℕ
  pub below : number < half
  pub is : n ≡ in_two negative (2 * half) number
  pub fewest : length (signed_text negative number) + length rest ≤ length bytes
  pub octets : Octets rest

some_is : (a b : ℕ) → (let found : Option ℕ = Some a in found) ≡ Some b → a ≡ b
some_is a b e = cc

none_is : {P : Type 0} (b : ℕ) → (let found : Option ℕ = None in found) ≡ Some b → P
none_is b e = absurd cc

last_least : (half b n : ℕ) (bytes rest : List ℕ) → b < 128 → Octets bytes → last_signed (2 * half) b ≡ Some n → bytes ≡ rest → Signed half n (b ∷ bytes) rest
last_least half b n bytes rest one all is same =
    let halved : 2 * half / 2 ≡ half = omega arith in
    elim (cases_Bool (ltb b 64)) [
      | inl low ↦ elim (cases_Bool (ltb b half)) [
        | inl fits ↦
            let found = some_is b n (rw (halved, low, fits) at is) in
            let short = ltb-true b 64 low in
            record {
              negative = false;
              number = b;
              below = ltb-true b half fits;
              is = sym found;
              fewest = rw (signed_last false b short, same) (omega arith);
              octets = subst Octets same all;
            }
        | inr over ↦ none_is n (rw (halved, low, over) at is)
      ]
      | inr high ↦ elim (cases_Bool (leb 128 (half + b))) [
        | inl fits ↦
            let found = some_is (2 * half + b - 128) n (rw (halved, high, fits) at is) in
            let above = ltb-false b 64 high in
            let least = leb-true 128 (half + b) fits in
            let short : 127 - b < 64 = omega (arith, above) in
            record {
              negative = true;
              number = 127 - b;
              below = omega (arith, least, one);
              is = omega (arith, found, least, one);
              fewest = rw (signed_last true (127 - b) short, same) (omega arith);
              octets = subst Octets same all;
            }
        | inr over ↦ none_is n (rw (halved, high, over) at is)
      ]
    ]

-- seven bits more before the groups of a number
grown : Bool → ℕ → ℕ → ℕ
grown false low m = 128 * m + low
grown true low m = 128 * m + (127 - low)

grown_below : (negative : Bool) (half low m : ℕ) → low < 128 → m < half → grown negative low m < 128 * half
unfolding grown
grown_below false half low m few below = omega (arith, few, below)
grown_below true half low m few below = omega (arith, few, below)

grown_is : (negative : Bool) (half low m : ℕ) → low < 128 → m < half → 128 * in_two negative (2 * half) m + low ≡ in_two negative (2 * (128 * half)) (grown negative low m)
unfolding grown
grown_is false half low m few below = refl
grown_is true half low m few below = omega (arith, few, below)

grown_back : (negative : Bool) (low m : ℕ) → low < 128 → grown negative low m / 128 ≡ m
unfolding grown
grown_back false low m few = omega (arith, few)
grown_back true low m few = omega (arith, few)

grown_fewer : (negative : Bool) (low m : ℕ) (rest bytes : List ℕ) → low < 128 → length (signed_text negative m) + length rest ≤ length bytes → length (signed_text negative (grown negative low m)) + length rest ≤ suc (length bytes)
grown_fewer negative low m rest bytes few inner =
    let whole = grown negative low m in
    elim (cases_Bool (ltb whole 64)) [
      | inl short ↦ rw (signed_last negative whole (ltb-true whole 64 short)) (omega (arith, inner))
      | inr long ↦ rw (signed_step negative whole (ltb-false whole 64 long), grown_back negative low m few) (omega (arith, inner))
    ]

grown_signed : (half high low n : ℕ) (b : ℕ) (bytes rest : List ℕ) → low < 128 → n ≡ 128 * high + low → Signed half high bytes rest → Signed (128 * half) n (b ∷ bytes) rest
grown_signed half high low n b bytes rest few is inner = record {
  negative = inner.negative;
  number = grown inner.negative low inner.number;
  below = grown_below inner.negative half low inner.number few inner.below;
  is = is ∙ ap (λ (h : ℕ). 128 * h + low) inner.is ∙ grown_is inner.negative half low inner.number few inner.below;
  fewest = grown_fewer inner.negative low inner.number rest bytes few inner.fewest;
  octets = inner.octets;
}

signed_least : (k s : ℕ) (bytes rest : List ℕ) (n : ℕ) → s ≤ 64 → Octets bytes → IsSigned (2 * scaled k s) bytes n rest → Signed (scaled k s) n bytes rest
signed_least k s [] rest n small all is = absurd is
signed_least zero s (b ∷ bytes) rest n small all is =
    elim (cases_Bool (ltb b 128)) [
      | inl low ↦
          let parts = rw low at is in
          last_least s b n bytes rest (ltb-true b 128 low) all.1 parts.0 parts.1
      | inr high ↦
          let parts = rw high at is in
          absurd (omega (arith, small, parts.0))
    ]
signed_least (suc k) s (b ∷ bytes) rest n small all is =
    elim (cases_Bool (ltb b 128)) [
      | inl low ↦
          let parts = rw low at is in
          last_least (128 * scaled k s) b n bytes rest (ltb-true b 128 low) all.1 parts.0 parts.1
      | inr high ↦
          let parts = rw high at is in
          let first = ltb-false b 128 high in
          let few : b - 128 < 128 = omega (arith, all.0, first) in
          let parted : 2 * (128 * scaled k s) / 128 ≡ 2 * scaled k s = omega arith in
          let inner = signed_least k s bytes rest parts.1.0 small all.1 (subst (λ (limit : ℕ). IsSigned limit bytes parts.1.0 rest) parted parts.1.1) in
          grown_signed (scaled k s) parts.1.0 (b - 128) n b bytes rest few parts.1.2 inner
    ]

-- ---- 32 and 64 bits

i32_is : (negative : Bool) (m : ℕ) → m < 2147483648 → i32_text (in_two negative 4294967296 m) ≡ signed_text negative m
unfolding i32_text
i32_is false m below = let low = lt-ltb m 2147483648 below in rw low refl
i32_is true m below =
    let high : ltb (4294967296 - 1 - m) 2147483648 ≡ false = le-ltb (4294967296 - 1 - m) 2147483648 (omega (arith, below)) in
    let back : 4294967295 - (4294967296 - 1 - m) ≡ m = omega (arith, below) in
    rw (high, back) refl

i64_is : (negative : Bool) (m : ℕ) → m < 9223372036854775808 → i64_text (in_two negative 18446744073709551616 m) ≡ signed_text negative m
unfolding i64_text
i64_is false m below = let low = lt-ltb m 9223372036854775808 below in rw low refl
i64_is true m below =
    let high : ltb (18446744073709551616 - 1 - m) 9223372036854775808 ≡ false = le-ltb (18446744073709551616 - 1 - m) 9223372036854775808 (omega (arith, below)) in
    let back : 18446744073709551615 - (18446744073709551616 - 1 - m) ≡ m = omega (arith, below) in
    rw (high, back) refl

-- the number of a spelling, and its text
best_of : (limit half n : ℕ) (bytes rest text : List ℕ) (least : Signed half n bytes rest) → text ≡ signed_text least.negative least.number → ((after : List ℕ) → IsSigned limit (signed_text least.negative least.number ++ after) n after) → Beats (λ b r. IsSigned limit b n r) text bytes rest
best_of limit half n bytes rest text least is spells = record {
  spells = λ after. subst (λ (t : List ℕ). IsSigned limit (t ++ after) n after) (sym is) (spells after);
  fewest = subst (λ (t : List ℕ). length t + length rest ≤ length bytes) (sym is) least.fewest;
  octets = least.octets;
}

pub s32_best : AreBest IsS32 i32_text
s32_best n bytes rest all is =
    let least = signed_least 4 8 bytes rest n (omega arith) all is in
    best_of 4294967296 2147483648 n bytes rest (i32_text n) least (ap i32_text least.is ∙ i32_is least.negative least.number least.below) (λ after.
    subst (λ (k : ℕ). IsSigned 4294967296 (signed_text least.negative least.number ++ after) k after) (sym least.is) (signed_spells least.negative 4 8 least.number after (omega arith) least.below))

pub s64_best : AreBest IsS64 i64_text
s64_best n bytes rest all is =
    let least = signed_least 9 1 bytes rest n (omega arith) all is in
    best_of 18446744073709551616 9223372036854775808 n bytes rest (i64_text n) least (ap i64_text least.is ∙ i64_is least.negative least.number least.below) (λ after.
    subst (λ (k : ℕ). IsSigned 18446744073709551616 (signed_text least.negative least.number ++ after) k after) (sym least.is) (signed_spells least.negative 9 1 least.number after (omega arith) least.below))
