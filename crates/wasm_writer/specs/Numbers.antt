-- The shortest spellings of numbers (section 5.2.2): groups of seven bits, the lowest first, in which each byte but the
-- last has its highest bit set.
use Rattle.std.specs.Prelude.{ℕ, zero, suc, ◌+◌, ◌-◌, ◌/◌, ◌%◌, nat_lt, Bool, true, false, if◌then◌else◌, List, [], ◌∷◌}

-- at most so many bytes before the last one
abbrev pub unsigned_within : ℕ → ℕ → List ℕ
unsigned_within zero n = n ∷ []
unsigned_within (suc more) n = if nat_lt n 128 then n ∷ [] else (128 + n % 128) ∷ unsigned_within more (n / 128)

-- n has no more groups than n
unfoldable pub number_text : ℕ → List ℕ
number_text n = unsigned_within n n

-- A negative number is spelled by its complement: each bit is turned.
abbrev pub seven_bits : Bool → ℕ → ℕ
seven_bits false k = k
seven_bits true k = 127 - k

abbrev pub signed_within : Bool → ℕ → ℕ → List ℕ
signed_within negative zero n = seven_bits negative n ∷ []
signed_within negative (suc more) n = if nat_lt n 64 then seven_bits negative n ∷ [] else (128 + seven_bits negative (n % 128)) ∷ signed_within negative more (n / 128)

-- a signed number: n itself, or the negative one whose complement is n
unfoldable pub signed_text : Bool → ℕ → List ℕ
signed_text negative n = signed_within negative n n

-- numbers of 32 and 64 bits, given in two's complement
unfoldable pub i32_text : ℕ → List ℕ
i32_text n = if nat_lt n 2147483648 then signed_text false n else signed_text true (4294967295 - n)

unfoldable pub i64_text : ℕ → List ℕ
i64_text n = if nat_lt n 9223372036854775808 then signed_text false n else signed_text true (18446744073709551615 - n)
