-- Options of lookups and writes as they stand in memory. A mask says by its bits which of them are given.
use Rattle.std.specs.Prelude.{◌≡◌, ℕ, ◌+◌, ◌%◌, ◌≤◌, Bool, false, not, ◌==◌, ◌||◌, IsTrue, List, [], length, filter, nat_le, bit_and, Option, None, Some, Result, Ok, Err, if◌then◌else◌}
use Rattle.cache_types.specs.Limits.{is_name, is_surrogates, is_length}
use Rattle.cache_types.specs.declared.calls.Field.{Field}
use Rattle.cache_types.specs.declared.calls.Terms.{Terms}
use Rattle.cache_types.specs.declared.calls.Writing.{Writing}
use Rattle.edge_words.specs.Reading.{parts_at}
use Rattle.vary_rules.specs.Rules.{told, is_some_word}
use Rattle.vary_rules.specs.declared.fault.RuleFault.{RuleFault}
use Rattle.vary_rules.specs.declared.fault.RuleFault.TheVariants as fault
use Rattle.wasm_memory.specs.Bytes.{number_of}
use Rattle.wasm_memory.specs.Linear.{Linear}
use Rattle.edge_abi.specs.declared.status.Status.TheVariants as status
use Rattle.edge_abi.specs.declared.status.Refusal.{Refusal}
use Rattle.edge_abi.specs.declared.status.Refusal.TheVariants.{Told, OutOfMemory}
use Rattle.edge_abi.specs.Memory.{has_range, octets_at}
use Rattle.edge_abi.specs.Refusals.{and_then, unless, ranged, some_or}
use Rattle.edge_http_calls.specs.Tables.{request_fields}
use Rattle.edge_http_calls.specs.declared.tables.HttpTables.{HttpTables}

-- the mask has this bit
abbrev pub has : ℕ → ℕ → Bool
has mask bit = not (bit_and mask bit == 0)

-- the number in four bytes, and in eight
abbrev pub word_at : Linear → ℕ → ℕ
word_at m place = number_of (octets_at m place 4)

abbrev pub long_at : Linear → ℕ → ℕ
long_at m place = number_of (octets_at m place 8)

-- ---- what a bit gives, and what stands for it where it isn't given

abbrev pub number_given : Linear → ℕ → ℕ → ℕ → ℕ
number_given m mask bit place = if has mask bit then long_at m place else 0

abbrev pub length_given : Linear → ℕ → ℕ → ℕ → Option ℕ
length_given m mask bit place = if has mask bit then Some (long_at m place) else None

-- a text: its place and its length stand one behind the other
abbrev pub text_given : Linear → ℕ → ℕ → ℕ → List ℕ
text_given m mask bit place = if has mask bit then octets_at m (word_at m place) (word_at m (place + 4)) else []

-- a text that is given lies within the memory
abbrev pub is_text_inside : Linear → ℕ → ℕ → ℕ → Bool
is_text_inside m mask bit place = not (has mask bit) || has_range m (word_at m place) (word_at m (place + 4))

abbrev pub text_ranged : Linear → ℕ → ℕ → ℕ → Result (Unit {0}) Refusal
text_ranged m mask bit place = unless (is_text_inside m mask bit place) status.Inval

-- the headers of the request whose handle stands at the place
abbrev pub request_given : HttpTables → Linear → ℕ → ℕ → Result (Option (List Field)) Refusal
request_given http m mask place =
    if has mask 2 then and_then (some_or (request_fields http (word_at m place)) status.Badf) (λ fields. Ok (Some fields)) else Ok None

-- headers as the cache takes them: a name of more than 64 bytes, which no rule can have, is left out with its value
abbrev pub handed : List Field → List Field
handed fields = filter (λ (field : Field). is_name field.name) fields

abbrev pub headers_of : Option (List Field) → List Field
headers_of None = []
headers_of (Some fields) = handed fields

-- ---- options of a lookup: four bytes

abbrev pub lookup_options : HttpTables → Linear → ℕ → ℕ → Result (Option (List Field)) Refusal
lookup_options http m mask q = and_then (ranged m q 4) (λ _. request_given http m mask q)

-- ---- options of a write: a record of 64 bytes

-- the record, the request and the texts that it names; what comes of it are the request's headers
abbrev pub write_options : HttpTables → Linear → ℕ → ℕ → Result (Option (List Field)) Refusal
write_options http m mask q =
    and_then (ranged m q 64) (λ _.
    and_then (unless (q % 8 == 0) status.Badalign) (λ _.
    and_then (request_given http m mask (q + 8)) (λ given.
    and_then (text_ranged m mask 4 (q + 12)) (λ _.
    and_then (text_ranged m mask 32 (q + 40)) (λ _.
    and_then (text_ranged m mask 128 (q + 56)) (λ _. Ok given))))))

-- the record and its texts lie within the memory
pub record IsRecord (m : Linear) (mask q : ℕ) : Type 0 where
  pub room : q + 64 ≤ length m.bytes
  pub vary : IsTrue (is_text_inside m mask 4 (q + 12))
  pub surrogates : IsTrue (is_text_inside m mask 32 (q + 40))
  pub metadata : IsTrue (is_text_inside m mask 128 (q + 56))

-- the rule that a text names
abbrev pub as_rule : Result (List (List ℕ)) RuleFault → Result (List (List ℕ)) Refusal
as_rule (Ok rule) = Ok rule
as_rule (Err fault.BadName) = Err (Told status.Httpinvalid)
as_rule (Err fault.TooMany) = Err (Told status.Limitexceeded)
as_rule (Err fault.OutOfMemory) = Err OutOfMemory

abbrev pub rule_in : List ℕ → Result (List (List ℕ)) Refusal
rule_in text = as_rule (told text)

-- surrogate keys, which spaces separate; there are no empty ones
abbrev pub keys_in : List ℕ → List (List ℕ)
keys_in text = filter is_some_word (parts_at 32 text)

abbrev pub as_keys : List ℕ → Result (List (List ℕ)) Refusal
as_keys text = if is_surrogates (keys_in text) then Ok (keys_in text) else Err (Told status.Limitexceeded)

-- these keys are over their limits, but for want of memory
abbrev pub IsOver : List (List ℕ) → Refusal → Type 0
IsOver keys (Told said) = (said ≡ status.Limitexceeded) × (is_surrogates keys ≡ false)
IsOver keys OutOfMemory = Unit {0}

abbrev pub terms_of : Linear → ℕ → ℕ → List (List ℕ) → Terms
terms_of m mask q keys = record {
  max_age = long_at m q;
  initial_age = number_given m mask 8 (q + 24);
  stale = number_given m mask 16 (q + 32);
  surrogates = keys;
  metadata = text_given m mask 128 (q + 56);
}

abbrev pub terms_at : Linear → ℕ → ℕ → Result Terms Refusal
terms_at m mask q =
    and_then (unless (nat_le (length (text_given m mask 128 (q + 56))) 65536) status.Limitexceeded) (λ _.
    and_then (as_keys (text_given m mask 32 (q + 40))) (λ keys. Ok (terms_of m mask q keys)))

-- what a write says of its object
abbrev pub writing_at : Linear → ℕ → ℕ → Result Writing Refusal
writing_at m mask q =
    and_then (rule_in (text_given m mask 4 (q + 12))) (λ rule.
    and_then (unless (is_length (length_given m mask 64 (q + 48))) status.Limitexceeded) (λ _.
    and_then (terms_at m mask q) (λ terms. Ok (record { terms = terms; rule = rule; length = length_given m mask 64 (q + 48) }))))
