-- The headers of a message by their names, over the grammar of `httparse`.
use Rattle.std.specs.Prelude.{ℕ, ◌&&◌, Bool, List, length, map, find, count_by, nat_lt, Option, bytes_eq}
use Rattle.std.specs.Option.{option_map}
use Rattle.std.specs.List.{list_all, list_any}
use Rattle.std.specs.Char.{to_ascii_lowercase, is_ascii_digit}
use Rattle.httparse.specs.Spans.{name_and_value}
use Rattle.httparse.specs.Grammar.{Field as Line}
use Rattle.cache_types.specs.declared.calls.Field.{Field}

-- the most headers that a head has
abbrev pub most_headers : ℕ
most_headers = 100

-- the most bytes that a body has
abbrev pub most_body : ℕ
most_body = 67108864

-- a name in lower case, and its value
abbrev pub header_of : List ℕ × List ℕ → Field
header_of pair = record { name = map to_ascii_lowercase pair.0; value = pair.1 }

-- the headers of a head of the grammar
abbrev pub headers_of : List Line → List Field
headers_of lines = map header_of (map name_and_value lines)

-- how often a name stands, and the value of its first header
abbrev pub has_name : List ℕ → Field → Bool
has_name name field = bytes_eq field.name name

abbrev pub count_of : List ℕ → List Field → ℕ
count_of name fields = count_by (has_name name) fields

abbrev pub first_of : List ℕ → List Field → Option (List ℕ)
first_of name fields = option_map (λ field. field.value) (find (has_name name) fields)

-- a value has a byte over 7E
abbrev pub is_high_byte : ℕ → Bool
is_high_byte b = nat_lt 126 b

abbrev pub has_high_byte : Field → Bool
has_high_byte field = list_any is_high_byte field.value

-- one digit or more, and nothing else
abbrev pub is_digits : List ℕ → Bool
is_digits text = nat_lt 0 (length text) && list_all is_ascii_digit text

-- two texts that differ in case alone
abbrev pub same_in_lower_case : List ℕ → List ℕ → Bool
same_in_lower_case a b = bytes_eq (map to_ascii_lowercase a) (map to_ascii_lowercase b)
