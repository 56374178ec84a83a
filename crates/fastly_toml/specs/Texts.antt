-- Bytes as text, and a JSON object of texts.
use Rattle.std.specs.Prelude.{ℕ, ◌==◌, List, [], ◌∷◌, length, Option, None, Some, if◌then◌else◌, option_map, option_and_then}
use Rattle.std.specs.Str.Lossy.{utf8_valid_len}
use Rattle.serde_json.specs.Data.{Data, string, object, Members, no_members, member}
use Rattle.serde_json.specs.Read.{read}

-- a name with its text
abbrev pub Pair : Type 0
Pair = List ℕ × List ℕ

-- the same bytes, where they are UTF-8
abbrev pub text_of : List ℕ → Option (List ℕ)
text_of bytes = if utf8_valid_len bytes == length bytes then Some bytes else None

-- the names with their texts, where each value is a text
abbrev pub pairs_of : Members → Option (List Pair)
pairs_of no_members = Some []
pairs_of (member name (string text) rest) = option_map (λ pairs. (name, text) ∷ pairs) (pairs_of rest)
pairs_of (member name _ rest) = None

abbrev pub pairs_in : Data → Option (List Pair)
pairs_in (object members) = pairs_of members
pairs_in _ = None

-- what the bytes of a store's file hold: a JSON object of texts, or nothing
abbrev pub json_pairs : List ℕ → Option (List Pair)
json_pairs bytes = option_and_then pairs_in (option_and_then read (text_of bytes))
