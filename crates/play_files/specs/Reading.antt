-- Reading the lines of a play file on lists.
use Rattle.std.specs.Prelude.{ℕ, List, codes, bytes_eq, length, ◌==◌, Option, None, Some, if◌then◌else◌}
use Rattle.edge_words.specs.Reading.{one, whole, as_word, number_in, hex_in, words_in, ◌>>=◌}

-- the one word behind this name
abbrev pub word_behind : List ℕ → List (List ℕ) → Option (List ℕ)
word_behind name words = one as_word words >>= λ first. if bytes_eq first.0 name then whole (one as_word) first.1 else None

-- a line of a name and one word, as this function reads the word
abbrev pub named_in : {X : Type 0} → List ℕ → (List ℕ → Option X) → List ℕ → Option X
named_in name read line = word_behind name (words_in line) >>= read

abbrev pub random_word : List ℕ → Option (List ℕ)
random_word word = hex_in word >>= λ random. if length random == 32 then Some random else None

abbrev pub fuel_in : List ℕ → Option ℕ
fuel_in line = named_in (codes "fuel") number_in line

abbrev pub random_in : List ℕ → Option (List ℕ)
random_in line = named_in (codes "random") random_word line

-- the bytes of a request, whether they are one or not
abbrev pub request_in : List ℕ → Option (List ℕ)
request_in line = named_in (codes "request") hex_in line
