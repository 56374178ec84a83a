-- Texts of lines, and lines of words.
use Rattle.std.specs.Prelude.{ℕ, Bool, List, [], ◌∷◌, ◌++◌, nat_lt, codes}
use Rattle.std.specs.List.{flat_map, list_all}
use Rattle.hex.specs.Hex.{encode_lower}

-- a byte above the space, as each byte of a word is
abbrev pub is_visible : ℕ → Bool
is_visible byte = nat_lt 32 byte

abbrev pub is_word : List ℕ → Bool
is_word word = list_all is_visible word

abbrev pub are_words : List (List ℕ) → Bool
are_words words = list_all is_word words

-- a space, and then the word
abbrev pub spaced : List ℕ → List ℕ
spaced word = 32 ∷ word

-- the words, with one space between two of them
abbrev pub line_of : List (List ℕ) → List ℕ
line_of [] = []
line_of (word ∷ words) = word ++ flat_map spaced words

-- the line, and then a line feed
abbrev pub ended : List ℕ → List ℕ
ended line = line ++ 10 ∷ []

-- the lines, each ended by a line feed
abbrev pub text_of : List (List ℕ) → List ℕ
text_of lines = flat_map ended lines

-- bytes in hexadecimal, and `-` where there are none
abbrev pub hex_word : List ℕ → List ℕ
hex_word [] = codes "-"
hex_word (byte ∷ bytes) = encode_lower (byte ∷ bytes)

-- a comma, and then the piece
abbrev pub after_comma : List ℕ → List ℕ
after_comma piece = 44 ∷ piece

-- pieces with commas between them
abbrev pub listed : List (List ℕ) → List ℕ
listed [] = []
listed (piece ∷ pieces) = piece ++ flat_map after_comma pieces
