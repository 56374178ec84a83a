-- The random words of a load: the key stream of ChaCha with eight rounds.
use Rattle.std.specs.Prelude.{ℕ, List, ◌++◌, replicate}
use Rattle.std.specs.Int.{w64, to_le_bytes}
use Rattle.rand_chacha.specs.ChaCha.{word_at, key_of}

-- the number's eight little-endian bytes and 24 zero bytes
abbrev pub seed : ℕ → List ℕ
seed number = to_le_bytes w64 number ++ replicate 24 0

-- the word at a place of stream 0; eight rounds are four double rounds
unfoldable pub word : ℕ → ℕ → ℕ
word number place = word_at 4 (key_of (seed number)) 0 place
