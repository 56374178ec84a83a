-- Reading on lists: a value and the words that are left, or nothing.
use Rattle.std.specs.Prelude.{◌≡◌, ℕ, ◌^◌, ◌&&◌, Bool, not, List, true, [], ◌∷◌, nat_lt, nat_le, ◌==◌, decimal, codes, bytes_eq, length, take, drop, Option, None, Some, Result, Ok, Err, if◌then◌else◌}
use Rattle.std.specs.Option.{option_map}
use Rattle.std.specs.List.{slice_split, list_all}
use Rattle.std.specs.Borrow.{Bor}
use Rattle.std.specs.Str.Parse.{digits_value}
use Rattle.hex.specs.Hex.{decode_of}
use Rattle.hex.specs.declared.error.FromHexError.{FromHexError}
use Rattle.hex.specs.declared.error.FromHexError.TheVariants as memory
use Rattle.edge_words.specs.declared.fault.LineFault.{LineFault}
use Rattle.edge_words.specs.declared.fault.LineFault.TheVariants.{Bad, OutOfMemory}
use Rattle.edge_words.specs.Words.{hex_word}

-- the parts between the bytes c
abbrev pub parts_at : ℕ → List ℕ → List (List ℕ)
parts_at c bytes = slice_split (λ b. b == c) bytes

-- a list without its last element, and the last
abbrev pub all_but_last : {X : Type 0} → List X → List X
all_but_last [] = []
all_but_last (x ∷ []) = []
all_but_last (x ∷ (y ∷ xs)) = x ∷ all_but_last (y ∷ xs)

abbrev pub last_of : List (List ℕ) → List ℕ
last_of [] = []
last_of (x ∷ []) = x
last_of (x ∷ (y ∷ xs)) = last_of (y ∷ xs)

-- the lines of a text that end with a line feed
abbrev pub whole_lines : List ℕ → List (List ℕ)
whole_lines text = all_but_last (parts_at 10 text)

-- what stands after the last line feed
abbrev pub after_lines : List ℕ → List ℕ
after_lines text = last_of (parts_at 10 text)

-- the words of a line
abbrev pub words_in : List ℕ → List (List ℕ)
words_in line = parts_at 32 line

-- the words of what is left of a line
abbrev pub words_left : Option (Bor (List ℕ)) → List (List ℕ)
words_left None = []
words_left (Some rest) = words_in rest.now

-- What a function returned, seen by view, is what reading gives, unless memory ran out.
abbrev pub Gives : {X Y : Type 0} → (X → Y) → Result X LineFault → Option Y → Type 0
Gives view (Ok x) read = read ≡ Some (view x)
Gives view (Err Bad) read = read ≡ None
Gives view (Err OutOfMemory) read = Unit {0}

-- first one reading and then another
infixl 10 ◌>>=◌
abbrev pub ◌>>=◌ : {A B : Type 0} → Option A → (A → Option B) → Option B
None >>= f = None
(Some x) >>= f = f x

-- the first word, as this function reads it, and the words after it
abbrev pub one : {X : Type 0} → (List ℕ → Option X) → List (List ℕ) → Option (X × List (List ℕ))
one read [] = None
one read (word ∷ words) = option_map (λ x. (x, words)) (read word)

-- the word begins so
abbrev pub begins : List ℕ → List ℕ → Bool
begins prefix word = bytes_eq (take (length prefix) word) prefix

-- what stands after the prefix
abbrev pub without_prefix : List ℕ → List ℕ → Option (List ℕ)
without_prefix prefix word = if begins prefix word then Some (drop (length prefix) word) else None

-- the rest of a word after a prefix, as this function reads it
abbrev pub prefixed : {X : Type 0} → List ℕ → (List ℕ → Option X) → List ℕ → Option X
prefixed prefix read word = without_prefix prefix word >>= read

-- the first word as it stands
abbrev pub as_word : List ℕ → Option (List ℕ)
as_word word = Some word

-- no word is left
abbrev pub at_end : List (List ℕ) → Option (Unit {0})
at_end [] = Some tt
at_end (_ ∷ _) = None

-- one reading and then another
abbrev pub both : {X Y : Type 0} → (List (List ℕ) → Option (X × List (List ℕ))) → (List (List ℕ) → Option (Y × List (List ℕ))) → List (List ℕ) → Option ((X × Y) × List (List ℕ))
both first second words = do
  a ← first words
  b ← second a.1
  Some ((a.0, b.0), b.1)

-- a reading that uses up all words
abbrev pub whole : {X : Type 0} → (List (List ℕ) → Option (X × List (List ℕ))) → List (List ℕ) → Option X
whole read words = do
  a ← read words
  end ← at_end a.1
  Some a.0

-- the number below 2 ^ 64 that is spelled so
unfoldable pub number_in : List ℕ → Option ℕ
number_in word =
    if nat_lt (digits_value 10 word) (2 ^ 64) && bytes_eq (decimal (digits_value 10 word)) word
    then Some (digits_value 10 word)
    else None

-- the same, from the least to the most
abbrev pub number_from_to : ℕ → ℕ → List ℕ → Option ℕ
number_from_to least most word = number_in word >>= λ n. if nat_le least n && nat_le n most then Some n else None

-- a fault of the decoder, but for memory
abbrev pub fault_of : FromHexError → LineFault
fault_of memory.OutOfMemory = OutOfMemory
fault_of _ = Bad

-- the bytes of a decoding, where they are spelled so
abbrev pub spelled_so : List ℕ → Result (List ℕ) FromHexError → Option (List ℕ)
spelled_so word (Ok bytes) = if bytes_eq (hex_word bytes) word then Some bytes else None
spelled_so word (Err _) = None

-- the bytes that are spelled so
unfoldable pub hex_in : List ℕ → Option (List ℕ)
hex_in word = if bytes_eq word (codes "-") then Some [] else spelled_so word (decode_of word)

-- ---- words that may be left out

-- the first word, if there is one, begins with none of these
abbrev pub avoids : List (List ℕ) → List (List ℕ) → Bool
avoids prefixes [] = true
avoids prefixes (word ∷ words) = list_all (λ prefix. not (begins prefix word)) prefixes

abbrev pub Avoids : List (List ℕ) → List (List ℕ) → Type 0
Avoids prefixes words = avoids prefixes words ≡ true

-- what stands after the prefix in the first word, if that begins so, and the words that are left
abbrev pub optional : List ℕ → List (List ℕ) → Option (List ℕ) × List (List ℕ)
optional prefix [] = (None, [])
optional prefix (word ∷ words) =
    if begins prefix word then (Some (drop (length prefix) word), words) else (None, word ∷ words)

-- an option, as this function reads it, or what stands for none
abbrev pub read_or : {X : Type 0} → (List ℕ → Option X) → X → Option (List ℕ) × List (List ℕ) → Option (X × List (List ℕ))
read_or read absent (None, words) = Some (absent, words)
read_or read absent (Some text, words) = option_map (λ x. (x, words)) (read text)

abbrev pub maybe : {X : Type 0} → List ℕ → (List ℕ → Option X) → X → List (List ℕ) → Option (X × List (List ℕ))
maybe prefix read absent words = read_or read absent (optional prefix words)

-- one more before the others
abbrev pub onto : {X : Type 0} → X → Option (List X × List (List ℕ)) → Option (List X × List (List ℕ))
onto x more = option_map (λ m. (x ∷ m.0, m.1)) more

-- the words that begin so, each as this function reads the rest of it
abbrev pub many : {X : Type 0} → List ℕ → (List ℕ → Option X) → List (List ℕ) → Option (List X × List (List ℕ))
many prefix read [] = Some ([], [])
many prefix read (word ∷ words) =
    if begins prefix word then (read (drop (length prefix) word) >>= λ x. onto x (many prefix read words))
    else Some ([], word ∷ words)

-- each part, as this function reads it
abbrev pub each : {X : Type 0} → (List ℕ → Option X) → List (List ℕ) → Option (List X)
each read [] = Some []
each read (part ∷ parts) = read part >>= λ x. option_map (λ xs. x ∷ xs) (each read parts)

-- the pieces between commas
abbrev pub listed_in : {X : Type 0} → (List ℕ → Option X) → List ℕ → Option (List X)
listed_in read text = each read (parts_at 44 text)

-- a reading, and what is made of it
abbrev pub mapped : {X Y : Type 0} → (X → Y) → (List (List ℕ) → Option (X × List (List ℕ))) → List (List ℕ) → Option (Y × List (List ℕ))
mapped make read words = option_map (λ r. (make r.0, r.1)) (read words)

-- all of them fit
abbrev pub AllFit : {X : Type 0} → (X → Type 0) → List X → Type 0
AllFit Fits [] = Unit {0}
AllFit Fits (x ∷ xs) = Fits x × AllFit Fits xs
