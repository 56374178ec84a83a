-- The words of a call, in run files and in journals.
use Rattle.std.specs.Prelude.{ℕ, Bool, true, false, List, [], ◌∷◌, ◌++◌, decimal, codes, map, ◌==◌, Option, None, Some, if◌then◌else◌}
use Rattle.cache_types.specs.declared.calls.Field.{Field}
use Rattle.cache_types.specs.declared.calls.Terms.{Terms}
use Rattle.cache_types.specs.declared.calls.Writing.{Writing}
use Rattle.cache_types.specs.declared.calls.CacheCall.{CacheCall}
use Rattle.cache_types.specs.declared.calls.CacheCall.TheVariants.{Begin, Lookup, TxLookup, Insert, TxInsert, TxUpdate, TxCancel, Close, Write, Finish, Abandon, Read, Purge, End}
use Rattle.edge_words.specs.Words.{hex_word, listed}

-- a header: `h=NAME:HEX`
abbrev pub head_word : Field → List ℕ
head_word field = codes "h=" ++ (field.name ++ (codes ":" ++ hex_word field.value))

abbrev pub heads : List Field → List (List ℕ)
heads headers = map head_word headers

-- an option with a number, which isn't written where that is 0
abbrev pub number_words : List ℕ → ℕ → List (List ℕ)
number_words prefix n = if n == 0 then [] else (prefix ++ decimal n) ∷ []

-- an option with pieces, which isn't written where there is none
abbrev pub list_words : List ℕ → List (List ℕ) → List (List ℕ)
list_words prefix [] = []
list_words prefix (piece ∷ pieces) = (prefix ++ listed (piece ∷ pieces)) ∷ []

abbrev pub metadata_words : List ℕ → List (List ℕ)
metadata_words [] = []
metadata_words (byte ∷ bytes) = (codes "meta=" ++ hex_word (byte ∷ bytes)) ∷ []

abbrev pub length_words : Option ℕ → List (List ℕ)
length_words None = []
length_words (Some n) = (codes "len=" ++ decimal n) ∷ []

-- the words of terms, in this order
abbrev pub terms_words : Terms → List (List ℕ)
terms_words terms =
    (codes "max=" ++ decimal terms.max_age)
    ∷ (number_words (codes "age=") terms.initial_age
    ++ (number_words (codes "swr=") terms.stale
    ++ (list_words (codes "sur=") (map hex_word terms.surrogates)
    ++ metadata_words terms.metadata)))

abbrev pub writing_words : Writing → List (List ℕ)
writing_words writing = terms_words writing.terms ++ (list_words (codes "vary=") writing.rule ++ length_words writing.length)

abbrev pub purge_word : Bool → List ℕ
purge_word true = codes "soft"
purge_word false = codes "hard"

-- the entry that a call names
abbrev pub named_number : CacheCall → ℕ
named_number (TxInsert tx writing) = tx
named_number (TxUpdate tx terms) = tx
named_number (TxCancel tx) = tx
named_number (Close tx) = tx
named_number (Write object piece) = object
named_number (Finish object) = object
named_number (Abandon object) = object
named_number (Read hit place most) = hit
named_number _ = 0

-- the words of a call, with this word in the place of the entry that it names
abbrev pub call_words : List ℕ → CacheCall → List (List ℕ)
call_words name Begin = codes "begin" ∷ []
call_words name (Lookup key headers) = codes "lookup" ∷ (hex_word key ∷ heads headers)
call_words name (TxLookup key headers) = codes "txlookup" ∷ (hex_word key ∷ heads headers)
call_words name (Insert key headers writing) = codes "insert" ∷ (hex_word key ∷ (writing_words writing ++ heads headers))
call_words name (TxInsert tx writing) = codes "txinsert" ∷ (name ∷ writing_words writing)
call_words name (TxUpdate tx terms) = codes "txupdate" ∷ (name ∷ terms_words terms)
call_words name (TxCancel tx) = codes "txcancel" ∷ (name ∷ [])
call_words name (Close tx) = codes "close" ∷ (name ∷ [])
call_words name (Write object piece) = codes "write" ∷ (name ∷ (hex_word piece ∷ []))
call_words name (Finish object) = codes "finish" ∷ (name ∷ [])
call_words name (Abandon object) = codes "abandon" ∷ (name ∷ [])
call_words name (Read hit place most) = codes "read" ∷ (name ∷ (decimal place ∷ (decimal most ∷ [])))
call_words name (Purge key soft) = codes "purge" ∷ (hex_word key ∷ (purge_word soft ∷ []))
call_words name End = codes "end" ∷ []
