-- Reading the words of a call on lists.
use Rattle.std.specs.Prelude.{ℕ, List, [], ◌∷◌, codes, bytes_eq, ◌==◌, nat_le, Bool, true, false, Option, None, Some, if◌then◌else◌}
use Rattle.std.specs.Option.{option_map}
use Rattle.cache_types.specs.declared.calls.Field.{Field}
use Rattle.cache_types.specs.declared.calls.Terms.{Terms}
use Rattle.cache_types.specs.declared.calls.Writing.{Writing}
use Rattle.cache_types.specs.declared.calls.CacheCall.{CacheCall}
use Rattle.cache_types.specs.declared.calls.CacheCall.TheVariants.{Begin, Lookup, TxLookup, Insert, TxInsert, TxUpdate, TxCancel, Close, Write, Finish, Abandon, Read, Purge, End}
use Rattle.cache_types.specs.Limits.{is_name, is_within_limits}
use Rattle.cache_types.specs.Rule.{is_rule}
use Rattle.edge_words.specs.Reading.{one, both, mapped, maybe, many, listed_in, prefixed, parts_at, number_in, number_from_to, hex_in, ◌>>=◌}
use Rattle.script_lines.specs.declared.line.Named.{Named}
use Rattle.script_lines.specs.declared.line.Named.TheVariants as ref
use Rattle.call_lines.specs.declared.naming.Naming.{Naming}
use Rattle.call_lines.specs.declared.naming.Naming.TheVariants.{Marked, Plain}
use Rattle.script_lines.specs.declared.line.Line.{Line}
use Rattle.call_lines.specs.Lines.{call_of}

-- what reads a word or some words, and leaves others
abbrev pub Reads : Type 0 → Type 0
Reads X = List (List ℕ) → Option (X × List (List ℕ))

-- ---- references

-- `@` or `#`, and a number
abbrev pub marked_in : List ℕ → Option Named
marked_in [] = None
marked_in (mark ∷ digits) =
    if mark == 64 then option_map ref.Line (number_in digits)
    else if mark == 35 then option_map ref.Number (number_in digits)
    else None

abbrev pub reference_in : Naming → List ℕ → Option Named
reference_in Marked word = marked_in word
reference_in Plain word = option_map ref.Number (number_in word)

-- ---- headers

-- both parts, where there are two
abbrev pub two : List (List ℕ) → Option (List ℕ × List ℕ)
two (front ∷ (back ∷ [])) = Some (front, back)
two _ = None

abbrev pub name_in : List ℕ → Option (List ℕ)
name_in text = if is_name text then Some text else None

abbrev pub field_with : List ℕ → List ℕ → Field
field_with name value = record { name = name; value = value }

abbrev pub field_of : List ℕ × List ℕ → Option Field
field_of halves = name_in halves.0 >>= λ name. option_map (field_with name) (hex_in halves.1)

-- a name and a value after a colon
abbrev pub field_in : List ℕ → Option Field
field_in text = two (parts_at 58 text) >>= field_of

abbrev pub heads_in : Reads (List Field)
heads_in = many (codes "h=") field_in

-- ---- terms

-- a number that isn't 0
abbrev pub positive_in : List ℕ → Option ℕ
positive_in word = number_in word >>= λ n. if nat_le 1 n then Some n else None

-- some bytes
abbrev pub not_none : List ℕ → Option (List ℕ)
not_none [] = None
not_none (byte ∷ bytes) = Some (byte ∷ bytes)

abbrev pub some_bytes_in : List ℕ → Option (List ℕ)
some_bytes_in word = hex_in word >>= not_none

abbrev pub surrogates_in : Reads (List (List ℕ))
surrogates_in = maybe (codes "sur=") (listed_in hex_in) []

abbrev pub metadata_in : Reads (List ℕ)
metadata_in = maybe (codes "meta=") some_bytes_in []

abbrev pub number_option : List ℕ → Reads ℕ
number_option prefix = maybe prefix positive_in 0

abbrev pub terms_of : ℕ × (ℕ × (ℕ × (List (List ℕ) × List ℕ))) → Terms
terms_of said = record { max_age = said.0; initial_age = said.1.0; stale = said.1.1.0; surrogates = said.1.1.1.0; metadata = said.1.1.1.1 }

abbrev pub terms_in : Reads Terms
terms_in = mapped terms_of (both (one (prefixed (codes "max=") number_in)) (both (number_option (codes "age=")) (both (number_option (codes "swr=")) (both surrogates_in metadata_in))))

-- ---- what an insertion says

abbrev pub rising : List (List ℕ) → Option (List (List ℕ))
rising names = if is_rule names then Some names else None

-- names that rise
abbrev pub rule_of : List ℕ → Option (List (List ℕ))
rule_of text = listed_in name_in text >>= rising

abbrev pub rule_in : Reads (List (List ℕ))
rule_in = maybe (codes "vary=") rule_of []

abbrev pub known_in : List ℕ → Option (Option ℕ)
known_in word = option_map Some (number_in word)

abbrev pub length_in : Reads (Option ℕ)
length_in = maybe (codes "len=") known_in None

abbrev pub writing_of : Terms × (List (List ℕ) × Option ℕ) → Writing
writing_of said = record { terms = said.0; rule = said.1.0; length = said.1.1 }

abbrev pub writing_in : Reads Writing
writing_in = mapped writing_of (both terms_in (both rule_in length_in))

-- ---- the words after the first of each form, and the line of what they say

abbrev pub bare_in : Naming → Reads (Unit {0})
bare_in Marked words = None
bare_in Plain words = Some (tt, words)

abbrev pub bare_line : CacheCall → Unit {0} → Line
bare_line call _ = record { call = call; named = ref.Nothing }

abbrev pub lookup_in : Reads (List ℕ × List Field)
lookup_in = both (one hex_in) heads_in

abbrev pub lookup_line : List ℕ × List Field → Line
lookup_line said = record { call = Lookup said.0 said.1; named = ref.Nothing }

abbrev pub tx_lookup_line : List ℕ × List Field → Line
tx_lookup_line said = record { call = TxLookup said.0 said.1; named = ref.Nothing }

abbrev pub insert_in : Reads (List ℕ × (Writing × List Field))
insert_in = both (one hex_in) (both writing_in heads_in)

abbrev pub insert_line : List ℕ × (Writing × List Field) → Line
insert_line said = record { call = Insert said.0 said.1.1 said.1.0; named = ref.Nothing }

abbrev pub purge_kind_in : List ℕ → Option Bool
purge_kind_in word = if bytes_eq word (codes "soft") then Some true else if bytes_eq word (codes "hard") then Some false else None

abbrev pub purge_in : Reads (List ℕ × Bool)
purge_in = both (one hex_in) (one purge_kind_in)

abbrev pub purge_line : List ℕ × Bool → Line
purge_line said = record { call = Purge said.0 said.1; named = ref.Nothing }

abbrev pub named_in : Naming → Reads Named
named_in naming = one (reference_in naming)

abbrev pub tx_insert_in : Naming → Reads (Named × Writing)
tx_insert_in naming = both (named_in naming) writing_in

abbrev pub tx_insert_line : Named × Writing → Line
tx_insert_line said = record { call = TxInsert 0 said.1; named = said.0 }

abbrev pub tx_update_in : Naming → Reads (Named × Terms)
tx_update_in naming = both (named_in naming) terms_in

abbrev pub tx_update_line : Named × Terms → Line
tx_update_line said = record { call = TxUpdate 0 said.1; named = said.0 }

abbrev pub tx_cancel_line : Named → Line
tx_cancel_line named = record { call = TxCancel 0; named = named }

abbrev pub close_line : Named → Line
close_line named = record { call = Close 0; named = named }

abbrev pub write_in : Naming → Reads (Named × List ℕ)
write_in naming = both (named_in naming) (one hex_in)

abbrev pub write_line : Named × List ℕ → Line
write_line said = record { call = Write 0 said.1; named = said.0 }

abbrev pub finish_line : Named → Line
finish_line named = record { call = Finish 0; named = named }

abbrev pub abandon_line : Named → Line
abandon_line named = record { call = Abandon 0; named = named }

abbrev pub read_in : Naming → Reads (Named × (ℕ × ℕ))
read_in naming = both (named_in naming) (both (one number_in) (one (number_from_to 1 65536)))

abbrev pub read_line : Named × (ℕ × ℕ) → Line
read_line said = record { call = Read 0 said.1.0 said.1.1; named = said.0 }

-- ---- a line

-- one reading for a line that begins with this word, and others
abbrev pub choose : List ℕ → List ℕ → Option (Line × List (List ℕ)) → Option (Line × List (List ℕ)) → Option (Line × List (List ℕ))
choose name word line others = if bytes_eq name word then line else others

-- the forms that name no entry
abbrev pub unnamed_form : Naming → List ℕ → Reads Line
unnamed_form naming name words =
    choose name (codes "lookup") (mapped lookup_line lookup_in words)
    (choose name (codes "txlookup") (mapped tx_lookup_line lookup_in words)
    (choose name (codes "insert") (mapped insert_line insert_in words)
    (choose name (codes "purge") (mapped purge_line purge_in words)
    (choose name (codes "begin") (mapped (bare_line Begin) (bare_in naming) words)
    (choose name (codes "end") (mapped (bare_line End) (bare_in naming) words) None)))))

-- those that name a lookup of a transaction, and the others
abbrev pub transaction_form : Naming → List ℕ → Reads Line
transaction_form naming name words =
    choose name (codes "txinsert") (mapped tx_insert_line (tx_insert_in naming) words)
    (choose name (codes "txupdate") (mapped tx_update_line (tx_update_in naming) words)
    (choose name (codes "txcancel") (mapped tx_cancel_line (named_in naming) words)
    (choose name (codes "close") (mapped close_line (named_in naming) words)
    (unnamed_form naming name words))))

-- those that name an object or a hit, and the others
abbrev pub any_form : Naming → List ℕ → Reads Line
any_form naming name words =
    choose name (codes "write") (mapped write_line (write_in naming) words)
    (choose name (codes "finish") (mapped finish_line (named_in naming) words)
    (choose name (codes "abandon") (mapped abandon_line (named_in naming) words)
    (choose name (codes "read") (mapped read_line (read_in naming) words)
    (transaction_form naming name words))))

-- the line of a call, whatever its limits
abbrev pub form_in : Naming → Reads Line
form_in naming [] = None
form_in naming (name ∷ words) = any_form naming name words

-- ---- the call of a journal

abbrev pub within_limits : CacheCall × List (List ℕ) → Option (CacheCall × List (List ℕ))
within_limits read = if is_within_limits read.0 then Some read else None

abbrev pub call_in : Reads CacheCall
call_in words = mapped call_of (form_in Plain) words >>= within_limits
