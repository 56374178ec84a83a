-- The lines of calls, in run files and in journals, and what has a spelling there.
use Rattle.std.specs.Prelude.{◌≡◌, ◌<◌, ◌≤◌, ◌^◌, ℕ, Bool, true, ◌&&◌, List, [], ◌++◌, decimal, codes, nat_lt, nat_le, Option, None, Some}
use Rattle.hex.specs.Hex.{IsBytes}
use Rattle.cache_types.specs.declared.calls.Field.{Field}
use Rattle.cache_types.specs.declared.calls.Terms.{Terms}
use Rattle.cache_types.specs.declared.calls.Writing.{Writing}
use Rattle.cache_types.specs.declared.calls.CacheCall.{CacheCall}
use Rattle.cache_types.specs.declared.calls.CacheCall.TheVariants.{Begin, Lookup, TxLookup, Insert, TxInsert, TxUpdate, TxCancel, Close, Write, Finish, Abandon, Read, Purge, End}
use Rattle.cache_types.specs.Limits.{is_name, is_within_limits}
use Rattle.cache_types.specs.Rule.{is_rule}
use Rattle.edge_words.specs.Reading.{AllFit}
use Rattle.script_lines.specs.declared.line.Named.{Named}
use Rattle.script_lines.specs.declared.line.Named.TheVariants as ref
use Rattle.call_lines.specs.declared.naming.Naming.{Naming}
use Rattle.call_lines.specs.declared.naming.Naming.TheVariants.{Marked, Plain}
use Rattle.script_lines.specs.declared.line.Line.{Line}
use Rattle.script_lines.specs.Names.{with_name}
use Rattle.call_lines.specs.Calls.{call_words, named_number}

-- ---- spelling

-- the mark of a number
abbrev pub number_mark : Naming → List ℕ
number_mark Marked = codes "#"
number_mark Plain = []

-- `@n` names an earlier line of the block
abbrev pub named_word : Naming → Named → List ℕ
named_word naming ref.Nothing = []
named_word naming (ref.Line n) = codes "@" ++ decimal n
named_word naming (ref.Number n) = number_mark naming ++ decimal n

abbrev pub line_words : Naming → Line → List (List ℕ)
line_words naming line = call_words (named_word naming line.named) line.call

-- ---- what has a spelling

abbrev pub IsReference : Naming → Named → Type 0
IsReference naming ref.Nothing = ⊥
IsReference Marked (ref.Line n) = n < 2 ^ 64
IsReference Plain (ref.Line n) = ⊥
IsReference naming (ref.Number n) = n < 2 ^ 64

-- a header's name is a token in lower case, and its value any bytes
abbrev pub IsField : Field → Type 0
IsField field = (is_name field.name ≡ true) × IsBytes field.value

abbrev pub AreTerms : Terms → Type 0
AreTerms terms = (terms.max_age < 2 ^ 64) × (terms.initial_age < 2 ^ 64) × (terms.stale < 2 ^ 64) × AllFit IsBytes terms.surrogates × IsBytes terms.metadata

abbrev pub IsName : List ℕ → Type 0
IsName name = is_name name ≡ true

-- names that rise
abbrev pub AreRuleNames : List (List ℕ) → Type 0
AreRuleNames names = AllFit IsName names × (is_rule names ≡ true)

abbrev pub IsDeclared : Option ℕ → Type 0
IsDeclared None = Unit {0}
IsDeclared (Some length) = length < 2 ^ 64

abbrev pub IsWriting : Writing → Type 0
IsWriting writing = AreTerms writing.terms × AreRuleNames writing.rule × IsDeclared writing.length

-- only journals have calls that begin or end a guest
abbrev pub IsPlain : Naming → Type 0
IsPlain Marked = ⊥
IsPlain Plain = Unit {0}

-- A call and what stands for the entry that it names, in the place of which the call has 0.
abbrev pub IsCallForm : Naming → CacheCall → Named → Type 0
IsCallForm naming Begin named = IsPlain naming × (named ≡ ref.Nothing)
IsCallForm naming (Lookup key headers) named = IsBytes key × AllFit IsField headers × (named ≡ ref.Nothing)
IsCallForm naming (TxLookup key headers) named = IsBytes key × AllFit IsField headers × (named ≡ ref.Nothing)
IsCallForm naming (Insert key headers writing) named = IsBytes key × IsWriting writing × AllFit IsField headers × (named ≡ ref.Nothing)
IsCallForm naming (TxInsert tx writing) named = IsReference naming named × IsWriting writing × (tx ≡ 0)
IsCallForm naming (TxUpdate tx terms) named = IsReference naming named × AreTerms terms × (tx ≡ 0)
IsCallForm naming (TxCancel tx) named = IsReference naming named × (tx ≡ 0)
IsCallForm naming (Close tx) named = IsReference naming named × (tx ≡ 0)
IsCallForm naming (Write object piece) named = IsReference naming named × IsBytes piece × (object ≡ 0)
IsCallForm naming (Finish object) named = IsReference naming named × (object ≡ 0)
IsCallForm naming (Abandon object) named = IsReference naming named × (object ≡ 0)
IsCallForm naming (Read hit place most) named = IsReference naming named × (place < 2 ^ 64) × (1 ≤ most) × (most ≤ 65536) × (hit ≡ 0)
IsCallForm naming (Purge key soft) named = IsBytes key × (named ≡ ref.Nothing)
IsCallForm naming End named = IsPlain naming × (named ≡ ref.Nothing)

abbrev pub IsForm : Naming → Line → Type 0
IsForm naming line = IsCallForm naming line.call line.named

-- ---- limits

-- `@n` names a line before the one at this place of the block, counted from 1
abbrev pub is_before : ℕ → Named → Bool
is_before place (ref.Line n) = nat_le 1 n && nat_lt n place
is_before place _ = true

-- the limits that a line keeps at its place
abbrev pub keeps_limits : ℕ → Line → Bool
keeps_limits place line = is_within_limits line.call && is_before place line.named

-- ---- the call of a journal

-- the number that stands for an entry
abbrev pub number_of : Named → ℕ
number_of ref.Nothing = 0
number_of (ref.Line n) = n
number_of (ref.Number n) = n

abbrev pub call_of : Line → CacheCall
call_of line = with_name (number_of line.named) line.call

-- what a call has in its line
abbrev pub named_in : CacheCall → Named
named_in Begin = ref.Nothing
named_in (Lookup key headers) = ref.Nothing
named_in (TxLookup key headers) = ref.Nothing
named_in (Insert key headers writing) = ref.Nothing
named_in (Purge key soft) = ref.Nothing
named_in End = ref.Nothing
named_in call = ref.Number (named_number call)

-- the line of a call in a journal
abbrev pub line_of_call : CacheCall → Line
line_of_call call = record { call = with_name 0 call; named = named_in call }

-- the words of a call in a journal
abbrev pub plain_words : CacheCall → List (List ℕ)
plain_words call = call_words (decimal (named_number call)) call

-- a call that a journal tells
pub record IsCall (call : CacheCall) : Type 0 where
  pub form : IsForm Plain (line_of_call call)
  pub limits : is_within_limits call ≡ true
