-- The rule that a text names: the names of headers, separated by spaces or commas, in any case.
use Rattle.std.specs.Prelude.{◌≡◌, ℕ, Bool, true, false, ◌||◌, List, [], ◌∷◌, ◌++◌, length, map, filter, nat_le, ◌==◌, Result, Ok, Err, Vec, bytes_eq, if◌then◌else◌}
use Rattle.std.specs.BTreeSet.{insert_key}
use Rattle.std.specs.Global.{Global}
use Rattle.std.specs.List.{slice_split, list_all, list_any}
use Rattle.std.specs.Ordering.{nat_cmp}
use Rattle.std.specs.Cmp.Lexicographic.{slice_cmp}
use Rattle.std.specs.Str.{str_to_ascii_lowercase}
use Rattle.cache_types.specs.Limits.{is_name}
use Rattle.vary_rules.specs.declared.fault.RuleFault.{RuleFault}
use Rattle.vary_rules.specs.declared.fault.RuleFault.TheVariants as fault

-- a space or a comma
abbrev pub is_gap : ℕ → Bool
is_gap byte = byte == 32 || byte == 44

abbrev pub is_some_word : List ℕ → Bool
is_some_word [] = false
is_some_word (byte ∷ word) = true

-- the names among some parts of a text, and those in a text, in lower case
abbrev pub names_in : List (List ℕ) → List (List ℕ)
names_in parts = map str_to_ascii_lowercase (filter is_some_word parts)

abbrev pub names_of : List ℕ → List (List ℕ)
names_of text = names_in (slice_split is_gap text)

-- some names, each in its place by its bytes unless it is there already
abbrev pub rule_with : List (List ℕ) → List (List ℕ) → List (List ℕ)
rule_with rule [] = rule
rule_with rule (name ∷ names) = rule_with (insert_key (slice_cmp nat_cmp) rule name) names

-- the names in their order, each once
abbrev pub rule_of : List ℕ → List (List ℕ)
rule_of text = rule_with [] (names_of text)

-- the name is one of these
abbrev pub holds : List ℕ → List (List ℕ) → Bool
holds name names = list_any (λ other. bytes_eq other name) names

-- each is a token of at most 64 bytes
abbrev pub are_names : List (List ℕ) → Bool
are_names names = list_all is_name names

-- a rule has 32 names at most
abbrev pub told : List ℕ → Result (List (List ℕ)) RuleFault
told text =
    if are_names (names_of text) then (if nat_le (length (rule_of text)) 32 then Ok (rule_of text) else Err fault.TooMany)
    else Err fault.BadName

-- What a function returned is this, unless memory ran out.
abbrev pub Tells : Result (List (List ℕ)) RuleFault → Result (List (List ℕ)) RuleFault → Type 0
Tells (Ok rule) read = read ≡ Ok rule
Tells (Err fault.OutOfMemory) read = Unit {0}
Tells (Err bad) read = read ≡ Err bad

-- Some names and those among these parts, where each of these is good.
abbrev pub TellsNames : Result (Vec (List ℕ) Global) RuleFault → List (List ℕ) → List (List ℕ) → Type 0
TellsNames (Ok names) done parts = (names.items ≡ done ++ names_in parts) × (are_names (names_in parts) ≡ true)
TellsNames (Err fault.BadName) done parts = are_names (names_in parts) ≡ false
TellsNames (Err fault.TooMany) done parts = ⊥
TellsNames (Err fault.OutOfMemory) done parts = Unit {0}
