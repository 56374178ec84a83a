-- Headers of one message, read and changed. A text names a header whatever the case of its letters.
use Rattle.std.specs.Prelude.{ℕ, Bool, not, List, [], ◌∷◌, ◌++◌, map, filter, bytes_eq, Option, option_map, if◌then◌else◌}
use Rattle.std.specs.List.{find, list_any}
use Rattle.cache_types.specs.declared.calls.Field.{Field}
use Rattle.edge_http_calls.specs.Texts.{lowered}

-- a header has this name
abbrev pub is_named : List ℕ → Field → Bool
is_named text field = bytes_eq (lowered field.name) (lowered text)

-- the first value of a name
abbrev pub first_value : List ℕ → List Field → Option (List ℕ)
first_value text fields = option_map (λ (field : Field). field.value) (find (is_named text) fields)

-- all values of a name, in their order
abbrev pub values_named : List ℕ → List Field → List (List ℕ)
values_named text fields = map (λ (field : Field). field.value) (filter (is_named text) fields)

-- the names that aren't among these, each where it first stands
abbrev pub names_behind : List (List ℕ) → List Field → List (List ℕ)
names_behind seen [] = []
names_behind seen (field ∷ fields) =
    if list_any (λ other. bytes_eq other field.name) seen then names_behind seen fields
    else field.name ∷ names_behind (seen ++ field.name ∷ []) fields

-- the names with one more, where it isn't among them
abbrev pub with_name : List (List ℕ) → List ℕ → List (List ℕ)
with_name names name = if list_any (λ other. bytes_eq other name) names then names else names ++ name ∷ []

abbrev pub names_of : List Field → List (List ℕ)
names_of fields = names_behind [] fields

-- without the headers of a name
abbrev pub without : List ℕ → List Field → List Field
without text fields = filter (λ (field : Field). not (is_named text field)) fields

-- a header: its name is in lower case
abbrev pub field_with : List ℕ → List ℕ → Field
field_with text value = record { name = lowered text; value = value }

-- with a header more at the end
abbrev pub appended : List ℕ → List ℕ → List Field → List Field
appended text value fields = fields ++ field_with text value ∷ []

-- with these values of a name, at the end, in the place of all that it had
abbrev pub replaced : List ℕ → List (List ℕ) → List Field → List Field
replaced text values fields = without text fields ++ map (field_with text) values
