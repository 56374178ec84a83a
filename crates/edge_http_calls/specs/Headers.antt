-- The rows on headers, of requests and of responses alike: of a handle they see the headers that it names.
use Rattle.std.specs.Prelude.{ℕ, List, [], ◌∷◌, length, nat_le, Option, Result, Ok}
use Rattle.std.specs.List.{list_all, list_any}
use Rattle.cache_types.specs.declared.calls.Field.{Field}
use Rattle.wasm_memory.specs.Linear.{Linear}
use Rattle.edge_abi.specs.declared.status.Status.TheVariants as status
use Rattle.edge_abi.specs.declared.status.Refusal.{Refusal}
use Rattle.edge_abi.specs.Memory.{octets_at}
use Rattle.edge_abi.specs.Refusals.{and_then, unless, ranged, placed, some_or}
use Rattle.edge_abi.specs.Buffers.{buffered, listed}
use Rattle.edge_abi.specs.Told.{Row, judged, plain, done}
use Rattle.edge_http_calls.specs.Texts.{is_token, is_text, is_ended, values_in}
use Rattle.edge_http_calls.specs.Fields.{is_named, first_value, values_named, names_of, without, appended, replaced}

-- the name that stands at a place: a token of at most 64 bytes
abbrev pub token_at : Linear → ℕ → ℕ → Result (List ℕ) Refusal
token_at m p n = and_then (unless (is_token (octets_at m p n)) status.Httpinvalid) (λ _. Ok (octets_at m p n))

-- the value that stands at a place
abbrev pub text_at : Linear → ℕ → ℕ → Result (List ℕ) Refusal
text_at m q len = and_then (unless (is_text (octets_at m q len)) status.Httpinvalid) (λ _. Ok (octets_at m q len))

-- the text of values that stands at a place: each is ended by NUL, which is tested first
abbrev pub ended_at : Linear → ℕ → ℕ → Result (List ℕ) Refusal
ended_at m q len = and_then (unless (is_ended (octets_at m q len)) status.Inval) (λ _. Ok (octets_at m q len))

-- values that may stand in headers
abbrev pub as_texts : List (List ℕ) → Result (List (List ℕ)) Refusal
as_texts values = and_then (unless (list_all is_text values) status.Httpinvalid) (λ _. Ok values)

-- no more headers than a message may have
abbrev pub limited : List Field → Result (List Field) Refusal
limited fields = and_then (unless (nat_le (length fields) 100) status.Limitexceeded) (λ _. Ok fields)

-- ---- what the rows ask for

abbrev pub names_asked : Option (List Field) → Linear → ℕ → ℕ → ℕ → ℕ → Result (List (List ℕ)) Refusal
names_asked fields m b room ending count =
    and_then (some_or fields status.Badf) (λ found.
    and_then (ranged m b room) (λ _.
    and_then (placed m ending 8) (λ _.
    and_then (placed m count 4) (λ _. Ok (names_of found)))))

abbrev pub value_asked : Option (List Field) → Linear → ℕ → ℕ → ℕ → ℕ → ℕ → Result (List ℕ) Refusal
value_asked fields m p n b room count =
    and_then (some_or fields status.Badf) (λ found.
    and_then (ranged m p n) (λ _.
    and_then (ranged m b room) (λ _.
    and_then (placed m count 4) (λ _.
    and_then (token_at m p n) (λ name. some_or (first_value name found) status.None)))))

abbrev pub values_asked : Option (List Field) → Linear → ℕ → ℕ → ℕ → ℕ → ℕ → ℕ → Result (List (List ℕ)) Refusal
values_asked fields m p n b room ending count =
    and_then (some_or fields status.Badf) (λ found.
    and_then (ranged m p n) (λ _.
    and_then (ranged m b room) (λ _.
    and_then (placed m ending 8) (λ _.
    and_then (placed m count 4) (λ _.
    and_then (token_at m p n) (λ name. Ok (values_named name found)))))))

abbrev pub values_given : Option (List Field) → Linear → ℕ → ℕ → ℕ → ℕ → Result (List Field) Refusal
values_given fields m p n q len =
    and_then (some_or fields status.Badf) (λ found.
    and_then (ranged m p n) (λ _.
    and_then (ranged m q len) (λ _.
    and_then (token_at m p n) (λ name.
    and_then (ended_at m q len) (λ text.
    and_then (as_texts (values_in text)) (λ values. limited (replaced name values found)))))))

abbrev pub value_given : Option (List Field) → Linear → ℕ → ℕ → ℕ → ℕ → Result (List Field) Refusal
value_given fields m p n q len =
    and_then (some_or fields status.Badf) (λ found.
    and_then (ranged m p n) (λ _.
    and_then (ranged m q len) (λ _.
    and_then (token_at m p n) (λ name.
    and_then (text_at m q len) (λ value. limited (replaced name (value ∷ []) found))))))

abbrev pub value_added : Option (List Field) → Linear → ℕ → ℕ → ℕ → ℕ → Result (List Field) Refusal
value_added fields m p n q len =
    and_then (some_or fields status.Badf) (λ found.
    and_then (ranged m p n) (λ _.
    and_then (ranged m q len) (λ _.
    and_then (token_at m p n) (λ name.
    and_then (text_at m q len) (λ value. limited (appended name value found))))))

abbrev pub name_removed : Option (List Field) → Linear → ℕ → ℕ → Result (List Field) Refusal
name_removed fields m p n =
    and_then (some_or fields status.Badf) (λ found.
    and_then (ranged m p n) (λ _.
    and_then (token_at m p n) (λ name.
    and_then (unless (list_any (is_named name) found) status.None) (λ _. Ok (without name found)))))

-- ---- the rows

-- header_names_get(h,b,n,cursor,o8,o4): each name where it first stands
abbrev pub header_names_get : {T : Type 0} → Option (List Field) → T → Linear → ℕ → ℕ → ℕ → ℕ → ℕ → Row T
header_names_get fields t m b room cursor ending count =
    judged t m (names_asked fields m b room ending count) (λ names. plain t (listed m b room cursor ending count names))

-- header_value_get(h,p,n,b,n,o4): the first value of the name
abbrev pub header_value_get : {T : Type 0} → Option (List Field) → T → Linear → ℕ → ℕ → ℕ → ℕ → ℕ → Row T
header_value_get fields t m p n b room count =
    judged t m (value_asked fields m p n b room count) (λ value. plain t (buffered m b room count value))

-- header_values_get(h,p,n,b,n,cursor,o8,o4): all values of the name
abbrev pub header_values_get : {T : Type 0} → Option (List Field) → T → Linear → ℕ → ℕ → ℕ → ℕ → ℕ → ℕ → ℕ → Row T
header_values_get fields t m p n b room cursor ending count =
    judged t m (values_asked fields m p n b room ending count) (λ values. plain t (listed m b room cursor ending count values))

-- the rows that change headers: what they are then is told to the tables by `given`
abbrev pub headers_changed : {T : Type 0} → (List Field → T) → T → Linear → Result (List Field) Refusal → Row T
headers_changed given t m result = judged t m result (λ fields. done status.Ok (given fields) m)

-- header_values_set(h,p,n,p,n): these values in the place of all that the name had
abbrev pub header_values_set : {T : Type 0} → (List Field → T) → Option (List Field) → T → Linear → ℕ → ℕ → ℕ → ℕ → Row T
header_values_set given fields t m p n q len = headers_changed given t m (values_given fields m p n q len)

-- header_insert(h,p,n,p,n): this value in the place of all that the name had
abbrev pub header_insert : {T : Type 0} → (List Field → T) → Option (List Field) → T → Linear → ℕ → ℕ → ℕ → ℕ → Row T
header_insert given fields t m p n q len = headers_changed given t m (value_given fields m p n q len)

-- header_append(h,p,n,p,n): this value more
abbrev pub header_append : {T : Type 0} → (List Field → T) → Option (List Field) → T → Linear → ℕ → ℕ → ℕ → ℕ → Row T
header_append given fields t m p n q len = headers_changed given t m (value_added fields m p n q len)

-- header_remove(h,p,n)
abbrev pub header_remove : {T : Type 0} → (List Field → T) → Option (List Field) → T → Linear → ℕ → ℕ → Row T
header_remove given fields t m p n = headers_changed given t m (name_removed fields m p n)
