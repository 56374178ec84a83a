-- How the head of a response tells its body, and what the bytes past it give (RFC 9112, section 6.3).
use Rattle.std.specs.Prelude.{◌≡◌, ◌≤◌, ◌+◌, ◌==◌, ◌||◌, ◌&&◌, min, ℕ, Bool, false, List, [], ◌++◌, length, take, bytes_eq, codes, if◌then◌else◌}
use Rattle.std.specs.Option.{option_map_or}
use Rattle.std.specs.Str.Parse.{digits_value}
use Rattle.http_text.specs.Fields.{count_of, first_of, is_digits, same_in_lower_case, most_body}
use Rattle.http_text.specs.Chunks.{IsChunked}
use Rattle.edge_link.specs.declared.heads.Head.{Head}
use Rattle.edge_link.specs.declared.bodies.Told.{Told}
use Rattle.edge_link.specs.declared.bodies.Told.TheVariants.{Nothing, ToEnd, Counted, Chunks, Wrong}

-- there is none for HEAD, 204 and 304
abbrev pub has_no_body : List ℕ → ℕ → Bool
has_no_body method status = bytes_eq method (codes "HEAD") || (status == 204 || status == 304)

abbrev pub lengths_of : Head → ℕ
lengths_of head = count_of (codes "content-length") head.fields

abbrev pub encodings_of : Head → ℕ
encodings_of head = count_of (codes "transfer-encoding") head.fields

abbrev pub states_neither : Head → Bool
states_neither head = lengths_of head == 0 && encodings_of head == 0

-- one Content-Length, of digits alone, and no Transfer-Encoding
abbrev pub states_length : Head → Bool
states_length head =
    lengths_of head == 1 && (encodings_of head == 0 && option_map_or is_digits (first_of (codes "content-length") head.fields) false)

-- one Transfer-Encoding, `chunked`, and no Content-Length
abbrev pub states_chunks : Head → Bool
states_chunks head =
    lengths_of head == 0
    && (encodings_of head == 1 && option_map_or (same_in_lower_case (codes "chunked")) (first_of (codes "transfer-encoding") head.fields) false)

abbrev pub stated_length : Head → ℕ
stated_length head = option_map_or (digits_value 10) (first_of (codes "content-length") head.fields) 0

-- how the head of a response to this method tells its body
abbrev pub told_of : List ℕ → Head → Told
told_of method head =
    if has_no_body method head.status then Nothing else
    if states_neither head then ToEnd else
    if states_length head then Counted (stated_length head) else
    if states_chunks head then Chunks else Wrong

-- the bytes past the head give this body
abbrev pub Gives : Told → List ℕ → List ℕ → Type 0
Gives Nothing rest body = body ≡ []
Gives ToEnd rest body = body ≡ rest
Gives (Counted n) rest body = (n ≤ length rest) × (body ≡ take n rest)
Gives Chunks rest body = (text after : List ℕ) × IsChunked text body × (rest ≡ text ++ after)
Gives Wrong rest body = ⊥

-- the same, where a length over the limit is one more than the limit
abbrev pub within_limit : Told → Told
within_limit Nothing = Nothing
within_limit ToEnd = ToEnd
within_limit (Counted n) = Counted (min n (most_body + 1))
within_limit Chunks = Chunks
within_limit Wrong = Wrong
