-- What a reader of RFC 9112 gets back of an answer: the head by the grammar of `httparse`, and the frames of its body.
use Rattle.std.specs.Prelude.{◌≡◌, ◌<◌, ◌^◌, ℕ, List, [], ◌∷◌, ◌++◌, length, map, filter, reverse, not, Option, Some, None, if◌then◌else◌, nat_lt, unwrap_or, codes, decimal, All}
use Rattle.std.specs.List.{flat_map}
use Rattle.http.specs.StatusCode.{code_digits, reason_phrase}
use Rattle.httparse.specs.Grammar.{Field as Line, crlf, ResponseHead as Tree, AllPass, is_value_byte, skip_ows, ReadsResponse, status_code}
use Rattle.httparse.specs.Spans.{name_and_value}
use Rattle.cache_types.specs.declared.calls.Field.{Field}
use Rattle.edge_body.specs.Heads.{Request, Response}
use Rattle.http_text.specs.Chunks.{IsChunked}
use Rattle.http_front.specs.Answers.{is_own, has_no_body}
use Rattle.http_front.specs.Frames.{piece_text}
use Rattle.http_front.specs.declared.answers.Framing.{Framing}
use Rattle.http_front.specs.declared.answers.Framing.TheVariants.{Plain, Chunked, Empty}

-- the line of a header
abbrev pub line_of : Field → Line
line_of f = record { name = f.name; raw = 32 ∷ f.value; end = crlf }

abbrev pub field : List ℕ → List ℕ → Field
field name value = record { name = name; value = value }

-- the header that tells how the body is written
abbrev pub streamed_fields : ℕ → List Field
streamed_fields version = if nat_lt version 2 then [] else field (codes "transfer-encoding") (codes "chunked") ∷ []

abbrev pub told_fields : ℕ → Option ℕ → List Field
told_fields version (Some n) = field (codes "content-length") (decimal n) ∷ []
told_fields version None = streamed_fields version

abbrev pub body_fields : List ℕ → ℕ → ℕ → Option ℕ → List Field
body_fields method status version told = if has_no_body method status then [] else told_fields version told

-- the headers of an answer: the guest's, and the host's own
abbrev pub answer_fields : Request → Response → Option ℕ → List Field
answer_fields request response told =
    filter (λ (f : Field). not (is_own f.name)) response.fields
    ++ (body_fields request.method response.status request.version told ++ field (codes "connection") (codes "close") ∷ [])

-- the head that the text is in the grammar
abbrev pub tree_of : Request → Response → Option ℕ → Tree
tree_of request response told = record {
  blank = [];
  minor = 1;
  digits = code_digits response.status;
  reason = Some (unwrap_or (reason_phrase response.status) []);
  line_end = crlf;
  fields = map line_of (answer_fields request response told);
  last = crlf;
}

-- a value that a reader takes back: no control byte but the tab, and no blank at either end
pub record IsPlain (value : List ℕ) : Type 0 where
  pub bytes : AllPass is_value_byte value
  pub front : skip_ows value ≡ value
  pub back : skip_ows (reverse value) ≡ reverse value

abbrev pub ArePlain : List Field → Type 0
ArePlain fields = All (λ (f : Field). IsPlain f.value) fields

abbrev pub parts_of : Field → List ℕ × List ℕ
parts_of f = (f.name, f.value)

-- whatever follows the text, a reader finds one head, which is the text and has this status and these headers
pub record IsReadAs (status : ℕ) (fields : List Field) (text : List ℕ) : Type 0 where
  pub tree : Tree
  pub reads : (rest : List ℕ) → ReadsResponse (text ++ rest) tree rest
  pub only : (other : Tree) (left rest : List ℕ) → ReadsResponse (text ++ rest) other left → (other ≡ tree) × (left ≡ rest)
  pub status_is : status_code tree ≡ status
  pub fields_are : map name_and_value tree.fields ≡ map parts_of fields

-- lengths that a processor has
abbrev pub Fit : List (List ℕ) → Type 0
Fit pieces = All (λ (piece : List ℕ). length piece < 2 ^ 64) pieces

abbrev pub joined : List (List ℕ) → List ℕ
joined pieces = flat_map (λ (piece : List ℕ). piece) pieces

abbrev pub frames : Framing → List (List ℕ) → List ℕ
frames framing pieces = flat_map (piece_text framing) pieces

-- the text is the body of these pieces, as a reader who knows the framing reads it
abbrev pub IsFramed : Framing → List (List ℕ) → List ℕ → Type 0
IsFramed Plain pieces text = text ≡ joined pieces
IsFramed Chunked pieces text = IsChunked text (joined pieces)
IsFramed Empty pieces text = text ≡ []

-- how the body of an answer is framed, of which the host wrote the head
abbrev pub told_framing : ℕ → Option ℕ → Framing
told_framing version (Some n) = Plain
told_framing version None = if nat_lt version 2 then Plain else Chunked

abbrev pub own_framing : List ℕ → ℕ → ℕ → Option ℕ → Framing
own_framing method status version told = if has_no_body method status then Empty else told_framing version told
