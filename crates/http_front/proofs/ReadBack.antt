-- The text of an answer's head is a head of the grammar.
use Rattle.std.proofs.Common.{◌≡◌, ℕ, Bool, true, false, List, [], ◌∷◌, ◌++◌, map, filter, not, Option, Some, None, nat_lt, refl, sym, ◌∙◌, ap, append_assoc, append-nil, codes, decimal, unwrap_or}
use Rattle.std.specs.List.{flat_map}
use Rattle.std.proofs.lemmas.List.Concat.{flat_map-cons}
use Rattle.std.proofs.lemmas.Grind.{flat_map-append}
use Rattle.httparse.specs.Ascii.{crlf_bytes}
use Rattle.http.specs.StatusCode.{code_digits, reason_phrase}
use Rattle.httparse.specs.Grammar.{print_field, print_section, print_response, crlf}
use Rattle.cache_types.specs.declared.calls.Field.{Field}
use Rattle.edge_body.specs.Heads.{Request, Response}
use Rattle.http_front.specs.Answers.{header_line, kept_lines, is_own, has_no_body, streamed_line, told_line, body_line, answer_text}
use Rattle.http_front.specs.Laws.{line_of, field, streamed_fields, told_fields, body_fields, answer_fields, tree_of}

-- the lines of some headers
abbrev pub lines : List Field → List ℕ
lines fs = flat_map (λ (f : Field). header_line f.name f.value) fs

pub line_is : (f : Field) → header_line f.name f.value ≡ print_field (line_of f)
line_is f = sym (append_assoc f.name (58 ∷ 32 ∷ f.value) crlf_bytes)

pub lines_are : (fs : List Field) → lines fs ≡ flat_map print_field (map line_of fs)
lines_are [] = refl
lines_are (f ∷ fs) =
    flat_map-cons (λ (f : Field). header_line f.name f.value) f fs
    ∙ (ap (λ (t : List ℕ). t ++ lines fs) (line_is f)
    ∙ ap (λ (t : List ℕ). print_field (line_of f) ++ t) (lines_are fs)
    ∙ sym (flat_map-cons print_field (line_of f) (map line_of fs)))

pub one_line : (name value : List ℕ) → header_line name value ≡ lines (field name value ∷ [])
one_line name value = sym (flat_map-cons (λ (f : Field). header_line f.name f.value) (field name value) [] ∙ append-nil _)

streamed_is : (version : ℕ) → streamed_line version ≡ lines (streamed_fields version)
streamed_is version =
    let with : (b : Bool) → nat_lt version 2 ≡ b → streamed_line version ≡ lines (streamed_fields version) =
    elim [ true ↦ λ e. rw e refl | false ↦ λ e. rw e (one_line (codes "transfer-encoding") (codes "chunked")) ] in
    with (nat_lt version 2) refl

told_is : (version : ℕ) (told : Option ℕ) → told_line version told ≡ lines (told_fields version told)
told_is version (Some n) = one_line (codes "content-length") (decimal n)
told_is version None = streamed_is version

pub body_is : (method : List ℕ) (status version : ℕ) (told : Option ℕ) → body_line method status version told ≡ lines (body_fields method status version told)
body_is method status version told =
    let with : (b : Bool) → has_no_body method status ≡ b → body_line method status version told ≡ lines (body_fields method status version told) =
    elim [ true ↦ λ e. rw e refl | false ↦ λ e. rw e (told_is version told) ] in
    with (has_no_body method status) refl

-- the headers and the empty line after them
pub section_lines : (request : Request) (response : Response) (told : Option ℕ)
    → kept_lines response.fields ++ (body_line request.method response.status request.version told ++ (header_line (codes "connection") (codes "close") ++ crlf_bytes))
    ≡ lines (answer_fields request response told) ++ crlf_bytes
section_lines request response told =
    let kept : List Field = filter (λ (f : Field). not (is_own f.name)) response.fields in
    let body : List Field = body_fields request.method response.status request.version told in
    let close : List Field = field (codes "connection") (codes "close") ∷ [] in
    let line : Field → List ℕ = λ (f : Field). header_line f.name f.value in
    let all : lines (kept ++ (body ++ close)) ≡ lines kept ++ (lines body ++ lines close) =
    flat_map-append line kept (body ++ close) ∙ ap (λ (t : List ℕ). lines kept ++ t) (flat_map-append line body close) in
    let told_too : body_line request.method response.status request.version told ++ (header_line (codes "connection") (codes "close") ++ crlf_bytes)
    ≡ lines body ++ (lines close ++ crlf_bytes) =
    ap (λ (t : List ℕ). t ++ (header_line (codes "connection") (codes "close") ++ crlf_bytes)) (body_is request.method response.status request.version told)
    ∙ ap (λ (t : List ℕ). lines body ++ (t ++ crlf_bytes)) (one_line (codes "connection") (codes "close")) in
    ap (λ (t : List ℕ). lines kept ++ t) told_too
    ∙ sym (ap (λ (t : List ℕ). t ++ crlf_bytes) all
    ∙ append_assoc (lines kept) (lines body ++ lines close) crlf_bytes
    ∙ ap (λ (t : List ℕ). lines kept ++ t) (append_assoc (lines body) (lines close) crlf_bytes))

section_is : (request : Request) (response : Response) (told : Option ℕ)
    → kept_lines response.fields ++ (body_line request.method response.status request.version told ++ (header_line (codes "connection") (codes "close") ++ crlf_bytes))
    ≡ print_section (map line_of (answer_fields request response told)) crlf
section_is request response told =
    section_lines request response told ∙ ap (λ (t : List ℕ). t ++ crlf_bytes) (lines_are (answer_fields request response told))

-- the whole head
pub answer_is : (request : Request) (response : Response) (told : Option ℕ)
    → answer_text request response told ≡ print_response (tree_of request response told)
unfolding print_response
answer_is request response told =
    let phrase = unwrap_or (reason_phrase response.status) [] in
    let front : List ℕ → List ℕ = λ t. codes "HTTP/1.1 " ++ (code_digits response.status ++ (codes " " ++ t)) in
    ap front (ap (λ (t : List ℕ). phrase ++ (crlf_bytes ++ t)) (section_is request response told)
    ∙ sym (append_assoc phrase crlf_bytes (print_section (map line_of (answer_fields request response told)) crlf)))
