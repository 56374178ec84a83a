-- The bytes of a request to a backend (RFC 9112, sections 3 and 6).
use Rattle.std.specs.Prelude.{◌==◌, ◌||◌, not, ℕ, Bool, List, [], ◌∷◌, ◌++◌, length, filter, bytes_eq, codes, decimal, unwrap_or, if◌then◌else◌}
use Rattle.std.specs.List.{flat_map}
use Rattle.httparse.specs.Ascii.{crlf_bytes}
use Rattle.cache_types.specs.declared.calls.Field.{Field}
use Rattle.edge_body.specs.Heads.{Request}
use Rattle.http_text.specs.Fields.{first_of}
use Rattle.http_front.specs.Answers.{header_line, is_own}
use Rattle.http_front.specs.Laws.{field}
use Rattle.edge_link.specs.Targets.{target_of}

-- method, target and version
abbrev pub request_line : Request → List ℕ
request_line head = head.method ++ (codes " " ++ (target_of head.uri ++ (codes " " ++ (codes "HTTP/1.1" ++ crlf_bytes))))

-- the first Host of the request, or the backend's authority
abbrev pub host_of : List Field → List ℕ → List ℕ
host_of fields authority = unwrap_or (first_of (codes "host") fields) authority

-- the headers that the host writes itself
abbrev pub is_linked : List ℕ → Bool
is_linked name = bytes_eq name (codes "host") || is_own name

abbrev pub kept_fields : List Field → List Field
kept_fields fields = filter (λ (f : Field). not (is_linked f.name)) fields

-- a body has its length told where it isn't empty, and by POST and PUT
abbrev pub has_length : List ℕ → List ℕ → Bool
has_length method body = not (length body == 0) || (bytes_eq method (codes "POST") || bytes_eq method (codes "PUT"))

abbrev pub length_fields : List ℕ → List ℕ → List Field
length_fields method body = if has_length method body then field (codes "content-length") (decimal (length body)) ∷ [] else []

-- the headers in their order, where this is the host
abbrev pub fields_with : Request → List ℕ → List ℕ → List Field
fields_with head body host =
    field (codes "host") host
    ∷ (kept_fields head.fields ++ (length_fields head.method body ++ field (codes "connection") (codes "close") ∷ []))

abbrev pub sent_fields : Request → List ℕ → List ℕ → List Field
sent_fields head body authority = fields_with head body (host_of head.fields authority)

abbrev pub lines_of : List Field → List ℕ
lines_of fields = flat_map (λ (f : Field). header_line f.name f.value) fields

abbrev pub text_with : Request → List ℕ → List ℕ → List ℕ
text_with head body host = request_line head ++ (lines_of (fields_with head body host) ++ (crlf_bytes ++ body))

abbrev pub request_text : Request → List ℕ → List ℕ → List ℕ
request_text head body authority = text_with head body (host_of head.fields authority)
