-- The head of a request as a guest sees it, by the grammar of `httparse`, and its faults in their order.
use Rattle.std.specs.Prelude.{◌⊎◌, ◌≤◌, ◌<◌, ◌+◌, ◌==◌, ◌&&◌, ◌||◌, not, ℕ, Bool, true, List, ◌++◌, length, nat_lt, Option, None, Some, if◌then◌else◌, bytes_eq, codes, unwrap_or}
use Rattle.std.specs.Option.{option_map_or}
use Rattle.std.specs.List.{list_any, starts_with}
use Rattle.std.specs.Str.Parse.{digits_value}
use Rattle.httparse.specs.Grammar as grammar
use Rattle.http_text.specs.Fields.{headers_of, count_of, first_of, has_high_byte, is_digits, same_in_lower_case, most_headers, most_body}
use Rattle.http_front.specs.declared.heads.Head.{Head}
use Rattle.edge_body.specs.Heads.{Request}
use Rattle.http_front.specs.declared.fault.FrontFault.{FrontFault}
use Rattle.http_front.specs.declared.fault.FrontFault.TheVariants.{Bad, Unsupported, TooLarge}
use Rattle.http_front.specs.Faults.{HasManyHeaders}

abbrev pub most_head : ℕ
most_head = 65536

-- the parts of a head of the grammar
abbrev pub head_of : grammar.RequestHead → Head
head_of tree = record { method = tree.method; target = tree.target; version = tree.minor; fields = headers_of tree.fields }

-- HTTP/1.1 needs one Host, HTTP/1.0 at most one
abbrev pub has_bad_host : Head → Bool
has_bad_host head = nat_lt 1 (count_of (codes "host") head.fields) || (head.version == 1 && count_of (codes "host") head.fields == 0)

-- the length that a head states is one of digits, and stands once and with no Transfer-Encoding
abbrev pub has_bad_length : Head → Bool
has_bad_length head =
    nat_lt 1 (count_of (codes "content-length") head.fields)
    || (not (option_map_or is_digits (first_of (codes "content-length") head.fields) true)
    || (count_of (codes "content-length") head.fields == 1 && nat_lt 0 (count_of (codes "transfer-encoding") head.fields)))

abbrev pub is_bad_head : Head → Bool
is_bad_head head = list_any has_high_byte head.fields || (has_bad_host head || has_bad_length head)

-- one Transfer-Encoding at most, `chunked`, and not the method CONNECT
abbrev pub is_unsupported : Head → Bool
is_unsupported head =
    nat_lt 1 (count_of (codes "transfer-encoding") head.fields)
    || (not (option_map_or (same_in_lower_case (codes "chunked")) (first_of (codes "transfer-encoding") head.fields) true)
    || bytes_eq head.method (codes "CONNECT"))

abbrev pub stated_length : Head → ℕ
stated_length head = option_map_or (digits_value 10) (first_of (codes "content-length") head.fields) 0

-- the body comes in chunks
abbrev pub is_chunked : Head → Bool
is_chunked head = nat_lt 0 (count_of (codes "transfer-encoding") head.fields)

-- the first fault of a whole head
abbrev pub head_fault : Head → Option FrontFault
head_fault head =
    if is_bad_head head then Some Bad else
    if is_unsupported head then Some Unsupported else
    if nat_lt most_body (stated_length head) then Some TooLarge else None

-- a target that begins with a scheme
abbrev pub has_scheme : List ℕ → Bool
has_scheme target = starts_with ◌==◌ target (codes "http://") || starts_with ◌==◌ target (codes "https://")

abbrev pub authority_of : Head → List ℕ
authority_of head = unwrap_or (first_of (codes "host") head.fields) (codes "localhost")

-- what the guest sees as the uri
abbrev pub uri_of : Head → List ℕ
uri_of head = if has_scheme head.target then head.target else codes "http://" ++ (authority_of head ++ head.target)

-- what a guest sees of a head; its version is 1 or 2 for HTTP/1.0 and 1.1
abbrev pub request_of : Head → Request
request_of head = record { method = head.method; uri = uri_of head; version = head.version + 1; fields = head.fields }

-- no prefix of the bytes is a head of at most 100 headers
abbrev pub HasNoSmallRequest : List ℕ → Type 0
HasNoSmallRequest bytes = (tree : grammar.RequestHead) (rest : List ℕ) → grammar.ReadsRequest bytes tree rest → most_headers < length tree.fields

-- so much was read without a small head, or whatever follows there are too many headers
abbrev pub IsLargeHead : List ℕ → Type 0
IsLargeHead bytes = (HasNoSmallRequest bytes × (most_head ≤ length bytes)) ⊎ HasManyHeaders bytes
