-- The answer to a request, and its frames (RFC 9112, sections 4, 6 and 7.1).
use Rattle.std.specs.Prelude.{ℕ, Bool, not, ◌==◌, nat_lt, ◌||◌, List, [], ◌++◌, filter, Option, None, Some, if◌then◌else◌, bytes_eq, codes, unwrap_or, decimal}
use Rattle.std.specs.List.{flat_map}
use Rattle.http.specs.StatusCode.{code_digits, reason_phrase}
use Rattle.httparse.specs.Ascii.{crlf_bytes}
use Rattle.cache_types.specs.declared.calls.Field.{Field}
use Rattle.edge_body.specs.Heads.{Request, Response}
use Rattle.http_front.specs.declared.fault.FrontFault.{FrontFault}
use Rattle.http_front.specs.declared.fault.FrontFault.TheVariants.{Bad, HeadTooLarge, TooLarge, Unsupported, Cut, ReadFault, OutOfMemory}

-- a header's line
abbrev pub header_line : List ℕ → List ℕ → List ℕ
header_line name value = name ++ (codes ": " ++ (value ++ crlf_bytes))

-- the headers that the host writes itself
abbrev pub is_own : List ℕ → Bool
is_own name = bytes_eq name (codes "content-length") || (bytes_eq name (codes "transfer-encoding") || bytes_eq name (codes "connection"))

abbrev pub kept_lines : List Field → List ℕ
kept_lines fields = flat_map (λ (f : Field). header_line f.name f.value) (filter (λ (f : Field). not (is_own f.name)) fields)

-- the request or the status says that there is no body
abbrev pub has_no_body : List ℕ → ℕ → Bool
has_no_body method status = bytes_eq method (codes "HEAD") || (status == 204 || status == 304)

-- before HTTP/1.1 there are no chunks: the body ends with the connection
abbrev pub streamed_line : ℕ → List ℕ
streamed_line version = if nat_lt version 2 then [] else header_line (codes "transfer-encoding") (codes "chunked")

abbrev pub told_line : ℕ → Option ℕ → List ℕ
told_line version (Some n) = header_line (codes "content-length") (decimal n)
told_line version None = streamed_line version

-- how the body is told
abbrev pub body_line : List ℕ → ℕ → ℕ → Option ℕ → List ℕ
body_line method status version told = if has_no_body method status then [] else told_line version told

-- the head of an answer
abbrev pub head_text : Request → ℕ → List Field → Option ℕ → List ℕ
head_text request status fields told =
    codes "HTTP/1.1 " ++ (code_digits status ++ (codes " " ++ (unwrap_or (reason_phrase status) [] ++ (crlf_bytes
    ++ (kept_lines fields ++ (body_line request.method status request.version told
    ++ (header_line (codes "connection") (codes "close") ++ crlf_bytes)))))))

abbrev pub answer_text : Request → Response → Option ℕ → List ℕ
answer_text request response told = head_text request response.status response.fields told

-- the first line of an answer
abbrev pub status_text : ℕ → List ℕ
status_text status = codes "HTTP/1.1 " ++ (code_digits status ++ (codes " " ++ (unwrap_or (reason_phrase status) [] ++ crlf_bytes)))

-- an answer with no body
abbrev pub empty_answer : ℕ → List ℕ
empty_answer status =
    status_text status ++ (header_line (codes "content-length") (codes "0") ++ (header_line (codes "connection") (codes "close") ++ crlf_bytes))

-- the status of the answer to a fault, where it has one
abbrev pub fault_status : FrontFault → Option ℕ
fault_status Bad = Some 400
fault_status HeadTooLarge = Some 431
fault_status TooLarge = Some 413
fault_status Unsupported = Some 501
fault_status Cut = None
fault_status ReadFault = None
fault_status OutOfMemory = None
