-- How the pieces of an answer's body are written (RFC 9112, section 7.1).
use Rattle.std.specs.Prelude.{ℕ, Bool, false, ◌||◌, ◌&&◌, nat_le, slice_range, List, [], ◌∷◌, ◌++◌, length, if◌then◌else◌, bytes_eq, codes}
use Rattle.std.specs.List.{list_any, slice_split}
use Rattle.std.specs.Fmt.{digits}
use Rattle.httparse.specs.Ascii.{crlf_bytes}
use Rattle.http_text.specs.Lines.{is_line_feed}
use Rattle.http_front.specs.declared.answers.Framing.{Framing}
use Rattle.http_front.specs.declared.answers.Framing.TheVariants.{Plain, Chunked, Empty}

-- the status that a head tells is 204 or 304
abbrev pub has_empty_status : List ℕ → Bool
has_empty_status head =
    nat_le 12 (length head) && (bytes_eq (slice_range head 9 12) (codes "204") || bytes_eq (slice_range head 9 12) (codes "304"))

abbrev pub is_chunked_line : List ℕ → Bool
is_chunked_line line = bytes_eq line (codes "transfer-encoding: chunked\r")

-- the head has this line
abbrev pub has_chunked_line : List ℕ → Bool
has_chunked_line head = list_any is_chunked_line (slice_split is_line_feed head)

-- how the pieces of the answer with this head are written
abbrev pub framing_of : List ℕ → List ℕ → Framing
framing_of method head =
    if bytes_eq method (codes "HEAD") || has_empty_status head then Empty else
    if has_chunked_line head then Chunked else Plain

-- a chunk: the length in hexadecimal, and the piece
abbrev pub chunk_text : List ℕ → List ℕ
chunk_text piece = digits 16 false (length piece) ++ (crlf_bytes ++ (piece ++ crlf_bytes))

-- a piece in its frame; an empty one writes nothing
abbrev pub piece_text : Framing → List ℕ → List ℕ
piece_text Plain piece = piece
piece_text Chunked [] = []
piece_text Chunked (b ∷ piece) = chunk_text (b ∷ piece)
piece_text Empty piece = []

-- the end of the body
abbrev pub end_text : Framing → List ℕ
end_text Plain = []
end_text Chunked = codes "0" ++ (crlf_bytes ++ crlf_bytes)
end_text Empty = []
