-- A chunk's line and a line's end, as they stand at the front of the bytes (RFC 9112, section 7.1).
use Rattle.std.specs.Prelude.{◌≡◌, ◌≢◌, ◌≤◌, ◌<◌, ◌==◌, ℕ, Bool, List, ◌++◌, length, drop}
use Rattle.httparse.specs.Grammar.{ChunkLine, ReadsChunkLine, HasNoChunkLine, print_chunk_line, crlf, print_end}
use Rattle.httparse.specs.Spans.{IsChunkLineAt}
use Rattle.http_text.specs.Chunks.{most_line}
use Rattle.http_text.specs.declared.chunks.NextLine.{NextLine}
use Rattle.http_text.specs.declared.chunks.NextLine.TheVariants.{Line, Open as NoLine, Bad as BadLine}
use Rattle.http_text.specs.declared.chunks.NextEnd.{NextEnd}
use Rattle.http_text.specs.declared.chunks.NextEnd.TheVariants.{End, Open as NoEnd, Bad as BadEnd}

-- whatever bytes follow, a chunk's line at the front is too long
abbrev pub NeverShortLine : List ℕ → Type 0
NeverShortLine bytes =
    (more : List ℕ) (l : ChunkLine) (rest : List ℕ) → ReadsChunkLine (bytes ++ more) l rest → most_line < length (print_chunk_line l)

abbrev pub TellsLine : List ℕ → NextLine → Type 0
TellsLine bytes (Line end size) = (l : ChunkLine) × IsChunkLineAt bytes end size l × (end ≤ most_line)
TellsLine bytes NoLine = HasNoChunkLine bytes × (length bytes < most_line)
TellsLine bytes BadLine = NeverShortLine bytes

abbrev pub TellsEnd : List ℕ → NextEnd → Type 0
TellsEnd bytes End = (2 ≤ length bytes) × (bytes ≡ print_end crlf ++ drop 2 bytes)
TellsEnd bytes NoEnd = ((rest : List ℕ) → bytes ≢ print_end crlf ++ rest) × (length bytes < 2)
TellsEnd bytes BadEnd = (more rest : List ℕ) → bytes ++ more ≢ print_end crlf ++ rest

-- a byte that ends a line
abbrev pub is_line_feed : ℕ → Bool
is_line_feed byte = byte == 10
