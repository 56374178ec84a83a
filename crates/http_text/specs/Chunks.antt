-- A chunked body (RFC 9112, section 7.1) with short lines and no trailers.
use Rattle.std.specs.Prelude.{◌≡◌, ◌≢◌, ◌≤◌, ◌<◌, ◌+◌, ◌-◌, ℕ, List, [], ◌++◌, length, drop, slice_range, All}
use Rattle.std.specs.List.{flat_map}
use Rattle.httparse.specs.Grammar.{ChunkLine, IsChunkLine, print_chunk_line, chunk_size, crlf, print_end}
use Rattle.http_text.specs.Fields.{most_body}
use Rattle.http_text.specs.declared.chunks.NextChunk.{NextChunk}
use Rattle.http_text.specs.declared.chunks.NextChunk.TheVariants.{Chunk as AChunk, Last, Open, Over, Bad}
use Rattle.http_text.specs.declared.chunks.AfterChunks.{AfterChunks}
use Rattle.http_text.specs.declared.chunks.AfterChunks.TheVariants.{Last as TheLast, Open as IsOpen, Over as IsOver, Bad as IsBad}

-- the greatest length of a chunk's line, with its end
abbrev pub most_line : ℕ
most_line = 1024

-- a chunk: its line, which tells the count of the bytes, and these
pub record Chunk : Type 0 where
  pub line : ChunkLine
  pub bytes : List ℕ

abbrev pub print_chunk : Chunk → List ℕ
print_chunk c = print_chunk_line c.line ++ (c.bytes ++ print_end crlf)

-- a line of the grammar, and a short one
abbrev pub IsShortLine : ChunkLine → Type 0
IsShortLine l = IsChunkLine l × (length (print_chunk_line l) ≤ most_line)

pub record IsChunk (c : Chunk) : Type 0 where
  pub line : IsShortLine c.line
  pub count : chunk_size c.line ≡ length c.bytes
  pub some : 0 < length c.bytes

-- the end of a chunked body: a line of size 0 and an empty one
pub record IsLast (text : List ℕ) : Type 0 where
  pub line : ChunkLine
  pub short : IsShortLine line
  pub none : chunk_size line ≡ 0
  pub text_is : text ≡ print_chunk_line line ++ print_end crlf

-- chunked-body = *chunk last-chunk CRLF
abbrev pub print_chunks : List Chunk → List ℕ
print_chunks chunks = flat_map print_chunk chunks

abbrev pub chunks_bytes : List Chunk → List ℕ
chunks_bytes chunks = flat_map (λ c. c.bytes) chunks

-- the text is a chunked body of these bytes
pub record IsChunked (text body : List ℕ) : Type 0 where
  pub chunks : List Chunk
  pub last : List ℕ
  pub each : All IsChunk chunks
  pub is_last : IsLast last
  pub text_is : text ≡ print_chunks chunks ++ last
  pub body_is : body ≡ chunks_bytes chunks

-- no text that has such a body stands at the front of the bytes
abbrev pub HasNone : (List ℕ → List ℕ → Type 0) → List ℕ → Type 0
HasNone Is bytes = (text body rest : List ℕ) → Is text body → bytes ≢ text ++ rest

-- no chunked body stands there
abbrev pub HasNoChunked : List ℕ → Type 0
HasNoChunked bytes = HasNone IsChunked bytes

-- whatever follows them
abbrev pub NeverChunked : List ℕ → Type 0
NeverChunked bytes = (more : List ℕ) → HasNoChunked (bytes ++ more)

-- a chunk's line at the front tells more bytes than there is room for
abbrev pub HasLineOver : ℕ → List ℕ → Type 0
HasLineOver room bytes = (l : ChunkLine) × (rest : List ℕ) × IsShortLine l × (room < chunk_size l) × (bytes ≡ print_chunk_line l ++ rest)

-- the bytes are some whole chunks, by which a body grows, and then the rest
pub record ChunksBefore (bytes had body rest : List ℕ) : Type 0 where
  pub chunks : List Chunk
  pub each : All IsChunk chunks
  pub body_is : body ≡ had ++ chunks_bytes chunks
  pub bytes_is : bytes ≡ print_chunks chunks ++ rest

-- chunks whose bytes fit, and then a line by which they are too many
pub record GoesOver (bytes : List ℕ) : Type 0 where
  pub body : List ℕ
  pub rest : List ℕ
  pub before : ChunksBefore bytes [] body rest
  pub fits : length body ≤ most_body
  pub over : HasLineOver (most_body - length body) rest

-- chunks whose bytes fit, and then, by a line that isn't over, bytes that nothing makes a body
pub record GoesWrong (bytes : List ℕ) : Type 0 where
  pub body : List ℕ
  pub rest : List ℕ
  pub before : ChunksBefore bytes [] body rest
  pub fits : length body ≤ most_body
  pub under : ¬ (HasLineOver (most_body - length body) rest)
  pub never : NeverChunked rest

-- what stands at the front of the bytes, where so many more are to come at most
abbrev pub Tells : List ℕ → ℕ → NextChunk → Type 0
Tells bytes room (AChunk start end next) =
    (c : Chunk) × IsChunk c × (length c.bytes ≤ room) × (c.bytes ≡ slice_range bytes start end) × (start ≤ end) × (end ≤ next) × (start < next)
    × (next ≤ length bytes) × (bytes ≡ print_chunk c ++ drop next bytes)
Tells bytes room (Last next) = (text : List ℕ) × IsLast text × (next ≤ length bytes) × (bytes ≡ text ++ drop next bytes)
Tells bytes room Open = HasNoChunked bytes × (length bytes < most_line + room + 2)
Tells bytes room Over = HasLineOver room bytes
Tells bytes room Bad = NeverChunked bytes × ¬ (HasLineOver room bytes)

-- what comes after whole chunks
abbrev pub TellsAfter : List ℕ → ℕ → AfterChunks → Type 0
TellsAfter bytes room (TheLast next) = Tells bytes room (Last next)
TellsAfter bytes room IsOpen = Tells bytes room Open
TellsAfter bytes room IsOver = Tells bytes room Over
TellsAfter bytes room IsBad = Tells bytes room Bad
