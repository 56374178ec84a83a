-- What a line and what follows it tell of a chunked body.
use Rattle.std.proofs.Common.{◌≡◌, ℕ, ◌+◌, ◌<◌, ◌≤◌, List, ◌++◌, length, drop, refl, sym, ◌∙◌, ap, arith, append_assoc, length-append, length-drop, slice_range}
use Rattle.std.proofs.lemmas.List.{drop-append-le}
use Rattle.std.proofs.lemmas.List.Folds.{drop_split}
use Rattle.httparse.proofs.RunLemmas.{length-slice_range}
use Rattle.httparse.specs.Grammar.{ChunkLine, print_chunk_line, chunk_size, crlf, print_end}
use Rattle.httparse.specs.Spans.{IsChunkLineAt}
use Rattle.httparse.proofs.ChunkLemmas.{ReadsChunkLine-append}
use Rattle.http_text.specs.Chunks.{Chunk, most_line, Tells}
use Rattle.http_text.specs.declared.chunks.NextChunk.TheVariants.{Chunk as AChunk, Last, Open, Bad}
use Rattle.http_text.specs.declared.chunks.NextEnd.TheVariants.{End, Open as NoEnd, Bad as BadEnd}
use Rattle.http_text.specs.Lines.{TellsEnd}
use Rattle.http_text.proofs.ChunkFronts.{data_first, end_first, line_under, drop_further}

-- the line l of this length and size
abbrev pub LineOf : List ℕ → ℕ → ℕ → Type 0
LineOf bytes end size = (l : ChunkLine) × IsChunkLineAt bytes end size l × (end ≤ most_line)

line_within : (bytes : List ℕ) (end size : ℕ) (l : ChunkLine) → IsChunkLineAt bytes end size l → end ≤ length bytes
line_within bytes end size l at =
    omega (arith, at.len_is, ap (λ (t : List ℕ). length t) at.reads.1, length-append (print_chunk_line l) (drop end bytes))

pub last_end : (bytes : List ℕ) (end room : ℕ) → LineOf bytes end 0 → TellsEnd (drop end bytes) End → Tells bytes room (Last (end + 2))
last_end bytes end room (l, at, short) (fits, e) =
    let inside : end + 2 ≤ length bytes = omega (arith, fits, length-drop end bytes) in (
      print_chunk_line l ++ print_end crlf,
      record { line = l; short = (at.reads.0, omega (arith, short, at.len_is)); none = sym at.size_is; text_is = refl },
      inside,
      at.reads.1 ∙ ap (λ (t : List ℕ). print_chunk_line l ++ t) (e ∙ ap (λ (t : List ℕ). print_end crlf ++ t) (drop_further bytes end 2 inside))
          ∙ sym (append_assoc (print_chunk_line l) (print_end crlf) (drop (end + 2) bytes)),
    )

pub last_open : (bytes : List ℕ) (end room : ℕ) → LineOf bytes end 0 → TellsEnd (drop end bytes) NoEnd → Tells bytes room Open
last_open bytes end room (l, at, short) (none, few) = (
  λ text body rest x e. let found = end_first bytes (drop end bytes) text body rest l at.reads (sym at.size_is) x e in none found.0 found.1,
  omega (arith, few, short, length-drop end bytes),
)

pub last_bad : (bytes : List ℕ) (end room : ℕ) → LineOf bytes end 0 → TellsEnd (drop end bytes) BadEnd → Tells bytes room Bad
last_bad bytes end room (l, at, short) never = (
  λ more text body rest x e.
      let found = end_first (bytes ++ more) (drop end bytes ++ more) text body rest l (ReadsChunkLine-append bytes l (drop end bytes) more at.reads) (sym at.size_is) x e in
      never more found.0 found.1,
  line_under bytes (drop end bytes) room l at.reads (omega (arith, at.size_is)),
)

pub chunk_end : (bytes : List ℕ) (end size room : ℕ) → LineOf bytes end size → 0 < size → size ≤ room → end + size ≤ length bytes
    → TellsEnd (drop (end + size) bytes) End → Tells bytes room (AChunk end (end + size) (end + size + 2))
chunk_end bytes end size room (l, at, short) some fits inside (two, e) =
    let piece : List ℕ = slice_range bytes end (end + size) in
    let count : length piece ≡ size = length-slice_range bytes end (end + size) (omega arith) inside ∙ omega arith in
    let next : end + size + 2 ≤ length bytes = omega (arith, two, length-drop (end + size) bytes) in
    let chunk : Chunk = record { line = l; bytes = piece } in (
      chunk,
      record { line = (at.reads.0, omega (arith, short, at.len_is)); count = sym at.size_is ∙ sym count; some = omega (arith, some, count) },
      omega (arith, count, fits),
      refl,
      omega arith,
      omega arith,
      omega arith,
      next,
      at.reads.1 ∙ ap (λ (t : List ℕ). print_chunk_line l ++ t) (drop_split bytes end (end + size) (omega arith)
          ∙ ap (λ (t : List ℕ). piece ++ t) (e ∙ ap (λ (t : List ℕ). print_end crlf ++ t) (drop_further bytes (end + size) 2 next))
          ∙ sym (append_assoc piece (print_end crlf) (drop (end + size + 2) bytes)))
          ∙ sym (append_assoc (print_chunk_line l) (piece ++ print_end crlf) (drop (end + size + 2) bytes)),
    )

pub chunk_open : (bytes : List ℕ) (end size room : ℕ) → LineOf bytes end size → 0 < size → size ≤ room → end + size ≤ length bytes
    → TellsEnd (drop (end + size) bytes) NoEnd → Tells bytes room Open
chunk_open bytes end size room (l, at, short) some fits inside (none, few) = (
  λ text body rest x e.
      let found = data_first bytes (drop end bytes) text body rest l at.reads (omega (arith, some, at.size_is)) x e in
      none found.0 (sym (drop_further bytes end size inside) ∙ ap (λ n. drop n (drop end bytes)) at.size_is ∙ found.1),
  omega (arith, few, short, fits, length-drop (end + size) bytes),
)

pub chunk_short : (bytes : List ℕ) (end size room : ℕ) → LineOf bytes end size → 0 < size → size ≤ room → length bytes < end + size → Tells bytes room Open
chunk_short bytes end size room (l, at, short) some fits few = (
  λ text body rest x e.
      let found = data_first bytes (drop end bytes) text body rest l at.reads (omega (arith, some, at.size_is)) x e in
      let long : length (drop (chunk_size l) (drop end bytes)) ≡ length (print_end crlf ++ found.0) = ap (λ (t : List ℕ). length t) found.1 in
      absurd (omega (arith, long, few, at.size_is, line_within bytes end size l at, length-drop (chunk_size l) (drop end bytes), length-drop end bytes, length-append (print_end crlf) found.0)),
  omega (arith, few, short, fits),
)

pub chunk_bad : (bytes : List ℕ) (end size room : ℕ) → LineOf bytes end size → 0 < size → size ≤ room → end + size ≤ length bytes
    → TellsEnd (drop (end + size) bytes) BadEnd → Tells bytes room Bad
chunk_bad bytes end size room (l, at, short) some fits inside never = (
  λ more text body rest x e.
      let found = data_first (bytes ++ more) (drop end bytes ++ more) text body rest l (ReadsChunkLine-append bytes l (drop end bytes) more at.reads)
      (omega (arith, some, at.size_is)) x e in
      never more found.0 (
      ap (λ (t : List ℕ). t ++ more) (sym (drop_further bytes end size inside))
      ∙ sym (drop-append-le size (drop end bytes) more (omega (arith, inside, length-drop end bytes)))
      ∙ ap (λ n. drop n (drop end bytes ++ more)) at.size_is ∙ found.1),
  line_under bytes (drop end bytes) room l at.reads (omega (arith, fits, at.size_is)),
)
