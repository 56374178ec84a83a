-- Why no short line of a chunk can stand at the front.
use Rattle.std.proofs.Common.{◌≡◌, ℕ, ◌<◌, ◌≤◌, List, ◌++◌, length, take, drop, sym, ◌∙◌, ap, subst, arith, take-append-drop, inl, inr}
use Rattle.std.proofs.lemmas.List.{take-append-le}
use Rattle.std.proofs.Math.Seq.{take-append_seam}
use Rattle.std.proofs.lemmas.Bool.{cases_lt}
use Rattle.httparse.specs.Grammar.{ChunkLine, HasNoChunkLine, NeverHasChunkLine, print_chunk_line}
use Rattle.httparse.specs.Spans.{IsChunkLineAt}
use Rattle.httparse.proofs.ChunkLemmas.{chunk_line_unique, ReadsChunkLine-append}
use Rattle.http_text.specs.Chunks.{most_line}
use Rattle.http_text.specs.Lines.{NeverShortLine}

-- a front that is no longer than the bytes stands in them
pub front_inside : (bytes more p rest : List ℕ) → bytes ++ more ≡ p ++ rest → length p ≤ length bytes
    → bytes ≡ p ++ drop (length p) bytes
front_inside bytes more p rest e fits =
    let same : take (length p) bytes ≡ p =
    sym (take-append-le (length p) bytes more fits) ∙ ap (take (length p)) e ∙ take-append_seam p rest in
    sym (take-append-drop (length p) bytes) ∙ ap (λ (t : List ℕ). t ++ drop (length p) bytes) same

-- no line can come
pub never_line : (bytes : List ℕ) → NeverHasChunkLine bytes → NeverShortLine bytes
never_line bytes never more l rest reads = absurd (never more l rest reads)

-- the line at the front is too long
pub long_line : (bytes : List ℕ) (end size : ℕ) (l : ChunkLine) → IsChunkLineAt bytes end size l → most_line < end → NeverShortLine bytes
long_line bytes end size l at long more k rest reads =
    let same = chunk_line_unique (bytes ++ more) l k _ rest (ReadsChunkLine-append bytes l _ more at.reads) reads in
    subst (λ n. most_line < n) (at.len_is ∙ ap (λ (x : ChunkLine). length (print_chunk_line x)) same.0) long

-- no whole line within so many bytes
pub open_line : (bytes : List ℕ) → HasNoChunkLine bytes → most_line ≤ length bytes → NeverShortLine bytes
open_line bytes none long more l rest reads =
    elim (cases_lt most_line (length (print_chunk_line l))) [
      | inl over ↦ over
      | inr fits ↦ absurd (none l _ (reads.0, front_inside bytes more (print_chunk_line l) rest reads.1 (omega arith)))
    ]
