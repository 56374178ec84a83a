-- Chunks one after the other.
use Rattle.std.proofs.Common.{◌≡◌, ℕ, ◌+◌, ◌-◌, ◌*◌, ◌≤◌, List, [], ◌∷◌, ◌++◌, length, drop, refl, sym, ◌∙◌, ap, subst, arith, append_assoc, append-nil, length-append, length-drop, All, slice_range}
use Rattle.std.proofs.lemmas.Grind.{flat_map-append}
use Rattle.std.proofs.lemmas.List.Elements.{All-nil, All-push, All-head, All-tail, All-append}
use Rattle.std.proofs.lemmas.List.Concat.{flat_map-cons}
use Rattle.httparse.specs.Grammar.{print_chunk_line, crlf, print_end}
use Rattle.http_text.specs.Chunks.{Chunk, IsChunk, print_chunk, print_chunks, chunks_bytes, ChunksBefore, Tells}
use Rattle.http_text.specs.declared.chunks.NextChunk.TheVariants.{Chunk as AChunk}
use Rattle.http_text.proofs.ChunkFronts.{drop_further}

-- no chunk yet
pub no_chunks : (bytes had : List ℕ) → ChunksBefore bytes had had bytes
no_chunks bytes had = record { chunks = []; each = All-nil _; body_is = sym (append-nil had); bytes_is = refl }

-- one chunk more
pub chunk_more : (bytes had body rest after : List ℕ) (c : Chunk) → ChunksBefore bytes had body rest → IsChunk c → rest ≡ print_chunk c ++ after
    → ChunksBefore bytes had (body ++ c.bytes) after
chunk_more bytes had body rest after c x is_chunk e = record {
  chunks = x.chunks ++ c ∷ [];
  each = All-push IsChunk x.chunks c x.each is_chunk;
  body_is = ap (λ (t : List ℕ). t ++ c.bytes) x.body_is ∙ append_assoc had (chunks_bytes x.chunks) c.bytes
      ∙ ap (λ (t : List ℕ). had ++ t) (sym (flat_map-append (λ (d : Chunk). d.bytes) x.chunks (c ∷ []) ∙ ap (λ (t : List ℕ). chunks_bytes x.chunks ++ t)
      (flat_map-cons (λ (d : Chunk). d.bytes) c [] ∙ append-nil c.bytes)));
  bytes_is = x.bytes_is ∙ ap (λ (t : List ℕ). print_chunks x.chunks ++ t) e ∙ sym (append_assoc (print_chunks x.chunks) (print_chunk c) after)
      ∙ ap (λ (t : List ℕ). t ++ after) (sym (flat_map-append print_chunk x.chunks (c ∷ []) ∙ ap (λ (t : List ℕ). print_chunks x.chunks ++ t)
      (flat_map-cons print_chunk c [] ∙ append-nil (print_chunk c))));
}

-- The chunk that was told at a place is one more.
pub record OneMore (bytes had new : List ℕ) (at most : ℕ) : Type 0 where
  pub within : at ≤ length bytes
  pub fits : length new ≤ most
  pub chunks : ChunksBefore bytes had new (drop at bytes)

pub told_more : (bytes had body new rest : List ℕ) (at start end next room most : ℕ) → at ≤ length bytes → length body ≤ most → ChunksBefore bytes had body (drop at bytes)
    → rest ≡ drop at bytes → Tells rest room (AChunk start end next) → room ≡ most - length body → new ≡ body ++ slice_range rest start end
    → OneMore bytes had new (at + next) most
told_more bytes had body new rest at start end next room most within fits x place (c, is_chunk, small, is, r1, r2, r3, r4, e) left grown =
    let inside : at + next ≤ length bytes = omega (arith, within, r4, ap (λ (t : List ℕ). length t) place, length-drop at bytes) in
    let all : body ++ c.bytes ≡ new = ap (λ (t : List ℕ). body ++ t) is ∙ sym grown in
    record {
      within = inside;
      fits = omega (arith, ap (λ (t : List ℕ). length t) all, length-append body c.bytes, small, left, fits);
      chunks = subst (λ (t : List ℕ). ChunksBefore bytes had t (drop (at + next) bytes)) all
          (chunk_more bytes had body (drop at bytes) (drop (at + next) bytes) c x is_chunk
          (sym place ∙ e ∙ ap (λ (t : List ℕ). print_chunk c ++ t) (ap (drop next) place ∙ drop_further bytes at next inside)));
    }

-- some chunks and then some
pub chunks_both : (bytes had body mid more rest : List ℕ) → ChunksBefore bytes had body mid → ChunksBefore mid body more rest → ChunksBefore bytes had more rest
chunks_both bytes had body mid more rest x y = record {
  chunks = x.chunks ++ y.chunks;
  each = All-append IsChunk x.chunks y.chunks x.each y.each;
  body_is = y.body_is ∙ ap (λ (t : List ℕ). t ++ chunks_bytes y.chunks) x.body_is ∙ append_assoc had (chunks_bytes x.chunks) (chunks_bytes y.chunks)
      ∙ ap (λ (t : List ℕ). had ++ t) (sym (flat_map-append (λ (d : Chunk). d.bytes) x.chunks y.chunks));
  bytes_is = x.bytes_is ∙ ap (λ (t : List ℕ). print_chunks x.chunks ++ t) y.bytes_is ∙ sym (append_assoc (print_chunks x.chunks) (print_chunks y.chunks) rest)
      ∙ ap (λ (t : List ℕ). t ++ rest) (sym (flat_map-append print_chunk x.chunks y.chunks));
}

-- a chunk has bytes, and its line is short
print_length : (c : Chunk) → IsChunk c → length (print_chunk c) ≤ 1027 * length c.bytes
print_length c x =
    omega (arith, x.some, x.line.1, length-append (print_chunk_line c.line) (c.bytes ++ print_end crlf), length-append c.bytes (print_end crlf))

pub chunks_length : (cs : List Chunk) → All IsChunk cs → length (print_chunks cs) ≤ 1027 * length (chunks_bytes cs)
chunks_length [] each = omega arith
chunks_length (c ∷ cs) each =
    let one = print_length c (All-head IsChunk c cs each) in
    let rest = chunks_length cs (All-tail IsChunk c cs each) in
    omega (
      arith,
      one,
      rest,
      ap (λ (t : List ℕ). length t) (flat_map-cons print_chunk c cs),
      length-append (print_chunk c) (print_chunks cs),
      ap (λ (t : List ℕ). length t) (flat_map-cons (λ (d : Chunk). d.bytes) c cs),
      length-append c.bytes (chunks_bytes cs),
    )

-- so the bytes of whole chunks are paid for by those of the body
pub chunks_paid : (bytes had body rest : List ℕ) → ChunksBefore bytes had body rest → length bytes + 1027 * length had ≤ length rest + 1027 * length body
chunks_paid bytes had body rest x =
    omega (
      arith,
      chunks_length x.chunks x.each,
      ap (λ (t : List ℕ). length t) x.bytes_is,
      length-append (print_chunks x.chunks) rest,
      ap (λ (t : List ℕ). length t) x.body_is,
      length-append had (chunks_bytes x.chunks),
    )
