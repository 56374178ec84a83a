-- A chunked body over bytes that are all there, and the limit of a stated length.
use Rattle.std.proofs.Common.{◌≡◌, ℕ, ◌-◌, ◌≤◌, List, [], ◌∷◌, ◌++◌, length, drop, ◌∙◌, ap, subst, arith, append-nil, length-append}
use Rattle.std.proofs.lemmas.List.Concat.{flat_map-cons}
use Rattle.httparse.specs.Grammar.{print_chunk_line, crlf, print_end}
use Rattle.http_text.specs.Fields.{most_body}
use Rattle.http_text.specs.Chunks.{Chunk, IsChunked, print_chunk, print_chunks, chunks_bytes, ChunksBefore, Tells}
use Rattle.http_text.specs.declared.chunks.NextChunk.TheVariants.{Last, Open, Over, Bad}
use Rattle.http_text.proofs.ChunkLaws.{none_behind, never_over, all_chunks, never_behind}
use Rattle.edge_link.specs.declared.bodies.Told.TheVariants.{Chunks}
use Rattle.edge_link.specs.Bodies.{Gives}

-- a body is no longer than its chunks
bytes_short : (cs : List Chunk) → length (chunks_bytes cs) ≤ length (print_chunks cs)
bytes_short [] = omega arith
bytes_short (c ∷ cs) =
    omega (
      arith,
      bytes_short cs,
      ap (λ (t : List ℕ). length t) (flat_map-cons print_chunk c cs),
      length-append (print_chunk c) (print_chunks cs),
      ap (λ (t : List ℕ). length t) (flat_map-cons (λ (d : Chunk). d.bytes) c cs),
      length-append c.bytes (chunks_bytes cs),
      length-append (print_chunk_line c.line) (c.bytes ++ print_end crlf),
      length-append c.bytes (print_end crlf),
    )

body_short : (text body : List ℕ) → IsChunked text body → length body ≤ length text
body_short text body x =
    omega (arith, bytes_short x.chunks, ap (λ (t : List ℕ). length t) x.text_is, ap (λ (t : List ℕ). length t) x.body_is, length-append (print_chunks x.chunks) x.last)

pub whole : (bytes body rest : List ℕ) (room end : ℕ) → ChunksBefore bytes [] body rest → Tells rest room (Last end) → Gives Chunks bytes body
whole bytes body rest room end x (last, is_last, inside, e) =
    let all = all_chunks bytes body rest last (drop end rest) x is_last e in (all.0, drop end rest, all.1, all.2)

pub opened : (bytes body rest : List ℕ) (room : ℕ) → ChunksBefore bytes [] body rest → Tells rest room Open → (b : List ℕ) → ¬ (Gives Chunks bytes b)
opened bytes body rest room x (nothing, few) b (text, after, y, e) = none_behind bytes [] body rest x nothing text b after y e

pub wrong_chunk : (bytes body rest : List ℕ) (room : ℕ) → ChunksBefore bytes [] body rest → Tells rest room Bad → (b : List ℕ) → ¬ (Gives Chunks bytes b)
wrong_chunk bytes body rest room x (never, under) b (text, after, y, e) =
    never_behind bytes [] body rest x never [] text b after y (append-nil bytes ∙ e)

pub over : (bytes body rest : List ℕ) (room : ℕ) → length bytes ≤ most_body → length body ≤ most_body → room ≡ most_body - length body → ChunksBefore bytes [] body rest
    → Tells rest room Over → (b : List ℕ) → ¬ (Gives Chunks bytes b)
over bytes body rest room small fits left x told b (text, after, y, e) =
    never_over bytes [] text b after (record { body = body; rest = rest; before = x; fits = fits; over = subst (λ n. Tells rest n Over) left told }) y
    (omega (arith, small, body_short text b y, ap (λ (t : List ℕ). length t) e, length-append text after)) (append-nil bytes ∙ e)
