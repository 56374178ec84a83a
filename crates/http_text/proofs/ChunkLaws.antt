-- Whole chunks at the front of the bytes are those of any chunked body at the front.
use Rattle.std.proofs.Common.{◌≡◌, ◌≢◌, ℕ, ◌+◌, ◌≤◌, List, [], ◌∷◌, ◌++◌, length, take, drop, refl, sym, ◌∙◌, ap, arith, append_assoc, append-nil, length-append, inl, inr, All}
use Rattle.std.proofs.Math.Seq.{take-append_seam, drop-append_seam}
use Rattle.std.proofs.lemmas.List.Elements.{All-head, All-tail}
use Rattle.std.proofs.lemmas.List.Concat.{flat_map-cons}
use Rattle.httparse.specs.Grammar.{print_chunk_line, chunk_size, crlf, print_end}
use Rattle.httparse.proofs.ChunkLemmas.{chunk_line_unique}
use Rattle.http_text.specs.Fields.{most_body}
use Rattle.http_text.specs.Chunks.{Chunk, IsChunk, IsLast, IsChunked, print_chunk, print_chunks, chunks_bytes, HasNoChunked, NeverChunked, ChunksBefore, GoesOver, GoesWrong}
use Rattle.http_text.proofs.ChunkFronts.{first_of_text, chunk_line, last_line}

-- two texts of one length with something behind
pub same_front : (a b r q : List ℕ) → length a ≡ length b → a ++ r ≡ b ++ q → (a ≡ b) × (r ≡ q)
same_front a b r q same e = (
  sym (take-append_seam a r) ∙ ap (take (length a)) e ∙ ap (λ n. take n (b ++ q)) same ∙ take-append_seam b q,
  sym (drop-append_seam a r) ∙ ap (drop (length a)) e ∙ ap (λ n. drop n (b ++ q)) same ∙ drop-append_seam b q,
)

-- what is left of a chunked body behind chunks
pub record Left (after rest done body : List ℕ) : Type 0 where
  pub text : List ℕ
  pub tail : List ℕ
  pub is_chunked : IsChunked text tail
  pub after_is : after ≡ text ++ rest
  pub body_is : body ≡ done ++ tail

one_off : (c : Chunk) (after text body rest : List ℕ) → IsChunk c → IsChunked text body → print_chunk c ++ after ≡ text ++ rest → Left after rest c.bytes body
one_off c after text body rest is_chunk x e =
    elim (first_of_text text body x) [
      | inl f ↦
          let same = chunk_line_unique (print_chunk c ++ after) c.line f.chunk.line _ _ (chunk_line (print_chunk c ++ after) after c is_chunk refl)
          (chunk_line (print_chunk c ++ after) (f.text_after ++ rest) f.chunk f.is_chunk
          (e ∙ ap (λ (t : List ℕ). t ++ rest) f.text_is ∙ append_assoc (print_chunk f.chunk) f.text_after rest)) in
          let bytes = same_front c.bytes f.chunk.bytes (print_end crlf ++ after) (print_end crlf ++ (f.text_after ++ rest))
          (sym is_chunk.count ∙ ap chunk_size same.0 ∙ f.is_chunk.count) same.1 in
          let behind = same_front (print_end crlf) (print_end crlf) after (f.text_after ++ rest) refl bytes.1 in
          record {
            text = f.text_after;
            tail = f.body_after;
            is_chunked = f.after;
            after_is = behind.1;
            body_is = f.body_is ∙ ap (λ (t : List ℕ). t ++ f.body_after) (sym bytes.0);
          }
      | inr f ↦
          let same = chunk_line_unique (print_chunk c ++ after) c.line f.is_last.line _ _ (chunk_line (print_chunk c ++ after) after c is_chunk refl)
          (last_line (print_chunk c ++ after) text rest f.is_last e) in
          let none : chunk_size c.line ≡ 0 = ap chunk_size same.0 ∙ f.is_last.none in
          absurd (omega (arith, none, is_chunk.count, is_chunk.some))
    ]

pub chunks_off : (cs : List Chunk) (after text body rest : List ℕ) → All IsChunk cs → IsChunked text body → print_chunks cs ++ after ≡ text ++ rest
    → Left after rest (chunks_bytes cs) body
chunks_off [] after text body rest each x e = record { text = text; tail = body; is_chunked = x; after_is = e; body_is = refl }
chunks_off (c ∷ cs) after text body rest each x e =
    let one = one_off c (print_chunks cs ++ after) text body rest (All-head IsChunk c cs each) x
    (sym (append_assoc (print_chunk c) (print_chunks cs) after) ∙ ap (λ (t : List ℕ). t ++ after) (sym (flat_map-cons print_chunk c cs)) ∙ e) in
    let more = chunks_off cs after one.text one.tail rest (All-tail IsChunk c cs each) one.is_chunked one.after_is in
    record {
      text = more.text;
      tail = more.tail;
      is_chunked = more.is_chunked;
      after_is = more.after_is;
      body_is = one.body_is ∙ ap (λ (t : List ℕ). c.bytes ++ t) more.body_is ∙ sym (append_assoc c.bytes (chunks_bytes cs) more.tail)
          ∙ ap (λ (t : List ℕ). t ++ more.tail) (sym (flat_map-cons (λ (d : Chunk). d.bytes) c cs));
    }

-- no chunked body begins with chunks behind which none can
pub none_behind : (bytes had body rest : List ℕ) → ChunksBefore bytes had body rest → HasNoChunked rest → HasNoChunked bytes
none_behind bytes had body rest x none text whole more y e =
    let left = chunks_off x.chunks rest text whole more x.each y (sym x.bytes_is ∙ e) in
    none left.text left.tail more left.is_chunked left.after_is

pub never_behind : (bytes had body rest : List ℕ) → ChunksBefore bytes had body rest → NeverChunked rest → NeverChunked bytes
never_behind bytes had body rest x never more text whole after y e =
    let left = chunks_off x.chunks (rest ++ more) text whole after x.each y
    (sym (append_assoc (print_chunks x.chunks) rest more) ∙ ap (λ (t : List ℕ). t ++ more) (sym x.bytes_is) ∙ e) in
    never more left.text left.tail after left.is_chunked left.after_is

-- nor does a body within the limit begin with chunks and a line that goes over
pub never_over : (bytes more text body rest : List ℕ) → GoesOver bytes → IsChunked text body → length body ≤ most_body → bytes ++ more ≢ text ++ rest
never_over bytes more text body rest x y fits e =
    let over = x.over in
    let left = chunks_off x.before.chunks (x.rest ++ more) text body rest x.before.each y
    (sym (append_assoc (print_chunks x.before.chunks) x.rest more) ∙ ap (λ (t : List ℕ). t ++ more) (sym x.before.bytes_is) ∙ e) in
    let all = x.rest ++ more in
    let line : all ≡ print_chunk_line over.0 ++ (over.1 ++ more) = ap (λ (t : List ℕ). t ++ more) over.4 ∙ append_assoc (print_chunk_line over.0) over.1 more in
    elim (first_of_text left.text left.tail left.is_chunked) [
      | inl f ↦
          let same = chunk_line_unique all over.0 f.chunk.line _ _ (over.2.0, line)
          (chunk_line all (f.text_after ++ rest) f.chunk f.is_chunk
          (left.after_is ∙ ap (λ (t : List ℕ). t ++ rest) f.text_is ∙ append_assoc (print_chunk f.chunk) f.text_after rest)) in
          let count : chunk_size over.0 ≡ length f.chunk.bytes = ap chunk_size same.0 ∙ f.is_chunk.count in
          let tail : length left.tail ≡ length f.chunk.bytes + length f.body_after = ap (λ (t : List ℕ). length t) f.body_is ∙ length-append f.chunk.bytes f.body_after in
          let sum : length body ≡ length (chunks_bytes x.before.chunks) + length left.tail = ap (λ (t : List ℕ). length t) left.body_is ∙ length-append (chunks_bytes x.before.chunks) left.tail in
          let had : length x.body ≡ length (chunks_bytes x.before.chunks) = ap (λ (t : List ℕ). length t) x.before.body_is in
          omega (arith, fits, count, tail, sum, had, over.3, x.fits)
      | inr f ↦
          let same = chunk_line_unique all over.0 f.is_last.line _ _ (over.2.0, line) (last_line all left.text rest f.is_last left.after_is) in
          let none : chunk_size over.0 ≡ 0 = ap chunk_size same.0 ∙ f.is_last.none in
          omega (arith, none, over.3)
    ]

pub never_wrong : (bytes more text body rest : List ℕ) → GoesWrong bytes → IsChunked text body → bytes ++ more ≢ text ++ rest
never_wrong bytes more text body rest x y e = never_behind bytes [] x.body x.rest x.before x.never more text body rest y e

-- one chunked body stands at the front
pub chunked_unique : (s b r t d q : List ℕ) → IsChunked s b → IsChunked t d → s ++ r ≡ t ++ q → (b ≡ d) × (r ≡ q)
chunked_unique s b r t d q x y e =
    let left = chunks_off x.chunks (x.last ++ r) t d q x.each y
    (sym (append_assoc (print_chunks x.chunks) x.last r) ∙ ap (λ (u : List ℕ). u ++ r) (sym x.text_is) ∙ e) in
    elim (first_of_text left.text left.tail left.is_chunked) [
      | inl f ↦
          let same = chunk_line_unique (x.last ++ r) x.is_last.line f.chunk.line _ _ (last_line (x.last ++ r) x.last r x.is_last refl)
          (chunk_line (x.last ++ r) (f.text_after ++ q) f.chunk f.is_chunk
          (left.after_is ∙ ap (λ (u : List ℕ). u ++ q) f.text_is ∙ append_assoc (print_chunk f.chunk) f.text_after q)) in
          let none : chunk_size f.chunk.line ≡ 0 = ap chunk_size (sym same.0) ∙ x.is_last.none in
          absurd (omega (arith, none, f.is_chunk.count, f.is_chunk.some))
      | inr f ↦
          let same = chunk_line_unique (x.last ++ r) x.is_last.line f.is_last.line _ _ (last_line (x.last ++ r) x.last r x.is_last refl)
          (last_line (x.last ++ r) left.text q f.is_last left.after_is) in (
            x.body_is ∙ sym (left.body_is ∙ ap (λ (u : List ℕ). chunks_bytes x.chunks ++ u) f.body_is ∙ append-nil (chunks_bytes x.chunks)),
            (same_front (print_end crlf) (print_end crlf) r q refl same.1).1,
          )
    ]

-- chunks and then the end are a chunked body
pub all_chunks : (bytes body rest last after : List ℕ) → ChunksBefore bytes [] body rest → IsLast last → rest ≡ last ++ after
    → (text : List ℕ) × IsChunked text body × (bytes ≡ text ++ after)
all_chunks bytes body rest last after x is_last e = (
  print_chunks x.chunks ++ last,
  record { chunks = x.chunks; last = last; each = x.each; is_last = is_last; text_is = refl; body_is = x.body_is },
  x.bytes_is ∙ ap (λ (t : List ℕ). print_chunks x.chunks ++ t) e ∙ sym (append_assoc (print_chunks x.chunks) last after),
)

-- more bytes behind chunks, and more chunks behind them
pub chunks_grow : (bytes had body rest piece : List ℕ) → ChunksBefore bytes had body rest → ChunksBefore (bytes ++ piece) had body (rest ++ piece)
chunks_grow bytes had body rest piece x = record {
  chunks = x.chunks;
  each = x.each;
  body_is = x.body_is;
  bytes_is = ap (λ (t : List ℕ). t ++ piece) x.bytes_is ∙ append_assoc (print_chunks x.chunks) rest piece;
}
