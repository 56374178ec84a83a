-- What stands at the front of a chunked body: a line, and by its number a chunk or the end.
use Rattle.std.proofs.Common.{◌≡◌, ◌⊎◌, ℕ, ◌+◌, ◌<◌, ◌≤◌, List, [], ◌∷◌, ◌++◌, length, drop, refl, sym, ◌∙◌, ap, subst, arith, append_assoc, append-nil, inl, inr, All, slice_range}
use Rattle.std.proofs.lemmas.List.{drop_at}
use Rattle.std.proofs.lemmas.List.Folds.{drop_split}
use Rattle.std.proofs.lemmas.List.Elements.{All-head, All-tail, All-cons}
use Rattle.std.proofs.lemmas.List.Concat.{flat_map-cons}
use Rattle.httparse.proofs.RunLemmas.{length-slice_range}
use Rattle.httparse.specs.Grammar.{ChunkLine, ReadsChunkLine, HasNoChunkLine, print_chunk_line, chunk_size, crlf, print_end}
use Rattle.httparse.proofs.ChunkLemmas.{chunk_line_unique}
use Rattle.http_text.specs.Chunks.{Chunk, IsChunk, IsShortLine, IsLast, IsChunked, print_chunk, print_chunks, chunks_bytes, HasNoChunked, NeverChunked, HasLineOver}
use Rattle.http_text.specs.Lines.{NeverShortLine}

-- a chunk and then a chunked body
pub record ChunkFirst (text body : List ℕ) : Type 0 where
  pub chunk : Chunk
  pub is_chunk : IsChunk chunk
  pub text_after : List ℕ
  pub body_after : List ℕ
  pub after : IsChunked text_after body_after
  pub text_is : text ≡ print_chunk chunk ++ text_after
  pub body_is : body ≡ chunk.bytes ++ body_after

-- or the end alone
pub record LastFirst (text body : List ℕ) : Type 0 where
  pub is_last : IsLast text
  pub body_is : body ≡ []

first_in : (text body last : List ℕ) (chunks : List Chunk) → All IsChunk chunks → IsLast last → text ≡ print_chunks chunks ++ last → body ≡ chunks_bytes chunks
    → ChunkFirst text body ⊎ LastFirst text body
first_in text body last [] each is_last e b = inr (record { is_last = subst IsLast (sym e) is_last; body_is = b })
first_in text body last (c ∷ cs) each is_last e b = inl (record {
  chunk = c;
  is_chunk = All-head IsChunk c cs each;
  text_after = print_chunks cs ++ last;
  body_after = chunks_bytes cs;
  after = record { chunks = cs; last = last; each = All-tail IsChunk c cs each; is_last = is_last; text_is = refl; body_is = refl };
  text_is = e ∙ ap (λ (t : List ℕ). t ++ last) (flat_map-cons print_chunk c cs) ∙ append_assoc (print_chunk c) (print_chunks cs) last;
  body_is = b ∙ flat_map-cons (λ (d : Chunk). d.bytes) c cs;
})

pub first_of_text : (text body : List ℕ) → IsChunked text body → ChunkFirst text body ⊎ LastFirst text body
first_of_text text body x = first_in text body x.last x.chunks x.each x.is_last x.text_is x.body_is

-- a chunk before a chunked body
pub chunk_before : (c : Chunk) (text body : List ℕ) → IsChunk c → IsChunked text body → IsChunked (print_chunk c ++ text) (c.bytes ++ body)
chunk_before c text body is_chunk x = record {
  chunks = c ∷ x.chunks;
  last = x.last;
  each = All-cons IsChunk c x.chunks is_chunk x.each;
  is_last = x.is_last;
  text_is = ap (λ (t : List ℕ). print_chunk c ++ t) x.text_is ∙ sym (append_assoc (print_chunk c) (print_chunks x.chunks) x.last)
      ∙ ap (λ (t : List ℕ). t ++ x.last) (sym (flat_map-cons print_chunk c x.chunks));
  body_is = ap (λ (t : List ℕ). c.bytes ++ t) x.body_is ∙ sym (flat_map-cons (λ (d : Chunk). d.bytes) c x.chunks);
}

-- the line of a chunk at the front
pub chunk_line : (bytes rest : List ℕ) (c : Chunk) → IsChunk c → bytes ≡ print_chunk c ++ rest
    → ReadsChunkLine bytes c.line (c.bytes ++ (print_end crlf ++ rest))
chunk_line bytes rest c x e = (
  x.line.0,
  e ∙ append_assoc (print_chunk_line c.line) (c.bytes ++ print_end crlf) rest
      ∙ ap (λ (t : List ℕ). print_chunk_line c.line ++ t) (append_assoc c.bytes (print_end crlf) rest),
)

pub last_line : (bytes text rest : List ℕ) → (x : IsLast text) → bytes ≡ text ++ rest → ReadsChunkLine bytes x.line (print_end crlf ++ rest)
last_line bytes text rest x e =
    (x.short.0, e ∙ ap (λ (t : List ℕ). t ++ rest) x.text_is ∙ append_assoc (print_chunk_line x.line) (print_end crlf) rest)

-- the line at the front of a chunked body
pub record LineFirst (bytes : List ℕ) : Type 0 where
  pub line : ChunkLine
  pub short : IsShortLine line
  pub rest : List ℕ
  pub reads : ReadsChunkLine bytes line rest

pub line_first : (bytes text body rest : List ℕ) → IsChunked text body → bytes ≡ text ++ rest → LineFirst bytes
line_first bytes text body rest x e =
    elim (first_of_text text body x) [
      | inl f ↦ record {
        line = f.chunk.line;
        short = f.is_chunk.line;
        rest = _;
        reads = chunk_line bytes (f.text_after ++ rest) f.chunk f.is_chunk
            (e ∙ ap (λ (t : List ℕ). t ++ rest) f.text_is ∙ append_assoc (print_chunk f.chunk) f.text_after rest);
      }
      | inr f ↦ record { line = f.is_last.line; short = f.is_last.short; rest = _; reads = last_line bytes text rest f.is_last e }
    ]

pub never_line : (bytes : List ℕ) → NeverShortLine bytes → NeverChunked bytes
never_line bytes never more text body rest x e =
    let f = line_first (bytes ++ more) text body rest x e in
    let long = never more f.line f.rest f.reads in
    omega (arith, long, f.short.1)

pub no_line : (bytes : List ℕ) → HasNoChunkLine bytes → HasNoChunked bytes
no_line bytes none text body rest x e =
    let f = line_first bytes text body rest x e in none f.line f.rest f.reads

-- after a line of some size come so many bytes and a line's end
pub data_first : (bytes tail text body rest : List ℕ) (l : ChunkLine) → ReadsChunkLine bytes l tail → 0 < chunk_size l → IsChunked text body → bytes ≡ text ++ rest
    → (more : List ℕ) × (drop (chunk_size l) tail ≡ print_end crlf ++ more)
data_first bytes tail text body rest l reads some x e =
    elim (first_of_text text body x) [
      | inl f ↦
          let same = chunk_line_unique bytes l f.chunk.line tail _ reads (chunk_line bytes (f.text_after ++ rest) f.chunk f.is_chunk
          (e ∙ ap (λ (t : List ℕ). t ++ rest) f.text_is ∙ append_assoc (print_chunk f.chunk) f.text_after rest)) in (
            f.text_after ++ rest,
            ap (drop (chunk_size l)) same.1
                ∙ drop_at f.chunk.bytes (print_end crlf ++ (f.text_after ++ rest)) (chunk_size l) (sym f.is_chunk.count ∙ ap chunk_size (sym same.0)),
          )
      | inr f ↦
          let same = chunk_line_unique bytes l f.is_last.line tail _ reads (last_line bytes text rest f.is_last e) in
          let none : chunk_size l ≡ 0 = ap chunk_size same.0 ∙ f.is_last.none in
          absurd (omega (arith, none, some))
    ]

-- after a line of size 0 comes a line's end
pub end_first : (bytes tail text body rest : List ℕ) (l : ChunkLine) → ReadsChunkLine bytes l tail → chunk_size l ≡ 0 → IsChunked text body → bytes ≡ text ++ rest
    → (more : List ℕ) × (tail ≡ print_end crlf ++ more)
end_first bytes tail text body rest l reads none x e =
    elim (first_of_text text body x) [
      | inl f ↦
          let same = chunk_line_unique bytes l f.chunk.line tail _ reads (chunk_line bytes (f.text_after ++ rest) f.chunk f.is_chunk
          (e ∙ ap (λ (t : List ℕ). t ++ rest) f.text_is ∙ append_assoc (print_chunk f.chunk) f.text_after rest)) in
          let count : chunk_size l ≡ length f.chunk.bytes = ap chunk_size same.0 ∙ f.is_chunk.count in
          absurd (omega (arith, count, none, f.is_chunk.some))
      | inr f ↦
          let same = chunk_line_unique bytes l f.is_last.line tail _ reads (last_line bytes text rest f.is_last e) in
          (rest, same.1)
    ]

-- a line at the front is under, where it tells no more
pub line_under : (bytes tail : List ℕ) (room : ℕ) (l : ChunkLine) → ReadsChunkLine bytes l tail → chunk_size l ≤ room → ¬ (HasLineOver room bytes)
line_under bytes tail room l reads fits over =
    let same = chunk_line_unique bytes l over.0 tail over.1 reads (over.2.0, over.4) in
    let told : chunk_size l ≡ chunk_size over.0 = ap chunk_size same.0 in
    omega (arith, told, fits, over.3)

pub no_line_under : (bytes : List ℕ) (room : ℕ) → NeverShortLine bytes → ¬ (HasLineOver room bytes)
no_line_under bytes room never over =
    let long = never [] over.0 over.1 (over.2.0, append-nil bytes ∙ over.4) in
    omega (arith, long, over.2.1)

-- places in the bytes
pub drop_further : (bytes : List ℕ) (at k : ℕ) → at + k ≤ length bytes → drop k (drop at bytes) ≡ drop (at + k) bytes
drop_further bytes at k fits =
    ap (drop k) (drop_split bytes at (at + k) (omega arith))
    ∙ drop_at (slice_range bytes at (at + k)) (drop (at + k) bytes) k (length-slice_range bytes at (at + k) (omega arith) fits ∙ omega arith)
