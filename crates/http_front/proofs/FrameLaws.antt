-- Frames are the body of their pieces: chunks are whole with the end, and never without it.
use Rattle.std.proofs.Common.{◌≡◌, ℕ, ◌+◌, ◌<◌, ◌≤◌, List, [], ◌∷◌, ◌++◌, length, refl, sym, ◌∙◌, ap, subst, arith, append_assoc, append-nil, length-append, None, Result, Ok, Err, IfOk, IsTrue, All, ◌^◌, false}
use Rattle.std.specs.List.{flat_map}
use Rattle.std.specs.Fmt.{digits}
use Rattle.std.proofs.lemmas.List.Elements.{All-nil, All-cons, All-head, All-tail, All-weaker}
use Rattle.std.proofs.lemmas.List.Concat.{flat_map-cons}
use Rattle.httparse.specs.Ascii.{crlf_bytes}
use Rattle.std.specs.Char.{is_ascii_hexdigit}
use Rattle.httparse.specs.Grammar.{is_ows, ChunkLine, ReadsChunkLine, print_chunk_line, chunk_size}
use Rattle.http_text.specs.Chunks.{Chunk, IsChunk, IsShortLine, IsLast, IsChunked, print_chunk, print_chunks, chunks_bytes, HasNoChunked}
use Rattle.http_text.specs.Bodies.{IsSized}
use Rattle.http_text.specs.Chunks.{HasNone}
use Rattle.http_text.proofs.ChunkLaws.{chunks_off}
use Rattle.http_text.proofs.ChunkFronts.{line_first}
use Rattle.http_front.specs.declared.answers.Framing.{Framing}
use Rattle.http_front.specs.declared.answers.Framing.TheVariants.{Plain, Chunked, Empty}
use Rattle.http_front.specs.Frames.{chunk_text, piece_text, end_text}
use Rattle.http_front.specs.Laws.{Fit, frames, IsFramed}
use Rattle.http_front.proofs.Lengths.{short_digits, hex_digits, hex_back}

-- the line that is written before a piece
abbrev line_of : ℕ → ChunkLine
line_of n = record { digits = digits 16 false n; pad = []; extension = None }

abbrev chunk_of : List ℕ → Chunk
chunk_of piece = record { line = line_of (length piece); bytes = piece }

-- a reader gets the length back
abbrev IsReadBack : ℕ → Type 0
IsReadBack n = IsShortLine (line_of n) × (chunk_size (line_of n) ≡ n)

abbrev chunks_of : List (List ℕ) → List Chunk
chunks_of [] = []
chunks_of ([] ∷ pieces) = chunks_of pieces
chunks_of ((b ∷ piece) ∷ pieces) = chunk_of (b ∷ piece) ∷ chunks_of pieces

line_text : (n : ℕ) → print_chunk_line (line_of n) ≡ digits 16 false n ++ crlf_bytes
unfolding print_chunk_line
line_text n = simp append_assoc refl

one_frame : (piece : List ℕ) → chunk_text piece ≡ print_chunk (chunk_of piece)
one_frame piece =
    sym (append_assoc (digits 16 false (length piece)) crlf_bytes (piece ++ crlf_bytes))
    ∙ ap (λ (t : List ℕ). t ++ (piece ++ crlf_bytes)) (sym (line_text (length piece)))

frames_are : (pieces : List (List ℕ)) → flat_map (piece_text Chunked) pieces ≡ print_chunks (chunks_of pieces)
frames_are [] = refl
frames_are ([] ∷ pieces) = flat_map-cons (piece_text Chunked) [] pieces ∙ frames_are pieces
frames_are ((b ∷ piece) ∷ pieces) =
    flat_map-cons (piece_text Chunked) (b ∷ piece) pieces
    ∙ (ap (λ (t : List ℕ). t ++ flat_map (piece_text Chunked) pieces) (one_frame (b ∷ piece))
    ∙ ap (λ (t : List ℕ). print_chunk (chunk_of (b ∷ piece)) ++ t) (frames_are pieces)
    ∙ sym (flat_map-cons print_chunk (chunk_of (b ∷ piece)) (chunks_of pieces)))

bytes_are : (pieces : List (List ℕ)) → flat_map (λ (p : List ℕ). p) pieces ≡ chunks_bytes (chunks_of pieces)
bytes_are [] = refl
bytes_are ([] ∷ pieces) = flat_map-cons (λ (p : List ℕ). p) [] pieces ∙ bytes_are pieces
bytes_are ((b ∷ piece) ∷ pieces) =
    flat_map-cons (λ (p : List ℕ). p) (b ∷ piece) pieces ∙ ap (λ (t : List ℕ). (b ∷ piece) ++ t) (bytes_are pieces)
    ∙ sym (flat_map-cons (λ (c : Chunk). c.bytes) (chunk_of (b ∷ piece)) (chunks_of pieces))

each_is : (pieces : List (List ℕ)) → All (λ (p : List ℕ). IsReadBack (length p)) pieces → All IsChunk (chunks_of pieces)
each_is [] all = All-nil IsChunk
each_is ([] ∷ pieces) all = each_is pieces (All-tail (λ (p : List ℕ). IsReadBack (length p)) [] pieces all)
each_is ((b ∷ piece) ∷ pieces) all =
    let back = All-head (λ (p : List ℕ). IsReadBack (length p)) (b ∷ piece) pieces all in
    All-cons IsChunk (chunk_of (b ∷ piece)) (chunks_of pieces) (record { line = back.0; count = back.1; some = omega arith })
    (each_is pieces (All-tail (λ (p : List ℕ). IsReadBack (length p)) (b ∷ piece) pieces all))

-- the frames and the end are a chunked body of the pieces
whole_frames : (pieces : List (List ℕ)) (last : IsLast (end_text Chunked)) → All (λ (p : List ℕ). IsReadBack (length p)) pieces
    → IsChunked (flat_map (piece_text Chunked) pieces ++ end_text Chunked) (flat_map (λ (p : List ℕ). p) pieces)
whole_frames pieces last all = record {
  chunks = chunks_of pieces;
  last = end_text Chunked;
  each = each_is pieces all;
  is_last = last;
  text_is = ap (λ (t : List ℕ). t ++ end_text Chunked) (frames_are pieces);
  body_is = bytes_are pieces;
}

line_length : (l : ChunkLine) → length l.digits ≤ length (print_chunk_line l)
unfolding print_chunk_line
line_length l = grind (arith, length-append)

no_line_of_nothing : (l : ChunkLine) (rest : List ℕ) → ¬ (ReadsChunkLine [] l rest)
no_line_of_nothing l rest (is, e) =
    let none : length {A = ℕ} [] ≡ length (print_chunk_line l ++ rest) = ap (λ (t : List ℕ). length t) e in
    omega (arith, is.digits.0, none, length-append (print_chunk_line l) rest, line_length l)

-- the frames alone are none: a body that was cut is never read back as whole
cut_frames : (pieces : List (List ℕ)) → All (λ (p : List ℕ). IsReadBack (length p)) pieces → HasNoChunked (flat_map (piece_text Chunked) pieces)
cut_frames pieces all text body rest x e =
    let left = chunks_off (chunks_of pieces) [] text body rest (each_is pieces all) x
    (append-nil (print_chunks (chunks_of pieces)) ∙ sym (frames_are pieces) ∙ e) in
    let f = line_first [] left.text left.tail rest left.is_chunked left.after_is in
    no_line_of_nothing f.line f.rest f.reads

-- a length that a processor has is read back
length_back : (n : ℕ) → n < 2 ^ 64 → IsReadBack n
length_back n small =
    let back = hex_back n small in
    let short = short_digits n small in
    let size : length (print_chunk_line (line_of n)) ≤ 1024 =
    omega (arith, short, ap (λ (t : List ℕ). length t) (line_text n), length-append (digits 16 false n) crlf_bytes) in
    ((record { digits = (back.0.0, short, hex_digits n); pad = All-nil (λ b. IsTrue (is_ows b)); extension = tt }, size), back.1)

all_back : (pieces : List (List ℕ)) → Fit pieces → All (λ (p : List ℕ). IsReadBack (length p)) pieces
all_back pieces fit =
    All-weaker (λ (p : List ℕ). length p < 2 ^ 64) (λ (p : List ℕ). IsReadBack (length p)) (λ p small. length_back (length p) small) pieces fit

last_line : ChunkLine
last_line = record { digits = 48 ∷ []; pad = []; extension = None }

the_last : IsLast (end_text Chunked)
unfolding print_chunk_line last_line
the_last = record {
  line = last_line;
  short = (
    record {
      digits = (omega arith, omega arith, All-cons (λ b. IsTrue (is_ascii_hexdigit b)) 48 [] refl (All-nil (λ b. IsTrue (is_ascii_hexdigit b))));
      pad = All-nil (λ b. IsTrue (is_ows b));
      extension = tt;
    },
    omega arith,
  );
  none = refl;
  text_is = refl;
}

nothing_framed : (pieces : List (List ℕ)) → frames Empty pieces ≡ []
nothing_framed [] = refl
nothing_framed (piece ∷ pieces) = flat_map-cons (piece_text Empty) piece pieces ∙ nothing_framed pieces

framed : (framing : Framing) (pieces : List (List ℕ)) → Fit pieces → IsFramed framing pieces (frames framing pieces ++ end_text framing)
framed Plain pieces fit = append-nil (frames Plain pieces)
framed Chunked pieces fit = whole_frames pieces the_last (all_back pieces fit)
framed Empty pieces fit = append-nil (frames Empty pieces) ∙ nothing_framed pieces

-- with the end behind them
pub framed_whole : {E : Type 0} (framing : Framing) (r : Result (List ℕ) E) → IfOk r (λ frame. frame ≡ end_text framing)
    → IfOk r (λ frame. (pieces : List (List ℕ)) → Fit pieces → IsFramed framing pieces (frames framing pieces ++ frame))
framed_whole framing (Ok frame) e = λ pieces fit.
    subst (λ (t : List ℕ). IsFramed framing pieces (frames framing pieces ++ t)) (sym e) (framed framing pieces fit)
framed_whole framing (Err fault) e = tt

-- without it
pub framed_cut : (pieces : List (List ℕ)) → Fit pieces → HasNoChunked (frames Chunked pieces)
framed_cut pieces fit = cut_frames pieces (all_back pieces fit)

-- fewer bytes than were told aren't a body of that length
pub fewer_bytes : (told : ℕ) (text : List ℕ) → length text < told → HasNone (IsSized told) text
fewer_bytes told text less front body rest is e =
    let parts : length text ≡ length front + length rest = ap (λ (t : List ℕ). length t) e ∙ length-append front rest in
    let whole : length front ≡ told = ap (λ (t : List ℕ). length t) is.same ∙ is.count in
    omega (arith, less, parts, whole)
