-- There is a reading of all bytes: it is decided which response they hold.
use Rattle.std.proofs.Common.{◌≡◌, ◌⊎◌, inl, inr, ℕ, zero, suc, ◌+◌, ◌<◌, ◌≤◌, Bool, true, false, List, [], ◌++◌, length, take, refl, sym, ◌∙◌, ap, subst, arith, append-nil, length-append}
use Rattle.std.specs.Prelude.{Option, None, Some, Result, Ok, Err}
use Rattle.std.specs.Char.{is_ascii_hexdigit}
use Rattle.httparse.specs.Ascii.{semicolon}
use Rattle.httparse.specs.Grammar.{crlf, print_end, AllPass, is_ows, is_extension_byte, ResponseHead, print_response, status_code, ChunkLine, print_extension, IsExtension, chunk_size, print_chunk_line}
use Rattle.httparse.proofs.GrammarLemmas.{response_unique}
use Rattle.httparse.proofs.ChunkLemmas.{chunk_line_unique}
use Rattle.edge_body.specs.Heads.{Response, is_status}
use Rattle.http_text.specs.Fields.{most_body, most_headers}
use Rattle.http_text.specs.Chunks.{Chunk, IsChunk, IsShortLine, IsLast as IsEnd, IsChunked, print_chunk, print_chunks, chunks_bytes, most_line}
use Rattle.edge_link.specs.declared.bodies.Told.{Told}
use Rattle.edge_link.specs.declared.bodies.Told.TheVariants.{Nothing, ToEnd, Counted, Chunks, Wrong}
use Rattle.edge_link.specs.declared.fault.ResponseFault.{ResponseFault}
use Rattle.edge_link.specs.declared.fault.ResponseFault.TheVariants as fault
use Rattle.edge_link.specs.Heads.{head_of, is_interim, IsLed, HasNoLast, HasNoSmallHead, Passes}
use Rattle.edge_link.specs.Bodies.{told_of, Gives}
use Rattle.edge_link.specs.Responses.{response_of, HasNoResponseTo}
use Rattle.edge_link.specs.Readings.{Reading, IsRead, IsReading}
use Rattle.edge_link.proofs.HeadRuns.{no_head, wrong_head, pass_more, passes_none, leads, led_unique, some_bytes}
use Rattle.edge_link.proofs.Splits.{Decided, either, same_decided, both_decided, true_decided, less_decided, most_decided, number_decided, text_decided, all_decided, Split, split_decided, Seq, seq_decided, joined, One, Several, several_decided}
use Rattle.edge_link.proofs.Heading.{Behind, behind_decided, Reads, reads_decided}

-- ---- the head of a response, behind its interim heads

pub record Led (bytes : List ℕ) : Type 0 where
  pub tree : ResponseHead
  pub rest : List ℕ
  pub led : IsLed bytes tree rest

many_fields : (bytes : List ℕ) → (r : Reads bytes) → (length r.tree.fields ≤ most_headers → ⊥) → HasNoSmallHead bytes
many_fields bytes r many tree rest reads =
    let same = response_unique bytes r.tree tree r.rest rest r.reads reads in
    omega (arith, many, ap (λ (t : ResponseHead). length t.fields) same.0)

is_false : (b : Bool) → (b ≡ true → ⊥) → b ≡ false
is_false true n = absurd (n refl)
is_false false n = refl

led_from : (bound : ℕ) (bytes after : List ℕ) → Passes bytes after → length after < bound → Led bytes ⊎ HasNoLast bytes
led_from zero bytes after passes less = absurd (omega (arith, less))
led_from (suc bound) bytes after passes less =
    either (reads_decided after)
    (λ r. either (most_decided (length r.tree.fields) most_headers)
    (λ few. either (true_decided (is_status (status_code r.tree)))
    (λ last. inl (record { tree = r.tree; rest = r.rest; led = leads bytes after r.tree r.rest passes r.reads ((r.reads.0, few), last) }))
    (λ other. either (true_decided (is_interim (status_code r.tree)))
    (λ interim. led_from bound bytes r.rest (pass_more bytes after r.tree r.rest passes r.reads ((r.reads.0, few), interim))
    (omega (arith, less, some_bytes r.tree, ap (λ (ys : List ℕ). length ys) r.reads.1, length-append (print_response r.tree) r.rest)))
    (λ wrong. inr (wrong_head bytes after r.tree r.rest passes r.reads (is_false (is_interim (status_code r.tree)) wrong) (is_false (is_status (status_code r.tree)) other)))))
    (λ many. inr (no_head bytes after passes (many_fields after r many))))
    (λ n. inr (no_head bytes after passes (λ tree rest reads. absurd (n (record { tree = tree; rest = rest; reads = reads })))))

-- ---- chunked bodies

pass_decided : (test : ℕ → Bool) (bytes : List ℕ) → Decided (AllPass test bytes)
pass_decided test bytes = all_decided (λ b. test b ≡ true) (λ b. true_decided (test b)) bytes

abbrev DigitsText : List ℕ → Type 0
DigitsText bytes = (0 < length bytes) × (length bytes ≤ 16) × AllPass is_ascii_hexdigit bytes

abbrev ExtensionText : List ℕ → Type 0
ExtensionText bytes = One IsExtension print_extension bytes

extension_of : (bytes : List ℕ) → (bytes ≡ []) ⊎ Behind semicolon (AllPass is_extension_byte) bytes → ExtensionText bytes
extension_of bytes (inl e) = record { item = None; is = tt; whole = e }
extension_of bytes (inr b) = record { item = Some b.text; is = b.passes; whole = b.whole }

which_extension : (bytes : List ℕ) (x : Option (List ℕ)) → IsExtension x → bytes ≡ print_extension x → (bytes ≡ []) ⊎ Behind semicolon (AllPass is_extension_byte) bytes
which_extension bytes None is e = inl e
which_extension bytes (Some text) is e = inr (record { text = text; passes = is; whole = e })

or_decided : {P Q : Type 0} → Decided P → Decided Q → Decided (P ⊎ Q)
or_decided (inl p) d = inl (inl p)
or_decided (inr n) (inl q) = inl (inr q)
or_decided (inr n) (inr m) = inr (λ x. either x n m)

extension_decided : (bytes : List ℕ) → Decided (ExtensionText bytes)
extension_decided bytes =
    same_decided (extension_of bytes) (λ o. which_extension bytes o.item o.is o.whole)
    (or_decided (text_decided bytes []) (behind_decided semicolon (AllPass is_extension_byte) (pass_decided is_extension_byte) bytes))

abbrev LineText : List ℕ → Type 0
LineText bytes = Seq (Seq (Seq DigitsText (AllPass is_ows)) ExtensionText) (λ b. b ≡ print_end crlf) bytes

line_of : (bytes : List ℕ) → LineText bytes × (length bytes ≤ most_line) → One IsShortLine print_chunk_line bytes
unfolding print_chunk_line
line_of bytes (s, short) =
    let told = s.holds.0 in
    let padded = told.holds.0 in
    let extension = told.holds.1 in
    let whole : bytes ≡ print_chunk_line (record { digits = padded.first; pad = padded.rest; extension = extension.item }) =
    s.whole ∙ joined s.first s.rest _ _ (told.whole ∙ joined told.first told.rest _ _ padded.whole extension.whole) s.holds.1 in
    record {
      item = record { digits = padded.first; pad = padded.rest; extension = extension.item };
      is = (record { digits = padded.holds.0; pad = padded.holds.1; extension = extension.is }, subst (λ (ys : List ℕ). length ys ≤ most_line) whole short);
      whole = whole;
    }

of_line : (bytes : List ℕ) → One IsShortLine print_chunk_line bytes → LineText bytes × (length bytes ≤ most_line)
unfolding print_chunk_line
of_line bytes o =
    let l = o.item in (
      record {
        first = (l.digits ++ l.pad) ++ print_extension l.extension;
        rest = print_end crlf;
        whole = o.whole;
        holds = (
          record {
            first = l.digits ++ l.pad;
            rest = print_extension l.extension;
            whole = refl;
            holds = (
              record { first = l.digits; rest = l.pad; whole = refl; holds = (o.is.0.digits, o.is.0.pad) },
              record { item = l.extension; is = o.is.0.extension; whole = refl },
            );
          },
          refl,
        );
      },
      subst (λ (ys : List ℕ). length ys ≤ most_line) (sym o.whole) o.is.1,
    )

digits_decided : (bytes : List ℕ) → Decided (DigitsText bytes)
digits_decided bytes =
    same_decided {P = (0 < length bytes) × ((length bytes ≤ 16) × AllPass is_ascii_hexdigit bytes)} (λ e. (e.0, e.1.0, e.1.1)) (λ e. (e.0, (e.1, e.2)))
    (both_decided (less_decided 0 (length bytes)) (both_decided (most_decided (length bytes) 16) (pass_decided is_ascii_hexdigit bytes)))

line_decided : (bytes : List ℕ) → Decided (One IsShortLine print_chunk_line bytes)
line_decided bytes =
    same_decided (line_of bytes) (of_line bytes)
    (both_decided
    (seq_decided (Seq (Seq DigitsText (AllPass is_ows)) ExtensionText) (λ b. b ≡ print_end crlf)
    (seq_decided (Seq DigitsText (AllPass is_ows)) ExtensionText
    (seq_decided DigitsText (AllPass is_ows)
    digits_decided
    (pass_decided is_ows))
    extension_decided)
    (λ b. text_decided b (print_end crlf)) bytes)
    (most_decided (length bytes) most_line))

-- one text is that of one line
one_line : (bytes : List ℕ) (a b : One IsShortLine print_chunk_line bytes) → a.item ≡ b.item
one_line bytes a b =
    (chunk_line_unique bytes a.item b.item [] [] (a.is.0, a.whole ∙ sym (append-nil (print_chunk_line a.item))) (b.is.0, b.whole ∙ sym (append-nil (print_chunk_line b.item)))).0

-- a line, and what stands behind it, which the line tells
module _ (Q : ChunkLine → List ℕ → Type 0) (decides : (l : ChunkLine) (bytes : List ℕ) → Decided (Q l bytes)) where
  abbrev pub Lined : List ℕ → List ℕ → Type 0
  Lined a b = (o : One IsShortLine print_chunk_line a) × Q o.item b

  lined_by : (a b : List ℕ) → Decided (One IsShortLine print_chunk_line a) → Decided (Lined a b)
  lined_by a b (inl o) = either (decides o.item b) (λ q. inl (o, q)) (λ n. inr (λ x. n (subst (λ l. Q l b) (one_line a x.0 o) x.1)))
  lined_by a b (inr n) = inr (λ x. n x.0)

  pub lined_decided : (bytes : List ℕ) → Decided (Split Lined bytes)
  lined_decided bytes = split_decided Lined (λ a b. lined_by a b (line_decided a)) bytes

-- the bytes of a chunk of this line, with their end
abbrev Data : ChunkLine → List ℕ → Type 0
Data l bytes = Seq (λ piece. (chunk_size l ≡ length piece) × (0 < length piece)) (λ b. b ≡ print_end crlf) bytes

data_decided : (l : ChunkLine) (bytes : List ℕ) → Decided (Data l bytes)
data_decided l bytes =
    seq_decided (λ piece. (chunk_size l ≡ length piece) × (0 < length piece)) (λ b. b ≡ print_end crlf)
    (λ piece. both_decided (number_decided (chunk_size l) (length piece)) (less_decided 0 (length piece)))
    (λ b. text_decided b (print_end crlf)) bytes

chunk_of : (bytes : List ℕ) → Split (Lined Data data_decided) bytes → One IsChunk print_chunk bytes
chunk_of bytes s =
    let line = s.holds.0 in
    let parts = s.holds.1 in
    record {
      item = record { line = line.item; bytes = parts.first };
      is = record { line = line.is; count = parts.holds.0.0; some = parts.holds.0.1 };
      whole = s.whole ∙ joined s.first s.rest (print_chunk_line line.item) (parts.first ++ print_end crlf) line.whole (parts.whole ∙ ap (λ ys. parts.first ++ ys) parts.holds.1);
    }

of_chunk : (bytes : List ℕ) → One IsChunk print_chunk bytes → Split (Lined Data data_decided) bytes
of_chunk bytes o =
    let c = o.item in
    record {
      first = print_chunk_line c.line;
      rest = c.bytes ++ print_end crlf;
      whole = o.whole;
      holds = (record { item = c.line; is = o.is.line; whole = refl }, record { first = c.bytes; rest = print_end crlf; whole = refl; holds = ((o.is.count, o.is.some), refl) });
    }

chunk_decided : (bytes : List ℕ) → Decided (One IsChunk print_chunk bytes)
chunk_decided bytes = same_decided (chunk_of bytes) (of_chunk bytes) (lined_decided Data data_decided bytes)

chunk_some : (c : Chunk) → IsChunk c → 0 < length (print_chunk c)
chunk_some c is = omega (arith, is.some, length-append (print_chunk_line c.line) (c.bytes ++ print_end crlf), length-append c.bytes (print_end crlf))

-- the end of a chunked body
abbrev Ending : ChunkLine → List ℕ → Type 0
Ending l bytes = (chunk_size l ≡ 0) × (bytes ≡ print_end crlf)

ending_decided : (l : ChunkLine) (bytes : List ℕ) → Decided (Ending l bytes)
ending_decided l bytes = both_decided (number_decided (chunk_size l) 0) (text_decided bytes (print_end crlf))

last_of : (bytes : List ℕ) → Split (Lined Ending ending_decided) bytes → IsEnd bytes
last_of bytes s =
    let line = s.holds.0 in
    record {
      line = line.item;
      short = line.is;
      none = s.holds.1.0;
      text_is = s.whole ∙ joined s.first s.rest (print_chunk_line line.item) (print_end crlf) line.whole s.holds.1.1;
    }

of_last : (bytes : List ℕ) → IsEnd bytes → Split (Lined Ending ending_decided) bytes
of_last bytes x = record {
  first = print_chunk_line x.line;
  rest = print_end crlf;
  whole = x.text_is;
  holds = (record { item = x.line; is = x.short; whole = refl }, (x.none, refl));
}

last_decided : (bytes : List ℕ) → Decided (IsEnd bytes)
last_decided bytes = same_decided (last_of bytes) (of_last bytes) (lined_decided Ending ending_decided bytes)

-- a chunked body, and what it holds
abbrev Body : List ℕ → Type 0
Body text = (body : List ℕ) × IsChunked text body

body_of : (text : List ℕ) → Seq (Several IsChunk print_chunk) IsEnd text → Body text
body_of text s = (
  chunks_bytes s.holds.0.items,
  record {
    chunks = s.holds.0.items;
    last = s.rest;
    each = s.holds.0.each;
    is_last = s.holds.1;
    text_is = s.whole ∙ ap (λ x. x ++ s.rest) s.holds.0.whole;
    body_is = refl;
  },
)

of_body : (text : List ℕ) → Body text → Seq (Several IsChunk print_chunk) IsEnd text
of_body text (body, x) = record {
  first = print_chunks x.chunks;
  rest = x.last;
  whole = x.text_is;
  holds = (record { items = x.chunks; each = x.each; whole = refl }, x.is_last);
}

body_decided : (text : List ℕ) → Decided (Body text)
body_decided text =
    same_decided (body_of text) (of_body text)
    (seq_decided (Several IsChunk print_chunk) IsEnd (λ a. several_decided IsChunk print_chunk chunk_some chunk_decided (length a + 1) a (omega arith)) last_decided text)

-- ---- the body that is told so

abbrev Given : Told → List ℕ → Type 0
Given told rest = (body : List ℕ) × Gives told rest body

given_decided : (told : Told) (rest : List ℕ) → Decided (Given told rest)
given_decided Nothing rest = inl ([], refl)
given_decided ToEnd rest = inl (rest, refl)
given_decided (Counted n) rest = either (most_decided n (length rest)) (λ few. inl (take n rest, (few, refl))) (λ m. inr (λ x. m x.1.0))
given_decided Chunks rest =
    same_decided
    (λ s. (s.holds.0, (s.first, s.rest, s.holds.1, s.whole)))
    (λ x. record { first = x.1.0; rest = x.1.1; whole = x.1.3; holds = (x.0, x.1.2) })
    (split_decided (λ text after. Body text) (λ text after. body_decided text) rest)
given_decided Wrong rest = inr (λ x. x.1)

-- ---- a reading

abbrev Read : List ℕ → List ℕ → Type 0
Read method bytes = (result : Result (Response × List ℕ) ResponseFault) × IsRead method bytes result

wrong_body : (method bytes : List ℕ) → (l : Led bytes) → (Given (told_of method (head_of l.tree)) l.rest → ⊥) → HasNoResponseTo method bytes
wrong_body method bytes l none response body x =
    let same = led_unique bytes x.tree l.tree x.rest l.rest x.led l.led in
    none (body, subst (λ (q : List ℕ). Gives (told_of method (head_of l.tree)) q body) same.1 (subst (λ (t : ResponseHead). Gives (told_of method (head_of t)) x.rest body) same.0 x.gives))

with_led : (method bytes : List ℕ) → length bytes ≤ most_body → Led bytes → Read method bytes
with_led method bytes small l =
    either (given_decided (told_of method (head_of l.tree)) l.rest)
    (λ g. (Ok (response_of (head_of l.tree), g.0), (small, record { tree = l.tree; rest = l.rest; led = l.led; response_is = refl; gives = g.1 })))
    (λ n. (Err fault.BadResponse, (small, wrong_body method bytes l n)))

read_all : (method bytes : List ℕ) → Read method bytes
read_all method bytes =
    either (most_decided (length bytes) most_body)
    (λ small. either (led_from (length bytes + 1) bytes bytes (passes_none bytes) (omega arith))
    (with_led method bytes small)
    (λ none. (Err fault.BadResponse, (small, λ response body x. none x.tree x.rest x.led))))
    (λ large. (Err fault.TooLarge, omega (arith, large)))

pub reading : Reading
reading method bytes = (read_all method bytes).0

pub reading_is : IsReading reading
unfolding reading read_all
reading_is method bytes = (read_all method bytes).1
