-- The framing that a head of the host's own tells is the one by which it says how the body comes.
use Rattle.std.proofs.Common.{◌≡◌, ℕ, zero, suc, ◌<◌, ◌==◌, ◌&&◌, ◌||◌, Bool, true, false, IsTrue, List, [], ◌∷◌, ◌++◌, length, filter, not, refl, sym, ◌∙◌, ap, arith, append_assoc, All, codes, decimal, nat_lt, nat_le, slice_range, bytes_eq, if◌then◌else◌, unwrap_or, Option, Some, None}
use Rattle.std.specs.List.{list_all, list_any, slice_split}
use Rattle.std.specs.Char.{is_ascii_digit}
use Rattle.std.proofs.lemmas.Bool.{and_parts, eqb-true, le-leb}
use Rattle.std.proofs.lemmas.Bool.Decides.{Decides-below_and}
use Rattle.std.proofs.lemmas.Slice.Eq.{bytes_eq-Decides}
use Rattle.std.proofs.lemmas.List.Concat.{flat_map-cons}
use Rattle.std.proofs.lemmas.List.Folds.{list_any-append}
use Rattle.std.proofs.lemmas.List.Splits.{slice_split_at}
use Rattle.std.proofs.lemmas.List.Elements.{All-nil, All-cons, All-head, All-tail, All-filter, All-append, All-weaker, filter_passes}
use Rattle.httparse.specs.Ascii.{crlf_bytes}
use Rattle.httparse.specs.Grammar as grammar
use Rattle.http.specs.StatusCode.{code_digits, reason_phrase}
use Rattle.cache_types.specs.Limits.{is_name_byte}
use Rattle.cache_types.specs.declared.calls.Field.{Field}
use Rattle.edge_body.specs.Heads.{Request, Response, is_field, is_value_byte, are_fields, is_status}
use Rattle.http_text.specs.Lines.{is_line_feed}
use Rattle.http_front.specs.declared.answers.Framing.{Framing}
use Rattle.http_front.specs.declared.answers.Framing.TheVariants.{Plain, Chunked, Empty}
use Rattle.http_front.specs.Answers.{header_line, is_own, has_no_body, answer_text}
use Rattle.http_front.specs.Frames.{has_empty_status, is_chunked_line, has_chunked_line, framing_of}
use Rattle.http_front.specs.Laws.{field, streamed_fields, told_fields, body_fields, answer_fields, told_framing, own_framing}
use Rattle.http_front.proofs.Lengths.{decimal_digits}
use Rattle.http_front.proofs.ReadBack.{lines, section_lines}
use Rattle.http_front.proofs.StatusLines.{code_is_digits, phrase_is, status_small}

-- what isn't a byte of the class
quiet : (P : ℕ → Bool) (c : ℕ) → P c ≡ false → (b : ℕ) → P b ≡ true → (b == c) ≡ false
quiet P c none b x =
    let at : (t : Bool) → (b == c) ≡ t → (b == c) ≡ false = elim [
      | true ↦ λ e. cc (sym none ∙ ap P (sym (eqb-true b c e)) ∙ x)
      | false ↦ λ e. e
    ] in
    at (b == c) refl

quiet_all : (P : ℕ → Bool) (c : ℕ) → P c ≡ false → (xs : List ℕ) → list_all P xs ≡ true → All (λ b. (b == c) ≡ false) xs
quiet_all P c none [] x = All-nil (λ b. (b == c) ≡ false)
quiet_all P c none (b ∷ xs) x =
    let both = and_parts _ _ x in
    All-cons (λ b. (b == c) ≡ false) b xs (quiet P c none b both.0) (quiet_all P c none xs both.1)

quiet_pass : (P : ℕ → Bool) (c : ℕ) → P c ≡ false → (xs : List ℕ) → grammar.AllPass P xs → All (λ b. (b == c) ≡ false) xs
quiet_pass P c none xs all = All-weaker (λ b. IsTrue (P b)) (λ b. (b == c) ≡ false) (λ b x. quiet P c none b x) xs all

-- a line without a line feed in it, and a header without one in its parts
abbrev NoFeed : List ℕ → Type 0
NoFeed xs = All (λ b. is_line_feed b ≡ false) xs

record IsLine (f : Field) : Type 0 where
  name : NoFeed f.name
  value : NoFeed f.value

first_line : (p : List ℕ → Bool) (line rest : List ℕ) → NoFeed line
    → list_any p (slice_split is_line_feed (line ++ 10 ∷ rest)) ≡ (p line || list_any p (slice_split is_line_feed rest))
first_line p line rest none = ap (list_any p) (slice_split_at is_line_feed line 10 rest none refl)

-- the text of a header up to its line feed
abbrev text_of : Field → List ℕ
text_of f = f.name ++ (codes ": " ++ (f.value ++ 13 ∷ []))

abbrev is_chunked_field : Field → Bool
is_chunked_field f = is_chunked_line (text_of f)

no_feed : (f : Field) → IsLine f → NoFeed (text_of f)
no_feed f x =
    let P : ℕ → Type 0 = λ b. is_line_feed b ≡ false in
    All-append P f.name (codes ": " ++ (f.value ++ 13 ∷ [])) x.name
    (All-cons P 58 (32 ∷ (f.value ++ 13 ∷ [])) refl
    (All-cons P 32 (f.value ++ 13 ∷ []) refl
    (All-append P f.value (13 ∷ []) x.value (All-cons P 13 [] refl (All-nil P)))))

line_is : (f : Field) (rest : List ℕ) → header_line f.name f.value ++ rest ≡ text_of f ++ 10 ∷ rest
line_is f rest =
    append_assoc f.name (codes ": " ++ (f.value ++ crlf_bytes)) rest
    ∙ ap (λ (t : List ℕ). f.name ++ (codes ": " ++ t)) (append_assoc f.value crlf_bytes rest)
    ∙ sym (append_assoc f.name (codes ": " ++ (f.value ++ 13 ∷ [])) (10 ∷ rest)
    ∙ ap (λ (t : List ℕ). f.name ++ (codes ": " ++ t)) (append_assoc f.value (13 ∷ []) (10 ∷ rest)))

in_lines : (fs : List Field) → All IsLine fs → list_any is_chunked_line (slice_split is_line_feed (lines fs ++ crlf_bytes)) ≡ list_any is_chunked_field fs
in_lines [] all = refl
in_lines (f ∷ fs) all =
    let text : lines (f ∷ fs) ++ crlf_bytes ≡ text_of f ++ 10 ∷ (lines fs ++ crlf_bytes) =
    ap (λ (t : List ℕ). t ++ crlf_bytes) (flat_map-cons (λ (f : Field). header_line f.name f.value) f fs)
    ∙ append_assoc (header_line f.name f.value) (lines fs) crlf_bytes
    ∙ line_is f (lines fs ++ crlf_bytes) in
    ap (λ (t : List ℕ). list_any is_chunked_line (slice_split is_line_feed t)) text
    ∙ first_line is_chunked_line (text_of f) (lines fs ++ crlf_bytes) (no_feed f (All-head IsLine f fs all))
    ∙ ap (λ (b : Bool). is_chunked_field f || b) (in_lines fs (All-tail IsLine f fs all))

-- a header of the guest's isn't that line, since its name is another
first_part : List (List ℕ) → List ℕ
first_part [] = []
first_part (x ∷ xs) = x

name_is : (name rest : List ℕ) → All (λ b. (b == 58) ≡ false) name → name ++ 58 ∷ rest ≡ codes "transfer-encoding: chunked\r" → name ≡ codes "transfer-encoding"
unfolding first_part
name_is name rest none e =
    ap first_part (sym (slice_split_at (λ b. b == 58) name 58 rest none refl) ∙ ap (slice_split (λ b. b == 58)) e)

not_chunked : (f : Field) → All (λ b. (b == 58) ≡ false) f.name → is_own f.name ≡ false → is_chunked_field f ≡ false
not_chunked f none other =
    let at : (t : Bool) → is_chunked_field f ≡ t → is_chunked_field f ≡ false = elim [
      | true ↦ λ e.
          let same = name_is f.name (32 ∷ (f.value ++ 13 ∷ [])) none ((bytes_eq-Decides (text_of f) (codes "transfer-encoding: chunked\r")).0 e) in
          cc (sym other ∙ ap is_own same)
      | false ↦ λ e. e
    ] in
    at (is_chunked_field f) refl

-- what the guest's headers are
record IsGuests (f : Field) : Type 0 where
  line : IsLine f
  colon : All (λ b. (b == 58) ≡ false) f.name

guests_is : (f : Field) → is_field f ≡ true → IsGuests f
guests_is f x =
    let both = and_parts _ _ x in
    let name = (and_parts _ _ both.0).1 in
    record {
      line = record { name = quiet_all is_name_byte 10 refl f.name name; value = quiet_all is_value_byte 10 refl f.value both.1 };
      colon = quiet_all is_name_byte 58 refl f.name name;
    }

guests_are : (fs : List Field) → list_all is_field fs ≡ true → All IsGuests fs
guests_are [] x = All-nil IsGuests
guests_are (f ∷ fs) x = let both = and_parts _ _ x in All-cons IsGuests f fs (guests_is f both.0) (guests_are fs both.1)

none_chunked : (fs : List Field) → All IsGuests fs → All (λ (f : Field). not (is_own f.name) ≡ true) fs → list_any is_chunked_field fs ≡ false
none_chunked [] all others = refl
none_chunked (f ∷ fs) all others =
    let flip : (b : Bool) → not b ≡ true → b ≡ false = elim [ true ↦ λ e. cc e | false ↦ λ e. refl ] in
    let one = not_chunked f (All-head IsGuests f fs all).colon
    (flip (is_own f.name) (All-head (λ (f : Field). not (is_own f.name) ≡ true) f fs others)) in
    let more = none_chunked fs (All-tail IsGuests f fs all) (All-tail (λ (f : Field). not (is_own f.name) ≡ true) f fs others) in
    rw one more

-- the header that tells how the body comes is that line exactly where it says so
digits_quiet : (n : ℕ) → NoFeed (decimal n)
digits_quiet n = quiet_pass is_ascii_digit 10 refl (decimal n) (decimal_digits n)

word : (xs : List ℕ) → list_all (λ b. not (b == 10)) xs ≡ true → NoFeed xs
word xs x = quiet_all (λ b. not (b == 10)) 10 refl xs x

is_told_chunked : List ℕ → ℕ → ℕ → Option ℕ → Bool
is_told_chunked method status version told = list_any is_chunked_field (body_fields method status version told)

told_lines : (version : ℕ) (told : Option ℕ) → All IsLine (told_fields version told)
told_lines version (Some n) =
    All-cons IsLine (field (codes "content-length") (decimal n)) [] (record { name = word (codes "content-length") refl; value = digits_quiet n }) (All-nil IsLine)
told_lines version None =
    let at : (t : Bool) → nat_lt version 2 ≡ t → All IsLine (streamed_fields version) = elim [
      | true ↦ λ e. rw e (All-nil IsLine)
      | false ↦ λ e. rw e (All-cons IsLine (field (codes "transfer-encoding") (codes "chunked")) []
          (record { name = word (codes "transfer-encoding") refl; value = word (codes "chunked") refl }) (All-nil IsLine))
    ] in
    at (nat_lt version 2) refl

body_lines : (method : List ℕ) (status version : ℕ) (told : Option ℕ) → All IsLine (body_fields method status version told)
body_lines method status version told =
    let at : (t : Bool) → has_no_body method status ≡ t → All IsLine (body_fields method status version told) = elim [
      | true ↦ λ e. rw e (All-nil IsLine)
      | false ↦ λ e. rw e (told_lines version told)
    ] in
    at (has_no_body method status) refl

or_none : (b : Bool) → (b || false) ≡ b
or_none true = refl
or_none false = refl

-- the text of a head by its lines
start_of : Response → List ℕ
start_of response = codes "HTTP/1.1 " ++ (code_digits response.status ++ (codes " " ++ (unwrap_or (reason_phrase response.status) [] ++ 13 ∷ [])))

text_is : (request : Request) (response : Response) (told : Option ℕ)
    → answer_text request response told ≡ start_of response ++ 10 ∷ (lines (answer_fields request response told) ++ crlf_bytes)
unfolding start_of
text_is request response told =
    let phrase = unwrap_or (reason_phrase response.status) [] in
    let rest : List ℕ = lines (answer_fields request response told) ++ crlf_bytes in
    let front : List ℕ → List ℕ = λ t. codes "HTTP/1.1 " ++ (code_digits response.status ++ (codes " " ++ t)) in
    ap front (ap (λ (t : List ℕ). phrase ++ (crlf_bytes ++ t)) (section_lines request response told)
    ∙ sym (append_assoc phrase (13 ∷ []) (10 ∷ rest)))

start_quiet : (response : Response) → response.status < 1000 → NoFeed (start_of response)
unfolding start_of
start_quiet response small =
    let P : ℕ → Type 0 = λ b. is_line_feed b ≡ false in
    let phrase = unwrap_or (reason_phrase response.status) [] in
    All-append P (codes "HTTP/1.1 ") (code_digits response.status ++ (codes " " ++ (phrase ++ 13 ∷ []))) (word (codes "HTTP/1.1 ") refl)
    (All-append P (code_digits response.status) (codes " " ++ (phrase ++ 13 ∷ []))
    (quiet_pass is_ascii_digit 10 refl (code_digits response.status) (code_is_digits response.status small))
    (All-cons P 32 (phrase ++ 13 ∷ []) refl
    (All-append P phrase (13 ∷ []) (quiet_pass grammar.is_value_byte 10 refl phrase (phrase_is response.status small))
    (All-cons P 13 [] refl (All-nil P)))))

start_other : (response : Response) → is_chunked_line (start_of response) ≡ false
unfolding start_of
start_other response = refl

in_fields : (request : Request) (response : Response) (told : Option ℕ) → list_all is_field response.fields ≡ true
    → list_any is_chunked_field (answer_fields request response told) ≡ list_any is_chunked_field (body_fields request.method response.status request.version told)
in_fields request response told x =
    let own : Field → Bool = λ (f : Field). not (is_own f.name) in
    let kept : List Field = filter own response.fields in
    let body : List Field = body_fields request.method response.status request.version told in
    let close : List Field = field (codes "connection") (codes "close") ∷ [] in
    let none : list_any is_chunked_field kept ≡ false =
    none_chunked kept (All-filter own IsGuests response.fields (guests_are response.fields x)) (filter_passes own response.fields) in
    list_any-append is_chunked_field kept (body ++ close)
    ∙ ap (λ (b : Bool). b || list_any is_chunked_field (body ++ close)) none
    ∙ list_any-append is_chunked_field body close
    ∙ or_none (list_any is_chunked_field body)

fields_lines : (request : Request) (response : Response) (told : Option ℕ) → list_all is_field response.fields ≡ true
    → All IsLine (answer_fields request response told)
fields_lines request response told x =
    let own : Field → Bool = λ (f : Field). not (is_own f.name) in
    let kept : List Field = filter own response.fields in
    let body : List Field = body_fields request.method response.status request.version told in
    let close : List Field = field (codes "connection") (codes "close") ∷ [] in
    All-append IsLine kept (body ++ close)
    (All-weaker IsGuests IsLine (λ f y. y.line) kept (All-filter own IsGuests response.fields (guests_are response.fields x)))
    (All-append IsLine body close (body_lines request.method response.status request.version told)
    (All-cons IsLine (field (codes "connection") (codes "close")) []
    (record { name = word (codes "connection") refl; value = word (codes "close") refl }) (All-nil IsLine)))

head_has : (request : Request) (response : Response) (told : Option ℕ) → response.status < 1000 → list_all is_field response.fields ≡ true
    → has_chunked_line (answer_text request response told)
    ≡ list_any is_chunked_field (body_fields request.method response.status request.version told)
head_has request response told small x =
    let rest : List ℕ = lines (answer_fields request response told) ++ crlf_bytes in
    ap has_chunked_line (text_is request response told)
    ∙ first_line is_chunked_line (start_of response) rest (start_quiet response small)
    ∙ ap (λ (b : Bool). b || list_any is_chunked_line (slice_split is_line_feed rest)) (start_other response)
    ∙ in_lines (answer_fields request response told) (fields_lines request response told x)
    ∙ in_fields request response told x

-- the status that the bytes 9 to 11 tell
same : Bool → Bool → Bool
same true b = b
same false b = not b

same_is : (a b : Bool) → same a b ≡ true → a ≡ b
unfolding same
same_is true b e = sym e
same_is false true e = cc e
same_is false false e = refl

abbrev tells_none : List ℕ → Bool
tells_none digits = bytes_eq digits (codes "204") || bytes_eq digits (codes "304")

abbrev codes_tell : ℕ → Bool
codes_tell n = same (tells_none (code_digits n)) (n == 204 || n == 304)

abbrev all_tell : ℕ → Bool
all_tell zero = true
all_tell (suc n) = codes_tell n && all_tell n

code_tells : (n : ℕ) → n < 1000 → tells_none (code_digits n) ≡ (n == 204 || n == 304)
unfolding same
code_tells n small =
    same_is (tells_none (code_digits n)) (n == 204 || n == 304)
    ((Decides-below_and codes_tell (λ k. codes_tell k ≡ true) all_tell (λ k. (λ x. x, λ x. x)) refl (λ _. refl) 1000).0 refl n small)

status_told : (request : Request) (response : Response) (told : Option ℕ) → response.status < 1000
    → has_empty_status (answer_text request response told) ≡ (response.status == 204 || response.status == 304)
status_told request response told small =
    let long : nat_le 12 (length (answer_text request response told)) ≡ true = le-leb 12 (length (answer_text request response told)) (omega arith) in
    ap (λ (b : Bool). b && tells_none (slice_range (answer_text request response told) 9 12)) long
    ∙ code_tells response.status small

told_chunked : (version : ℕ) (told : Option ℕ)
    → (if list_any is_chunked_field (told_fields version told) then Chunked else Plain) ≡ told_framing version told
told_chunked version (Some n) = refl
told_chunked version None =
    let at : (t : Bool) → nat_lt version 2 ≡ t → (if list_any is_chunked_field (streamed_fields version) then Chunked else Plain) ≡ told_framing version None = elim [
      | true ↦ λ e. rw e refl
      | false ↦ λ e. rw e refl
    ] in
    at (nat_lt version 2) refl

-- the framing of a head of the host's own
pub framing_back : (request : Request) (response : Response) (told : Option ℕ) → is_status response.status ≡ true → are_fields response.fields ≡ true
    → framing_of request.method (answer_text request response told) ≡ own_framing request.method response.status request.version told
framing_back request response told status fields =
    let small = status_small response.status status in
    let head = head_has request response told small (and_parts _ _ fields).1 in
    let by_body : Bool → Bool → Framing = λ none chunked. if none then Empty else if chunked then Chunked else Plain in
    let tests : framing_of request.method (answer_text request response told)
    ≡ by_body (has_no_body request.method response.status) (list_any is_chunked_field (body_fields request.method response.status request.version told)) =
    ap (λ (b : Bool). by_body (bytes_eq request.method (codes "HEAD") || b) (has_chunked_line (answer_text request response told)))
    (status_told request response told small)
    ∙ ap (by_body (has_no_body request.method response.status)) head in
    let at : (t : Bool) → has_no_body request.method response.status ≡ t
    → by_body (has_no_body request.method response.status) (list_any is_chunked_field (body_fields request.method response.status request.version told))
    ≡ own_framing request.method response.status request.version told = elim [
      | true ↦ λ e. rw e refl
      | false ↦ λ e. rw e (told_chunked request.version told)
    ] in
    tests ∙ at (has_no_body request.method response.status) refl
