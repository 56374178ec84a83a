-- A reader of the grammar gets an answer's head back.
use Rattle.std.proofs.Common.{◌≡◌, ℕ, ◌<◌, ◌-◌, Bool, true, List, [], ◌∷◌, ◌++◌, length, map, filter, reverse, not, refl, sym, ◌∙◌, ap, subst, arith, All, IsTrue, codes, decimal, nat_lt, false, Option, Some, None, Result, Ok, Err, IfOk}
use Rattle.std.specs.List.{list_all}
use Rattle.std.specs.Char.{is_ascii_digit}
use Rattle.std.proofs.lemmas.Grind.{common_steps}
use Rattle.std.proofs.lemmas.Bool.{and_parts, ltb-true}
use Rattle.std.proofs.lemmas.Bool.Decides.{nat_tests}
use Rattle.std.proofs.lemmas.List.Elements.{All-nil, All-cons, All-head, All-tail, All-filter, All-append, All-weaker}
use Rattle.std.proofs.lemmas.List.{get_or-reverse, length-reverse}
use Rattle.std.proofs.lemmas.List.Sums.{AllPass-from_list_all}
use Rattle.httparse.specs.Grammar.{AllPass, IsField, IsResponseHead, ReadsResponse, is_token_byte, is_value_byte, is_ows, skip_ows}
use Rattle.httparse.specs.Spans.{name_and_value}
use Rattle.httparse.proofs.GrammarLemmas.{response_unique}
use Rattle.httparse.proofs.TrimLemmas.{trim_ows_space}
use Rattle.cache_types.specs.Limits.{is_name_byte}
use Rattle.cache_types.specs.declared.calls.Field.{Field}
use Rattle.edge_body.specs.Heads.{Request, Response, is_field, is_field_name, are_fields, is_status}
use Rattle.http_front.specs.Answers.{is_own, has_no_body, answer_text}
use Rattle.http_front.specs.Laws.{line_of, field, streamed_fields, told_fields, body_fields, answer_fields, tree_of, IsPlain, ArePlain, parts_of, IsReadAs}
use Rattle.http_front.proofs.Lengths.{decimal_digits}
use Rattle.http_front.proofs.ReadBack.{answer_is}
use Rattle.http_front.proofs.StatusLines.{name_is_token, code_is_digits, code_back, phrase_is, status_small}

-- a header that a reader takes back
record IsGood (f : Field) : Type 0 where
  name : is_field_name f.name ≡ true
  plain : IsPlain f.value

pass_all : (P Q : ℕ → Bool) → ((b : ℕ) → P b ≡ true → Q b ≡ true) → (xs : List ℕ) → list_all P xs ≡ true → AllPass Q xs
pass_all P Q so [] x = All-nil (λ b. IsTrue (Q b))
pass_all P Q so (b ∷ xs) x =
    let both = and_parts _ _ x in All-cons (λ c. IsTrue (Q c)) b xs (so b both.0) (pass_all P Q so xs both.1)

line_is : (f : Field) → IsGood f → IsField (line_of f)
line_is f x =
    let both = and_parts _ _ x.name in
    record {
      name = (ltb-true 0 (length f.name) both.0, pass_all is_name_byte is_token_byte name_is_token f.name both.1);
      raw = All-cons (λ b. IsTrue (is_value_byte b)) 32 f.value refl x.plain.bytes;
    }

value_is : (f : Field) → IsGood f → name_and_value (line_of f) ≡ parts_of f
value_is f x = λ i. (f.name, trim_ows_space f.value x.plain.front x.plain.back i)

lines_are : (fs : List Field) → All IsGood fs → All IsField (map line_of fs)
lines_are [] all = All-nil IsField
lines_are (f ∷ fs) all =
    All-cons IsField (line_of f) (map line_of fs) (line_is f (All-head IsGood f fs all)) (lines_are fs (All-tail IsGood f fs all))

values_are : (fs : List Field) → All IsGood fs → map name_and_value (map line_of fs) ≡ map parts_of fs
values_are [] all = refl
values_are (f ∷ fs) all =
    ap (λ v. v ∷ map name_and_value (map line_of fs)) (value_is f (All-head IsGood f fs all))
    ∙ ap (λ vs. parts_of f ∷ vs) (values_are fs (All-tail IsGood f fs all))

given_good : (fs : List Field) → list_all is_field fs ≡ true → ArePlain fs → All IsGood fs
given_good [] x plain = All-nil IsGood
given_good (f ∷ fs) x plain =
    let both = and_parts _ _ x in
    let P : Field → Type 0 = λ (f : Field). IsPlain f.value in
    All-cons IsGood f fs (record { name = (and_parts _ _ both.0).0; plain = All-head P f fs plain }) (given_good fs both.1 (All-tail P f fs plain))

-- digits are plain
digit_is : (b : ℕ) → is_ascii_digit b ≡ true → is_value_byte b ≡ true
digit_is b x = grind (nat_tests, arith, common_steps)

no_blank : (b : ℕ) → is_ascii_digit b ≡ true → is_ows b ≡ false
no_blank b x = grind (nat_tests, arith, common_steps)

no_skip : (xs : List ℕ) → AllPass is_ascii_digit xs → skip_ows xs ≡ xs
no_skip [] all = refl
no_skip (b ∷ xs) all = rw (no_blank b (All-head (λ b. IsTrue (is_ascii_digit b)) b xs all)) refl

turned : (P : ℕ → Type 0) (xs : List ℕ) → All P xs → All P (reverse xs)
turned P xs all k d inside =
    let within : k < length xs = omega (arith, inside, length-reverse xs) in
    subst P (sym (get_or-reverse xs k d within)) (all (length xs - 1 - k) d (omega (arith, within)))

digits_plain : (xs : List ℕ) → AllPass is_ascii_digit xs → IsPlain xs
digits_plain xs all = record {
  bytes = All-weaker (λ b. IsTrue (is_ascii_digit b)) (λ b. IsTrue (is_value_byte b)) digit_is xs all;
  front = no_skip xs all;
  back = no_skip (reverse xs) (turned (λ b. IsTrue (is_ascii_digit b)) xs all);
}

-- the host's own headers
word_plain : (value : List ℕ) → list_all is_value_byte value ≡ true → skip_ows value ≡ value → skip_ows (reverse value) ≡ reverse value → IsPlain value
word_plain value x f b = record { bytes = AllPass-from_list_all is_value_byte value x; front = f; back = b }

one_good : (f : Field) → IsGood f → All IsGood (f ∷ [])
one_good f x = All-cons IsGood f [] x (All-nil IsGood)

close_good : IsGood (field (codes "connection") (codes "close"))
close_good = record { name = refl; plain = word_plain (codes "close") refl refl refl }

chunked_good : IsGood (field (codes "transfer-encoding") (codes "chunked"))
chunked_good = record { name = refl; plain = word_plain (codes "chunked") refl refl refl }

told_good : (version : ℕ) (told : Option ℕ) → All IsGood (told_fields version told)
told_good version (Some n) =
    one_good (field (codes "content-length") (decimal n)) (record { name = refl; plain = digits_plain (decimal n) (decimal_digits n) })
told_good version None =
    let at : (t : Bool) → nat_lt version 2 ≡ t → All IsGood (streamed_fields version) = elim [
      | true ↦ λ e. rw e (All-nil IsGood)
      | false ↦ λ e. rw e (one_good (field (codes "transfer-encoding") (codes "chunked")) chunked_good)
    ] in
    at (nat_lt version 2) refl

body_good : (method : List ℕ) (status version : ℕ) (told : Option ℕ) → All IsGood (body_fields method status version told)
body_good method status version told =
    let at : (t : Bool) → has_no_body method status ≡ t → All IsGood (body_fields method status version told) = elim [
      | true ↦ λ e. rw e (All-nil IsGood)
      | false ↦ λ e. rw e (told_good version told)
    ] in
    at (has_no_body method status) refl

-- all headers of an answer
all_good : (request : Request) (response : Response) (told : Option ℕ) → list_all is_field response.fields ≡ true → ArePlain response.fields
    → All IsGood (answer_fields request response told)
all_good request response told x plain =
    let kept : List Field = filter (λ (f : Field). not (is_own f.name)) response.fields in
    let body : List Field = body_fields request.method response.status request.version told in
    let close : List Field = field (codes "connection") (codes "close") ∷ [] in
    All-append IsGood kept (body ++ close)
    (All-filter (λ (f : Field). not (is_own f.name)) IsGood response.fields (given_good response.fields x plain))
    (All-append IsGood body close (body_good request.method response.status request.version told)
    (one_good (field (codes "connection") (codes "close")) close_good))

-- the head is read back
pub head_back : (request : Request) (response : Response) (told : Option ℕ) → is_status response.status ≡ true → are_fields response.fields ≡ true
    → ArePlain response.fields → IsReadAs response.status (answer_fields request response told) (answer_text request response told)
head_back request response told status fields plain =
    let good = all_good request response told (and_parts _ _ fields).1 plain in
    let small = status_small response.status status in
    let tree = tree_of request response told in
    let is_head : IsResponseHead tree = record {
      minor = omega arith;
      digits = (refl, code_is_digits response.status small);
      reason = phrase_is response.status small;
      fields = lines_are (answer_fields request response told) good;
    } in
    let reads : (rest : List ℕ) → ReadsResponse (answer_text request response told ++ rest) tree rest =
    λ rest. (is_head, ap (λ (t : List ℕ). t ++ rest) (answer_is request response told)) in
    record {
      tree = tree;
      reads = reads;
      only = λ other left rest x. response_unique (answer_text request response told ++ rest) other tree left rest x (reads rest);
      status_is = code_back response.status small;
      fields_are = values_are (answer_fields request response told) good;
    }

pub head_told : {E : Type 0} (request : Request) (response : Response) (told : Option ℕ) (r : Result (List ℕ) E) → is_status response.status ≡ true
    → are_fields response.fields ≡ true → IfOk r (λ head. head ≡ answer_text request response told)
    → IfOk r (λ head. ArePlain response.fields → IsReadAs response.status (answer_fields request response told) head)
head_told request response told (Ok head) status fields e = λ plain.
    subst (IsReadAs response.status (answer_fields request response told)) (sym e) (head_back request response told status fields plain)
head_told request response told (Err fault) status fields e = tt
