-- A reader of the grammar gets a request's head and body back.
use Rattle.std.proofs.Common.{◌≡◌, ℕ, ◌<◌, ◌-◌, Bool, true, false, List, [], ◌∷◌, ◌++◌, length, map, reverse, not, refl, sym, ◌∙◌, ap, subst, arith, append_assoc, All, IsTrue, codes, decimal, Result, Ok, Err, IfOk}
use Rattle.std.specs.List.{flat_map, list_all}
use Rattle.std.specs.Char.{is_ascii_digit}
use Rattle.std.proofs.lemmas.Grind.{common_steps}
use Rattle.std.proofs.lemmas.Bool.{and_parts, ltb-true}
use Rattle.std.proofs.lemmas.Bool.Decides.{nat_tests}
use Rattle.std.proofs.lemmas.List.Elements.{All-nil, All-cons, All-head, All-tail, All-filter, All-append, All-weaker}
use Rattle.std.proofs.lemmas.List.{get_or-reverse, length-reverse}
use Rattle.std.proofs.lemmas.List.Sums.{AllPass-from_list_all}
use Rattle.httparse.specs.Ascii.{crlf_bytes}
use Rattle.httparse.specs.Grammar.{RequestHead as Tree, Field as Line, AllPass, IsField, IsRequestHead, ReadsRequest, is_token_byte, is_value_byte, is_ows, skip_ows, print_request, print_field, crlf}
use Rattle.httparse.specs.Spans.{name_and_value}
use Rattle.httparse.proofs.GrammarLemmas.{request_unique}
use Rattle.httparse.proofs.TrimLemmas.{trim_ows_space}
use Rattle.cache_types.specs.Limits.{is_name_byte}
use Rattle.cache_types.specs.declared.calls.Field.{Field}
use Rattle.edge_body.specs.Heads.{Request, is_field, is_field_name, are_fields}
use Rattle.http_text.specs.Fields.{has_name}
use Rattle.http_front.specs.Laws.{line_of, field, IsPlain, ArePlain, parts_of}
use Rattle.http_front.proofs.Lengths.{decimal_digits}
use Rattle.http_front.proofs.ReadBack.{lines_are}
use Rattle.http_front.proofs.StatusLines.{name_is_token}
use Rattle.edge_link.specs.Targets.{or_root, target_of}
use Rattle.edge_link.specs.Requests.{host_of, is_linked, kept_fields, has_length, length_fields, fields_with, sent_fields, lines_of, text_with, request_text}
use Rattle.edge_link.specs.Laws.{IsSendable, IsSentAs}

-- a header that a reader takes back
record IsGood (f : Field) : Type 0 where
  name : is_field_name f.name ≡ true
  plain : IsPlain f.value

pass_all : (P Q : ℕ → Bool) → ((b : ℕ) → P b ≡ true → Q b ≡ true) → (xs : List ℕ) → list_all P xs ≡ true → AllPass Q xs
pass_all P Q so [] x = All-nil (λ b. IsTrue (Q b))
pass_all P Q so (b ∷ xs) x =
    let both = and_parts _ _ x in All-cons (λ c. IsTrue (Q c)) b xs (so b both.0) (pass_all P Q so xs both.1)

line_good : (f : Field) → IsGood f → IsField (line_of f)
line_good f x =
    let both = and_parts _ _ x.name in
    record {
      name = (ltb-true 0 (length f.name) both.0, pass_all is_name_byte is_token_byte name_is_token f.name both.1);
      raw = All-cons (λ b. IsTrue (is_value_byte b)) 32 f.value refl x.plain.bytes;
    }

value_is : (f : Field) → IsGood f → name_and_value (line_of f) ≡ parts_of f
value_is f x = λ i. (f.name, trim_ows_space f.value x.plain.front x.plain.back i)

lines_good : (fs : List Field) → All IsGood fs → All IsField (map line_of fs)
lines_good [] all = All-nil IsField
lines_good (f ∷ fs) all =
    All-cons IsField (line_of f) (map line_of fs) (line_good f (All-head IsGood f fs all)) (lines_good fs (All-tail IsGood f fs all))

values_are : (fs : List Field) → All IsGood fs → map name_and_value (map line_of fs) ≡ map parts_of fs
values_are [] all = refl
values_are (f ∷ fs) all =
    ap (λ v. v ∷ map name_and_value (map line_of fs)) (value_is f (All-head IsGood f fs all))
    ∙ ap (λ vs. parts_of f ∷ vs) (values_are fs (All-tail IsGood f fs all))

given_good : (fs : List Field) → list_all is_field fs ≡ true → ArePlain fs → All IsGood fs
given_good [] x plain = All-nil IsGood
given_good (f ∷ fs) x plain =
    let both = and_parts _ _ x in
    let P : Field → Type 0 = λ (f : Field). IsPlain f.value in
    All-cons IsGood f fs (record { name = (and_parts _ _ both.0).0; plain = All-head P f fs plain }) (given_good fs both.1 (All-tail P f fs plain))

-- digits are plain
digit_is : (b : ℕ) → is_ascii_digit b ≡ true → is_value_byte b ≡ true
digit_is b x = grind (nat_tests, arith, common_steps)

no_blank : (b : ℕ) → is_ascii_digit b ≡ true → is_ows b ≡ false
no_blank b x = grind (nat_tests, arith, common_steps)

no_skip : (xs : List ℕ) → AllPass is_ascii_digit xs → skip_ows xs ≡ xs
no_skip [] all = refl
no_skip (b ∷ xs) all = rw (no_blank b (All-head (λ b. IsTrue (is_ascii_digit b)) b xs all)) refl

turned : (P : ℕ → Type 0) (xs : List ℕ) → All P xs → All P (reverse xs)
turned P xs all k d inside =
    let within : k < length xs = omega (arith, inside, length-reverse xs) in
    subst P (sym (get_or-reverse xs k d within)) (all (length xs - 1 - k) d (omega (arith, within)))

digits_plain : (xs : List ℕ) → AllPass is_ascii_digit xs → IsPlain xs
digits_plain xs all = record {
  bytes = All-weaker (λ b. IsTrue (is_ascii_digit b)) (λ b. IsTrue (is_value_byte b)) digit_is xs all;
  front = no_skip xs all;
  back = no_skip (reverse xs) (turned (λ b. IsTrue (is_ascii_digit b)) xs all);
}

one_good : (f : Field) → IsGood f → All IsGood (f ∷ [])
one_good f x = All-cons IsGood f [] x (All-nil IsGood)

close_good : IsGood (field (codes "connection") (codes "close"))
close_good = record { name = refl; plain = record { bytes = AllPass-from_list_all is_value_byte (codes "close") refl; front = refl; back = refl } }

length_good : (method body : List ℕ) → All IsGood (length_fields method body)
length_good method body =
    let at : (t : Bool) → has_length method body ≡ t → All IsGood (length_fields method body) = elim [
      | true ↦ λ e. rw e (one_good (field (codes "content-length") (decimal (length body)))
          (record { name = refl; plain = digits_plain (decimal (length body)) (decimal_digits (length body)) }))
      | false ↦ λ e. rw e (All-nil IsGood)
    ] in
    at (has_length method body) refl

-- the host's value is a header's, or the authority
host_plain : (fs : List Field) (authority : List ℕ) → ArePlain fs → IsPlain authority → IsPlain (host_of fs authority)
host_plain [] authority all x = x
host_plain (f ∷ fs) authority all x =
    let P : Field → Type 0 = λ (f : Field). IsPlain f.value in
    let at : (t : Bool) → has_name (codes "host") f ≡ t → IsPlain (host_of (f ∷ fs) authority) = elim [
      | true ↦ λ e. rw e (All-head P f fs all)
      | false ↦ λ e. rw e (host_plain fs authority (All-tail P f fs all) x)
    ] in
    at (has_name (codes "host") f) refl

all_good : (head : Request) (body host : List ℕ) → list_all is_field head.fields ≡ true → ArePlain head.fields → IsPlain host
    → All IsGood (fields_with head body host)
all_good head body host x plain host_is =
    let kept : List Field = kept_fields head.fields in
    let told : List Field = length_fields head.method body in
    let close : List Field = field (codes "connection") (codes "close") ∷ [] in
    All-cons IsGood (field (codes "host") host) (kept ++ (told ++ close)) (record { name = refl; plain = host_is })
    (All-append IsGood kept (told ++ close)
    (All-filter (λ (f : Field). not (is_linked f.name)) IsGood head.fields (given_good head.fields x plain))
    (All-append IsGood told close (length_good head.method body) (one_good (field (codes "connection") (codes "close")) close_good)))

-- the head that the text is in the grammar
abbrev tree_of : Request → List ℕ → List ℕ → Tree
tree_of head body host = record {
  blank = [];
  method = head.method;
  target = target_of head.uri;
  minor = 1;
  line_end = crlf;
  fields = map line_of (fields_with head body host);
  last = crlf;
}

pieces_are : (method target lines printed body : List ℕ) → lines ≡ printed
    → (method ++ (codes " " ++ (target ++ (codes " " ++ (codes "HTTP/1.1" ++ crlf_bytes))))) ++ (lines ++ (crlf_bytes ++ body))
    ≡ (method ++ (codes " " ++ (target ++ (codes " " ++ (codes "HTTP/1.1" ++ (crlf_bytes ++ (printed ++ crlf_bytes))))))) ++ body
pieces_are method target lines printed body e =
    let front : List ℕ = codes " " ++ (codes "HTTP/1.1" ++ crlf_bytes) in
    let whole : List ℕ = front ++ (printed ++ crlf_bytes) in
    append_assoc method (codes " " ++ (target ++ front)) (lines ++ (crlf_bytes ++ body))
    ∙ ap (λ (t : List ℕ). method ++ (codes " " ++ t))
    (append_assoc target front (lines ++ (crlf_bytes ++ body))
    ∙ (ap (λ (t : List ℕ). target ++ (front ++ t)) (ap (λ (t : List ℕ). t ++ (crlf_bytes ++ body)) e ∙ sym (append_assoc printed crlf_bytes body))
    ∙ sym (append_assoc target whole body)))
    ∙ sym (append_assoc method (codes " " ++ (target ++ whole)) body)

printed_is : (method target : List ℕ) (lines : List Line)
    → print_request (record { blank = []; method = method; target = target; minor = 1; line_end = crlf; fields = lines; last = crlf })
    ≡ method ++ (codes " " ++ (target ++ (codes " " ++ (codes "HTTP/1.1" ++ (crlf_bytes ++ (flat_map print_field lines ++ crlf_bytes))))))
unfolding print_request
printed_is method target lines =
    let first : List ℕ = method ++ (32 ∷ target) in
    let version : List ℕ = codes " " ++ codes "HTTP/1.1" in
    let section : List ℕ = flat_map print_field lines ++ crlf_bytes in
    ap (λ (t : List ℕ). t ++ section) (append_assoc first version crlf_bytes)
    ∙ (append_assoc first (version ++ crlf_bytes) section ∙ append_assoc method (32 ∷ target) ((version ++ crlf_bytes) ++ section))

text_is : (head : Request) (body host : List ℕ) → text_with head body host ≡ print_request (tree_of head body host) ++ body
text_is head body host =
    let fs : List Field = fields_with head body host in
    pieces_are head.method (target_of head.uri) (lines_of fs) (flat_map print_field (map line_of fs)) body (lines_are fs)
    ∙ ap (λ (t : List ℕ). t ++ body) (sym (printed_is head.method (target_of head.uri) (map line_of fs)))

some_target : (bytes : List ℕ) → 0 < length (or_root bytes)
some_target [] = omega arith
some_target (b ∷ bytes) = omega arith

-- the request is read back
sent_back : (head : Request) (body authority : List ℕ) → are_fields head.fields ≡ true → IsSendable head authority
    → IsSentAs head.method (target_of head.uri) (sent_fields head body authority) body (request_text head body authority)
sent_back head body authority fields x =
    let host = host_of head.fields authority in
    let good = all_good head body host (and_parts _ _ fields).1 x.fields (host_plain head.fields authority x.fields x.host) in
    let tree = tree_of head body host in
    let is_head : IsRequestHead tree = record {
      method = x.method;
      target = (some_target _, x.target);
      target_text = x.text;
      minor = omega arith;
      fields = lines_good (fields_with head body host) good;
    } in
    let reads : ReadsRequest (request_text head body authority) tree body = (is_head, text_is head body host) in
    record {
      tree = tree;
      reads = reads;
      only = λ other rest y. request_unique (request_text head body authority) other tree rest body y reads;
      method_is = refl;
      target_is = refl;
      version_is = refl;
      fields_are = values_are (fields_with head body host) good;
    }

pub sent_told : {E : Type 0} (r : Result (List ℕ) E) (head : Request) (body authority : List ℕ) → are_fields head.fields ≡ true
    → IfOk r (λ bytes. bytes ≡ request_text head body authority)
    → IfOk r (λ bytes. IsSendable head authority → IsSentAs head.method (target_of head.uri) (sent_fields head body authority) body bytes)
sent_told (Ok bytes) head body authority fields e = λ x.
    subst (IsSentAs head.method (target_of head.uri) (sent_fields head body authority) body) (sym e) (sent_back head body authority fields x)
sent_told (Err fault) head body authority fields e = tt
