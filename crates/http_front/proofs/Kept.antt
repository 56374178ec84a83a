-- What the parser accepts keeps the rules of heads.
use Rattle.std.proofs.Common.{◌≡◌, ℕ, ◌≤◌, ◌==◌, Bool, true, false, IsTrue, List, [], ◌∷◌, ◌++◌, length, map, refl, sym, ◌∙◌, ap, arith, All, codes, unwrap_or}
use Rattle.std.specs.List.{list_any, list_all}
use Rattle.std.specs.Char.{to_ascii_lowercase, is_ascii_alphanumeric}
use Rattle.std.proofs.lemmas.Grind.{common_steps}
use Rattle.std.proofs.lemmas.Bool.{eqb-true, le-leb, lt-ltb, and_parts, and_from}
use Rattle.std.proofs.lemmas.Bool.Decides.{nat_tests}
use Rattle.std.proofs.lemmas.List.{length-map}
use Rattle.std.proofs.lemmas.List.Elements.{All-head, All-tail}
use Rattle.std.proofs.lemmas.List.Folds.{list_all-append, list_all-map}
use Rattle.httparse.specs.Grammar as grammar
use Rattle.httparse.specs.Spans.{name_and_value}
use Rattle.httparse.proofs.TrimLemmas.{AllPass-trim_ows}
use Rattle.cache_types.specs.Limits.{is_name_byte}
use Rattle.cache_types.specs.declared.calls.Field.{Field}
use Rattle.edge_body.specs.Heads.{is_field_name, is_value_byte, is_field, are_fields, is_uri, is_uri_byte}
use Rattle.http_text.specs.Fields.{header_of, headers_of, first_of, has_name}
use Rattle.http_front.specs.Heads.{head_of, uri_of, has_scheme, authority_of}

-- what holds of each mark holds of a byte that is one
any_mark : (marks : List ℕ) (P : ℕ → Bool) (b : ℕ) → list_any (λ c. c == b) marks ≡ true → list_all P marks ≡ true → P b ≡ true
any_mark [] P b x y = cc x
any_mark (c ∷ marks) P b x y =
    let at : (t : Bool) → (c == b) ≡ t → (u : Bool) → P c ≡ u → P b ≡ true = elim [
      | true ↦ λ e. elim [ true ↦ λ f. ap P (sym (eqb-true c b e)) ∙ f | false ↦ λ f. cc (rw f at y) ]
      | false ↦ λ e. elim [ true ↦ λ f. any_mark marks P b (rw e at x) (rw f at y) | false ↦ λ f. cc (rw f at y) ]
    ] in
    at (c == b) refl (P c) refl

lower_is_name : (b : ℕ) → grammar.is_token_byte b ≡ true → is_name_byte (to_ascii_lowercase b) ≡ true
unfolding grammar.is_token_byte
lower_is_name b token =
    let alone : (t : Bool) → is_ascii_alphanumeric b ≡ t → is_name_byte (to_ascii_lowercase b) ≡ true = elim [
      | true ↦ λ e. grind (nat_tests, arith, common_steps)
      | false ↦ λ e. any_mark (codes "!#$%&'*+-.^_`|~") (λ c. is_name_byte (to_ascii_lowercase c)) b (rw e at token) refl
    ] in
    alone (is_ascii_alphanumeric b) refl

-- a test that follows from another, over a list
all_so : (P Q : ℕ → Bool) → ((b : ℕ) → P b ≡ true → Q b ≡ true) → (xs : List ℕ) → grammar.AllPass P xs → list_all Q xs ≡ true
all_so P Q so [] x = refl
all_so P Q so (b ∷ xs) x =
    and_from _ _ (so b (All-head (λ c. IsTrue (P c)) b xs x)) (all_so P Q so xs (All-tail (λ c. IsTrue (P c)) b xs x))

value_is_value : (b : ℕ) → grammar.is_value_byte b ≡ true → is_value_byte b ≡ true
value_is_value b x = grind (nat_tests, arith, common_steps)

value_is_uri : (b : ℕ) → is_value_byte b ≡ true → is_uri_byte b ≡ true
value_is_uri b x = grind (nat_tests, arith, common_steps)

target_is_uri : (b : ℕ) → grammar.is_uri_byte b ≡ true → is_uri_byte b ≡ true
target_is_uri b x = grind (nat_tests, arith, common_steps)

name_kept : (name : List ℕ) → grammar.IsToken name → is_field_name (map to_ascii_lowercase name) ≡ true
name_kept name (some, bytes) =
    and_from _ _ (lt-ltb 0 (length (map to_ascii_lowercase name)) (omega (arith, some, length-map name to_ascii_lowercase)))
    (list_all-map is_name_byte to_ascii_lowercase name ∙ all_so grammar.is_token_byte (λ b. is_name_byte (to_ascii_lowercase b)) lower_is_name name bytes)

field_kept : (line : grammar.Field) → grammar.IsField line → is_field (header_of (name_and_value line)) ≡ true
field_kept line x =
    and_from _ _ (name_kept line.name x.name)
    (all_so grammar.is_value_byte is_value_byte value_is_value (grammar.field_value line) (AllPass-trim_ows grammar.is_value_byte line.raw x.raw))

fields_kept : (lines : List grammar.Field) → All grammar.IsField lines → list_all is_field (headers_of lines) ≡ true
fields_kept [] x = refl
fields_kept (line ∷ lines) x =
    and_from _ _ (field_kept line (All-head grammar.IsField line lines x)) (fields_kept lines (All-tail grammar.IsField line lines x))

count_kept : (lines : List grammar.Field) → length (headers_of lines) ≡ length lines
count_kept lines = length-map (map name_and_value lines) header_of ∙ length-map lines name_and_value

-- the headers of a head
pub are_kept : (tree : grammar.RequestHead) → grammar.IsRequestHead tree → length tree.fields ≤ 100 → are_fields (headers_of tree.fields) ≡ true
are_kept tree x few =
    and_from _ _ (le-leb (length (headers_of tree.fields)) 100 (omega (arith, few, count_kept tree.fields))) (fields_kept tree.fields x.fields)

all_more : (P Q : ℕ → Bool) → ((b : ℕ) → P b ≡ true → Q b ≡ true) → (xs : List ℕ) → list_all P xs ≡ true → list_all Q xs ≡ true
all_more P Q so [] x = refl
all_more P Q so (b ∷ xs) x =
    let both = and_parts _ _ x in and_from _ _ (so b both.0) (all_more P Q so xs both.1)

authority_kept : (fields : List Field) → list_all is_field fields ≡ true → list_all is_uri_byte (unwrap_or (first_of (codes "host") fields) (codes "localhost")) ≡ true
authority_kept [] x = refl
authority_kept (f ∷ fields) x =
    let both = and_parts _ _ x in
    let at : (t : Bool) → has_name (codes "host") f ≡ t → list_all is_uri_byte (unwrap_or (first_of (codes "host") (f ∷ fields)) (codes "localhost")) ≡ true = elim [
      | true ↦ λ e. rw e (all_more is_value_byte is_uri_byte value_is_uri f.value (and_parts _ _ both.0).1)
      | false ↦ λ e. rw e (authority_kept fields both.1)
    ] in
    at (has_name (codes "host") f) refl

-- the uri of a head
pub uri_kept : (tree : grammar.RequestHead) → grammar.IsRequestHead tree → is_uri (uri_of (head_of tree)) ≡ true
uri_kept tree x =
    let target = all_so grammar.is_uri_byte is_uri_byte target_is_uri tree.target x.target.1 in
    let authority = authority_kept (headers_of tree.fields) (fields_kept tree.fields x.fields) in
    let at : (t : Bool) → has_scheme tree.target ≡ t → is_uri (uri_of (head_of tree)) ≡ true = elim [
      | true ↦ λ e. rw e target
      | false ↦ λ e. rw e (list_all-append is_uri_byte (codes "http://") (authority_of (head_of tree) ++ tree.target)
          ∙ (list_all-append is_uri_byte (authority_of (head_of tree)) tree.target ∙ and_from _ _ authority target))
    ] in
    at (has_scheme tree.target) refl
