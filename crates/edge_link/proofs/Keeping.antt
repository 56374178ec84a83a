-- What the parser accepts of a response keeps the rules of heads.
use Rattle.std.proofs.Common.{◌≡◌, ℕ, ◌≤◌, ◌==◌, Bool, true, false, IsTrue, List, [], ◌∷◌, length, map, refl, sym, ◌∙◌, ap, arith, All, codes}
use Rattle.std.specs.List.{list_any, list_all}
use Rattle.std.specs.Char.{to_ascii_lowercase, is_ascii_alphanumeric}
use Rattle.std.proofs.lemmas.Grind.{common_steps}
use Rattle.std.proofs.lemmas.Bool.{eqb-true, le-leb, lt-ltb, and_from}
use Rattle.std.proofs.lemmas.Bool.Decides.{nat_tests}
use Rattle.std.proofs.lemmas.List.{length-map}
use Rattle.std.proofs.lemmas.List.Elements.{All-head, All-tail}
use Rattle.std.proofs.lemmas.List.Folds.{list_all-map}
use Rattle.httparse.specs.Grammar as grammar
use Rattle.httparse.specs.Spans.{name_and_value}
use Rattle.httparse.proofs.TrimLemmas.{AllPass-trim_ows}
use Rattle.cache_types.specs.Limits.{is_name_byte}
use Rattle.edge_body.specs.Heads.{is_field_name, is_value_byte, is_field, are_fields}
use Rattle.http_text.specs.Fields.{header_of, headers_of}
use Rattle.edge_link.specs.declared.heads.Head.{Head}
use Rattle.edge_link.specs.Heads.{Leads}

-- what holds of each mark holds of a byte that is one
any_mark : (marks : List ℕ) (P : ℕ → Bool) (b : ℕ) → list_any (λ c. c == b) marks ≡ true → list_all P marks ≡ true → P b ≡ true
any_mark [] P b x y = cc x
any_mark (c ∷ marks) P b x y =
    let at : (t : Bool) → (c == b) ≡ t → (u : Bool) → P c ≡ u → P b ≡ true = elim [
      | true ↦ λ e. elim [ true ↦ λ f. ap P (sym (eqb-true c b e)) ∙ f | false ↦ λ f. cc (rw f at y) ]
      | false ↦ λ e. elim [ true ↦ λ f. any_mark marks P b (rw e at x) (rw f at y) | false ↦ λ f. cc (rw f at y) ]
    ] in
    at (c == b) refl (P c) refl

lower_is_name : (b : ℕ) → grammar.is_token_byte b ≡ true → is_name_byte (to_ascii_lowercase b) ≡ true
unfolding grammar.is_token_byte
lower_is_name b token =
    let alone : (t : Bool) → is_ascii_alphanumeric b ≡ t → is_name_byte (to_ascii_lowercase b) ≡ true = elim [
      | true ↦ λ e. grind (nat_tests, arith, common_steps)
      | false ↦ λ e. any_mark (codes "!#$%&'*+-.^_`|~") (λ c. is_name_byte (to_ascii_lowercase c)) b (rw e at token) refl
    ] in
    alone (is_ascii_alphanumeric b) refl

-- a test that follows from another, over a list
all_so : (P Q : ℕ → Bool) → ((b : ℕ) → P b ≡ true → Q b ≡ true) → (xs : List ℕ) → grammar.AllPass P xs → list_all Q xs ≡ true
all_so P Q so [] x = refl
all_so P Q so (b ∷ xs) x =
    and_from _ _ (so b (All-head (λ c. IsTrue (P c)) b xs x)) (all_so P Q so xs (All-tail (λ c. IsTrue (P c)) b xs x))

value_is_value : (b : ℕ) → grammar.is_value_byte b ≡ true → is_value_byte b ≡ true
value_is_value b x = grind (nat_tests, arith, common_steps)

name_kept : (name : List ℕ) → grammar.IsToken name → is_field_name (map to_ascii_lowercase name) ≡ true
name_kept name (some, bytes) =
    and_from _ _ (lt-ltb 0 (length (map to_ascii_lowercase name)) (omega (arith, some, length-map name to_ascii_lowercase)))
    (list_all-map is_name_byte to_ascii_lowercase name ∙ all_so grammar.is_token_byte (λ b. is_name_byte (to_ascii_lowercase b)) lower_is_name name bytes)

field_kept : (line : grammar.Field) → grammar.IsField line → is_field (header_of (name_and_value line)) ≡ true
field_kept line x =
    and_from _ _ (name_kept line.name x.name)
    (all_so grammar.is_value_byte is_value_byte value_is_value (grammar.field_value line) (AllPass-trim_ows grammar.is_value_byte line.raw x.raw))

fields_kept : (lines : List grammar.Field) → All grammar.IsField lines → list_all is_field (headers_of lines) ≡ true
fields_kept [] x = refl
fields_kept (line ∷ lines) x =
    and_from _ _ (field_kept line (All-head grammar.IsField line lines x)) (fields_kept lines (All-tail grammar.IsField line lines x))

count_kept : (lines : List grammar.Field) → length (headers_of lines) ≡ length lines
count_kept lines = length-map (map name_and_value lines) header_of ∙ length-map lines name_and_value

are_kept : (lines : List grammar.Field) → All grammar.IsField lines → length lines ≤ 100 → are_fields (headers_of lines) ≡ true
are_kept lines x few =
    and_from _ _ (le-leb (length (headers_of lines)) 100 (omega (arith, few, count_kept lines))) (fields_kept lines x)

-- the headers of a response's head
pub led_kept : (bytes : List ℕ) (head : Head) (end : ℕ) → Leads bytes head end → are_fields head.fields ≡ true
led_kept bytes head end (tree, led, is) =
    ap (λ (h : Head). are_fields h.fields) is ∙ are_kept tree.fields led.last.0.0.fields led.last.0.1
