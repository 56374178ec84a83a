-- A head ends with a line feed, so bytes without one don't make a head of bytes that have none.
use Rattle.std.proofs.Common.{◌≡◌, ℕ, ◌≤◌, ◌+◌, ◌||◌, Bool, true, false, List, [], ◌∷◌, ◌++◌, length, take, drop, refl, sym, ◌∙◌, ap, subst, arith, append_assoc, length-append, take-append-drop, inl, inr}
use Rattle.std.specs.List.{list_any, flat_map}
use Rattle.std.proofs.lemmas.Bool.{cases_lt}
use Rattle.std.proofs.lemmas.List.{drop-append-le}
use Rattle.std.proofs.lemmas.List.Folds.{list_any-append}
use Rattle.std.proofs.Math.Seq.{drop-append_seam}
use Rattle.httparse.specs.Grammar.{LineEnd, crlf, lf, RequestHead, HasNoRequest, print_end, print_blank, print_version, print_field, print_request}
use Rattle.http_text.specs.Lines.{is_line_feed}
use Rattle.http_text.proofs.Lines.{front_inside}

abbrev end_of : LineEnd → List ℕ
end_of crlf = 13 ∷ []
end_of lf = []

ends_in_feed : (e : LineEnd) → print_end e ≡ end_of e ++ 10 ∷ []
ends_in_feed crlf = refl
ends_in_feed lf = refl

-- the text of a head up to its last byte
head_ends : (h : RequestHead) → (front : List ℕ) × (print_request h ≡ front ++ 10 ∷ [])
unfolding print_request
head_ends h =
    let start : List ℕ = print_blank h.blank ++ h.method ++ 32 ∷ h.target ++ 32 ∷ print_version h.minor ++ print_end h.line_end in
    let fields : List ℕ = flat_map print_field h.fields in (
      start ++ (fields ++ end_of h.last),
      ap (λ (t : List ℕ). start ++ (fields ++ t)) (ends_in_feed h.last)
          ∙ ap (λ (t : List ℕ). start ++ t) (sym (append_assoc fields (end_of h.last) (10 ∷ [])))
          ∙ sym (append_assoc start (fields ++ end_of h.last) (10 ∷ [])),
    )

or_true : (b : Bool) → (b || true) ≡ true
or_true true = refl
or_true false = refl

feed_inside : (a rest : List ℕ) → list_any is_line_feed (a ++ 10 ∷ rest) ≡ true
feed_inside a rest = list_any-append is_line_feed a (10 ∷ rest) ∙ or_true (list_any is_line_feed a)

no_feed_more : (bytes piece : List ℕ) → HasNoRequest bytes → list_any is_line_feed piece ≡ false → HasNoRequest (bytes ++ piece)
no_feed_more bytes piece none quiet h rest (is, e) =
    elim (cases_lt (length bytes) (length (print_request h))) [
      | inl over ↦
          let end = head_ends h in
          let long : length (print_request h) ≡ length end.0 + 1 = ap (λ (t : List ℕ). length t) end.1 ∙ length-append end.0 (10 ∷ []) in
          let inside : length bytes ≤ length end.0 = omega (arith, over, long) in
          let text : bytes ++ piece ≡ end.0 ++ 10 ∷ rest = e ∙ ap (λ (t : List ℕ). t ++ rest) end.1 ∙ append_assoc end.0 (10 ∷ []) rest in
          let piece_is : piece ≡ drop (length bytes) end.0 ++ 10 ∷ rest =
          sym (drop-append_seam bytes piece) ∙ ap (drop (length bytes)) text ∙ drop-append-le (length bytes) end.0 (10 ∷ rest) inside in
          let loud = ap (list_any is_line_feed) piece_is ∙ feed_inside (drop (length bytes) end.0) rest in
          cc (quiet, loud)
      | inr fits ↦ none h _ (is, front_inside bytes piece (print_request h) rest e (omega (arith, fits)))
    ]

-- nothing was read yet
pub nothing_yet : HasNoRequest []
nothing_yet h rest (is, e) =
    let end = head_ends h in
    let none : length {A = ℕ} [] ≡ length (print_request h ++ rest) = ap (λ (t : List ℕ). length t) e in
    omega (arith, none, length-append (print_request h) rest, ap (λ (t : List ℕ). length t) end.1, length-append end.0 (10 ∷ []))

-- no head in the first bytes, and no line's end behind them
pub none_from : (bytes : List ℕ) (seen : ℕ) → HasNoRequest (take seen bytes) → list_any is_line_feed (drop seen bytes) ≡ false → HasNoRequest bytes
none_from bytes seen none quiet = subst HasNoRequest (take-append-drop seen bytes) (no_feed_more (take seen bytes) (drop seen bytes) none quiet)
