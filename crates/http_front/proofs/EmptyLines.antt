-- Empty lines alone are no head: its first line has a blank.
use Rattle.std.proofs.Common.{◌≡◌, ℕ, ◌-◌, ◌&&◌, Bool, true, List, ◌∷◌, ◌++◌, length, take, drop, sym, ◌∙◌, ap, take-append-drop}
use Rattle.std.specs.List.{list_all}
use Rattle.std.proofs.lemmas.Bool.{and_parts, false≢true}
use Rattle.std.proofs.lemmas.List.{length-drop}
use Rattle.std.proofs.lemmas.List.Folds.{list_all-append}
use Rattle.std.proofs.Math.Seq.{take-length}
use Rattle.httparse.specs.Grammar.{HasNoRequest, print_blank, print_end, print_version, print_section, print_request}
use Rattle.httparse.specs.Pieces.{is_newline}

both : (a b : List ℕ) → list_all is_newline (a ++ b) ≡ true → (list_all is_newline a ≡ true) × (list_all is_newline b ≡ true)
both a b e = and_parts (list_all is_newline a) (list_all is_newline b) (sym (list_all-append is_newline a b) ∙ e)

pub no_head : (bytes : List ℕ) → list_all is_newline bytes ≡ true → HasNoRequest bytes
unfolding print_request
no_head bytes all h rest (is, e) =
    let front : List ℕ = print_blank h.blank ++ h.method ++ 32 ∷ h.target in
    let line : List ℕ = front ++ 32 ∷ print_version h.minor in
    let head : list_all is_newline ((line ++ print_end h.line_end) ++ print_section h.fields h.last) ≡ true =
    (both (print_request h) rest (ap (list_all is_newline) (sym e) ∙ all)).0 in
    let start = (both (line ++ print_end h.line_end) (print_section h.fields h.last) head).0 in
    false≢true (both front (32 ∷ print_version h.minor) (both line (print_end h.line_end) start).0).1

-- what is known of the first bytes, and what the others are
pub all_then : (bytes : List ℕ) (seen : ℕ) (before : Bool) → before ≡ list_all is_newline (take seen bytes)
    → (before && list_all is_newline (drop seen bytes)) ≡ list_all is_newline bytes
all_then bytes seen before known =
    ap (λ v. v && list_all is_newline (drop seen bytes)) known
    ∙ sym (list_all-append is_newline (take seen bytes) (drop seen bytes))
    ∙ ap (list_all is_newline) (take-append-drop seen bytes)

-- what stands from a place on, to the end
pub rest_is : (bytes : List ℕ) (seen : ℕ) → take (length bytes - seen) (drop seen bytes) ≡ drop seen bytes
rest_is bytes seen = ap (λ (n : ℕ). take n (drop seen bytes)) (sym (length-drop seen bytes)) ∙ take-length (drop seen bytes)
