use Rattle.std.proofs.Common.{◌≡◌, sym, ◌∙◌, ap, false, Vec, Global, ℕ}
use Rattle.std.specs.Prelude.{codes, bytes_eq}
use Rattle.edge_words.specs.Words.{hex_word}
use Rattle.edge_words.proofs.Numbers.{hex_dash, hex_found, hex_lost, hex_fails, same_bytes}
use Rattle.edge_words.proofs.word.bytes_of.Goals as goal

pub returns-then-eq : goal.returns-then-eq
returns-then-eq c = hex_dash _ _ (same_bytes _ _ (sym c.if-eq.ensures) ∙ c.as_slice.ensures) c.new.ensures.items

pub returns-in-Err : goal.returns-in-Err
returns-in-Err c =
    let other : bytes_eq c.args.word.now (codes "-") ≡ false = rw c.as_slice.ensures at (sym c.if-eq.ensures) in
    rw c.line_fault.ensures (hex_fails (λ (v : Vec ℕ Global). v.items) c.args.word.now c.in-Err.fault other c.in-Err.ensures.err)

pub returns-then-eq-2 : goal.returns-then-eq-2
returns-then-eq-2 c =
    let other : bytes_eq c.args.word.now (codes "-") ≡ false = rw c.as_slice.ensures at (sym c.if-eq.ensures) in
    hex_found _ _ _ other c.in-Ok.ensures.ok (c.as_bytes.ensures.value ∙ c.in_ok-spell_hex.ensures ∙ ap hex_word c.deref.ensures.value) (sym c.if-eq-2.ensures)

pub returns-else-eq-2 : goal.returns-else-eq-2
returns-else-eq-2 c =
    let other : bytes_eq c.args.word.now (codes "-") ≡ false = rw c.as_slice.ensures at (sym c.if-eq.ensures) in
    hex_lost _ _ _ other c.in-Ok.ensures.ok (c.as_bytes.ensures.value ∙ c.in_ok-spell_hex.ensures ∙ ap hex_word c.deref.ensures.value) (sym c.if-eq-2.ensures)
