use Rattle.std.proofs.Common.{◌≡◌, string_bytes, ℕ, List, ◌++◌, codes, decimal, sym, ◌∙◌, ap}
use Rattle.std.proofs.lemmas.List.{append_assoc}
use Rattle.std.proofs.lemmas.Result.{IfOk-weaker}
use Rattle.wasm_validate.specs.Text.{kind_name}
use Rattle.wasm_validate.proofs.fault.ValidFault.text.Goals as goal

-- pieces in a row, grouped from the other end
grouped : (a b c d e f : List ℕ) → a ++ (b ++ (c ++ (d ++ (e ++ f)))) ≡ a ++ b ++ c ++ d ++ e ++ f
grouped a b c d e f = sym (append_assoc (a ++ b ++ c ++ d) e f ∙ append_assoc (a ++ b ++ c) d (e ++ f) ∙ append_assoc (a ++ b) c (d ++ (e ++ f)) ∙ append_assoc a b (c ++ (d ++ (e ++ f))))

pub returns-in-Code : goal.returns-in-Code
returns-in-Code c =
    let index = decimal c.args.self.index in
    let at = decimal c.args.self.at in
    let name : c.name-kind.result.now ≡ kind_name c.args.self.kind = c.name-kind.ensures in
    rw c.in-Code.is (IfOk-weaker c.format.result _ _ (λ text h.
    let written : string_bytes text ≡ codes "module: " ++ (c.name-kind.result.now ++ (codes " in function " ++ (index ++ (codes " at " ++ at)))) = h in
    written
    ∙ ap (λ (kind : List ℕ). codes "module: " ++ (kind ++ (codes " in function " ++ (index ++ (codes " at " ++ at))))) name
    ∙ grouped (codes "module: ") (kind_name c.args.self.kind) (codes " in function ") index (codes " at ") at) c.format.ensures.ok)
