use Rattle.std.proofs.Common.{sym, ◌∙◌, ap, refl}
use Rattle.std.specs.Prelude.{codes}
use Rattle.call_lines.specs.Reading.{field_in, heads_in}
use Rattle.call_lines.proofs.Loops.{read_with, many_ends, many_goes}
use Rattle.call_lines.proofs.options.headers.Goals as goal

pub loop-fields-preserved : goal.loop-fields-preserved
loop-fields-preserved c =
    ap (λ fields. read_with fields (heads_in c.optional-after.result.1)) c.in_ok-push-in-Ok.ensures.items
    ∙ sym (many_goes (codes "h=") field_in c.loop-fields.fields.items c.in-Ok.field c.loop-fields.left c.optional-after.result.1 c.in-Some.text.now (rw c.in-Some.is at c.optional-after.ensures) c.in-Ok.ensures)
    ∙ c.loop-fields.invariant

pub returns-in-None : goal.returns-in-None
returns-in-None c =
    sym c.loop-fields.invariant
    ∙ many_ends (codes "h=") field_in c.loop-fields.fields.items c.loop-fields.left c.optional-after.result.1 (rw c.in-None.is at c.optional-after.ensures)
    ∙ rw c.of.ensures refl
