use Rattle.std.proofs.Common.{◌≡◌, drop}
use Rattle.std.specs.Prelude.{find}
use Rattle.http_text.specs.Fields.{has_name}
use Rattle.http_text.proofs.fields.first_of.Given as goal

abbrev pub invariant-loop-field : goal.invariant-loop-field
invariant-loop-field l = find (has_name l.name) (drop l.field-index l.field-items) ≡ find (has_name l.name) l.field-items
