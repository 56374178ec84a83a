use Rattle.std.proofs.Common.{◌≡◌, rules, arith}
use Rattle.std.proofs.lemmas.Grind.{common_steps}
use Rattle.edge_http_calls.specs.Fields.{without}
use Rattle.edge_http_calls.proofs.Kept.{without_kept}
use Rattle.edge_http_calls.proofs.fields.without.Goals as goal

pub returns-clause-kept : goal.returns-clause-kept
returns-clause-kept c =
    let left : c.loop-field.left.items ≡ without c.args.text.now c.args.fields.now = first_of (search rules, grind (arith, common_steps)) in
    λ kept. rw left (without_kept c.args.text.now c.args.fields.now kept)
