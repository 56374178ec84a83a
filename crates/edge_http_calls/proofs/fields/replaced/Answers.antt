use Rattle.std.proofs.Common.{◌≡◌, rules, arith}
use Rattle.std.proofs.lemmas.Grind.{common_steps}
use Rattle.edge_http_calls.specs.Fields.{replaced}
use Rattle.edge_http_calls.proofs.Kept.{replaced_kept}
use Rattle.edge_http_calls.proofs.fields.replaced.Goals as goal

pub returns-clause-kept : goal.returns-clause-kept
returns-clause-kept c =
    let all : c.loop-value.all.items ≡ replaced c.args.text.now c.args.values.items c.args.fields.now = first_of (search rules, grind (arith, common_steps)) in
    rw all (replaced_kept c.args.text.now c.args.values.items c.args.fields.now c.requires.fields c.requires.token c.requires.values)
