use Rattle.std.proofs.Common.{◌≡◌, rules, arith}
use Rattle.std.proofs.lemmas.Grind.{common_steps}
use Rattle.edge_http_calls.specs.Fields.{appended}
use Rattle.edge_http_calls.proofs.Kept.{appended_kept}
use Rattle.edge_http_calls.proofs.fields.appended.Goals as goal

pub returns-clause-kept : goal.returns-clause-kept
returns-clause-kept c =
    let all : c.push-2.new.self.items ≡ appended c.args.text.now c.args.value.now c.args.fields.now = first_of (search rules, grind (arith, common_steps)) in
    rw all (appended_kept c.args.text.now c.args.value.now c.args.fields.now c.requires.fields c.requires.token c.requires.value)
