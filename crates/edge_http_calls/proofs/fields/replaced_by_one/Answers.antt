use Rattle.std.proofs.Common.{◌≡◌, [], ◌∷◌, rules, arith}
use Rattle.std.proofs.lemmas.Grind.{common_steps}
use Rattle.edge_http_calls.specs.Fields.{replaced}
use Rattle.edge_http_calls.proofs.Kept.{replaced_kept, one_kept}
use Rattle.edge_http_calls.proofs.fields.replaced_by_one.Goals as goal

pub returns-clause-kept : goal.returns-clause-kept
returns-clause-kept c =
    let all : c.push.new.self.items ≡ replaced c.args.text.now (c.args.value.now ∷ []) c.args.fields.now = first_of (search rules, grind (arith, common_steps)) in
    rw all (replaced_kept c.args.text.now (c.args.value.now ∷ []) c.args.fields.now c.requires.fields c.requires.token (one_kept c.args.value.now c.requires.value))
