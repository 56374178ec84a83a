use Rattle.std.proofs.Common.{◌≡◌, rules, arith}
use Rattle.std.proofs.lemmas.Grind.{common_steps}
use Rattle.cache_calls.specs.Options.{handed}
use Rattle.cache_calls.proofs.Handed.{handed_kept}
use Rattle.cache_calls.proofs.headers.handed.Goals as goal

pub returns-clause-kept : goal.returns-clause-kept
returns-clause-kept c =
    let all : c.of.result ≡ handed c.args.fields.now = first_of (search rules, grind (arith, common_steps)) in
    rw all (handed_kept c.args.fields.now c.requires)
