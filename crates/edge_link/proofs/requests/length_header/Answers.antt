use Rattle.std.proofs.Common.{◌≡◌, ◌++◌, true, List, ℕ, subst, arith, IfOk}
use Rattle.std.proofs.lemmas.Grind.{common_steps}
use Rattle.edge_link.specs.Requests.{has_length}
use Rattle.edge_link.proofs.SentLines.{length_is}
use Rattle.edge_link.proofs.requests.length_header.Goals as goal

pub returns : goal.returns
returns c =
    let has : has_length c.args.method.now c.args.body.now ≡ true = grind (arith, common_steps) in
    subst (λ (u : List ℕ). IfOk c.length_line.result (λ new. new ≡ c.args.text ++ u)) (length_is c.args.method.now c.args.body.now has) c.length_line.ensures
