use Rattle.std.proofs.Common.{◌≤◌, ℕ, List, length, drop, sym, ap, subst, arith, Option, Ok, IfSome}
use Rattle.std.proofs.lemmas.Grind.{common_steps}
use Rattle.http_text.specs.Fields.{most_body}
use Rattle.edge_body.specs.Heads.{Response}
use Rattle.edge_link.specs.declared.heads.Head.{Head}
use Rattle.edge_link.specs.Heads.{Leads}
use Rattle.edge_link.specs.Bodies.{Gives}
use Rattle.edge_link.specs.Responses.{IsResponse}
use Rattle.edge_link.proofs.Keeping.{led_kept}
use Rattle.edge_link.proofs.Responding.{responds, no_last, no_body}
use Rattle.edge_link.proofs.responses.read_response.Goals as goal

pub returns-in_default-clause-bad : goal.returns-in_default-clause-bad
returns-in_default-clause-bad c = λ e.
    no_last c.args.method.now c.args.bytes.now (c.in_ok-head.ensures.none (ap (λ x. Ok x) c.in_default.is))

pub returns-in_default-2-clause-bad : goal.returns-in_default-2-clause-bad
returns-in_default-2-clause-bad c = λ e.
    let small : length (drop c.in-Some.end c.args.bytes.now) ≤ most_body = grind (arith, common_steps) in
    let leads = subst (λ (o : Option (Head × ℕ)). IfSome o (λ f. Leads c.args.bytes.now f.0 f.1)) c.in-Some.is c.in_ok-head.ensures.some in
    no_body c.args.method.now c.args.bytes.now c.in-Some.head c.in-Some.end c.told_of-told.result small leads c.told_of-told.ensures
    (rw c.after.ensures at c.in_ok-body.ensures.none (ap (λ x. Ok x) c.in_default-2.is))

pub new-head-requires-clause-fields : goal.new-head-requires-clause-fields
new-head-requires-clause-fields c =
    led_kept c.args.bytes.now c.in-Some.head c.in-Some.end
    (subst (λ (o : Option (Head × ℕ)). IfSome o (λ f. Leads c.args.bytes.now f.0 f.1)) c.in-Some.is c.in_ok-head.ensures.some)

pub returns-clause-ok : goal.returns-clause-ok
returns-clause-ok c =
    let small : length (drop c.in-Some.end c.args.bytes.now) ≤ most_body = grind (arith, common_steps) in
    let leads = subst (λ (o : Option (Head × ℕ)). IfSome o (λ f. Leads c.args.bytes.now f.0 f.1)) c.in-Some.is c.in_ok-head.ensures.some in
    let gives = subst (λ (o : Option (List ℕ)). IfSome o (λ b. Gives c.told_of-told.result (drop c.in-Some.end c.args.bytes.now) b)) c.in-Some-2.is
    (rw c.after.ensures at c.in_ok-body.ensures.some) in
    subst (λ (r : Response). IsResponse c.args.method.now c.args.bytes.now r c.in-Some-2.body) (sym c.new-head.ensures)
    (responds c.args.method.now c.args.bytes.now c.in-Some.head c.in-Some.end c.told_of-told.result c.in-Some-2.body small leads c.told_of-told.ensures gives)
