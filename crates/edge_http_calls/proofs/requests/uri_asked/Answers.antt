use Rattle.std.proofs.Common.{◌≡◌, true, rules, arith}
use Rattle.std.proofs.lemmas.Grind.{common_steps}
use Rattle.edge_http_calls.specs.Texts.{is_request_uri}
use Rattle.edge_http_calls.proofs.Kept.{uri_kept}
use Rattle.edge_http_calls.proofs.requests.uri_asked.Goals as goal

pub returns-in_ok-of-in-Some-clause-kept : goal.returns-in_ok-of-in-Some-clause-kept
returns-in_ok-of-in-Some-clause-kept c =
    let test : is_request_uri c.in-Some.text.now ≡ true = first_of (search rules, grind (arith, common_steps)) in
    rw c.in_ok-of-in-Some.ensures (uri_kept c.in-Some.text.now test)
