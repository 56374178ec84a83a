use Rattle.std.proofs.Common.{refl}
use Rattle.std.proofs.lemmas.Result.{err_from_is_err_and}
use Rattle.edge_imports.proofs.Indexes.{all-known}
use Rattle.guest_run.proofs.Linking.{all_functions}
use Rattle.guest_run.proofs.service.Service.new.Goals as goal

pub new-requires-clause-imports : goal.new-requires-clause-imports
new-requires-clause-imports c =
    let l = c.args.linked.now in
    rw c.valid.ensures (all_functions 0 l.whole.imports (all-known l.whole l.links c.requires.linked))

pub returns-clause-made : goal.returns-clause-made
returns-clause-made c = record {
  same = refl;
  linked_is = c.requires.linked;
  image = rw c.valid.ensures at c.in_ok-image.ensures;
  calls = rw (c.items.ensures, c.in_ok-links.ensures.links) at c.in_ok-calls.ensures.calls;
}

pub returns-in_err-calls-clause-fault : goal.returns-in_err-calls-clause-fault
returns-in_err-calls-clause-fault c =
    let p = err_from_is_err_and c.from_residual-in_err-calls.result c.from_residual-in_err-calls.ensures.1 in
    rw (p.1, p.2) (rw (c.items.ensures, c.in_ok-links.ensures.links) at c.in_err-calls.ensures.fault)
