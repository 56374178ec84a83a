use Rattle.std.proofs.Common.{ℕ, List, [], length, refl, sym, ap, subst, arith, Ok}
use Rattle.std.proofs.lemmas.Grind.{common_steps}
use Rattle.edge_outside.specs.Reads.{Reads, OneRead, none}
use Rattle.edge_outside.proofs.ReadRuns.{read_more}
use Rattle.httparse.specs.Grammar.{HasNoRequest}
use Rattle.http_front.proofs.HeadEnds.{nothing_yet}
use Rattle.http_front.proofs.HeadReads.{head_stopped}
use Rattle.http_front.proofs.reading.read_head.Goals as goal

pub loop-head-init : goal.loop-head-init
loop-head-init g c = record {
  reads = subst (λ (t : List ℕ). Reads (OneRead g.S.Source.reads g.S.Source.faults g.S.Source.content) HasNoRequest c.args.source.now [] t c.args.source.now)
      (sym c.requires) none;
  few = omega (arith, ap (λ (t : List ℕ). length t) c.requires);
  within = omega arith;
  seen = nothing_yet;
  empty = refl;
}

pub loop-head-preserved : goal.loop-head-preserved
loop-head-preserved g c =
    let quiet = (rw c.bytes-in-loop-head.ensures at c.in-Ok-None.ensures.partial (ap (λ x. Ok x) c.in-Ok-None.field-0-is)) in
    record {
      reads = read_more c.args.source.now [] c.loop-head.ahead c.fill.new.self c.loop-head.source c.fill.new.source c.loop-head.invariant.reads
          quiet c.in_default.ensures.grows c.in_default.ensures.kept c.in_default.ensures.piece;
      few = grind (arith, common_steps);
      within = grind (arith, common_steps);
      seen = grind (arith, common_steps);
      empty = grind (arith, common_steps);
    }

pub returns-in-Err-fill-clause-gives : goal.returns-in-Err-fill-clause-gives
returns-in-Err-fill-clause-gives g c =
    let same = c.in-Err-fill.ensures.same in
    let quiet = (rw c.bytes-in-loop-head.ensures at c.in-Ok-None.ensures.partial (ap (λ x. Ok x) c.in-Ok-None.field-0-is)) in
    let why = (rw (c.bytes-in-Err-fill.ensures, same) at c.stopped.ensures) in
    rw same
    (head_stopped (OneRead g.S.Source.reads g.S.Source.faults g.S.Source.content) c.args.source.now c.loop-head.source c.fill.new.source c.loop-head.ahead
    c.in-Err-fill.fault c.stopped.result c.loop-head.invariant.reads quiet why c.in-Err-fill.ensures.ended c.in-Err-fill.ensures.failed c.in-Err-fill.ensures.memory)
