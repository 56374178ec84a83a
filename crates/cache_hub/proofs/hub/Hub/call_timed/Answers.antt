use Rattle.std.proofs.Common.{◌+◌, ◌∷◌, ◌++◌, [], refl, sym, ◌∙◌, arith}
use Rattle.std.proofs.lemmas.Bool.Decides.{nat_tests}
use Rattle.edge_outside.proofs.Readings.{no_readings, one_reading_more}
use Rattle.cache_hub.proofs.Live.{settled_makes, waited_keeps}
use Rattle.cache_hub.proofs.Waits.{waited_none, waited_more, settles, may_still}
use Rattle.cache_hub.proofs.hub.Hub.call_timed.Goals as goal

pub loop-init : goal.loop-init
loop-init g c = ([], no_readings g.C.Clock.reads g.C.Clock.content c.args.clock.now, waited_none c.args.pass c.args.guest c.args.deadline c.args.call.now, (λ h. h), (λ h. h))

pub returns-then-from-deadline-clause-call : goal.returns-then-from-deadline-clause-call
returns-then-from-deadline-clause-call g c =
    let i = c.loop.invariant in
    let e = c.now-reading.ensures in
    record {
      readings = i.0;
      between = c.loop.pass;
      read = one_reading_more g.C.Clock.reads g.C.Clock.content _ i.0 _ c.now-reading.result _ i.1 (record { made = e.call; told = e.content });
      waited = i.2;
      ended = ((let f = c.if-from-deadline.true in let e = c.from.ensures in grind (arith, nat_tests)), refl, refl);
    }

pub returns-in-Some-settled-clause-call : goal.returns-in-Some-settled-clause-call
returns-in-Some-settled-clause-call g c =
    let i = c.loop.invariant in
    let e = c.now-reading.ensures in
    record {
      readings = i.0;
      between = c.loop.pass;
      read = one_reading_more g.C.Clock.reads g.C.Clock.content _ i.0 _ c.now-reading.result _ i.1 (record { made = e.call; told = e.content });
      waited = i.2;
      ended = settles c.args.pass c.args.guest c.args.deadline c.args.call.now (g.S.OneCache.most c.args.self.now.start) c.loop.pass c.try_call-next.result.0 c.now-reading.result c.try_call-next.result.1 _ (let f = c.if-from-deadline.false in let e = c.from.ensures in grind (arith, nat_tests)) c.try_call-next.ensures.call (sym c.settled.ensures ∙ c.in-Some-settled.is);
    }

pub loop-preserved : goal.loop-preserved
loop-preserved g c =
    let i = c.loop.invariant in
    let e = c.now-reading.ensures in (
      i.0 ++ c.now-reading.result ∷ [],
      one_reading_more g.C.Clock.reads g.C.Clock.content _ i.0 _ c.now-reading.result _ i.1 (record { made = e.call; told = e.content }),
      waited_more c.args.pass c.args.guest c.args.deadline c.args.call.now (g.S.OneCache.most c.args.self.now.start) i.0 c.loop.pass c.try_call-next.result.0 c.now-reading.result c.try_call-next.result.1 (let f = c.if-from-deadline.false in let e = c.from.ensures in grind (arith, nat_tests)) i.2 c.try_call-next.ensures.call (sym c.settled.ensures ∙ c.in-None-settled.is),
      (λ h. c.try_call-next.ensures.whole),
      (λ h. c.try_call-next.ensures.share),
    )

pub try_call-next-requires-clause-may : goal.try_call-next-requires-clause-may
try_call-next-requires-clause-may g c =
    let w = c.loop.invariant.2 in
    may_still c.args.pass c.args.guest c.args.deadline c.args.call.now c.args.pass c.loop.pass.seen (c.args.pass.lost + w.lost) (c.args.pass.idle + w.idle) c.loop.pass w.result c.requires.may

pub returns-then-from-deadline-clause-guests : goal.returns-then-from-deadline-clause-guests
returns-then-from-deadline-clause-guests g c = λ other has no_end. waited_keeps c.args.pass c.loop.pass c.args.guest c.args.deadline c.args.call.now c.loop.invariant.0 other c.loop.invariant.2 has

pub returns-in-Some-settled-clause-guests : goal.returns-in-Some-settled-clause-guests
returns-in-Some-settled-clause-guests g c =
    λ other has no_end. c.try_call-next.ensures.guests other (waited_keeps c.args.pass c.loop.pass c.args.guest c.args.deadline c.args.call.now c.loop.invariant.0 other c.loop.invariant.2 has) no_end

pub returns-in-Some-settled-clause-begins : goal.returns-in-Some-settled-clause-begins
returns-in-Some-settled-clause-begins g c = settled_makes c.args.call.now c.try_call-next.result.1 _ c.try_call-next.result.0 (sym c.settled.ensures ∙ c.in-Some-settled.is) c.try_call-next.ensures.begins
