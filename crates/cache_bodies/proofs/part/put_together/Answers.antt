use Rattle.std.proofs.Common.{arith, rules, ap, ◌≡◌, ◌-◌, ◌∙◌, drop, length, length-append, vec_len}
use Rattle.cache_bodies.proofs.Pieces.{filled, behind-more}
use Rattle.cache_bodies.proofs.part.put_together.Goals as goal

pub returns-then-wanted-rest : goal.returns-then-wanted-rest
returns-then-wanted-rest c =
    let x = c.index-pieces-i.result in
    let long : vec_len c.loop-i.bytes ≡ length c.loop-i.bytes.items = search rules in
    let here = c.behind-rest.ensures ∙ ap (λ n. drop n c.bytes.result.now) c.saturating_sub-skip.ensures ∙ ap (drop (c.args.place - x.place)) c.bytes.ensures in
    c.in_ok-extend_from_slice.ensures.items
    ∙ filled c.args.pieces.now c.loop-i.i x c.args.place c.args.most (c.args.most - c.len.result) c.loop-i.bytes.items c.behind-rest.result.now c.index-pieces-i.is c.requires.runs
    (omega (arith, c.loop-i-test.true)) c.loop-i.invariant.bytes here (omega (arith, long, c.len.ensures, c.loop-i.invariant.few)) (omega (arith, c.if-wanted-rest.true))

pub loop-i-preserved : goal.loop-i-preserved
loop-i-preserved c =
    let x = c.index-pieces-i.result in
    let long : vec_len c.loop-i.bytes ≡ length c.loop-i.bytes.items = search rules in
    let here = c.behind-rest.ensures ∙ ap (λ n. drop n c.bytes.result.now) c.saturating_sub-skip.ensures ∙ ap (drop (c.args.place - x.place)) c.bytes.ensures in
    let items = c.in_ok-extend_from_slice-2.ensures.items in
    record {
      bytes = items
          ∙ behind-more c.args.pieces.now c.loop-i.i x c.args.place c.loop-i.bytes.items c.behind-rest.result.now c.index-pieces-i.is c.requires.runs (omega (arith, c.loop-i-test.true)) c.loop-i.invariant.bytes here;
      few = omega (arith, ap length items, length-append c.loop-i.bytes.items c.behind-rest.result.now, long, c.len.ensures, c.loop-i.invariant.few, c.if-wanted-rest.false);
      within = omega (arith, c.loop-i-test.true);
    }
