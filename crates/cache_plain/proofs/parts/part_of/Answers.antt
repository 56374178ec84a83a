use Rattle.std.proofs.Common.{◌≡◌, ◌+◌, ◌<◌, ◌∷◌, ◌++◌, length, take, drop, length-take, vec_len, arith, rules, ap, sym, ◌∙◌}
use Rattle.std.proofs.lemmas.Grind.{common_steps}
use Rattle.cache_types.specs.Entries.{newest_first}
use Rattle.cache_types.specs.Objects.{written, piece_of}
use Rattle.cache_log.proofs.Walks.{reverse-take_more}
use Rattle.cache_plain.proofs.Walks.{walks}
use Rattle.cache_plain.proofs.PartLemmas.{part-more}
use Rattle.cache_plain.proofs.parts.part_of.Goals as goal

pub loop-i-preserved : goal.loop-i-preserved
loop-i-preserved c =
    let lt : c.loop-i.i < length c.args.entries.now = omega arith in
    let head : newest_first (take (c.loop-i.i + 1) c.args.entries.now) ≡ c.index-entries-i.result ∷ newest_first (take c.loop-i.i c.args.entries.now) =
    reverse-take_more c.args.entries.now c.loop-i.i c.index-entries-i.result lt ∙ ap (λ e. e ∷ newest_first (take c.loop-i.i c.args.entries.now)) (sym c.index-entries-i.is)
    in
    let more = part-more c.args.most c.args.place c.loop-i.passed (written (newest_first (take c.loop-i.i c.args.entries.now)) c.args.object) (piece_of c.args.object c.index-entries-i.result) c.loop-i.bytes.items c.loop-i.invariant.bytes c.loop-i.invariant.passed in
    let long : vec_len c.loop-i.bytes ≡ length c.loop-i.bytes.items = search rules in
    let joined : c.extend_from_slice.new.self.items ≡ take c.args.most (drop c.args.place (written (newest_first (take c.loop-i.i c.args.entries.now)) c.args.object ++ piece_of c.args.object c.index-entries-i.result)) =
    c.in_ok-extend_from_slice.ensures.items ∙ rw (c.cut.ensures, c.saturating_sub-skip.ensures, c.from.ensures, c.len.ensures, long, c.piece_of-piece.ensures) more
    in
    record {
      bytes = rw head joined;
      few = omega (arith, ap length joined, length-take c.args.most (drop c.args.place (written (newest_first (take c.loop-i.i c.args.entries.now)) c.args.object ++ piece_of c.args.object c.index-entries-i.result)));
      passed = grind (arith, walks, common_steps);
      small = grind (arith, common_steps);
    }
