use Rattle.std.proofs.Common.{arith, ap, ◌∙◌, ◌≤◌, length, reverse, subst, sym}
use Rattle.cache_index.proofs.Maps.{put_newest_is, length-without}
use Rattle.cache_index.proofs.rules.put_newest.Goals as goal

pub push_reserved-requires : goal.push_reserved-requires
push_reserved-requires c =
    let left = c.take_out.ensures.left in
    let fewer : length c.take_out.new.rules.items ≤ length c.args.rules.now.items = subst (λ l. length l ≤ length c.args.rules.now.items) (sym left) (length-without c.args.rule c.args.rules.now.items) in
    omega (arith, fewer, c.take_out.ensures.capacity, c.requires)

pub returns : goal.returns
returns c = ap (λ l. reverse l) c.push_reserved.ensures.items ∙ put_newest_is c.args.rule c.args.rules.now.items c.take_out.new.rules.items c.take_out.ensures.left
