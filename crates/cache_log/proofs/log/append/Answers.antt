use Rattle.std.proofs.Common.{sym, ◌∙◌, vec_capacity, rules}
use Rattle.cache_log.proofs.Stepping.{room-for-entry, one-live, kept-begin, kept-end, kept-other}
use Rattle.cache_log.proofs.log.append.Goals as goal

pub push_reserved-requires : goal.push_reserved-requires
push_reserved-requires c =
    let room = room-for-entry c.args.entries.now.items c.args.live.now (vec_capacity c.args.entries.now) c.args.entry c.requires.kept c.requires.next c.requires.room in
    search (rules, room)

pub overflow_sub-live : goal.overflow_sub-live
overflow_sub-live c = one-live c.args.entries.now.items c.args.live.now (vec_capacity c.args.entries.now) c.args.entry c.requires.kept c.requires.next (sym c.is_end-ends.ensures ∙ c.if-ends.true)

pub returns-then-begins-clause-kept : goal.returns-then-begins-clause-kept
returns-then-begins-clause-kept c =
    rw (c.push_reserved.ensures.items, c.push_reserved.ensures.capacity)
    (kept-begin c.args.entries.now.items c.args.live.now (vec_capacity c.args.entries.now) c.args.entry c.requires.kept c.requires.next c.requires.room (sym c.is_begin-begins.ensures ∙ c.if-begins.true))

pub returns-then-ends-clause-kept : goal.returns-then-ends-clause-kept
returns-then-ends-clause-kept c =
    rw (c.push_reserved.ensures.items, c.push_reserved.ensures.capacity)
    (kept-end c.args.entries.now.items c.args.live.now (vec_capacity c.args.entries.now) c.args.entry c.requires.kept c.requires.next (sym c.is_end-ends.ensures ∙ c.if-ends.true))

pub returns-else-ends-clause-kept : goal.returns-else-ends-clause-kept
returns-else-ends-clause-kept c =
    rw (c.push_reserved.ensures.items, c.push_reserved.ensures.capacity)
    (kept-other c.args.entries.now.items c.args.live.now (vec_capacity c.args.entries.now) c.args.entry c.requires.kept c.requires.next c.requires.room (sym c.is_begin-begins.ensures ∙ c.if-begins.false) (sym c.is_end-ends.ensures ∙ c.if-ends.false))
