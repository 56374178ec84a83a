use Rattle.std.proofs.Common.{reverse, ap, ◌∙◌, ◌==◌, ◌||◌, ◌&&◌}
use Rattle.cache_core.proofs.Results.{always_err}
use Rattle.cache_core.proofs.WaitsMore.{awaits_ended, awaits_same}
use Rattle.cache_core.proofs.awaiting.tell_ended.Goals as goal

pub returns-in_err-make_room-clause-kept_waits : goal.returns-in_err-make_room-clause-kept_waits
returns-in_err-make_room-clause-kept_waits c =
    always_err c.from_residual.result (awaits_same c.args.waits.now c.make_room.new.endings (reverse c.args.entries.now) c.make_room.ensures.over c.make_room.ensures.closed c.requires.awaits)

pub returns-in_err-tell-clause-kept_waits : goal.returns-in_err-tell-clause-kept_waits
returns-in_err-tell-clause-kept_waits c =
    always_err c.from_residual-in_err-tell.result (awaits_same c.args.waits.now c.make_room.new.endings (reverse c.args.entries.now) c.make_room.ensures.over c.make_room.ensures.closed c.requires.awaits)

pub returns-clause-waits : goal.returns-clause-waits
returns-clause-waits c =
    awaits_ended c.args.waits.now c.tell-2.new.endings (reverse c.args.entries.now) c.args.entry.now c.args.ended c.requires.is
    (λ n. c.tell-2.ensures.over n ∙ ap (λ b. c.args.ended.number == n || b) (c.make_room.ensures.over n))
    (λ n. c.tell-2.ensures.closed n ∙ ap (λ b. (c.args.ended.number == n && c.args.ended.closed) || b) (c.make_room.ensures.closed n))
    c.requires.awaits
