use Rattle.std.proofs.Common.{sym, ◌∙◌, refl}
use Rattle.cache_types.specs.Transactions.{transactions}
use Rattle.cache_core.proofs.Results.{on_ok, on_err}
use Rattle.cache_core.proofs.WaitsMore.{awaits_untold, awaits_told}
use Rattle.cache_core.proofs.awaiting.tell_lookup.Goals as goal

pub returns-then-not-is_told_to_insert-clause-told : goal.returns-then-not-is_told_to_insert-clause-told
returns-then-not-is_told_to_insert-clause-told c = λ past is knows awaits.
    awaits_untold c.args.waits.now past c.args.entry.now c.args.key.now c.args.headers.now is (sym c.is_told_to_insert.ensures ∙ c.if-not-is_told_to_insert.true) awaits

pub returns-clause-told : goal.returns-clause-told
returns-clause-told c =
    on_ok c.tell.result
    (λ told past is knows awaits.
    awaits_told c.args.waits.now (record c.args.waits.now { goals = c.tell.new.self }) past c.args.entry.now c.args.key.now c.args.headers.now c.in_ok-goal.goal (record { number = c.args.entry.now.number; guest = c.args.entry.now.guest }) is (sym c.is_told_to_insert.ensures ∙ c.if-not-is_told_to_insert.false) (c.in_ok-goal.ensures past knows) refl told refl awaits)
    c.tell.ensures.told

pub returns-clause-kept : goal.returns-clause-kept
returns-clause-kept c =
    on_err c.tell.result (λ same past awaits. record { goals = same (transactions past) awaits.goals; over = awaits.over; closed = awaits.closed }) c.tell.ensures.unchanged
