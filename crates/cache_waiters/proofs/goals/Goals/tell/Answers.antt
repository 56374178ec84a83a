use Rattle.cache_waiters.proofs.Telling.{newest_told}
use Rattle.cache_waiters.proofs.goals.Goals.tell.Goals as goal

pub returns-clause-told : goal.returns-clause-told
returns-clause-told c = λ transaction told at is stands.
    newest_told c.args.self.now.newest c.insert.new.self c.args.goal c.args.holder transaction told at is stands c.in_ok-insert.ensures.updates.0
