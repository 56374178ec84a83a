use Rattle.scripted_guest.proofs.Answering.{answered-view, answer-is_cache}
use Rattle.scripted_guest.proofs.scripted.ScriptedPlayer.answer.Goals as goal

pub returns-in-Cache-clause-plays : goal.returns-in-Cache-clause-plays
returns-in-Cache-clause-plays c = λ next trace plays.
    answered-view c.args.self.now _ next trace c.in-Cache.told c.args.reply c.note.new.values c.note.new.events c.makes_end-self-inside.result c.self.view_is c.in-Cache.is c.makes_end-self-inside.ensures plays c.requires c.note.ensures.values c.note.ensures.events

pub returns : goal.returns
returns c = absurd (answer-is_cache c.args.self.now c.args.reply c.requires c.in_default.not-Cache)
