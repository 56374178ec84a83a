use Rattle.scripted_guest.proofs.Advancing.{waits-now, over-now, plays-now, turn-due, stop-now, may-now}
use Rattle.scripted_guest.proofs.scripted.ScriptedPlayer.advance.Goals as goal

pub returns : goal.returns
returns c =
    let old = c.args.self.now in
    let now = c.next.new.self in
    let turn = c.next.result in
    let adv = c.next.ensures in
    record {
      waits = waits-now old now turn adv;
      over = over-now old now turn adv;
      plays = plays-now old now turn adv;
      turn = turn-due old now turn adv;
      stopped = stop-now old now turn adv;
      ended = adv.ended_is;
      may = λ next trace plays fresh. may-now old now turn adv next trace plays;
    }
