use Rattle.std.proofs.Common.{refl, rules, []}
use Rattle.guest_run.proofs.Instances.{fresh_begins}
use Rattle.guest_run.proofs.guest.Guest.new.Goals as goal

pub returns-clause-plays : goal.returns-clause-plays
returns-clause-plays c = λ l program is begins. record {
  phase = record {
    no_calls = refl;
    stopped = refl;
    ended = refl;
    begins = begins.does [];
    beginning = λ reply. rw c.in_ok-tables.ensures (fresh_begins l c.args.service.now c.args.index c.args.head c.args.body program is begins reply);
  };
  events = search rules;
  room = search rules;
}
