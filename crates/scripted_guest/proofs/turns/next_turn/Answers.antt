use Rattle.std.proofs.Common.{rules, ◌≡◌, true}
use Rattle.scripted_guest.specs.Script.{is_asking}
use Rattle.scripted_guest.proofs.Lines.{wants-asking, onerr-from}
use Rattle.scripted_guest.proofs.turns.next_turn.Goals as goal

pub returns-then-is_asking-clause-wants : goal.returns-then-is_asking-clause-wants
returns-then-is_asking-clause-wants c = λ good.
    let asks : is_asking c.args.lines.now c.args.values.now.items ≡ true = search rules in
    onerr-from c.asking_turn.result (wants-asking c.args.lines.now c.args.values.now.items good asks)
