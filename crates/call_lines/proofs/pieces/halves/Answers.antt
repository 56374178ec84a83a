use Rattle.call_lines.proofs.Loops.{not_two}
use Rattle.call_lines.proofs.pieces.halves.Goals as goal

pub returns-in-Some : goal.returns-in-Some
returns-in-Some c = not_two c.args.at c.args.text.now _ _ _ _ c.in_ok-front.ensures.parts c.in-Some.ensures.parts
