use Rattle.std.proofs.Common.{arith}
use Rattle.std.proofs.lemmas.Grind.{common_steps}
use Rattle.edge_words.proofs.Parts.{parts_none, parts_some}
use Rattle.vary_rules.specs.Rules.{is_gap}
use Rattle.vary_rules.proofs.names.cut.Goals as goal

pub returns-in-None-clause-parts : goal.returns-in-None-clause-parts
returns-in-None-clause-parts c = parts_none is_gap c.args.text.now c.in-None.ensures.place

pub returns-in-Some-clause-parts : goal.returns-in-Some-clause-parts
returns-in-Some-clause-parts c = let e = parts_some is_gap c.args.text.now c.in-Some.place 0 c.in-Some.ensures.place in grind (arith, common_steps, e)
