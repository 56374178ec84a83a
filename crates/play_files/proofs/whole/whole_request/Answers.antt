use Rattle.std.proofs.Common.{◌≡◌, ℕ, List, ◌-◌, length, take, subst}
use Rattle.std.proofs.lemmas.Grind.{common_steps}
use Rattle.std.proofs.Common.{arith}
use Rattle.play_files.specs.Whole.{TellsFront}
use Rattle.play_files.proofs.Fronts.{whole_is, not_whole, none_whole}
use Rattle.play_files.proofs.whole.whole_request.Goals as goal

pub returns-in_default : goal.returns-in_default
returns-in_default c = none_whole c.args.text.now (subst (TellsFront c.args.text.now) c.in_default.is c.in_ok-incoming.ensures)

pub returns-in-None : goal.returns-in-None
returns-in-None c =
    let text : List ℕ = c.args.text.now in
    let front : List ℕ = take c.saturating_sub.result text in
    let front_is : front ≡ take (length text - 1) text = grind (arith, common_steps) in
    whole_is text front c.in-Some.incoming front_is (subst (TellsFront text) c.in-Some.is c.in_ok-incoming.ensures) (subst (TellsFront front) c.in-None.is c.in_ok-first_request.ensures)

pub returns-in-Some-2 : goal.returns-in-Some-2
returns-in-Some-2 c =
    let text : List ℕ = c.args.text.now in
    let front : List ℕ = take c.saturating_sub.result text in
    let front_is : front ≡ take (length text - 1) text = grind (arith, common_steps) in
    not_whole text front c.in-Some-2.field-0 front_is (subst (TellsFront front) c.in-Some-2.is c.in_ok-first_request.ensures)
