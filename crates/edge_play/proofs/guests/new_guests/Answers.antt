use Rattle.std.proofs.Common.{rules, ◌≡◌, ◌∙◌, ◌<◌, ◌+◌, ◌++◌, ◌∷◌, [], List, length, take, sym, subst, add-one}
use Rattle.std.proofs.Math.Seq.{take-suc}
use Rattle.std.specs.List.{slice_index_or}
use Rattle.schedule_play.proofs.Found.{found-at}
use Rattle.script_lines.specs.declared.line.Line.{Line}
use Rattle.scripted_guest.specs.Script.{script_program}
use Rattle.scripted_guest.specs.Scripted.{State, ScriptPlays}
use Rattle.edge_play.specs.Guests.{AreGuests}
use Rattle.edge_play.proofs.NewGuests.{guests-more}
use Rattle.edge_play.proofs.guests.new_guests.Goals as goal

pub loop-script-preserved : goal.loop-script-preserved
loop-script-preserved c =
    let i = c.loop-script.script-index in
    let scripts : List (List Line) = c.args.scripts.now in
    let guest : State = c.in_ok-new.field-0 in
    let within : i < length scripts = search rules in
    let same : c.in_ok-copied.field-0 ≡ slice_index_or scripts i [] = c.in_ok-copied.ensures ∙ sym (found-at scripts i c.script-item.result [] within c.script-item.is) in
    let one : take (i + 1) scripts ≡ take i scripts ++ slice_index_or scripts i [] ∷ [] = rw add-one (take-suc scripts i [] within) in
    let more = guests-more c.loop-script.guests.items (take i scripts) guest (slice_index_or scripts i []) c.loop-script.invariant (subst (λ (lines : List Line). ScriptPlays guest (script_program lines) []) same c.in_ok-new.ensures.plays) c.in_ok-new.ensures.stopped c.in_ok-new.ensures.ended in
    subst (AreGuests c.push.new.self.items) (sym one) (subst (λ (guests : List State). AreGuests guests (take i scripts ++ slice_index_or scripts i [] ∷ [])) (sym c.in_ok-push.ensures.items) more)
