-- New guests, one more.
use Rattle.std.specs.Prelude.{◌≡◌, false, List, [], ◌∷◌, ◌++◌, None, length, refl}
use Rattle.std.proofs.Common.{arith}
use Rattle.script_lines.specs.declared.line.Line.{Line}
use Rattle.scripted_guest.specs.Script.{script_program}
use Rattle.scripted_guest.specs.Scripted.{State, ScriptPlays}
use Rattle.edge_play.specs.Guests.{AreGuests}

pub guests-more : (guests : List State) (scripts : List (List Line)) (guest : State) (script : List Line) → AreGuests guests scripts → ScriptPlays guest (script_program script) [] → guest.stopped ≡ None → guest.ended ≡ false → AreGuests (guests ++ guest ∷ []) (scripts ++ script ∷ [])
guests-more [] [] guest script are plays stopped ended = ((plays, stopped, ended), tt)
guests-more [] (other ∷ scripts) guest script are plays stopped ended = absurd are
guests-more (other ∷ guests) [] guest script are plays stopped ended = absurd are
guests-more (other ∷ guests) (first ∷ scripts) guest script are plays stopped ended = (are.0, guests-more guests scripts guest script are.1 plays stopped ended)

pub guests-count : (guests : List State) (scripts : List (List Line)) → AreGuests guests scripts → length guests ≡ length scripts
guests-count [] [] are = refl
guests-count [] (script ∷ scripts) are = absurd are
guests-count (guest ∷ guests) [] are = absurd are
guests-count (guest ∷ guests) (script ∷ scripts) are = let rest = guests-count guests scripts are.1 in omega (arith, rest)
