use Rattle.std.proofs.Common.{[], ◌∷◌, ◌++◌, Err, List, ℕ, Vec, Global, map, subst, sym}
use Rattle.edge_outside.specs.Files.{IsRead}
use Rattle.edge_outside.specs.Made.{made_then}
use Rattle.edge_top.specs.Play.{Plays}
use Rattle.edge_top.specs.Several.{ReadsThen}
use Rattle.edge_top.proofs.PlayParts.{read-then, unread}
use Rattle.edge_top.proofs.play.play_text.Goals as goal

pub returns-in-Ok-clause-works : goal.returns-in-Ok-clause-works
returns-in-Ok-clause-works g c =
    let names = c.args.names.guest.now ∷ (c.args.names.settings.now ∷ (c.args.names.run.now ∷ [])) in
    let did = c.in-Ok.ensures.reads in
    let then = c.play_pieces.ensures.works in
    let pieces = map (λ (piece : Vec ℕ Global). piece.items) c.in-Ok.pieces.items in
    let plays = subst (λ (of : List (Vec ℕ Global)). Plays (map (λ (piece : Vec ℕ Global). piece.items) of) then.0 c.play_pieces.result) c.as_slice.ensures.value then.1.1 in
    (did.0 ++ then.0, (made_then (IsRead g.F.Files.reads g.F.Files.content) c.args.files.now did.0 c.read_all.new.files then.0 c.play_pieces.new.files did.1.0 then.1.0, read-then names pieces did.0 then.0 c.play_pieces.result did.1.1 plays))

pub returns-in-Err-clause-works : goal.returns-in-Err-clause-works
returns-in-Err-clause-works g c =
    let names = c.args.names.guest.now ∷ (c.args.names.settings.now ∷ (c.args.names.run.now ∷ [])) in
    let did = c.in-Err.ensures.reads in
    (did.0, (did.1.0, subst (λ ended. ReadsThen names Plays did.0 (Err ended)) (sym c.from.ensures) (unread names did.0 c.in-Err.fault did.1.1)))
