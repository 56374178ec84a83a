use Rattle.std.proofs.Common.{ℕ, List, None, refl, subst}
use Rattle.http_front.specs.Requests.{IsUnfinished}
use Rattle.play_files.specs.Whole.{IsAtFront, TellsFront}
use Rattle.play_files.proofs.Fronts.{found_front, none_front}
use Rattle.play_files.proofs.whole.first_request.Goals as goal

pub returns-in-Ok : goal.returns-in-Ok
returns-in-Ok c =
    let read = c.in-Ok.ensures.ok in
    subst (λ (bytes : List ℕ). IsAtFront bytes c.in-Ok.incoming) c.of-source.ensures
    (found_front _ _ _ IsUnfinished c.of-source.result c.read_request.new.source c.of-source.result read.0 read.1 c.in-Ok.incoming refl read.2 read.3)

pub returns-in_default : goal.returns-in_default
returns-in_default c =
    subst (λ (bytes : List ℕ). TellsFront bytes None) c.of-source.ensures
    (none_front c.read_request.result c.in-Err.fault c.of-source.result.bytes c.in-Err.is c.in_default.not-OutOfMemory c.in_default.not-ReadFault c.read_request.ensures.found)
