use Rattle.std.proofs.Common.{refl}
use Rattle.turnstile.specs.Standing.{Fits}
use Rattle.turnstile.proofs.Closing.{opens_as}
use Rattle.turnstile.proofs.turnstile.Turnstile.new.Goals as goal

pub new-requires : goal.new-requires
new-requires g c =
    opens_as g.T.Standing.entries g.T.Standing.first (Fits g.T.Standing.setting g.T.Standing.first g.T.Standing.entries g.T.Standing.sound) g.T.Standing.family c.of-start.result.value c.args.value _ c.of-start.ensures c.in_ok-slots.ensures.slot
    record { stands = refl; same_setting = refl; same_first = refl; is_sound = c.requires.sound } c.requires.families
