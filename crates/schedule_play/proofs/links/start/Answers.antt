use Rattle.std.proofs.Common.{subst, sym}
use Rattle.std.proofs.lemmas.Str.{IsUtf8-from_ascii}
use Rattle.std.specs.Str.{IsUtf8}
use Rattle.schedule_play.proofs.Addresses.{ascii-address}
use Rattle.schedule_play.proofs.links.start.Goals as goal

pub unreachable-requires : goal.unreachable-requires
unreachable-requires g c = c.in-Err.ensures.cases.0 (subst IsUtf8 (sym c.bytes.ensures) (IsUtf8-from_ascii c.args.address.now (ascii-address c.args.address.now c.requires)))
