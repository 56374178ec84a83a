use Rattle.std.proofs.Common.{reverse, sym}
use Rattle.cache_core.proofs.Results.{always_ok, always_err}
use Rattle.cache_core.proofs.WaitsMore.{awaits_quiet}
use Rattle.cache_core.proofs.awaiting.tell_other.Goals as goal

pub returns-in-None-clause-waits : goal.returns-in-None-clause-waits
returns-in-None-clause-waits c =
    always_ok c.tell.result (awaits_quiet c.args.waits.now (reverse c.args.entries.now) c.args.entry.now (sym c.in-None.ensures) c.requires.opens_none c.requires.awaits)

pub returns-in-None-clause-kept_waits : goal.returns-in-None-clause-kept_waits
returns-in-None-clause-kept_waits c = always_err c.tell.result c.requires.awaits
