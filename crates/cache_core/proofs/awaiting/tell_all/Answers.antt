use Rattle.std.proofs.Common.{reverse}
use Rattle.cache_core.proofs.Results.{on_ok, on_err, always_ok, always_err}
use Rattle.cache_core.proofs.WaitsMore.{opens_none, lookup_quiet}
use Rattle.cache_core.proofs.awaiting.tell_all.Goals as goal

pub returns-in-TxLookup-clause-told : goal.returns-in-TxLookup-clause-told
returns-in-TxLookup-clause-told c =
    always_ok c.tell_lookup.result (lookup_quiet c.args.parts.now (reverse c.args.entries.now) c.args.entry.now c.in-TxLookup.key c.in-TxLookup.headers c.in-TxLookup.is c.requires.legal c.requires.knows)

pub returns-in-TxLookup-clause-waits : goal.returns-in-TxLookup-clause-waits
returns-in-TxLookup-clause-waits c =
    on_ok c.tell_lookup.result (λ told. told (reverse c.args.entries.now) c.in-TxLookup.is c.requires.knows c.requires.awaits) c.tell_lookup.ensures.told

pub returns-in-TxLookup-clause-kept : goal.returns-in-TxLookup-clause-kept
returns-in-TxLookup-clause-kept c = always_err c.tell_lookup.result c.requires.knows

pub returns-in-TxLookup-clause-kept_waits : goal.returns-in-TxLookup-clause-kept_waits
returns-in-TxLookup-clause-kept_waits c =
    on_err c.tell_lookup.result (λ same. same (reverse c.args.entries.now) c.requires.awaits) c.tell_lookup.ensures.kept

pub tell_other-requires-clause-opens_none : goal.tell_other-requires-clause-opens_none
tell_other-requires-clause-opens_none c = opens_none (reverse c.args.entries.now) c.args.entry.now c.in_default.not-TxLookup
