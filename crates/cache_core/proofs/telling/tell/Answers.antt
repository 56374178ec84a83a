use Rattle.std.proofs.Common.{refl, sym, ◌∙◌, reverse, false}
use Rattle.cache_core.proofs.Arms.{knows_quiet, write_news, abandon_news, default_quiet, no_begin}
use Rattle.cache_core.proofs.telling.tell.Goals as goal

pub returns-else-is_done-clause-told : goal.returns-else-is_done-clause-told
returns-else-is_done-clause-told c =
    let e = c.args.entry.now in
    let past = reverse c.args.entries.now in
    knows_quiet c.args.parts.now past e c.requires.legal (no_begin e _ c.in-Write.is refl) c.requires.no_end
    (write_news past e c.in-Write.object c.in-Write.piece false c.in-Write.is (sym c.is_done.ensures ∙ c.if-is_done.false)) c.requires.knows

pub returns-else-is_done-2-clause-told : goal.returns-else-is_done-2-clause-told
returns-else-is_done-2-clause-told c =
    let e = c.args.entry.now in
    let past = reverse c.args.entries.now in
    knows_quiet c.args.parts.now past e c.requires.legal (no_begin e _ c.in-Abandon.is refl) c.requires.no_end
    (abandon_news past e c.in-Abandon.object false c.in-Abandon.is (sym c.is_done-in-Abandon.ensures ∙ c.if-is_done-2.false)) c.requires.knows

pub returns-in_default-clause-told : goal.returns-in_default-clause-told
returns-in_default-clause-told c =
    default_quiet c.args.parts.now (reverse c.args.entries.now) c.args.entry.now c.requires.legal c.requires.no_end
    c.in_default.not-Begin c.in_default.not-Insert c.in_default.not-TxInsert c.in_default.not-TxUpdate c.in_default.not-Write c.in_default.not-Finish c.in_default.not-Abandon c.in_default.not-Purge c.requires.knows
