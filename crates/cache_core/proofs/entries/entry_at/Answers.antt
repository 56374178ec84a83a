use Rattle.std.proofs.Common.{arith, ap, sym, ◌∙◌, ◌-◌, reverse, Some}
use Rattle.std.proofs.lemmas.Option.{slice_get-get_or, slice_get_past}
use Rattle.cache_types.specs.Entries.{entry_at}
use Rattle.cache_core.proofs.Numbered.{entry_place, none_at_zero}
use Rattle.cache_core.proofs.entries.entry_at.Goals as goal

pub returns-then-number-eq0 : goal.returns-then-number-eq0
returns-then-number-eq0 c = sym (ap (entry_at (reverse c.args.entries.now)) c.if-number-eq0.true ∙ none_at_zero (reverse c.args.entries.now) c.requires)

pub returns-then-place-entries : goal.returns-then-place-entries
returns-then-place-entries c =
    let x = c.index-entries-place.result in
    ap Some c.index-entries-place.is ∙ sym (slice_get-get_or c.args.entries.now (c.args.number - 1) x c.if-place-entries.true)
    ∙ entry_place c.args.entries.now c.requires c.args.number (omega (arith, c.if-number-eq0.false))

pub returns-else-place-entries : goal.returns-else-place-entries
returns-else-place-entries c =
    sym (slice_get_past c.args.entries.now (c.args.number - 1) (omega (arith, c.if-place-entries.false)))
    ∙ entry_place c.args.entries.now c.requires c.args.number (omega (arith, c.if-number-eq0.false))
