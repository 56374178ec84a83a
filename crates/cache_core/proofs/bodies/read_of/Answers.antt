use Rattle.std.proofs.Common.{sym, ◌∙◌, reverse}
use Rattle.cache_core.proofs.Lookups.{if_ok}
use Rattle.cache_core.proofs.Writing.{read_is}
use Rattle.cache_core.proofs.bodies.read_of.Goals as goal

pub returns-in-Some : goal.returns-in-Some
returns-in-Some c =
    if_ok c.read_by.result
    (λ reply is. is ∙ read_is (reverse c.args.entries.now) c.args.parts.now.objects c.args.object c.args.place c.args.most c.in-Some.standing.now (sym c.is_object.ensures ∙ c.if-not-is_object.false) c.requires.knows.held (sym c.in-Some.ensures.value))
    c.read_by.ensures
