use Rattle.std.proofs.Common.{sym, ◌∙◌, reverse}
use Rattle.cache_core.proofs.Writing.{writable_held, nothing_writable}
use Rattle.cache_core.proofs.bodies.writable.Goals as goal

pub returns-then-not-is_object : goal.returns-then-not-is_object
returns-then-not-is_object c = nothing_writable (reverse c.args.entries.now) c.args.guest c.args.object (sym c.is_object.ensures ∙ c.if-not-is_object.true)

pub returns-in-Some : goal.returns-in-Some
returns-in-Some c =
    c.writable_by.ensures
    ∙ writable_held (reverse c.args.entries.now) c.args.parts.now.objects c.args.guest c.args.object c.in-Some.standing.now (sym c.is_object.ensures ∙ c.if-not-is_object.false) c.requires.knows.held (sym c.in-Some.ensures.value)
