use Rattle.std.proofs.Common.{ap, sym, ◌∙◌, reverse, false}
use Rattle.std.specs.Option.{option_map_or}
use Rattle.cache_types.specs.declared.entries.Entry.{Entry}
use Rattle.cache_types.specs.Entries.{is_made}
use Rattle.cache_core.proofs.MadeEntries.{made_is}
use Rattle.cache_core.proofs.bodies.is_object.Goals as goal

pub returns-in-Some : goal.returns-in-Some
returns-in-Some c =
    c.is_made.ensures ∙ ap (λ o. option_map_or (λ (e : Entry). is_made e.reply) o false) c.in-Some.ensures
    ∙ sym (made_is (reverse c.args.entries.now) c.requires c.args.object)

pub returns-in-None : goal.returns-in-None
returns-in-None c =
    ap (λ o. option_map_or (λ (e : Entry). is_made e.reply) o false) c.in-None.ensures
    ∙ sym (made_is (reverse c.args.entries.now) c.requires c.args.object)
