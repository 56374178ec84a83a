use Rattle.std.proofs.Common.{◌∷◌, Some, sym, ap, ◌∙◌}
use Rattle.atomic_table.specs.Table.{rest}
use Rattle.turnstile.proofs.steps.take_value.Goals as goal

pub exchange-requires : goal.exchange-requires
exchange-requires g c =
    let x = c.requires.loaded in
    (c.requires.table, (Some x.0, x.1 ∙ ap (λ l. (0, Some x.0) ∷ l) (sym (ap rest x.1))))
