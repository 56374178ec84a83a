use Rattle.std.proofs.Common.{◌∙◌, ℕ, ◌+◌, List, ◌++◌, drop, ap}
use Rattle.cache_types.specs.declared.calls.Field.{Field}
use Rattle.edge_http_calls.specs.Fields.{names_behind}
use Rattle.edge_http_calls.proofs.Names.{names_step, drop_field}
use Rattle.edge_http_calls.proofs.fields.names_of.Goals as goal

pub loop-field-preserved : goal.loop-field-preserved
loop-field-preserved c =
    let fields : List Field = c.args.fields.now in
    let i : ℕ = c.loop-field.field-index in
    let names : List (List ℕ) = c.loop-field.names.items in
    let field : Field = c.field-item.result in
    ap (λ (xs : List (List ℕ)). xs ++ names_behind xs (drop (i + 1) fields)) c.in_ok-note_name.ensures
    ∙ (names_step names field (drop (i + 1) fields)
    ∙ (ap (λ (fs : List Field). names ++ names_behind names fs) (drop_field fields i field c.loop-field-test.true c.field-item.is)
    ∙ c.loop-field.invariant))
