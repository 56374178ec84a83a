use Rattle.std.proofs.Common.{◌≡◌, ◌∙◌, ap, sym, refl, subst, List, length, slice_get, Some, IfOk}
use Rattle.std.proofs.lemmas.Option.{slice_get_read}
use Rattle.wasm_types.specs.declared.types.FuncType.{FuncType}
use Rattle.module_machine.specs.Callees.{IsDefined}
use Rattle.module_machine.proofs.Callees.{knows_at, defined_there}
use Rattle.module_machine.proofs.functions.defined_at.Goals as goal

pub defined-requires : goal.defined-requires
defined-requires c =
    let body = c.in-Some-get.ensures.lookup in
    let code : slice_get c.args.whole.now.code c.args.index ≡ Some c.in-Some-get.code.now =
    ap (λ xs. slice_get xs c.args.index) (sym c.items-codes.ensures) ∙ slice_get_read c.items-codes.result.now (length c.items-codes.result.now) c.args.index c.in-Some-get.code.now refl body.3.0 body.1 in
    let table : slice_get c.args.jumps.now c.args.index ≡ Some c.items-in-Some-get-2.result.now = c.in-Some-get-2.ensures ∙ ap (λ t. Some t) (sym c.items-in-Some-get-2.ensures) in
    knows_at c.args.whole.now.code c.args.jumps.now c.args.index c.in-Some-get.code.now c.items-in-Some-get-2.result.now c.requires code table

pub returns-in-Some-get-2 : goal.returns-in-Some-get-2
returns-in-Some-get-2 c =
    let first = c.in-Some.ensures.lookup in
    let kind : slice_get c.args.whole.now.functions c.args.index ≡ Some c.in-Some.kind.now =
    ap (λ xs. slice_get xs c.args.index) (sym c.items-kinds.ensures) ∙ slice_get_read c.items-kinds.result.now (length c.items-kinds.result.now) c.args.index c.in-Some.kind.now refl first.3.0 first.1 in
    let body = c.in-Some-get.ensures.lookup in
    let code : slice_get c.args.whole.now.code c.args.index ≡ Some c.in-Some-get.code.now =
    ap (λ xs. slice_get xs c.args.index) (sym c.items-codes.ensures) ∙ slice_get_read c.items-codes.result.now (length c.items-codes.result.now) c.args.index c.in-Some-get.code.now refl body.3.0 body.1 in
    let T : List FuncType → Type 0 = λ types. IfOk c.defined.result (λ made. IsDefined types c.in-Some.kind.now c.in-Some-get.code.now made) in
    defined_there c.args.whole.now c.args.index c.in-Some.kind.now c.in-Some-get.code.now kind code c.defined.result (subst T c.items.ensures c.defined.ensures)
