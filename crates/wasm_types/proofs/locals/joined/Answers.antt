-- A group that is longer, or one group more.
use Rattle.std.proofs.Common.{◌≡◌, false, ◌++◌, ◌∷◌, [], List, ℕ, replicate, sym, ap, ◌∙◌, subst, arith}
use Rattle.std.specs.Prelude.{Vec}
use Rattle.std.specs.Global.{Global}
use Rattle.wasm_types.specs.declared.types.ValueType.{ValueType}
use Rattle.wasm_types.specs.declared.locals.Group.{Group}
use Rattle.wasm_types.specs.Types.{same_type}
use Rattle.wasm_types.specs.Locals.{locals_of, AreFewest}
use Rattle.wasm_types.proofs.Groups.{group, same_is, last_length, longer_locals, longer_fewest, more_locals, more_fewest, ifok_one}
use Rattle.wasm_types.proofs.locals.joined.Goals as goal

pub overflow_add-count : goal.overflow_add-count
overflow_add-count c = let l = last_length c.args.groups.items c.args.last.count c.args.last.kind in omega (arith, l)

pub returns-then-same_type-clause-locals : goal.returns-then-same_type-clause-locals
returns-then-same_type-clause-locals c =
    let xs : List Group = c.args.groups.items in
    let same : c.args.last.kind ≡ c.args.kind = same_is c.args.last.kind c.args.kind (cc (c.same_type.ensures, c.if-same_type.true)) in
    ifok_one c.with_group.result c.with_group.ensures (λ v e.
    ap locals_of e
    ∙ longer_locals xs c.args.last.count c.args.count c.args.kind
    ∙ ap (λ (t : ValueType). locals_of (xs ++ group c.args.last.count t ∷ []) ++ replicate c.args.count c.args.kind) (sym same))

pub returns-then-same_type-clause-fewest : goal.returns-then-same_type-clause-fewest
returns-then-same_type-clause-fewest c =
    let xs : List Group = c.args.groups.items in
    let same : c.args.last.kind ≡ c.args.kind = same_is c.args.last.kind c.args.kind (cc (c.same_type.ensures, c.if-same_type.true)) in
    ifok_one c.with_group.result c.with_group.ensures (λ v e.
    subst AreFewest (sym e) (longer_fewest xs c.args.last.count c.args.count c.args.kind (subst (λ (t : ValueType). AreFewest (xs ++ group c.args.last.count t ∷ [])) same c.requires.fewest)))

pub returns-clause-locals : goal.returns-clause-locals
returns-clause-locals c =
    let xs : List Group = c.args.groups.items in
    let last : List Group = group c.args.count c.args.kind ∷ [] in
    ifok_one c.with_group-3.result c.with_group-3.ensures (λ v e.
    ap locals_of e
    ∙ ap (λ (ys : List Group). locals_of (ys ++ last)) c.in_ok-groups.ensures
    ∙ more_locals xs c.args.last c.args.count c.args.kind)

pub returns-clause-fewest : goal.returns-clause-fewest
returns-clause-fewest c =
    let xs : List Group = c.args.groups.items in
    let last : List Group = group c.args.count c.args.kind ∷ [] in
    let other : same_type c.args.last.kind c.args.kind ≡ false = cc (c.same_type.ensures, c.if-same_type.false) in
    ifok_one c.with_group-3.result c.with_group-3.ensures (λ v e.
    subst AreFewest (sym (e ∙ ap (λ (ys : List Group). ys ++ last) c.in_ok-groups.ensures)) (more_fewest xs c.args.last c.args.count c.args.kind c.requires.some other c.requires.fewest))
