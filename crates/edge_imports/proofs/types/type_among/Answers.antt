use Rattle.std.proofs.Common.{refl, ◌≡◌, ◌++◌, ◌∙◌, sym, subst, List, [], drop, length, slice_get, ℕ, Option}
use Rattle.std.specs.List.{filter_map}
use Rattle.std.proofs.lemmas.List.{drop_all}
use Rattle.std.proofs.lemmas.Option.{slice_get_read, slice_get_past}
use Rattle.wasm_types.specs.declared.modules.Import.{Import}
use Rattle.edge_imports.specs.Links.{imported_type}
use Rattle.edge_imports.proofs.types.type_among.Goals as goal

-- behind the last import stand the defined functions
past : (imports : List Import) (functions : List ℕ) (rest : List Import) (left : ℕ) (wanted : Option ℕ) → rest ≡ [] → slice_get (filter_map (λ (i : Import). imported_type i.kind) rest ++ functions) left ≡ wanted → slice_get functions left ≡ wanted
past imports functions rest left wanted none is = subst (λ r. slice_get (filter_map (λ (i : Import). imported_type i.kind) r ++ functions) left ≡ wanted) none is

pub returns-in-Some-get : goal.returns-in-Some-get
returns-in-Some-get c =
    let none : drop c.loop-import.import-index c.args.imports.now ≡ [] = drop_all c.loop-import.import-index c.args.imports.now c.loop-import-test.false in
    let there = c.in-Some-get.ensures.lookup in
    sym (slice_get_read c.args.functions.now (length c.args.functions.now) c.loop-import.left c.in-Some-get.function.now refl there.3.0 there.1) ∙ past c.args.imports.now c.args.functions.now (drop c.loop-import.import-index c.args.imports.now) c.loop-import.left (slice_get (filter_map (λ (i : Import). imported_type i.kind) c.args.imports.now ++ c.args.functions.now) c.args.index) none c.loop-import.invariant

pub returns-in-None : goal.returns-in-None
returns-in-None c =
    let none : drop c.loop-import.import-index c.args.imports.now ≡ [] = drop_all c.loop-import.import-index c.args.imports.now c.loop-import-test.false in
    let there = c.in-None.ensures.lookup in
    sym (slice_get_past c.args.functions.now c.loop-import.left there.3) ∙ past c.args.imports.now c.args.functions.now (drop c.loop-import.import-index c.args.imports.now) c.loop-import.left (slice_get (filter_map (λ (i : Import). imported_type i.kind) c.args.imports.now ++ c.args.functions.now) c.args.index) none c.loop-import.invariant
