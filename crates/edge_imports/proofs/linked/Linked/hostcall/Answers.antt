use Rattle.std.proofs.Common.{◌≡◌, ◌<◌, length, ap, sym, subst, ◌∙◌}
use Rattle.std.specs.Prelude.{List, ℕ, slice_get}
use Rattle.std.specs.List.{filter_map}
use Rattle.std.proofs.lemmas.Option.{slice_get-get_or}
use Rattle.wasm_types.specs.declared.modules.Import.{Import}
use Rattle.edge_imports.specs.declared.hostcall.Hostcall.{Hostcall}
use Rattle.edge_imports.specs.declared.hostcall.Hostcall.TheVariants.{AbiInit}
use Rattle.edge_imports.specs.Links.{LinkedModule, call_of, hostcall_at}
use Rattle.edge_imports.proofs.Indexes.{all-known, the-calls, lengths, calls-at}
use Rattle.edge_imports.proofs.linked.Linked.hostcall.Goals as goal

pub bounds-items-import : goal.bounds-items-import
bounds-items-import c =
    let m = c.self.inside.valid in
    let same : m.imports ≡ c.args.self.now.whole.imports = ap (λ (l : LinkedModule). l.whole.imports) c.self.view_is in
    let all = all-known m c.self.inside.links c.self.invariant in
    let calls : c.items.result.now ≡ filter_map call_of m.imports = c.items.ensures ∙ the-calls m c.self.inside.links c.self.invariant in
    let count : length c.args.self.now.whole.imports ≡ length c.items.result.now = ap length (sym same) ∙ (sym (lengths 0 m.imports all) ∙ ap length (sym calls)) in
    subst (λ (n : ℕ). c.args.import < n) count c.requires

pub returns : goal.returns
returns c =
    let m = c.self.inside.valid in
    let same : m.imports ≡ c.args.self.now.whole.imports = ap (λ (l : LinkedModule). l.whole.imports) c.self.view_is in
    let all = all-known m c.self.inside.links c.self.invariant in
    let calls : c.items.result.now ≡ filter_map call_of m.imports = c.items.ensures ∙ the-calls m c.self.inside.links c.self.invariant in
    let count : length c.args.self.now.whole.imports ≡ length c.items.result.now = ap length (sym same) ∙ (sym (lengths 0 m.imports all) ∙ ap length (sym calls)) in
    let within : c.args.import < length c.items.result.now = subst (λ (n : ℕ). c.args.import < n) count c.requires in
    ap (λ (is : List Import). hostcall_at is c.args.import) (sym same)
    ∙ (sym (calls-at 0 m.imports all c.args.import)
    ∙ (ap (λ (xs : List Hostcall). slice_get xs c.args.import) (sym calls)
    ∙ slice_get-get_or c.items.result.now c.args.import AbiInit within))
