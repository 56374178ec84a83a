use Rattle.std.proofs.Common.{◌≡◌, ap, sym, subst, ◌∙◌, Err}
use Rattle.wasm_types.specs.declared.modules.Module.{Module}
use Rattle.wasm_reader.specs.Grammar.{IsModule}
use Rattle.wasm_validate.specs.Valid.{IsValid}
use Rattle.edge_imports.specs.Links.{linked}
use Rattle.edge_modules.specs.declared.fault.Stopped.{Stopped}
use Rattle.edge_modules.specs.Loading.{IsCause, IsAnswered}
use Rattle.edge_modules.proofs.Loaded.{stop-cause, link-cause, link-answered, one-loaded}
use Rattle.edge_modules.proofs.loading.load.Goals as goal

pub returns-in-Err-clause-cause : goal.returns-in-Err-clause-cause
returns-in-Err-clause-cause c =
    subst (IsCause c.args.bytes.now) (sym c.stopped.ensures) (stop-cause c.args.bytes.now c.in-Err.refusal c.in-Err.ensures.cause)

pub returns-in-Ok-link-clause-only : goal.returns-in-Ok-link-clause-only
returns-in-Ok-link-clause-only c l loaded =
    let same : c.in-Ok-link.linked.whole ≡ c.in-Ok.valid = c.in-Ok-link.ensures.found.0 in
    one-loaded c.args.bytes.now c.in-Ok-link.linked l
    (record {
      spelled = subst (IsModule c.args.bytes.now) (sym same) c.in-Ok.ensures.found;
      valid = subst IsValid (sym same) c.in-Ok.ensures.valid;
      links_are = ap linked same ∙ c.in-Ok-link.ensures.found.1;
    }) loaded

pub returns-in-Err-link-clause-only : goal.returns-in-Err-link-clause-only
returns-in-Err-link-clause-only c l loaded =
    subst (λ (s : Stopped). IsAnswered l (Err s)) (sym c.unlinked.ensures)
    (link-answered c.args.bytes.now c.in-Ok.valid c.in-Err-link.refusal l c.in-Ok.ensures.found c.in-Err-link.ensures.refused loaded)

pub returns-in-Err-link-clause-cause : goal.returns-in-Err-link-clause-cause
returns-in-Err-link-clause-cause c =
    subst (IsCause c.args.bytes.now) (sym c.unlinked.ensures)
    (link-cause c.args.bytes.now c.in-Ok.valid c.in-Err-link.refusal c.in-Ok.ensures.found c.in-Ok.ensures.valid c.in-Err-link.ensures.refused)
