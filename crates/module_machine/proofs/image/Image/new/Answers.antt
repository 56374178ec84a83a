use Rattle.std.proofs.Common.{◌∙◌, ap, subst}
use Rattle.wasm_types.specs.declared.modules.Module.{Module}
use Rattle.module_machine.specs.Callees.{AreCallees}
use Rattle.module_machine.proofs.Sharing.{is_image}
use Rattle.module_machine.proofs.image.Image.new.Goals as goal

pub returns-in-Ok : goal.returns-in-Ok
returns-in-Ok c =
    let C : Module → Type 0 = λ m. AreCallees m c.in-Ok.callees.items in
    is_image c.args.valid.now c.args.prepared.now (record { whole = c.module-whole.result; callees = c.in-Ok.callees; types = c.items.result; table = c.as_slice.result })
    c.module-whole.ensures.ready c.module-whole.ensures.valid c.requires.imports c.requires.prepared c.module-whole.ensures.same (subst C c.module-whole.ensures.same c.in-Ok.ensures)
    (c.items.ensures ∙ ap (λ (m : Module). m.types) c.module-whole.ensures.same) c.as_slice.ensures.value
