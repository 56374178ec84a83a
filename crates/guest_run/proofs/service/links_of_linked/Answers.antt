use Rattle.std.proofs.Common.{◌∙◌}
use Rattle.guest_run.proofs.Linking.{agreed}
use Rattle.guest_run.proofs.service.links_of_linked.Goals as goal

pub returns-in-Ok-clause-links : goal.returns-in-Ok-clause-links
returns-in-Ok-clause-links c =
    agreed c.module.result.now c.args.linked.now.whole c.args.linked.now.links c.in-Ok.links (c.module.ensures.same ∙ c.valid.ensures) c.requires c.in-Ok.ensures
