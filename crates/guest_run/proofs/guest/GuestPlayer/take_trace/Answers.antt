use Rattle.std.proofs.Common.{◌∙◌, ap}
use Rattle.std.specs.Prelude.{Vec}
use Rattle.std.specs.declared.alloc.Global.{Global}
use Rattle.cache_types.specs.declared.outer.Event.{Event}
use Rattle.guest_run.proofs.Answering.{over_events}
use Rattle.guest_run.proofs.guest.GuestPlayer.take_trace.Goals as goal

pub returns : goal.returns
returns c = λ next trace plays.
    let g = c.args.self.now in
    c.of.ensures ∙ (ap (λ (v : Vec Event Global). v.items) c.replace.ensures.value ∙ over_events g g.phase trace c.requires plays.events)
