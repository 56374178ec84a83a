use Rattle.std.proofs.Common.{◌≡◌, refl}
use Rattle.std.specs.Prelude.{Some, false, true}
use Rattle.cache_types.specs.declared.outer.OuterReply.TheVariants as said
use Rattle.player.specs.Runs.{is_link}
use Rattle.schedule_play.specs.Links.{Asks}
use Rattle.schedule_play.proofs.Taking.{made-of, no-link}
use Rattle.schedule_play.proofs.links.reply_to.Goals as goal

pub returns-in-Now-clause-calls : goal.returns-in-Now-clause-calls
returns-in-Now-clause-calls g c =
    made-of (Asks g.L.Link.starts g.L.Link.polls g.L.Link.waits g.L.Link.chooses) c.args.link.now c.args.link.now c.args.call.now (Some (said.Now c.args.reading)) (λ link. let none : is_link c.args.call.now ≡ false = rw c.in-Now.is refl in cc (link, none)) (λ _. refl)

pub returns-in-Start-clause-calls : goal.returns-in-Start-clause-calls
returns-in-Start-clause-calls g c =
    made-of (Asks g.L.Link.starts g.L.Link.polls g.L.Link.waits g.L.Link.chooses) c.args.link.now c.start.new.link c.args.call.now c.start.result (λ _. rw c.in-Start.is c.start.ensures.call) (λ isnt. let link : is_link c.args.call.now ≡ true = rw c.in-Start.is refl in cc (link, isnt))

pub returns-in-Poll-clause-calls : goal.returns-in-Poll-clause-calls
returns-in-Poll-clause-calls g c =
    made-of (Asks g.L.Link.starts g.L.Link.polls g.L.Link.waits g.L.Link.chooses) c.args.link.now c.poll.new.link c.args.call.now c.poll.result (λ _. rw c.in-Poll.is c.poll.ensures.call) (λ isnt. let link : is_link c.args.call.now ≡ true = rw c.in-Poll.is refl in cc (link, isnt))

pub returns-in-WaitFor-clause-calls : goal.returns-in-WaitFor-clause-calls
returns-in-WaitFor-clause-calls g c =
    made-of (Asks g.L.Link.starts g.L.Link.polls g.L.Link.waits g.L.Link.chooses) c.args.link.now c.wait.new.link c.args.call.now c.wait.result (λ _. rw c.in-WaitFor.is c.wait.ensures.call) (λ isnt. let link : is_link c.args.call.now ≡ true = rw c.in-WaitFor.is refl in cc (link, isnt))

pub returns-in-AnyOf-clause-calls : goal.returns-in-AnyOf-clause-calls
returns-in-AnyOf-clause-calls g c =
    made-of (Asks g.L.Link.starts g.L.Link.polls g.L.Link.waits g.L.Link.chooses) c.args.link.now c.any_of.new.link c.args.call.now c.any_of.result (λ _. rw c.in-AnyOf.is c.any_of.ensures.call) (λ isnt. let link : is_link c.args.call.now ≡ true = rw c.in-AnyOf.is refl in cc (link, isnt))

pub returns-in_default-clause-calls : goal.returns-in_default-clause-calls
returns-in_default-clause-calls g c =
    made-of (Asks g.L.Link.starts g.L.Link.polls g.L.Link.waits g.L.Link.chooses) c.args.link.now c.args.link.now c.args.call.now (Some said.Sent) (λ link. absurd (no-link c.args.call.now c.in_default.not-Start c.in_default.not-Poll c.in_default.not-WaitFor c.in_default.not-AnyOf link)) (λ _. refl)
