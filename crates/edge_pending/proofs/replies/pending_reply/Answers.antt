use Rattle.edge_pending.proofs.replies.pending_reply.Goals as goal

pub returns-in-Gathering : goal.returns-in-Gathering
returns-in-Gathering c = rw c.in-Gathering.is (λ reads is. c.gathers_on.ensures reads _ _)

pub returns-in-Starting : goal.returns-in-Starting
returns-in-Starting c = rw c.in-Starting.is (λ reads is. c.started.ensures reads _)

pub returns-in-Receiving : goal.returns-in-Receiving
returns-in-Receiving c = rw c.in-Receiving.is (λ reads is. c.received_by.ensures reads _ is)

pub returns-in-Polling : goal.returns-in-Polling
returns-in-Polling c = rw c.in-Polling.is c.polled.ensures

pub returns-in-Waiting : goal.returns-in-Waiting
returns-in-Waiting c = rw c.in-Waiting.is c.came.ensures

pub returns-in-Choosing : goal.returns-in-Choosing
returns-in-Choosing c = rw c.in-Choosing.is c.chosen.ensures

pub returns-in-Picking : goal.returns-in-Picking
returns-in-Picking c = rw c.in-Picking.is (λ reads is. c.picked.ensures reads _)

pub returns-in-Peeking : goal.returns-in-Peeking
returns-in-Peeking c = rw c.in-Peeking.is (λ reads is. c.peeked.ensures reads _)
