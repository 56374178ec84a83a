use Rattle.cache_calls.proofs.replies.cache_reply.Goals as goal

pub returns-in-Looking : goal.returns-in-Looking
returns-in-Looking c = rw c.in-Looking.is c.after_lookup.ensures

pub returns-in-Waiting : goal.returns-in-Waiting
returns-in-Waiting c = rw c.in-Waiting.is c.after_wait.ensures

pub returns-in-Inserting : goal.returns-in-Inserting
returns-in-Inserting c = rw c.in-Inserting.is c.after_insertion.ensures

pub returns-in-StreamingBack : goal.returns-in-StreamingBack
returns-in-StreamingBack c = rw c.in-StreamingBack.is c.after_insertion_back.ensures

pub returns-in-Telling : goal.returns-in-Telling
returns-in-Telling c = rw c.in-Telling.is c.after_call.ensures

pub returns-in-Closing : goal.returns-in-Closing
returns-in-Closing c = rw c.in-Closing.is c.after_close.ensures
