use Rattle.std.proofs.Common.{◌-◌, drop, subst, arith, vec_len}
use Rattle.std.proofs.lemmas.Grind.{common_steps}
use Rattle.http_text.specs.Fields.{most_body}
use Rattle.http_text.specs.Chunks.{TellsAfter}
use Rattle.http_text.specs.declared.chunks.AfterChunks.{AfterChunks}
use Rattle.edge_link.proofs.BodyGives.{whole, opened, wrong_chunk, over}
use Rattle.edge_link.proofs.bodies.chunked_body.Goals as goal

pub returns-in_ok-from_vec-in-Last-clause-some : goal.returns-in_ok-from_vec-in-Last-clause-some
returns-in_ok-from_vec-in-Last-clause-some c =
    let before = rw c.new-body.ensures.items at c.in_ok-then.ensures.chunks in
    let told = subst (λ (x : AfterChunks). TellsAfter (drop c.in_ok-then.field-0-0 c.args.rest.now) (most_body - vec_len c.take_chunks.new.body) x) c.in-Last.is c.in_ok-then.ensures.tells in
    rw c.in_ok-from_vec-in-Last.ensures (whole c.args.rest.now c.take_chunks.new.body.items (drop c.in_ok-then.field-0-0 c.args.rest.now) 0 c.in-Last.field-0 before told)

pub returns-in-Open-clause-none : goal.returns-in-Open-clause-none
returns-in-Open-clause-none c = λ e.
    let before = rw c.new-body.ensures.items at c.in_ok-then.ensures.chunks in
    let told = subst (λ (x : AfterChunks). TellsAfter (drop c.in_ok-then.field-0-0 c.args.rest.now) (most_body - vec_len c.take_chunks.new.body) x) c.in-Open.is c.in_ok-then.ensures.tells in
    opened c.args.rest.now c.take_chunks.new.body.items (drop c.in_ok-then.field-0-0 c.args.rest.now) _ before told

pub returns-in-Over-clause-none : goal.returns-in-Over-clause-none
returns-in-Over-clause-none c = λ e.
    let before = rw c.new-body.ensures.items at c.in_ok-then.ensures.chunks in
    let told = subst (λ (x : AfterChunks). TellsAfter (drop c.in_ok-then.field-0-0 c.args.rest.now) (most_body - vec_len c.take_chunks.new.body) x) c.in-Over.is c.in_ok-then.ensures.tells in
    over c.args.rest.now c.take_chunks.new.body.items (drop c.in_ok-then.field-0-0 c.args.rest.now) (most_body - vec_len c.take_chunks.new.body) c.requires (grind (arith, common_steps)) (grind (arith, common_steps)) before told

pub returns-in-Bad-clause-none : goal.returns-in-Bad-clause-none
returns-in-Bad-clause-none c = λ e.
    let before = rw c.new-body.ensures.items at c.in_ok-then.ensures.chunks in
    let told = subst (λ (x : AfterChunks). TellsAfter (drop c.in_ok-then.field-0-0 c.args.rest.now) (most_body - vec_len c.take_chunks.new.body) x) c.in-Bad.is c.in_ok-then.ensures.tells in
    wrong_chunk c.args.rest.now c.take_chunks.new.body.items (drop c.in_ok-then.field-0-0 c.args.rest.now) _ before told
