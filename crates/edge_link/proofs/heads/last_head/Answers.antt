use Rattle.std.proofs.Common.{◌≡◌, ◌<◌, ℕ, true, false, drop, drop-drop, sym, ◌∙◌, ap, subst, arith, Option, Ok, IfSome}
use Rattle.std.proofs.lemmas.Grind.{common_steps}
use Rattle.edge_link.specs.declared.heads.Head.{Head}
use Rattle.edge_link.specs.Heads.{is_interim, HasHead, Passes}
use Rattle.edge_body.specs.Heads.{is_status}
use Rattle.edge_link.proofs.HeadRuns.{no_head, wrong_head, pass_more, some_bytes}
use Rattle.edge_link.proofs.heads.last_head.Goals as goal

pub returns-in-Ok-None-clause-none : goal.returns-in-Ok-None-clause-none
returns-in-Ok-None-clause-none c = λ e.
    no_head c.args.bytes.now (drop c.loop-head.at c.args.bytes.now) c.loop-head.invariant.passes
    (rw c.after.ensures at c.in-Ok-None.ensures.none (ap (λ x. Ok x) c.in-Ok-None.field-0-is))

pub returns-then-not-is_interim-clause-none : goal.returns-then-not-is_interim-clause-none
returns-then-not-is_interim-clause-none c = λ e.
    let has = subst (λ (o : Option (Head × ℕ)). IfSome o (λ f. HasHead (drop c.loop-head.at c.args.bytes.now) f.0 f.1)) c.in-Ok-Some.field-0-is
    (rw c.after.ensures at c.in-Ok-Some.ensures.some) in
    let off : is_interim c.in-Ok-Some.head.status ≡ false = grind (arith, common_steps) in
    let wrong : is_status c.in-Ok-Some.head.status ≡ false = grind (arith, common_steps) in
    wrong_head c.args.bytes.now (drop c.loop-head.at c.args.bytes.now) has.0 (drop c.in-Ok-Some.len (drop c.loop-head.at c.args.bytes.now))
    c.loop-head.invariant.passes has.1 (ap (λ (h : Head). is_interim h.status) (sym has.3) ∙ off) (ap (λ (h : Head). is_status h.status) (sym has.3) ∙ wrong)

pub loop-head-smaller : goal.loop-head-smaller
loop-head-smaller c =
    let has = subst (λ (o : Option (Head × ℕ)). IfSome o (λ f. HasHead (drop c.loop-head.at c.args.bytes.now) f.0 f.1)) c.in-Ok-Some.field-0-is
    (rw c.after.ensures at c.in-Ok-Some.ensures.some) in
    let some : 0 < c.in-Ok-Some.len = omega (arith, has.2, some_bytes has.0) in
    grind (arith, common_steps)

pub loop-head-preserved : goal.loop-head-preserved
loop-head-preserved c =
    let has = subst (λ (o : Option (Head × ℕ)). IfSome o (λ f. HasHead (drop c.loop-head.at c.args.bytes.now) f.0 f.1)) c.in-Ok-Some.field-0-is
    (rw c.after.ensures at c.in-Ok-Some.ensures.some) in
    let on : is_interim c.in-Ok-Some.head.status ≡ true = grind (arith, common_steps) in
    record {
      within = grind (arith, common_steps);
      passes = subst (Passes c.args.bytes.now) (drop-drop c.in-Ok-Some.len c.loop-head.at c.args.bytes.now)
          (pass_more c.args.bytes.now (drop c.loop-head.at c.args.bytes.now) has.0 (drop c.in-Ok-Some.len (drop c.loop-head.at c.args.bytes.now))
          c.loop-head.invariant.passes has.1 ((has.1.0, has.4), ap (λ (h : Head). is_interim h.status) (sym has.3) ∙ on));
    }
