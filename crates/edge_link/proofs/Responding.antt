-- Which response the bytes hold, and that there is one at most.
use Rattle.std.proofs.Common.{◌≡◌, ℕ, ◌≤◌, List, length, drop, sym, ◌∙◌, ap, subst, arith}
use Rattle.http_text.specs.Fields.{most_body}
use Rattle.edge_link.specs.declared.heads.Head.{Head}
use Rattle.edge_link.specs.declared.bodies.Told.{Told}
use Rattle.edge_link.specs.declared.bodies.Told.TheVariants.{Nothing, ToEnd, Counted, Chunks, Wrong}
use Rattle.edge_link.specs.Heads.{head_of, Leads, HasNoLast}
use Rattle.edge_link.specs.Bodies.{told_of, Gives, within_limit}
use Rattle.edge_link.specs.Responses.{response_of, IsResponse, HasNoResponseTo}
use Rattle.edge_link.proofs.HeadRuns.{led_unique}

-- over so few bytes the limit of a length changes nothing
given : (told : Told) (rest body : List ℕ) → length rest ≤ most_body → Gives (within_limit told) rest body → Gives told rest body
given Nothing rest body small x = x
given ToEnd rest body small x = x
given (Counted n) rest body small x = grind arith
given Chunks rest body small x = x
given Wrong rest body small x = x

limited : (told : Told) (rest body : List ℕ) → length rest ≤ most_body → Gives told rest body → Gives (within_limit told) rest body
limited Nothing rest body small x = x
limited ToEnd rest body small x = x
limited (Counted n) rest body small x = grind arith
limited Chunks rest body small x = x
limited Wrong rest body small x = x

pub responds : (method bytes : List ℕ) (head : Head) (end : ℕ) (told : Told) (body : List ℕ) → length (drop end bytes) ≤ most_body
    → Leads bytes head end → told ≡ within_limit (told_of method head) → Gives told (drop end bytes) body → IsResponse method bytes (response_of head) body
responds method bytes head end told body small (tree, led, is) e gives = record {
  tree = tree;
  rest = drop end bytes;
  led = led;
  response_is = ap response_of is;
  gives = subst (λ (h : Head). Gives (told_of method h) (drop end bytes) body) is
      (given (told_of method head) (drop end bytes) body small (subst (λ (t : Told). Gives t (drop end bytes) body) e gives));
}

pub no_last : (method bytes : List ℕ) → HasNoLast bytes → HasNoResponseTo method bytes
no_last method bytes none response body x = none x.tree x.rest x.led

pub no_body : (method bytes : List ℕ) (head : Head) (end : ℕ) (told : Told) → length (drop end bytes) ≤ most_body
    → Leads bytes head end → told ≡ within_limit (told_of method head) → ((body : List ℕ) → ¬ (Gives told (drop end bytes) body)) → HasNoResponseTo method bytes
no_body method bytes head end told small (tree, led, is) e none response body x =
    let same = led_unique bytes x.tree tree x.rest (drop end bytes) x.led led in
    let heads : head_of x.tree ≡ head = ap head_of same.0 ∙ sym is in
    let gives = subst (λ (r : List ℕ). Gives (told_of method head) r body) same.1 (subst (λ (h : Head). Gives (told_of method h) x.rest body) heads x.gives) in
    none body (subst (λ (t : Told). Gives t (drop end bytes) body) (sym e) (limited (told_of method head) (drop end bytes) body small gives))
