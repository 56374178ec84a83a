-- What the row that answers the client needs, and its first step.
use Rattle.std.proofs.Common.{◌≡◌, ℕ, ◌==◌, ◌||◌, ◌&&◌, not, List, refl, sym, subst}
use Rattle.std.specs.Prelude.{Option, None, Some, is_some, Result, Ok, Err, IfOk, OnOk}
use Rattle.cache_types.specs.declared.outer.OuterCall.TheVariants as call
use Rattle.wasm_memory.specs.Linear.{Linear}
use Rattle.edge_abi.specs.declared.asked.Step.{Step}
use Rattle.edge_abi.specs.declared.status.Status.TheVariants as status
use Rattle.edge_abi.specs.declared.status.Refusal.{Refusal}
use Rattle.edge_abi.specs.Goes.{Goes}
use Rattle.edge_abi.specs.Refusals.{and_then, unless, some_or, handled}
use Rattle.edge_abi.specs.Tables.{held}
use Rattle.edge_abi.specs.Told.{Row, ask}
use Rattle.edge_body.specs.Heads.{Request, Response}
use Rattle.edge_body.specs.declared.body.Part.{Part}
use Rattle.http_front.specs.Answers.{answer_text}
use Rattle.edge_http_calls.specs.declared.tables.BodyState.{BodyState}
use Rattle.edge_http_calls.specs.declared.tables.HttpTables.{HttpTables}
use Rattle.edge_http_calls.specs.Bodies.{parts_in, parts_of, status_of_sent}
use Rattle.body_calls.specs.declared.under_way.Then.TheVariants.{Send}
use Rattle.body_calls.specs.declared.under_way.UnderWay.{UnderWay}
use Rattle.body_calls.specs.UnderWays.{headed, resumed}
use Rattle.body_calls.proofs.Steps.{judged_goes}
use Rattle.answer_calls.specs.Sends.{http_resp_send_downstream, head_step, sendable, told_length}

-- a second handle that names nothing is refused
second_needed : {X Y Z : Type 0} (first : Result X Refusal) (second : Option Y) (next : X → Y → Result Z Refusal) (z : Z) → second ≡ None
    → and_then first (λ x. and_then (some_or second status.Badf) (next x)) ≡ Ok z → ⊥
second_needed (Ok x) None next z none is = cc
second_needed (Ok x) (Some y) next z none is = cc
second_needed (Err fault) second next z none is = cc

pub body_needed : (t : HttpTables) (response handle streaming : ℕ) (head : Response) → sendable t response handle streaming ≡ Ok head → held t.bodies handle ≡ None → ⊥
body_needed t response handle streaming head is none =
    second_needed (handled t.responses response) (held t.bodies handle)
    (λ (given : Response) (state : BodyState). and_then (unless (is_some (parts_of state) && (not t.answered && (streaming == 0 || streaming == 1))) status.Inval) (λ _. Ok given)) head none is

pub send_goes : {E : Type 0} (request : Request) (t : HttpTables) (m : Linear) (response handle streaming : ℕ) (head : Response) (bytes : List ℕ)
    → sendable t response handle streaming ≡ Ok head → bytes ≡ answer_text request head (told_length streaming (parts_in (held t.bodies handle)))
    → (result : Result (Step UnderWay) E) (after : HttpTables)
    → IfOk result (λ step. step ≡ head_step response handle (streaming == 1) bytes (parts_in (held t.bodies handle))) → OnOk result (after ≡ t)
    → IfOk result (λ step. Goes resumed (http_resp_send_downstream request t m response handle streaming) step after m)
send_goes request t m response handle streaming head bytes is text (Ok step) after step_is same =
    let left : List Part = parts_in (held t.bodies handle) in
    let goes : Response → Row HttpTables =
    λ given. ask (call.Head (answer_text request given (told_length streaming left))) (λ reply. headed (Send response handle (streaming == 1)) left t m (status_of_sent reply)) in
    let told : Goes resumed (goes head) (head_step response handle (streaming == 1) (answer_text request head (told_length streaming left)) left) t m = (tt, refl, λ reply replies. refl) in
    let written : Goes resumed (goes head) (head_step response handle (streaming == 1) bytes left) t m =
    subst (λ (x : List ℕ). Goes resumed (goes head) (head_step response handle (streaming == 1) x left) t m) (sym text) told in
    let stepped : Goes resumed (goes head) step t m = subst (λ (x : Step UnderWay). Goes resumed (goes head) x t m) (sym step_is) written in
    judged_goes t m (sendable t response handle streaming) head goes is step after m (subst (λ (x : HttpTables). Goes resumed (goes head) step x m) (sym same) stepped)
send_goes request t m response handle streaming head bytes is text (Err fault) after step_is same = tt
