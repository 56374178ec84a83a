use Rattle.std.proofs.Common.{◌∙◌, ap}
use Rattle.http_front.specs.Answers.{answer_text}
use Rattle.answer_calls.proofs.Sending.{body_needed, send_goes}
use Rattle.answer_calls.proofs.sends.http_resp_send_downstream.Goals as goal

pub returns-in_ok-bytes-in-Ok-clause-row : goal.returns-in_ok-bytes-in-Ok-clause-row
returns-in_ok-bytes-in-Ok-clause-row c =
    send_goes c.args.request.now c.args.tables.now c.args.memory.now c.args.response c.args.body c.args.streaming c.in-Ok.head.now c.in_ok-bytes-in-Ok.bytes c.in-Ok.ensures.ok
    (c.in_ok-bytes-in-Ok.ensures.text ∙ ap (answer_text c.args.request.now c.in-Ok.head.now) c.told_length-length.ensures)
    c.head_step.result _ c.head_step.ensures.step c.head_step.ensures.same

pub returns-in_ok-bytes-in-Ok-clause-badf_body : goal.returns-in_ok-bytes-in-Ok-clause-badf_body
returns-in_ok-bytes-in-Ok-clause-badf_body c = λ none. absurd (body_needed c.args.tables.now c.args.response c.args.body c.args.streaming c.in-Ok.head.now c.in-Ok.ensures.ok none)
