use Rattle.std.proofs.Common.{◌≡◌, ◌∙◌, ◌<◌, ◌++◌, ◌∷◌, [], ℕ, List, length, false, Some, Err, ap, sym, subst, rules}
use Rattle.std.specs.Prelude.{bytes_eq, codes}
use Rattle.http_front.specs.declared.heads.Incoming.{Incoming}
use Rattle.http_front.specs.Requests.{IsRequest}
use Rattle.play_files.specs.Requests.{AreRequests}
use Rattle.batch_files.specs.declared.machine.Head.{Head}
use Rattle.batch_files.specs.Machine.{Asking, LeadsTo}
use Rattle.play_files.specs.Whole.{TellsWhole}
use Rattle.play_files.proofs.Goes.{sound_more}
use Rattle.batch_files.proofs.Goes.{request_leads, no_request_leads}
use Rattle.batch_files.proofs.machine.in_requests.Goals as goal

pub returns-in_err-whole_request : goal.returns-in_err-whole_request
returns-in_err-whole_request c =
    let head : Head = c.args.head in
    let other : bytes_eq c.args.line.now (codes "end") ≡ false = search rules in
    let room : length c.args.texts.items < 1000 = search rules in
    let leads = request_leads head c.args.texts.items c.args.line.now c.in_ok-text.text other room c.in_ok-text.ensures in
    let from : c.from_residual-in_err-whole_request.result ≡ Err c.in_err-whole_request.field-0.0 = search rules in
    let bad = subst (λ (text : List ℕ). TellsWhole text (Err c.in_err-whole_request.field-0.0)) c.bytes.ensures c.in_err-whole_request.ensures in
    subst (λ answer. LeadsTo (Asking head c.args.texts.items) c.args.line.now answer) (sym from)
    (no_request_leads head c.args.texts.items c.args.line.now c.in_ok-text.text c.in_err-whole_request.field-0.0 leads bad)

pub returns : goal.returns
returns c =
    let head : Head = c.args.head in
    let other : bytes_eq c.args.line.now (codes "end") ≡ false = search rules in
    let room : length c.args.texts.items < 1000 = search rules in
    let leads = request_leads head c.args.texts.items c.args.line.now c.in_ok-text.text other room c.in_ok-text.ensures in
    let request = subst (λ (text : List ℕ). IsRequest text c.in_ok-whole_request.field-0) c.bytes.ensures c.in_ok-whole_request.ensures in
    let more = sound_more c.args.texts.items c.args.requests.items c.in_ok-text.text c.in_ok-whole_request.field-0 c.requires request in (
      leads ∙ ap (λ (texts : List (List ℕ)). Some (Asking head texts)) (sym {A = List (List ℕ)} c.in_ok-push-2.ensures.items),
      subst (λ (texts : List (List ℕ)). AreRequests texts c.push.new.self.items) (sym {A = List (List ℕ)} c.in_ok-push-2.ensures.items)
          (subst (λ (requests : List Incoming). AreRequests (c.args.texts.items ++ c.in_ok-text.text ∷ []) requests) (sym c.in_ok-push.ensures.items) more),
    )
