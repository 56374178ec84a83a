-- How the steps of rows go on, by what was judged, told or answered.
use Rattle.std.proofs.Common.{◌≡◌, ◌∙◌, ℕ, List, [], refl, sym, ap, subst}
use Rattle.std.specs.Prelude.{Option, Some, Result, Ok, slice_get}
use Rattle.cache_types.specs.declared.outer.OuterReply.{OuterReply}
use Rattle.cache_types.specs.declared.outer.OuterReply.TheVariants as reply
use Rattle.wasm_memory.specs.Linear.{Linear}
use Rattle.edge_abi.specs.declared.asked.Step.{Step}
use Rattle.edge_abi.specs.declared.status.Refusal.{Refusal}
use Rattle.edge_abi.specs.Goes.{Goes}
use Rattle.edge_abi.specs.Tables.{held}
use Rattle.edge_abi.specs.Told.{Row, judged, answers}
use Rattle.edge_body.specs.Heads.{Request}
use Rattle.edge_body.specs.declared.body.Part.{Part}
use Rattle.edge_http_calls.specs.Bodies.{parts_in}
use Rattle.edge_http_calls.specs.Tables.{without_body}
use Rattle.edge_http_calls.specs.declared.tables.HttpTables.{HttpTables}
use Rattle.edge_link.specs.Readings.{Reading}
use Rattle.edge_pending.specs.Backends.{Sent}
use Rattle.edge_pending.specs.Rows.{resumed, gathers, sends, received, broke, came, came_by, told, polled, after_one, chooses, chosen, chosen_at}
use Rattle.edge_pending.specs.Tables.{HttpAndPending, both, without_request, without_pending, request_in}
use Rattle.edge_pending.specs.declared.sending.Then.{Then}
use Rattle.edge_pending.specs.declared.tables.PendingTables.{PendingTables}
use Rattle.edge_pending.specs.declared.under_way.Places.{Places}
use Rattle.edge_pending.specs.declared.under_way.UnderWay.{UnderWay}
use Rattle.edge_pending.specs.declared.waits.Told.{Told as Has}
use Rattle.edge_pending.specs.declared.waits.Told.TheVariants.{Came as HasBytes, Broken as HasFailed}
use Rattle.edge_pending.proofs.Goings.{goes_same}

pub answers_same : {T : Type 0} (k number : ℕ) (t tables : T) (m memory : Linear) (replies : List OuterReply) → number ≡ k → tables ≡ t → memory ≡ m → answers k t m replies ≡ answers number tables memory replies
answers_same {T} k number t tables m memory replies is same there =
    ap (λ (x : ℕ). answers x t m replies) (sym is) ∙ (ap (λ (x : T). answers number x m replies) (sym same) ∙ ap (λ (x : Linear). answers number tables x replies) (sym there))

module _ (reads : Reading) where
  pub judged_goes : {X : Type 0} (t : HttpAndPending) (m : Linear) (asked : Result X Refusal) (x : X) (next : X → Row HttpAndPending) → asked ≡ Ok x
      → (step : Step UnderWay) (after : HttpAndPending) (there : Linear) → Goes (resumed reads) (next x) step after there → Goes (resumed reads) (judged t m asked next) step after there
  judged_goes {X} t m asked x next is step after there goes =
      subst (λ (r : Result X Refusal). Goes (resumed reads) (judged t m r next) step after there) (sym is) goes

  -- ---- what a handle has

  pub told_came : (asks : ℕ → Row HttpAndPending) (t : HttpAndPending) (m : Linear) (h : ℕ) (p places : Places) (has : Has) (method bytes : List ℕ) → has ≡ HasBytes method bytes → places ≡ p
      → (step : Step UnderWay) (after : HttpAndPending) (there : Linear) → Goes (resumed reads) (received reads (without_pending t h) m places method bytes) step after there
      → Goes (resumed reads) (told reads asks t m h p has) step after there
  told_came asks t m h p places has method bytes is same step after there goes =
      goes_same reads (told reads asks t m h p has) (received reads (without_pending t h) m places method bytes)
      (λ replies. ap (λ (x : Has). told reads asks t m h p x replies) is ∙ ap (λ (x : Places). received reads (without_pending t h) m x method bytes replies) (sym same)) step after there goes

  pub told_broken : (asks : ℕ → Row HttpAndPending) (t : HttpAndPending) (m : Linear) (h : ℕ) (p : Places) (has : Has) → has ≡ HasFailed
      → (step : Step UnderWay) (after : HttpAndPending) (there : Linear) → Goes (resumed reads) (broke t m h) step after there → Goes (resumed reads) (told reads asks t m h p has) step after there
  told_broken asks t m h p has is step after there goes =
      goes_same reads (told reads asks t m h p has) (broke t m h) (λ replies. ap (λ (x : Has). told reads asks t m h p x replies) is) step after there goes

  pub came_same : (t : HttpAndPending) (m : Linear) (h : ℕ) (p : Places) (answer : OuterReply) (found other : Option (List ℕ)) → found ≡ other
      → (step : Step UnderWay) (after : HttpAndPending) (there : Linear) → Goes (resumed reads) (came_by reads t m h p found answer) step after there → Goes (resumed reads) (came_by reads t m h p other answer) step after there
  came_same t m h p answer found other is step after there goes =
      goes_same reads (came_by reads t m h p other answer) (came_by reads t m h p found answer)
      (λ replies. ap (λ (x : Option (List ℕ)). came_by reads t m h p x answer replies) (sym is)) step after there goes

  polled_is : (t : HttpAndPending) (m : Linear) (h o r b : ℕ) (answer : OuterReply) → (answer ≡ reply.NotReady → ⊥) → (replies : List OuterReply)
      → polled reads t m h o r b answer replies ≡ came reads t m h (after_one o r b) answer replies
  polled_is t m h o r b reply.NotReady not replies = absurd (not refl)
  polled_is t m h o r b _ not replies = refl

  pub polled_goes : (t : HttpAndPending) (m : Linear) (h o r b : ℕ) (places : Places) (answer : OuterReply) → (answer ≡ reply.NotReady → ⊥) → places ≡ after_one o r b
      → (step : Step UnderWay) (after : HttpAndPending) (there : Linear) → Goes (resumed reads) (came reads t m h places answer) step after there → Goes (resumed reads) (polled reads t m h o r b answer) step after there
  polled_goes t m h o r b places answer not same step after there goes =
      goes_same reads (polled reads t m h o r b answer) (came reads t m h places answer)
      (λ replies. polled_is t m h o r b answer not replies ∙ ap (λ (x : Places). came reads t m h x answer replies) (sym same)) step after there goes

  -- ---- which handle is chosen

  pub chooses_kept : (t : HttpAndPending) (m : Linear) (handles : List ℕ) (o r b : ℕ) (first : Option ℕ) (index : ℕ) (handle : Option ℕ) → first ≡ Some index → handle ≡ slice_get handles index
      → (step : Step UnderWay) (after : HttpAndPending) (there : Linear) → Goes (resumed reads) (chosen_at reads t m index o r b handle) step after there → Goes (resumed reads) (chooses reads t m handles o r b first) step after there
  chooses_kept t m handles o r b first index handle is at step after there goes =
      goes_same reads (chooses reads t m handles o r b first) (chosen_at reads t m index o r b handle)
      (λ replies. ap (λ (x : Option ℕ). chooses reads t m handles o r b x replies) is ∙ ap (λ (x : Option ℕ). chosen_at reads t m index o r b x replies) (sym at)) step after there goes

  pub chooses_same : (t : HttpAndPending) (m : Linear) (handles : List ℕ) (o r b : ℕ) (first other : Option ℕ) → first ≡ other
      → (step : Step UnderWay) (after : HttpAndPending) (there : Linear) → Goes (resumed reads) (chooses reads t m handles o r b other) step after there → Goes (resumed reads) (chooses reads t m handles o r b first) step after there
  chooses_same t m handles o r b first other is step after there goes =
      goes_same reads (chooses reads t m handles o r b first) (chooses reads t m handles o r b other)
      (λ replies. ap (λ (x : Option ℕ). chooses reads t m handles o r b x replies) is) step after there goes

  pub chosen_goes : (t : HttpAndPending) (m : Linear) (handles : List ℕ) (o r b : ℕ) (answer : OuterReply) (index : ℕ) (handle : Option ℕ) → answer ≡ reply.Index index → handle ≡ slice_get handles index
      → (step : Step UnderWay) (after : HttpAndPending) (there : Linear) → Goes (resumed reads) (chosen_at reads t m index o r b handle) step after there → Goes (resumed reads) (chosen reads t m handles o r b answer) step after there
  chosen_goes t m handles o r b answer index handle is at step after there goes =
      goes_same reads (chosen reads t m handles o r b answer) (chosen_at reads t m index o r b handle)
      (λ replies. ap (λ (x : OuterReply). chosen reads t m handles o r b x replies) is ∙ ap (λ (x : Option ℕ). chosen_at reads t m index o r b x replies) (sym at)) step after there goes

  -- ---- request and body are taken

  pub sends_goes : (next : Then) (http between left : HttpTables) (handles : PendingTables) (m : Linear) (h body : ℕ) (address : List ℕ) (head : Request) (sending : Sent) (had : List ℕ) (parts : List Part)
      → head ≡ request_in (held http.requests h) → between ≡ without_request http h → sending ≡ record { head = head; address = address; next = next } → had ≡ []
      → parts ≡ parts_in (held between.bodies body) → left ≡ without_body between body
      → (step : Step UnderWay) (after : HttpAndPending) (there : Linear) → Goes (resumed reads) (gathers reads sending (both left handles) m had parts) step after there
      → Goes (resumed reads) (sends reads next (both http handles) m h body address) step after there
  sends_goes next http between left handles m h body address head sending had parts head_is between_is sending_is had_is parts_is left_is step after there goes =
      let first : Sent = record { head = request_in (held http.requests h); address = address; next = next } in
      let taken : HttpTables = without_body (without_request http h) body in
      let parts_all : parts ≡ parts_in (held http.bodies body) = parts_is ∙ ap (λ (x : HttpTables). parts_in (held x.bodies body)) between_is in
      let left_all : left ≡ taken = left_is ∙ ap (λ (x : HttpTables). without_body x body) between_is in
      let sending_all : sending ≡ first = sending_is ∙ ap (λ (x : Request). record { head = x; address = address; next = next }) head_is in
      goes_same reads (sends reads next (both http handles) m h body address) (gathers reads sending (both left handles) m had parts)
      (λ replies.
      ap (λ (x : Sent). gathers reads x (both taken handles) m [] (parts_in (held http.bodies body)) replies) (sym sending_all)
      ∙ (ap (λ (x : HttpTables). gathers reads sending (both x handles) m [] (parts_in (held http.bodies body)) replies) (sym left_all)
      ∙ (ap (λ (x : List ℕ). gathers reads sending (both left handles) m x (parts_in (held http.bodies body)) replies) (sym had_is)
      ∙ ap (λ (x : List Part). gathers reads sending (both left handles) m had x replies) (sym parts_all)))) step after there goes
