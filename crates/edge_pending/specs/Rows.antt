-- The calls of `fastly_http_req` that send, those that ask for responses, and those of `fastly_async_io`.
use Rattle.std.specs.Prelude.{ℕ, ◌+◌, ◌==◌, not, is_some, List, [], length, slice_get, Option, None, Some, Result, Ok, Err}
use Rattle.cache_types.specs.declared.outer.OuterCall.TheVariants as call
use Rattle.cache_types.specs.declared.outer.OuterReply.{OuterReply}
use Rattle.cache_types.specs.declared.outer.OuterReply.TheVariants as reply
use Rattle.wasm_memory.specs.Linear.{Linear}
use Rattle.edge_abi.specs.declared.asked.Step.{Step}
use Rattle.edge_abi.specs.declared.asked.Step.TheVariants.{Done}
use Rattle.edge_abi.specs.declared.status.Status.TheVariants as status
use Rattle.edge_abi.specs.declared.status.Refusal.{Refusal}
use Rattle.edge_abi.specs.Memory.{octets_at, number_put}
use Rattle.edge_abi.specs.Refusals.{and_then, unless, ranged, placed, handled}
use Rattle.edge_abi.specs.Tables.{held, is_full}
use Rattle.edge_abi.specs.Told.{Row, ask, judged, done}
use Rattle.edge_body.specs.Heads.{Response}
use Rattle.edge_body.specs.declared.body.Part.{Part}
use Rattle.edge_http_calls.specs.Bodies.{parts_of, parts_in}
use Rattle.edge_http_calls.specs.declared.tables.BodyState.{BodyState}
use Rattle.edge_http_calls.specs.declared.tables.HttpTables.{HttpTables}
use Rattle.edge_link.specs.Readings.{Reading}
use Rattle.edge_link.specs.Requests.{request_text}
use Rattle.edge_link.specs.declared.fault.ResponseFault.{ResponseFault}
use Rattle.edge_link.specs.declared.fault.ResponseFault.TheVariants.{TooLarge, BadResponse, OutOfMemory}
use Rattle.fastly_toml.specs.declared.settings.Settings.{Settings}
use Rattle.edge_pending.specs.Backends.{Sent, address_for}
use Rattle.edge_pending.specs.Choices.{is_choice, listed, first_kept, tickets_of}
use Rattle.edge_pending.specs.Gathers.{gathered, going, read_on, read_by}
use Rattle.edge_pending.specs.declared.gathering.Front.{Front}
use Rattle.edge_pending.specs.declared.gathering.Heard.{Heard}
use Rattle.edge_pending.specs.Tables.{HttpAndPending, without_sent, with_response, with_pending, without_pending, with_state, request_in}
use Rattle.edge_pending.specs.declared.sending.Then.{Then}
use Rattle.edge_pending.specs.declared.sending.Then.TheVariants.{Receive, Keep}
use Rattle.edge_pending.specs.declared.tables.Pending.{Pending}
use Rattle.edge_pending.specs.declared.tables.PendingTables.{PendingTables}
use Rattle.edge_pending.specs.declared.tables.PendingState.{PendingState}
use Rattle.edge_pending.specs.declared.tables.PendingState.TheVariants.{Ticket, Came, Broken}
use Rattle.edge_pending.specs.declared.waits.Told.{Told as Has}
use Rattle.edge_pending.specs.declared.waits.Told.TheVariants.{Ask as HasTicket, Came as HasBytes, Broken as HasFailed, Unknown}
use Rattle.edge_pending.specs.declared.under_way.Lead.{Lead}
use Rattle.edge_pending.specs.declared.under_way.Lead.TheVariants.{Nothing, Number}
use Rattle.edge_pending.specs.declared.under_way.Places.{Places}
use Rattle.edge_pending.specs.declared.under_way.UnderWay.{UnderWay}
use Rattle.edge_pending.specs.declared.under_way.UnderWay.TheVariants.{Gathering, Starting, Receiving, Polling, Waiting, Choosing, Picking, Peeking}

-- ---- what is asked of places, handles and tables

-- there is a handle to give
abbrev pub room_in : {X : Type 0} → List (Option X) → Result (Unit {0}) Refusal
room_in table = unless (not (is_full table)) status.Limitexceeded

-- there are handles for a response and its body
abbrev pub room_for_both : HttpTables → Result (Unit {0}) Refusal
room_for_both http = and_then (room_in http.responses) (λ _. room_in http.bodies)

-- a request, a held body and the name of a backend
abbrev pub named : HttpTables → Linear → ℕ → ℕ → ℕ → ℕ → Result BodyState Refusal
named http m h body p n =
    and_then (handled http.requests h) (λ _.
    and_then (handled http.bodies body) (λ state.
    and_then (ranged m p n) (λ _. Ok state)))

-- the address that a held body is sent to
abbrev pub address_asked : Settings → Linear → BodyState → ℕ → ℕ → Result (List ℕ) Refusal
address_asked settings m state p n =
    and_then (unless (is_some (parts_of state)) status.Inval) (λ _. address_for settings (octets_at m p n))

abbrev pub send_asked : HttpAndPending → Settings → Linear → ℕ → ℕ → ℕ → ℕ → ℕ → ℕ → Result (List ℕ) Refusal
send_asked t settings m h body p n o1 o2 =
    and_then (named t.http m h body p n) (λ state.
    and_then (placed m o1 4) (λ _.
    and_then (placed m o2 4) (λ _.
    and_then (address_asked settings m state p n) (λ address.
    and_then (room_for_both t.http) (λ _. Ok address)))))

abbrev pub send_async_asked : HttpAndPending → Settings → Linear → ℕ → ℕ → ℕ → ℕ → ℕ → Result (List ℕ) Refusal
send_async_asked t settings m h body p n o =
    and_then (named t.http m h body p n) (λ state.
    and_then (placed m o 4) (λ _.
    and_then (address_asked settings m state p n) (λ address.
    and_then (room_in t.sent.pending) (λ _. Ok address))))

abbrev pub poll_asked : HttpAndPending → Linear → ℕ → ℕ → ℕ → ℕ → Result (Unit {0}) Refusal
poll_asked t m h o1 o2 o3 =
    and_then (handled t.sent.pending h) (λ _.
    and_then (placed m o1 4) (λ _.
    and_then (placed m o2 4) (λ _.
    and_then (placed m o3 4) (λ _. room_for_both t.http))))

abbrev pub wait_asked : HttpAndPending → Linear → ℕ → ℕ → ℕ → Result (Unit {0}) Refusal
wait_asked t m h o1 o2 =
    and_then (handled t.sent.pending h) (λ _.
    and_then (placed m o1 4) (λ _.
    and_then (placed m o2 4) (λ _. room_for_both t.http)))

abbrev pub ready_asked : PendingTables → Linear → ℕ → ℕ → Result (Unit {0}) Refusal
ready_asked sent m h o = and_then (handled sent.pending h) (λ _. placed m o 4)

abbrev pub choose_asked : HttpAndPending → Linear → ℕ → ℕ → ℕ → ℕ → ℕ → Result (List ℕ) Refusal
choose_asked t m p count o1 o2 o3 =
    and_then (listed t.sent.pending m p count) (λ handles.
    and_then (placed m o1 4) (λ _.
    and_then (placed m o2 4) (λ _.
    and_then (placed m o3 4) (λ _.
    and_then (unless (is_choice handles) status.Inval) (λ _.
    and_then (room_for_both t.http) (λ _. Ok handles))))))

abbrev pub select_asked : PendingTables → Linear → ℕ → ℕ → ℕ → ℕ → Result (List ℕ) Refusal
select_asked sent m p count timeout o =
    and_then (listed sent.pending m p count) (λ handles.
    and_then (placed m o 4) (λ _.
    and_then (unless (is_choice handles) status.Inval) (λ _.
    and_then (unless (timeout == 0) status.Unsupported) (λ _. Ok handles))))

-- ---- what comes of responses, which a reading of their bytes tells

abbrev pub led : Lead → Linear → Linear
led Nothing m = m
led (Number place value) m = number_put m place 4 value

-- the handles of a response and of its body
abbrev pub told_both : HttpTables → Linear → Places → Linear
told_both http m p = number_put (number_put (led p.lead m) p.response 4 (length http.responses + 1)) p.body 4 (length http.bodies + 1)

-- the handle is taken, since the link failed
abbrev pub broke : HttpAndPending → Linear → ℕ → Row HttpAndPending
broke t m h = done status.Error (without_pending t h) m

-- what a handle has, and the method of its request
abbrev pub has_in : List ℕ → PendingState → Has
has_in method (Ticket ticket) = HasTicket ticket
has_in method (Came bytes) = HasBytes method bytes
has_in method Broken = HasFailed

abbrev pub told_by : Pending → Has
told_by pending = has_in pending.method pending.state

abbrev pub told_of : Option Pending → Has
told_of None = Unknown
told_of (Some pending) = told_by pending

abbrev pub method_of : Option Pending → Option (List ℕ)
method_of None = None
method_of (Some pending) = Some pending.method

-- where a response is told behind the number 1
abbrev pub after_one : ℕ → ℕ → ℕ → Places
after_one o1 o2 o3 = record { lead = Number o1 1; response = o2; body = o3 }

abbrev pub error_step : Step UnderWay
error_step = Done 1

-- a response and its body; their handles are told
abbrev pub given : HttpAndPending → Linear → Places → Result (Response × List ℕ) ResponseFault → Row HttpAndPending
given t m p (Ok found) = done status.Ok (with_response t found.0 found.1) (told_both t.http m p)
given t m p (Err TooLarge) = done status.Limitexceeded t m
given t m p (Err BadResponse) = done status.Httpinvalid t m
given t m p (Err OutOfMemory) = done status.Error t m

module _ (reads : Reading) where
  abbrev pub received : HttpAndPending → Linear → Places → List ℕ → List ℕ → Row HttpAndPending
  received t m p method bytes = given t m p (reads method bytes)

  -- the reply to a wait for the response to a request of this method
  abbrev pub received_by : List ℕ → Places → HttpAndPending → Linear → OuterReply → Row HttpAndPending
  received_by method p t m (reply.Ready bytes) = received t m p method bytes
  received_by method p t m _ = done status.Error t m

  -- ---- requests that are sent

  -- the link took a request of this method
  abbrev pub started_by : List ℕ → Then → HttpAndPending → Linear → ℕ → Row HttpAndPending
  started_by method (Receive p) t m ticket = ask (call.WaitFor ticket) (received_by method p t m)
  started_by method (Keep o) t m ticket =
      done status.Ok (with_pending t (record { method = method; state = Ticket ticket })) (number_put m o 4 (length t.sent.pending + 1))

  abbrev pub started : List ℕ → Then → HttpAndPending → Linear → OuterReply → Row HttpAndPending
  started method next t m (reply.Started ticket) = started_by method next t m ticket
  started method next t m _ = done status.Error t m

  -- the body is there
  abbrev pub starts : Sent → HttpAndPending → Linear → List ℕ → Row HttpAndPending
  starts s t m body = ask (call.Start s.address (request_text s.head body s.address)) (started s.head.method s.next t m)

  -- the body has these bytes, and those of the parts that are left
  abbrev pub gathers : Sent → HttpAndPending → Linear → List ℕ → List Part → Row HttpAndPending
  gathers s t m had left = gathered had left (done status.Error t m) (starts s t m)

  -- the same behind what they begin with, and behind what a Read of a hit was answered
  abbrev pub goes_front : Sent → HttpAndPending → Linear → Front → Row HttpAndPending
  goes_front s t m front = going front (done status.Error t m) (starts s t m)

  abbrev pub goes_heard : Sent → HttpAndPending → Linear → ℕ → ℕ → List ℕ → List Part → Heard → Row HttpAndPending
  goes_heard s t m hit place had left told = read_by hit place had left (done status.Error t m) (starts s t m) told

  abbrev pub gathers_on : Sent → HttpAndPending → Linear → ℕ → ℕ → List ℕ → List Part → OuterReply → Row HttpAndPending
  gathers_on s t m hit place had left reply = read_on hit place had left (done status.Error t m) (starts s t m) reply

  -- request and body are taken
  abbrev pub sends : Then → HttpAndPending → Linear → ℕ → ℕ → List ℕ → Row HttpAndPending
  sends next t m h body address =
      gathers (record { head = request_in (held t.http.requests h); address = address; next = next }) (without_sent t h body) m [] (parts_in (held t.http.bodies body))

  -- ---- handles whose response is asked for

  -- the handle is taken by a response or a failure, and stays with every other reply
  abbrev pub came_by : HttpAndPending → Linear → ℕ → Places → Option (List ℕ) → OuterReply → Row HttpAndPending
  came_by t m h p None other = done status.Error t m
  came_by t m h p (Some method) (reply.Ready bytes) = received (without_pending t h) m p method bytes
  came_by t m h p (Some method) reply.LinkFailed = broke t m h
  came_by t m h p (Some method) _ = done status.Error t m

  abbrev pub came : HttpAndPending → Linear → ℕ → Places → OuterReply → Row HttpAndPending
  came t m h p = came_by t m h p (method_of (held t.sent.pending h))

  -- what a handle keeps is told as if it came then; a ticket is asked for
  abbrev pub told : (ℕ → Row HttpAndPending) → HttpAndPending → Linear → ℕ → Places → Has → Row HttpAndPending
  told asks t m h p (HasTicket ticket) = asks ticket
  told asks t m h p (HasBytes method bytes) = received (without_pending t h) m p method bytes
  told asks t m h p HasFailed = broke t m h
  told asks t m h p Unknown = done status.Error t m

  abbrev pub waits : HttpAndPending → Linear → ℕ → Places → Row HttpAndPending
  waits t m h p = told (λ ticket. ask (call.WaitFor ticket) (came t m h p)) t m h p (told_of (held t.sent.pending h))

  abbrev pub polled : HttpAndPending → Linear → ℕ → ℕ → ℕ → ℕ → OuterReply → Row HttpAndPending
  polled t m h o1 o2 o3 reply.NotReady = done status.Ok t (number_put m o1 4 0)
  polled t m h o1 o2 o3 other = came t m h (after_one o1 o2 o3) other

  abbrev pub polls : HttpAndPending → Linear → ℕ → ℕ → ℕ → ℕ → Row HttpAndPending
  polls t m h o1 o2 o3 =
      told (λ ticket. ask (call.Poll ticket) (polled t m h o1 o2 o3)) t m h (after_one o1 o2 o3) (told_of (held t.sent.pending h))

  -- ---- handles of which one is chosen

  -- the one at this place is told, and its response as by a wait
  abbrev pub chosen_at : HttpAndPending → Linear → ℕ → ℕ → ℕ → ℕ → Option ℕ → Row HttpAndPending
  chosen_at t m index o1 o2 o3 None = done status.Error t m
  chosen_at t m index o1 o2 o3 (Some h) = waits t m h (record { lead = Number o1 index; response = o2; body = o3 })

  abbrev pub chosen : HttpAndPending → Linear → List ℕ → ℕ → ℕ → ℕ → OuterReply → Row HttpAndPending
  chosen t m handles o1 o2 o3 (reply.Index index) = chosen_at t m index o1 o2 o3 (slice_get handles index)
  chosen t m handles o1 o2 o3 _ = done status.Error t m

  -- the first that keeps what came, else the link's choice
  abbrev pub chooses : HttpAndPending → Linear → List ℕ → ℕ → ℕ → ℕ → Option ℕ → Row HttpAndPending
  chooses t m handles o1 o2 o3 None = ask (call.AnyOf (tickets_of t.sent.pending handles)) (chosen t m handles o1 o2 o3)
  chooses t m handles o1 o2 o3 (Some index) = chosen_at t m index o1 o2 o3 (slice_get handles index)

  abbrev pub picked : HttpAndPending → Linear → ℕ → OuterReply → Row HttpAndPending
  picked t m o (reply.Index index) = done status.Ok t (number_put m o 4 index)
  picked t m o _ = done status.Error t m

  abbrev pub picks : HttpAndPending → Linear → List ℕ → ℕ → Option ℕ → Row HttpAndPending
  picks t m handles o None = ask (call.AnyOf (tickets_of t.sent.pending handles)) (picked t m o)
  picks t m handles o (Some index) = done status.Ok t (number_put m o 4 index)

  -- a response or a failure is kept
  abbrev pub peeked : HttpAndPending → Linear → ℕ → ℕ → OuterReply → Row HttpAndPending
  peeked t m h o reply.NotReady = done status.Ok t (number_put m o 4 0)
  peeked t m h o (reply.Ready bytes) = done status.Ok (with_state t h (Came bytes)) (number_put m o 4 1)
  peeked t m h o reply.LinkFailed = done status.Ok (with_state t h Broken) (number_put m o 4 1)
  peeked t m h o _ = done status.Error t m

  abbrev pub peeks : HttpAndPending → Linear → ℕ → ℕ → Has → Row HttpAndPending
  peeks t m h o (HasTicket ticket) = ask (call.Poll ticket) (peeked t m h o)
  peeks t m h o Unknown = done status.Error t m
  peeks t m h o _ = done status.Ok t (number_put m o 4 1)

  -- ---- the rows

  -- send(h,h,p,n,o4,o4)
  abbrev pub http_req_send : HttpAndPending → Settings → Linear → ℕ → ℕ → ℕ → ℕ → ℕ → ℕ → Row HttpAndPending
  http_req_send t settings m h body p n o1 o2 =
      judged t m (send_asked t settings m h body p n o1 o2) (sends (Receive (record { lead = Nothing; response = o1; body = o2 })) t m h body)

  -- send_async(h,h,p,n,o4)
  abbrev pub http_req_send_async : HttpAndPending → Settings → Linear → ℕ → ℕ → ℕ → ℕ → ℕ → Row HttpAndPending
  http_req_send_async t settings m h body p n o = judged t m (send_async_asked t settings m h body p n o) (sends (Keep o) t m h body)

  -- pending_req_poll(h,o4,o4,o4): whether it came, and then response and body
  abbrev pub http_req_pending_req_poll : HttpAndPending → Linear → ℕ → ℕ → ℕ → ℕ → Row HttpAndPending
  http_req_pending_req_poll t m h o1 o2 o3 = judged t m (poll_asked t m h o1 o2 o3) (λ _. polls t m h o1 o2 o3)

  -- pending_req_wait(h,o4,o4)
  abbrev pub http_req_pending_req_wait : HttpAndPending → Linear → ℕ → ℕ → ℕ → Row HttpAndPending
  http_req_pending_req_wait t m h o1 o2 = judged t m (wait_asked t m h o1 o2) (λ _. waits t m h (record { lead = Nothing; response = o1; body = o2 }))

  -- pending_req_select(p,count,o4,o4,o4): the index of the one that is chosen, its response and body
  abbrev pub http_req_pending_req_select : HttpAndPending → Linear → ℕ → ℕ → ℕ → ℕ → ℕ → Row HttpAndPending
  http_req_pending_req_select t m p count o1 o2 o3 =
      judged t m (choose_asked t m p count o1 o2 o3) (λ handles. chooses t m handles o1 o2 o3 (first_kept t.sent.pending handles))

  -- select(p,count,timeout,o4): the index alone
  abbrev pub async_select : HttpAndPending → Linear → ℕ → ℕ → ℕ → ℕ → Row HttpAndPending
  async_select t m p count timeout o =
      judged t m (select_asked t.sent m p count timeout o) (λ handles. picks t m handles o (first_kept t.sent.pending handles))

  -- is_ready(h,o4)
  abbrev pub async_is_ready : HttpAndPending → Linear → ℕ → ℕ → Row HttpAndPending
  async_is_ready t m h o = judged t m (ready_asked t.sent m h o) (λ _. peeks t m h o (told_of (held t.sent.pending h)))

  -- how each goes on with the reply to its outer call
  abbrev pub resumed : UnderWay → HttpAndPending → Linear → OuterReply → Row HttpAndPending
  resumed (Gathering s hit place had left) t m reply = gathers_on s t m hit place had left reply
  resumed (Starting method next) t m reply = started method next t m reply
  resumed (Receiving method p) t m reply = received_by method p t m reply
  resumed (Polling h o1 o2 o3) t m reply = polled t m h o1 o2 o3 reply
  resumed (Waiting h p) t m reply = came t m h p reply
  resumed (Choosing handles o1 o2 o3) t m reply = chosen t m handles o1 o2 o3 reply
  resumed (Picking o) t m reply = picked t m o reply
  resumed (Peeking h o) t m reply = peeked t m h o reply
