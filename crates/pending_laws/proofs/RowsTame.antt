-- Each row that sends or asks keeps to the tickets of its guest.
use Rattle.std.proofs.Common.{◌≡◌, ◌∙◌, ℕ, suc, ◌*◌, Bool, true, false, List, [], ◌∷◌, length, refl, sym, ap, subst, arith}
use Rattle.std.specs.Prelude.{not, is_some, position, slice_get, Option, None, Some, IsTrue, Result, Ok, Err, if◌then◌else◌}
use Rattle.std.specs.List.{list_all}
use Rattle.std.proofs.lemmas.Bool.{and_from, and_parts}
use Rattle.std.proofs.lemmas.Grind.{common_steps}
use Rattle.wasm_memory.specs.Linear.{Linear}
use Rattle.std.specs.BTreeMap.{get}
use Rattle.std.specs.Ordering.{nat_cmp}
use Rattle.std.specs.Cmp.Lexicographic.{slice_cmp}
use Rattle.cache_types.specs.Limits.{is_from_to}
use Rattle.cache_types.specs.declared.outer.OuterCall.{OuterCall}
use Rattle.cache_types.specs.declared.outer.OuterCall.TheVariants as call
use Rattle.cache_types.specs.declared.outer.OuterReply.{OuterReply}
use Rattle.cache_types.specs.declared.outer.OuterReply.TheVariants as reply
use Rattle.edge_abi.specs.declared.status.Status.TheVariants as status
use Rattle.edge_abi.specs.Memory.{octets_at}
use Rattle.edge_abi.specs.Refusals.{and_then, unless, ranged, placed, some_or}
use Rattle.edge_abi.specs.Tables.{held}
use Rattle.edge_abi.specs.Told.{Row}
use Rattle.edge_body.specs.Heads.{Response}
use Rattle.edge_http_calls.specs.Bodies.{parts_of, parts_in}
use Rattle.edge_http_calls.specs.declared.tables.BodyState.{BodyState}
use Rattle.edge_link.specs.Readings.{Reading}
use Rattle.edge_link.specs.Requests.{request_text}
use Rattle.edge_link.specs.declared.fault.ResponseFault.{ResponseFault}
use Rattle.edge_link.specs.declared.fault.ResponseFault.TheVariants as fault
use Rattle.fastly_toml.specs.declared.settings.Backend.{Backend}
use Rattle.fastly_toml.specs.declared.settings.Settings.{Settings}
use Rattle.edge_pending.specs.Backends.{Sent, is_address, if_address, backend_named, address_for}
use Rattle.edge_pending.specs.Choices.{is_held, is_choice, listed, words, first_kept, tickets_of}
use Rattle.edge_pending.specs.Rows.{room_for_both, room_in, named, address_asked, send_asked, send_async_asked, choose_asked, select_asked, poll_asked, wait_asked, ready_asked, has_in, told_of, method_of, after_one, given, received, received_by, started_by, started, starts, sends, came_by, came, told, waits, polled, chosen_at, chosen, chooses, picked, picks, peeked, peeks, http_req_send, http_req_send_async, http_req_pending_req_poll, http_req_pending_req_wait, http_req_pending_req_select, async_select, async_is_ready}
use Rattle.edge_pending.specs.Tables.{HttpAndPending, without_sent, with_response, without_pending, is_kept, is_kept_state, ticket_in, ticket_in_state, request_in}
use Rattle.edge_pending.specs.declared.sending.Then.{Then}
use Rattle.edge_pending.specs.declared.sending.Then.TheVariants.{Receive, Keep}
use Rattle.edge_pending.specs.declared.tables.Pending.{Pending}
use Rattle.edge_pending.specs.declared.tables.PendingState.{PendingState}
use Rattle.edge_pending.specs.declared.tables.PendingState.TheVariants.{Ticket, Came, Broken}
use Rattle.edge_pending.specs.declared.under_way.Lead.TheVariants.{Nothing, Number}
use Rattle.edge_pending.specs.declared.under_way.Places.{Places}
use Rattle.player.specs.Runs.{is_answer}
use Rattle.player.specs.Tickets.{is_among, IsFresh, held_after}
use Rattle.pending_laws.specs.Tickets.{in_state, in_handle, ticket_at, Owns, MayName, answered, IsTame}
use Rattle.pending_laws.proofs.Held.{stays_by, owns_after, owns_without, owns_taken, owns_kept, owns_started, among_started, owns_more, not_kept, lets_poll, lets_wait, LetsOne}
use Rattle.pending_laws.proofs.Naming.{tame_done, tame_asks, tame_judged, gathered_tame}

-- ---- where the first stands

position_found : {X : Type 0} (p : X → Bool) (x : X) (xs : List X) → p x ≡ true → position p (x ∷ xs) ≡ Some 0
position_found p x xs passes = rw passes (grind (arith, common_steps))

position_later : {X : Type 0} (p : X → Bool) (x : X) (xs : List X) → p x ≡ false → position p (x ∷ xs) ≡ None → position p xs ≡ None
position_later p x xs fails none = grind (arith, common_steps)

-- ---- what was asked, where nothing was refused

pub then_ok : {X Y E : Type 0} (r : Result X E) (next : X → Result Y E) (y : Y) → and_then r next ≡ Ok y → (x : X) × (r ≡ Ok x) × (next x ≡ Ok y)
then_ok (Err e) next y is = absurd (cc is)
then_ok (Ok x) next y is = (x, refl, is)

found_address : (found : Option Backend) (b : Backend) → if_address found ≡ Some b → IsTrue (is_address b.address)
found_address None b e = absurd (cc e)
found_address (Some c) b e = with (is_address c.address) refl e
  where
    with : (test : Bool) → is_address c.address ≡ test → (if test then Some c else None) ≡ Some b → IsTrue (is_address b.address)
    with true is same = let one : c ≡ b = cc same in subst (λ (x : Backend). is_address x.address ≡ true) one is
    with false is same = absurd (cc same)

some_is : {X : Type 0} (found : Option X) (x : X) → some_or found status.Inval ≡ Ok x → found ≡ Some x
some_is None x e = absurd (cc e)
some_is (Some y) x e = cc e

address_is : (settings : Settings) (name address : List ℕ) → address_for settings name ≡ Ok address → IsTrue (is_address address)
address_is settings name address is =
    let one = then_ok (some_or (backend_named settings name) status.Inval) (λ (b : Backend). and_then (unless (not b.https) status.Unsupported) (λ _. Ok b.address)) address is in
    let two = then_ok (unless (not one.0.https) status.Unsupported) (λ _. Ok one.0.address) address one.2 in
    let same : one.0.address ≡ address = cc two.2 in
    subst (λ (a : List ℕ). IsTrue (is_address a)) same (found_address (get (slice_cmp nat_cmp) settings.backends name) one.0 (some_is (backend_named settings name) one.0 one.1))

asked_address : (settings : Settings) (m : Linear) (state : BodyState) (p n : ℕ) (address : List ℕ) → address_asked settings m state p n ≡ Ok address → IsTrue (is_address address)
asked_address settings m state p n address is =
    address_is settings (octets_at m p n) address (then_ok (unless (is_some (parts_of state)) status.Inval) (λ _. address_for settings (octets_at m p n)) address is).2

send_address : (t : HttpAndPending) (s : Settings) (m : Linear) (h body p n o r : ℕ) (address : List ℕ) → send_asked t s m h body p n o r ≡ Ok address → IsTrue (is_address address)
send_address t s m h body p n o r address is =
    let state = then_ok (named t.http m h body p n) _ address is in
    let one = then_ok (placed m o 4) _ address state.2 in
    let two = then_ok (placed m r 4) _ address one.2 in
    let given = then_ok (address_asked s m state.0 p n) _ address two.2 in
    let room = then_ok (room_for_both t.http) (λ _. Ok given.0) address given.2 in
    let same : given.0 ≡ address = cc room.2 in
    subst (λ (a : List ℕ). IsTrue (is_address a)) same (asked_address s m state.0 p n given.0 given.1)

send_async_address : (t : HttpAndPending) (s : Settings) (m : Linear) (h body p n o : ℕ) (address : List ℕ) → send_async_asked t s m h body p n o ≡ Ok address → IsTrue (is_address address)
send_async_address t s m h body p n o address is =
    let state = then_ok (named t.http m h body p n) _ address is in
    let one = then_ok (placed m o 4) _ address state.2 in
    let given = then_ok (address_asked s m state.0 p n) _ address one.2 in
    let room = then_ok (room_in t.sent.pending) (λ _. Ok given.0) address given.2 in
    let same : given.0 ≡ address = cc room.2 in
    subst (λ (a : List ℕ). IsTrue (is_address a)) same (asked_address s m state.0 p n given.0 given.1)

-- ---- what came

given_tame : (has : List ℕ) (t : HttpAndPending) (m : Linear) (p : Places) (read : Result (Response × List ℕ) ResponseFault) → Owns has t.sent.pending → IsTame has (given t m p read)
given_tame has t m p (Ok found) owns = tame_done has status.Ok (with_response t found.0 found.1) _ owns
given_tame has t m p (Err fault.TooLarge) owns = tame_done has status.Limitexceeded t m owns
given_tame has t m p (Err fault.BadResponse) owns = tame_done has status.Httpinvalid t m owns
given_tame has t m p (Err fault.OutOfMemory) owns = tame_done has status.Error t m owns

module _ (reads : Reading) where
  received_tame : (has : List ℕ) (t : HttpAndPending) (m : Linear) (p : Places) (method bytes : List ℕ) → Owns has t.sent.pending → IsTame has (received reads t m p method bytes)
  received_tame has t m p method bytes owns = given_tame has t m p (reads method bytes) owns

  -- ---- requests that are sent

  received_by_tame : (has : List ℕ) (n : ℕ) (method : List ℕ) (p : Places) (t : HttpAndPending) (m : Linear) (r : OuterReply) → Owns has t.sent.pending → ((k : ℕ) → ticket_at t.sent.pending k ≡ Some n → ⊥)
      → IsTrue (is_answer (call.WaitFor n) r) → IsTame (held_after has (answered (call.WaitFor n) r)) (received_by reads method p t m r)
  received_by_tame has n method p t m (reply.Ready bytes) owns none is =
      received_tame (held_after has (answered (call.WaitFor n) (reply.Ready bytes))) t m p method bytes
      (owns_after has (call.WaitFor n) (reply.Ready bytes) t.sent.pending owns (λ k other e. lets_wait n (reply.Ready bytes) other (λ same. none k (e ∙ ap Some (sym same)))))
  received_by_tame has n method p t m reply.LinkFailed owns none is =
      tame_done (held_after has (answered (call.WaitFor n) reply.LinkFailed)) status.Error t m
      (owns_after has (call.WaitFor n) reply.LinkFailed t.sent.pending owns (λ k other e. lets_wait n reply.LinkFailed other (λ same. none k (e ∙ ap Some (sym same)))))
  received_by_tame has n method p t m _ owns none is = absurd (cc is)

  started_by_tame : (has : List ℕ) (address request method : List ℕ) (next : Then) (t : HttpAndPending) (m : Linear) (n : ℕ) → Owns has t.sent.pending → is_among has n ≡ false
      → IsTame (held_after has (answered (call.Start address request) (reply.Started n))) (started_by reads method next t m n)
  started_by_tame has address request method (Receive p) t m n owns fresh =
      let now = held_after has (answered (call.Start address request) (reply.Started n)) in
      tame_asks now (call.WaitFor n) (received_by reads method p t m) (among_started has address request n)
      (λ r is new. received_by_tame now n method p t m r (owns_started has address request n t.sent.pending owns) (not_kept has t.sent.pending n owns fresh) is)
  started_by_tame has address request method (Keep o) t m n owns fresh =
      tame_done (held_after has (answered (call.Start address request) (reply.Started n))) status.Ok _ _ (owns_more has address request n method t.sent.pending owns fresh)

  started_tame : (has : List ℕ) (address request method : List ℕ) (next : Then) (t : HttpAndPending) (m : Linear) (r : OuterReply) → Owns has t.sent.pending
      → IsTrue (is_answer (call.Start address request) r) → IsFresh has r → IsTame (held_after has (answered (call.Start address request) r)) (started reads method next t m r)
  started_tame has address request method next t m (reply.Started n) owns is fresh = started_by_tame has address request method next t m n owns fresh
  started_tame has address request method next t m reply.LinkFailed owns is fresh =
      tame_done (held_after has (answered (call.Start address request) reply.LinkFailed)) status.Error t m
      (owns_after has (call.Start address request) reply.LinkFailed t.sent.pending owns (λ k n e. refl))
  started_tame has address request method next t m _ owns is fresh = absurd (cc is)

  starts_tame : (has : List ℕ) (s : Sent) (t : HttpAndPending) (m : Linear) (body : List ℕ) → Owns has t.sent.pending → IsTrue (is_address s.address) → IsTame has (starts reads s t m body)
  starts_tame has s t m body owns address =
      tame_asks has (call.Start s.address (request_text s.head body s.address)) (started reads s.head.method s.next t m) address
      (λ r is fresh. started_tame has s.address (request_text s.head body s.address) s.head.method s.next t m r owns is fresh)

  sends_tame : (has : List ℕ) (next : Then) (t : HttpAndPending) (m : Linear) (h body : ℕ) (address : List ℕ) → Owns has t.sent.pending → IsTrue (is_address address) → IsTame has (sends reads next t m h body address)
  sends_tame has next t m h body address owns is =
      let s : Sent = record { head = request_in (held t.http.requests h); address = address; next = next } in
      gathered_tame has _ (tame_done has status.Error (without_sent t h body) m owns) [] (parts_in (held t.http.bodies body)) (starts reads s (without_sent t h body) m)
      (λ now. starts_tame has s (without_sent t h body) m now owns is)

  pub send_tame : (t : HttpAndPending) (s : Settings) (m : Linear) (h body p n o r : ℕ) (has : List ℕ) → Owns has t.sent.pending → IsTame has (http_req_send reads t s m h body p n o r)
  send_tame t s m h body p n o r has owns =
      tame_judged has t m (send_asked t s m h body p n o r) _ owns
      (λ address is. sends_tame has (Receive (record { lead = Nothing; response = o; body = r })) t m h body address owns (send_address t s m h body p n o r address is))

  pub send_async_tame : (t : HttpAndPending) (s : Settings) (m : Linear) (h body p n o : ℕ) (has : List ℕ) → Owns has t.sent.pending → IsTame has (http_req_send_async reads t s m h body p n o)
  send_async_tame t s m h body p n o has owns =
      tame_judged has t m (send_async_asked t s m h body p n o) _ owns (λ address is. sends_tame has (Keep o) t m h body address owns (send_async_address t s m h body p n o address is))

  -- ---- handles whose response is asked for

  came_tame : (has : List ℕ) (asked : OuterCall) (t : HttpAndPending) (m : Linear) (h n : ℕ) (p : Places) (method : Option (List ℕ)) (r : OuterReply) → Owns has t.sent.pending → ticket_at t.sent.pending h ≡ Some n → LetsOne asked r n
      → (method ≡ None → ⊥) → (r ≡ reply.NotReady → ⊥) → is_answer (call.Poll n) r ≡ true → IsTame (held_after has (answered asked r)) (came_by reads t m h p method r)
  came_tame has asked t m h n p None r owns at one some ready is = absurd (some refl)
  came_tame has asked t m h n p (Some method) (reply.Ready bytes) owns at one some ready is =
      received_tame (held_after has (answered asked (reply.Ready bytes))) (without_pending t h) m p method bytes (owns_taken has asked (reply.Ready bytes) t.sent.pending h n owns at one)
  came_tame has asked t m h n p (Some method) reply.LinkFailed owns at one some ready is =
      tame_done (held_after has (answered asked reply.LinkFailed)) status.Error (without_pending t h) m (owns_taken has asked reply.LinkFailed t.sent.pending h n owns at one)
  came_tame has asked t m h n p (Some method) reply.NotReady owns at one some ready is = absurd (ready refl)
  came_tame has asked t m h n p (Some method) _ owns at one some ready is = absurd (cc is)

  has_method : (found : Option Pending) (n : ℕ) → in_handle found ≡ Some n → method_of found ≡ None → ⊥
  has_method None n e none = cc e
  has_method (Some pending) n e none = cc none

  wait_answer : (n : ℕ) (r : OuterReply) → IsTrue (is_answer (call.WaitFor n) r) → (is_answer (call.Poll n) r ≡ true) × (r ≡ reply.NotReady → ⊥)
  wait_answer n (reply.Ready bytes) is = (refl, λ e. cc e)
  wait_answer n reply.LinkFailed is = (refl, λ e. cc e)
  wait_answer n _ is = absurd (cc is)

  -- what a handle has is told, where a ticket is asked for tamely
  told_tame : (has : List ℕ) (asks : ℕ → Row HttpAndPending) (t : HttpAndPending) (m : Linear) (h : ℕ) (p : Places) → Owns has t.sent.pending
      → ((n : ℕ) → ticket_at t.sent.pending h ≡ Some n → IsTame has (asks n)) → IsTame has (told reads asks t m h p (told_of (held t.sent.pending h)))
  told_tame has asks t m h p owns tame = with (held t.sent.pending h) refl
    where
      state : (pending : Pending) (s : PendingState) → pending.state ≡ s → held t.sent.pending h ≡ Some pending → IsTame has (told reads asks t m h p (has_in pending.method s))
      state pending (Ticket n) is at = tame n (ap in_handle at ∙ ap in_state is)
      state pending (Came bytes) is at = received_tame has (without_pending t h) m p pending.method bytes (owns_without has t.sent.pending h owns)
      state pending Broken is at = tame_done has status.Error (without_pending t h) m (owns_without has t.sent.pending h owns)

      with : (found : Option Pending) → held t.sent.pending h ≡ found → IsTame has (told reads asks t m h p (told_of found))
      with None is = tame_done has status.Error t m owns
      with (Some pending) is = state pending pending.state refl is

  waits_tame : (has : List ℕ) (t : HttpAndPending) (m : Linear) (h : ℕ) (p : Places) → Owns has t.sent.pending → IsTame has (waits reads t m h p)
  waits_tame has t m h p owns =
      told_tame has _ t m h p owns
      (λ n at. tame_asks has (call.WaitFor n) (came reads t m h p) (owns.each h n at)
      (λ r is fresh. let w = wait_answer n r is in came_tame has (call.WaitFor n) t m h n p (method_of (held t.sent.pending h)) r owns at (lets_wait n r) (has_method (held t.sent.pending h) n at) w.1 w.0))

  polled_tame : (has : List ℕ) (t : HttpAndPending) (m : Linear) (h n o r b : ℕ) (answer : OuterReply) → Owns has t.sent.pending → ticket_at t.sent.pending h ≡ Some n → is_answer (call.Poll n) answer ≡ true
      → IsTame (held_after has (answered (call.Poll n) answer)) (polled reads t m h o r b answer)
  polled_tame has t m h n o r b reply.NotReady owns at is =
      tame_done (held_after has (answered (call.Poll n) reply.NotReady)) status.Ok t _ (owns_after has (call.Poll n) reply.NotReady t.sent.pending owns (λ k other e. stays_by (call.Poll n) reply.NotReady other refl))
  polled_tame has t m h n o r b (reply.Ready bytes) owns at is =
      came_tame has (call.Poll n) t m h n (after_one o r b) (method_of (held t.sent.pending h)) (reply.Ready bytes) owns at (lets_poll n (reply.Ready bytes)) (has_method (held t.sent.pending h) n at) (λ e. cc e) is
  polled_tame has t m h n o r b reply.LinkFailed owns at is =
      came_tame has (call.Poll n) t m h n (after_one o r b) (method_of (held t.sent.pending h)) reply.LinkFailed owns at (lets_poll n reply.LinkFailed) (has_method (held t.sent.pending h) n at) (λ e. cc e) is
  polled_tame has t m h n o r b _ owns at is = absurd (cc is)

  pub poll_tame : (t : HttpAndPending) (m : Linear) (h o r b : ℕ) (has : List ℕ) → Owns has t.sent.pending → IsTame has (http_req_pending_req_poll reads t m h o r b)
  poll_tame t m h o r b has owns =
      tame_judged has t m (poll_asked t m h o r b) _ owns
      (λ x is.
      told_tame has _ t m h (after_one o r b) owns
      (λ n at. tame_asks has (call.Poll n) (polled reads t m h o r b) (owns.each h n at) (λ answer is fresh. polled_tame has t m h n o r b answer owns at is)))

  pub wait_tame : (t : HttpAndPending) (m : Linear) (h r b : ℕ) (has : List ℕ) → Owns has t.sent.pending → IsTame has (http_req_pending_req_wait reads t m h r b)
  wait_tame t m h r b has owns = tame_judged has t m (wait_asked t m h r b) _ owns (λ x is. waits_tame has t m h (record { lead = Nothing; response = r; body = b }) owns)

  -- ---- a handle that is asked, and keeps what came

  peeked_tame : (has : List ℕ) (t : HttpAndPending) (m : Linear) (h n o : ℕ) (r : OuterReply) → Owns has t.sent.pending → ticket_at t.sent.pending h ≡ Some n → is_answer (call.Poll n) r ≡ true
      → IsTame (held_after has (answered (call.Poll n) r)) (peeked reads t m h o r)
  peeked_tame has t m h n o reply.NotReady owns at is =
      tame_done (held_after has (answered (call.Poll n) reply.NotReady)) status.Ok t _ (owns_after has (call.Poll n) reply.NotReady t.sent.pending owns (λ k other e. stays_by (call.Poll n) reply.NotReady other refl))
  peeked_tame has t m h n o (reply.Ready bytes) owns at is =
      tame_done (held_after has (answered (call.Poll n) (reply.Ready bytes))) status.Ok _ _ (owns_kept has (call.Poll n) (reply.Ready bytes) t.sent.pending h n (Came bytes) owns at (lets_poll n (reply.Ready bytes)) refl)
  peeked_tame has t m h n o reply.LinkFailed owns at is =
      tame_done (held_after has (answered (call.Poll n) reply.LinkFailed)) status.Ok _ _ (owns_kept has (call.Poll n) reply.LinkFailed t.sent.pending h n Broken owns at (lets_poll n reply.LinkFailed) refl)
  peeked_tame has t m h n o _ owns at is = absurd (cc is)

  peeks_tame : (has : List ℕ) (t : HttpAndPending) (m : Linear) (h o : ℕ) → Owns has t.sent.pending → IsTame has (peeks reads t m h o (told_of (held t.sent.pending h)))
  peeks_tame has t m h o owns = with (held t.sent.pending h) refl
    where
      state : (pending : Pending) (s : PendingState) → pending.state ≡ s → held t.sent.pending h ≡ Some pending → IsTame has (peeks reads t m h o (has_in pending.method s))
      state pending (Ticket n) is at =
          let kept : ticket_at t.sent.pending h ≡ Some n = ap in_handle at ∙ ap in_state is in
          tame_asks has (call.Poll n) (peeked reads t m h o) (owns.each h n kept) (λ r is fresh. peeked_tame has t m h n o r owns kept is)
      state pending (Came bytes) is at = tame_done has status.Ok t _ owns
      state pending Broken is at = tame_done has status.Ok t _ owns

      with : (found : Option Pending) → held t.sent.pending h ≡ found → IsTame has (peeks reads t m h o (told_of found))
      with None is = tame_done has status.Error t m owns
      with (Some pending) is = state pending pending.state refl is

  pub ready_tame : (t : HttpAndPending) (m : Linear) (h o : ℕ) (has : List ℕ) → Owns has t.sent.pending → IsTame has (async_is_ready reads t m h o)
  ready_tame t m h o has owns = tame_judged has t m (ready_asked t.sent m h o) _ owns (λ x is. peeks_tame has t m h o owns)

  -- ---- handles of which one is chosen

  -- handles that keep nothing have tickets, and these are held
  no_kept : (test : ℕ → Bool) (h : ℕ) (handles : List ℕ) → position test (h ∷ handles) ≡ None → (test h ≡ false) × (position test handles ≡ None)
  no_kept test h handles e = with (test h) refl
    where
      with : (b : Bool) → test h ≡ b → (test h ≡ false) × (position test handles ≡ None)
      with true is = absurd (cc (position_found test h handles is, e))
      with false is = (is, position_later test h handles is e)

  one_among : (has : List ℕ) (table : List (Option Pending)) (h : ℕ) → Owns has table → is_held table h ≡ true → is_kept (held table h) ≡ false → IsTrue (is_among has (ticket_in (held table h)))
  one_among has table h owns there free = with (held table h) refl
    where
      state : (pending : Pending) (s : PendingState) → pending.state ≡ s → held table h ≡ Some pending → IsTrue (is_among has (ticket_in (Some pending)))
      state pending (Ticket n) is at =
          subst (λ (x : ℕ). IsTrue (is_among has x)) (ap ticket_in_state (sym is))
          (owns.each h n (ap in_handle at ∙ ap in_state is))
      state pending (Came bytes) is at = absurd (cc (free, ap is_kept at, ap is_kept_state is))
      state pending Broken is at = absurd (cc (free, ap is_kept at, ap is_kept_state is))

      with : (found : Option Pending) → held table h ≡ found → IsTrue (is_among has (ticket_in found))
      with None is = absurd (cc (there, ap (λ (x : Option Pending). is_some x) is))
      with (Some pending) is = state pending pending.state refl is

  all_among : (has : List ℕ) (table : List (Option Pending)) (handles : List ℕ) → Owns has table → list_all (is_held table) handles ≡ true → first_kept table handles ≡ None → list_all (is_among has) (tickets_of table handles) ≡ true
  all_among has table [] owns there none = refl
  all_among has table (h ∷ handles) owns there none =
      let parts = and_parts (is_held table h) (list_all (is_held table) handles) there in
      let free = no_kept (λ handle. is_kept (held table handle)) h handles none in
      and_from (is_among has (ticket_in (held table h))) (list_all (is_among has) (tickets_of table handles)) (one_among has table h owns parts.0 free.0) (all_among has table handles owns parts.1 free.1)

  same_count : (table : List (Option Pending)) (handles : List ℕ) → length (tickets_of table handles) ≡ length handles
  same_count table [] = refl
  same_count table (h ∷ handles) = ap suc (same_count table handles)

  may_choose : (has : List ℕ) (table : List (Option Pending)) (handles : List ℕ) → Owns has table → list_all (is_held table) handles ≡ true → is_choice handles ≡ true → first_kept table handles ≡ None → MayName has (call.AnyOf (tickets_of table handles))
  may_choose has table handles owns there choice none =
      and_from (is_from_to 1 100 (length (tickets_of table handles))) (list_all (is_among has) (tickets_of table handles))
      (subst (λ (k : ℕ). is_from_to 1 100 k ≡ true) (sym (same_count table handles)) (and_parts (is_from_to 1 100 (length handles)) _ choice).0)
      (all_among has table handles owns there none)

  listed_is : (table : List (Option Pending)) (m : Linear) (p count : ℕ) (handles : List ℕ) → listed table m p count ≡ Ok handles → list_all (is_held table) handles ≡ true
  listed_is table m p count handles is =
      let one = then_ok (ranged m p (4 * count)) _ handles is in
      let two = then_ok (unless (list_all (is_held table) (words m p count)) status.Badf) (λ _. Ok (words m p count)) handles one.2 in
      let same : words m p count ≡ handles = cc two.2 in
      subst (λ (hs : List ℕ). list_all (is_held table) hs ≡ true) same (unless_is (list_all (is_held table) (words m p count)) two.0 two.1)
    where
      unless_is : (test : Bool) (u : Unit {0}) → unless test status.Badf ≡ Ok u → test ≡ true
      unless_is true u e = refl
      unless_is false u e = absurd (cc e)

  unless_holds : (test : Bool) (u : Unit {0}) → unless test status.Inval ≡ Ok u → test ≡ true
  unless_holds true u e = refl
  unless_holds false u e = absurd (cc e)

  choose_is : (t : HttpAndPending) (m : Linear) (p count o r b : ℕ) (handles : List ℕ) → choose_asked t m p count o r b ≡ Ok handles → (list_all (is_held t.sent.pending) handles ≡ true) × (is_choice handles ≡ true)
  choose_is t m p count o r b handles is =
      let list = then_ok (listed t.sent.pending m p count) _ handles is in
      let one = then_ok (placed m o 4) _ handles list.2 in
      let two = then_ok (placed m r 4) _ handles one.2 in
      let three = then_ok (placed m b 4) _ handles two.2 in
      let choice = then_ok (unless (is_choice list.0) status.Inval) _ handles three.2 in
      let room = then_ok (room_for_both t.http) (λ _. Ok list.0) handles choice.2 in
      let same : list.0 ≡ handles = cc room.2 in (
        subst (λ (hs : List ℕ). list_all (is_held t.sent.pending) hs ≡ true) same (listed_is t.sent.pending m p count list.0 list.1),
        subst (λ (hs : List ℕ). is_choice hs ≡ true) same (unless_holds (is_choice list.0) choice.0 choice.1),
      )

  select_is : (t : HttpAndPending) (m : Linear) (p count timeout o : ℕ) (handles : List ℕ) → select_asked t.sent m p count timeout o ≡ Ok handles → (list_all (is_held t.sent.pending) handles ≡ true) × (is_choice handles ≡ true)
  select_is t m p count timeout o handles is =
      let list = then_ok (listed t.sent.pending m p count) _ handles is in
      let one = then_ok (placed m o 4) _ handles list.2 in
      let choice = then_ok (unless (is_choice list.0) status.Inval) _ handles one.2 in
      let time = then_ok (unless _ status.Unsupported) (λ _. Ok list.0) handles choice.2 in
      let same : list.0 ≡ handles = cc time.2 in (
        subst (λ (hs : List ℕ). list_all (is_held t.sent.pending) hs ≡ true) same (listed_is t.sent.pending m p count list.0 list.1),
        subst (λ (hs : List ℕ). is_choice hs ≡ true) same (unless_holds (is_choice list.0) choice.0 choice.1),
      )

  chosen_at_tame : (has : List ℕ) (t : HttpAndPending) (m : Linear) (index o r b : ℕ) (handle : Option ℕ) → Owns has t.sent.pending → IsTame has (chosen_at reads t m index o r b handle)
  chosen_at_tame has t m index o r b None owns = tame_done has status.Error t m owns
  chosen_at_tame has t m index o r b (Some h) owns = waits_tame has t m h (record { lead = Number o index; response = r; body = b }) owns

  chosen_tame : (has : List ℕ) (t : HttpAndPending) (m : Linear) (handles ns : List ℕ) (o r b : ℕ) (answer : OuterReply) → Owns has t.sent.pending → IsTrue (is_answer (call.AnyOf ns) answer)
      → IsTame (held_after has (answered (call.AnyOf ns) answer)) (chosen reads t m handles o r b answer)
  chosen_tame has t m handles ns o r b (reply.Index index) owns is =
      chosen_at_tame (held_after has (answered (call.AnyOf ns) (reply.Index index))) t m index o r b (slice_get handles index)
      (owns_after has (call.AnyOf ns) (reply.Index index) t.sent.pending owns (λ k n e. refl))
  chosen_tame has t m handles ns o r b _ owns is = absurd (cc is)

  chooses_tame : (has : List ℕ) (t : HttpAndPending) (m : Linear) (handles : List ℕ) (o r b : ℕ) (found : Option ℕ) → first_kept t.sent.pending handles ≡ found → Owns has t.sent.pending
      → list_all (is_held t.sent.pending) handles ≡ true → is_choice handles ≡ true → IsTame has (chooses reads t m handles o r b found)
  chooses_tame has t m handles o r b None none owns there choice =
      tame_asks has (call.AnyOf (tickets_of t.sent.pending handles)) (chosen reads t m handles o r b) (may_choose has t.sent.pending handles owns there choice none)
      (λ answer is fresh. chosen_tame has t m handles (tickets_of t.sent.pending handles) o r b answer owns is)
  chooses_tame has t m handles o r b (Some index) some owns there choice = chosen_at_tame has t m index o r b (slice_get handles index) owns

  pub choose_tame : (t : HttpAndPending) (m : Linear) (p count o r b : ℕ) (has : List ℕ) → Owns has t.sent.pending → IsTame has (http_req_pending_req_select reads t m p count o r b)
  choose_tame t m p count o r b has owns =
      tame_judged has t m (choose_asked t m p count o r b) _ owns
      (λ handles is. let w = choose_is t m p count o r b handles is in chooses_tame has t m handles o r b (first_kept t.sent.pending handles) refl owns w.0 w.1)

  picked_tame : (has : List ℕ) (t : HttpAndPending) (m : Linear) (ns : List ℕ) (o : ℕ) (answer : OuterReply) → Owns has t.sent.pending → IsTrue (is_answer (call.AnyOf ns) answer)
      → IsTame (held_after has (answered (call.AnyOf ns) answer)) (picked reads t m o answer)
  picked_tame has t m ns o (reply.Index index) owns is =
      tame_done (held_after has (answered (call.AnyOf ns) (reply.Index index))) status.Ok t _ (owns_after has (call.AnyOf ns) (reply.Index index) t.sent.pending owns (λ k n e. refl))
  picked_tame has t m ns o _ owns is = absurd (cc is)

  picks_tame : (has : List ℕ) (t : HttpAndPending) (m : Linear) (handles : List ℕ) (o : ℕ) (found : Option ℕ) → first_kept t.sent.pending handles ≡ found → Owns has t.sent.pending
      → list_all (is_held t.sent.pending) handles ≡ true → is_choice handles ≡ true → IsTame has (picks reads t m handles o found)
  picks_tame has t m handles o None none owns there choice =
      tame_asks has (call.AnyOf (tickets_of t.sent.pending handles)) (picked reads t m o) (may_choose has t.sent.pending handles owns there choice none)
      (λ answer is fresh. picked_tame has t m (tickets_of t.sent.pending handles) o answer owns is)
  picks_tame has t m handles o (Some index) some owns there choice = tame_done has status.Ok t _ owns

  pub select_tame : (t : HttpAndPending) (m : Linear) (p count timeout o : ℕ) (has : List ℕ) → Owns has t.sent.pending → IsTame has (async_select reads t m p count timeout o)
  select_tame t m p count timeout o has owns =
      tame_judged has t m (select_asked t.sent m p count timeout o) _ owns
      (λ handles is. let w = select_is t m p count timeout o handles is in picks_tame has t m handles o (first_kept t.sent.pending handles) refl owns w.0 w.1)
