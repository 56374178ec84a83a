-- A link in memory: the k-th start is answered by the k-th reply, and its ticket is k.
use Rattle.std.specs.Prelude.{◌≡◌, ◌⊎◌, ◌<◌, ◌≤◌, ◌+◌, ◌-◌, ◌==◌, ◌||◌, not, ℕ, Bool, List, [], ◌∷◌, ◌++◌, length, take, min, filter, slice_get, slice_set, All, Option, None, Some, Result, Ok, Err, if◌then◌else◌, IsTrue}
use Rattle.std.specs.List.{list_any}
use Rattle.edge_outside.specs.declared.fault.IoFault.{IoFault}
use Rattle.edge_outside.specs.declared.fault.IoFault.TheVariants.{Failed, OutOfMemory}
use Rattle.edge_outside.specs.declared.mem_link.MemReply.{MemReply}
use Rattle.edge_outside.specs.Faults.{raised}
use Rattle.edge_outside.specs.Link.{is_unready, takes_on_poll, takes_on_wait}
use Rattle.edge_outside.specs.Plan.{Calls, one_more, is_to_fail}

-- the replies, how many of them starts were given, the tickets that stand open, and the calls
pub record LinkContent : Type 0 where
  pub replies : List MemReply
  pub started : ℕ
  pub tickets : List ℕ
  pub calls : Calls

-- a link in memory: what it holds, its count of faults, and that of polls that found nothing yet
pub record LinkInMemory : Type 0 where
  pub content : LinkContent
  pub faults : ℕ
  pub unready : ℕ

abbrev pub is_among : List ℕ → ℕ → Bool
is_among held ticket = list_any (λ other. other == ticket) held

abbrev pub IsAmong : List ℕ → ℕ → Type 0
IsAmong held ticket = IsTrue (is_among held ticket)

abbrev pub without : ℕ → List ℕ → List ℕ
without ticket held = filter (λ other. not (other == ticket)) held

-- the count rises at `Failed` alone
abbrev pub faults_at : {X : Type 0} → Result X IoFault → ℕ → ℕ
faults_at (Ok _) faults = faults
faults_at (Err Failed) faults = raised faults
faults_at (Err OutOfMemory) faults = faults

-- the answer, but for want of memory
abbrev pub IsAnswer : {X : Type 0} → Result X IoFault → Result X IoFault → Type 0
IsAnswer meaning answer = (answer ≡ Err OutOfMemory) ⊎ (answer ≡ meaning)

-- ---- a start

abbrev pub start_answer : LinkContent → Result ℕ IoFault
start_answer c = if is_to_fail c.calls || c.started == length c.replies then Err Failed else Ok (c.started + 1)

abbrev pub opened : Result ℕ IoFault → List ℕ → List ℕ
opened (Ok ticket) held = held ++ ticket ∷ []
opened (Err fault) held = held

-- the reply is given, also where the start failed
abbrev pub after_start : Result ℕ IoFault → LinkContent → LinkContent
after_start answer c = record { replies = c.replies; started = min (c.started + 1) (length c.replies); tickets = opened answer c.tickets; calls = one_more c.calls }

pub record StartsInMemory (before : LinkInMemory) (answer : Result ℕ IoFault) (after : LinkInMemory) : Type 0 where
  pub answered : IsAnswer (start_answer before.content) answer
  pub content : after.content ≡ after_start answer before.content
  pub faults : after.faults ≡ faults_at answer before.faults
  pub unready : after.unready ≡ before.unready

-- ---- a poll and a wait

-- the reply to a ticket
abbrev pub reply_to : List MemReply → ℕ → Option MemReply
reply_to replies ticket = slice_get replies (ticket - 1)

abbrev pub polled : Option MemReply → Result (Option (List ℕ)) IoFault
polled None = Err Failed
polled (Some r) = if r.polls == 0 then Ok (Some r.bytes.items) else Ok None

abbrev pub poll_answer : LinkContent → ℕ → Result (Option (List ℕ)) IoFault
poll_answer c ticket = if is_to_fail c.calls then Err Failed else polled (reply_to c.replies ticket)

-- a poll that found nothing yet leaves one poll less
abbrev pub lowered : Option MemReply → List MemReply → ℕ → List MemReply
lowered None replies ticket = replies
lowered (Some r) replies ticket = slice_set replies (ticket - 1) (record r { polls = r.polls - 1 })

abbrev pub replies_after : Result (Option (List ℕ)) IoFault → List MemReply → ℕ → List MemReply
replies_after answer replies ticket = if is_unready answer then lowered (reply_to replies ticket) replies ticket else replies

abbrev pub after_poll : Result (Option (List ℕ)) IoFault → ℕ → LinkContent → LinkContent
after_poll answer ticket c = record {
  replies = replies_after answer c.replies ticket;
  started = c.started;
  tickets = if takes_on_poll answer then without ticket c.tickets else c.tickets;
  calls = one_more c.calls;
}

pub record PollsInMemory (before : LinkInMemory) (ticket : ℕ) (answer : Result (Option (List ℕ)) IoFault) (after : LinkInMemory) : Type 0 where
  pub answered : IsAnswer (poll_answer before.content ticket) answer
  pub content : after.content ≡ after_poll answer ticket before.content
  pub faults : after.faults ≡ faults_at answer before.faults
  pub unready : after.unready ≡ (if is_unready answer then raised before.unready else before.unready)

abbrev pub waited : Option MemReply → Result (List ℕ) IoFault
waited None = Err Failed
waited (Some r) = Ok r.bytes.items

abbrev pub wait_answer : LinkContent → ℕ → Result (List ℕ) IoFault
wait_answer c ticket = if is_to_fail c.calls then Err Failed else waited (reply_to c.replies ticket)

abbrev pub after_wait : Result (List ℕ) IoFault → ℕ → LinkContent → LinkContent
after_wait answer ticket c = record {
  replies = c.replies;
  started = c.started;
  tickets = if takes_on_wait answer then without ticket c.tickets else c.tickets;
  calls = one_more c.calls;
}

pub record WaitsInMemory (before : LinkInMemory) (ticket : ℕ) (answer : Result (List ℕ) IoFault) (after : LinkInMemory) : Type 0 where
  pub answered : IsAnswer (wait_answer before.content ticket) answer
  pub content : after.content ≡ after_wait answer ticket before.content
  pub faults : after.faults ≡ faults_at answer before.faults
  pub unready : after.unready ≡ before.unready

-- ---- which is ready first

abbrev pub polls_in : Option MemReply → ℕ
polls_in None = 0
polls_in (Some r) = r.polls

-- how many polls of a ticket find nothing yet
abbrev pub left_of : List MemReply → ℕ → ℕ
left_of replies ticket = polls_in (reply_to replies ticket)

-- the first of those with the fewest
pub record ChoosesInMemory (replies : List MemReply) (tickets : List ℕ) (answer : ℕ) : Type 0 where
  pub chosen : ℕ
  pub at : slice_get tickets answer ≡ Some chosen
  pub first : All (λ ticket. left_of replies chosen < left_of replies ticket) (take answer tickets)
  pub least : All (λ ticket. left_of replies chosen ≤ left_of replies ticket) tickets
