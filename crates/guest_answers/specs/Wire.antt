-- A guest's answer on the wire, call by call.
use Rattle.std.specs.Prelude.{ℕ, Bool, true, false, List, [], ◌∷◌, if◌then◌else◌}
use Rattle.std.specs.List.{flat_map}
use Rattle.cache_types.specs.declared.outer.OuterCall.{OuterCall}
use Rattle.cache_types.specs.declared.outer.OuterCall.TheVariants as call
use Rattle.http_front.specs.declared.answers.Framing.{Framing}
use Rattle.http_front.specs.Answers.{empty_answer}
use Rattle.http_front.specs.Frames.{framing_of, piece_text, end_text}
use Rattle.player.specs.Plays.{Answered}
use Rattle.guest_answers.specs.declared.answer.Answer.{Answer}
use Rattle.guest_answers.specs.declared.answer.Answer.TheVariants.{Headless, Headed, Closed}

-- a head tells how the body is written, to a request of this method
abbrev pub opened : List ℕ → OuterCall → Answer
opened method (call.Head bytes) = Headed (framing_of method bytes)
opened method _ = Headless

abbrev pub closed : Framing → OuterCall → Answer
closed framing (call.Close whole) = Closed
closed framing _ = Headed framing

-- how far an answer has come behind one more call
abbrev pub after_call : List ℕ → Answer → OuterCall → Answer
after_call method Headless c = opened method c
after_call method (Headed framing) c = closed framing c
after_call method Closed c = Closed

abbrev pub head_frame : OuterCall → List ℕ
head_frame (call.Head bytes) = bytes
head_frame _ = []

abbrev pub body_frame : Framing → OuterCall → List ℕ
body_frame framing (call.Piece bytes) = piece_text framing bytes
body_frame framing (call.Close whole) = if whole then end_text framing else []
body_frame framing _ = []

-- the bytes of a call: first the head, then pieces and the end; nothing before the head, and nothing behind the end
abbrev pub frame : Answer → OuterCall → List ℕ
frame Headless c = head_frame c
frame (Headed framing) c = body_frame framing c
frame Closed c = []

-- how far the answer has come behind these calls
abbrev pub answer_from : List ℕ → Answer → List Answered → Answer
answer_from method answer [] = answer
answer_from method answer (a ∷ trace) = answer_from method (after_call method answer a.call) trace

abbrev pub answer_behind : List ℕ → List Answered → Answer
answer_behind method trace = answer_from method Headless trace

-- the bytes of each of these calls
abbrev pub frames_from : List ℕ → Answer → List Answered → List (List ℕ)
frames_from method answer [] = []
frames_from method answer (a ∷ trace) = frame answer a.call ∷ frames_from method (after_call method answer a.call) trace

abbrev pub frames : List ℕ → List Answered → List (List ℕ)
frames method trace = frames_from method Headless trace

-- no head was sent
abbrev pub is_headless : Answer → Bool
is_headless Headless = true
is_headless (Headed framing) = false
is_headless Closed = false

-- the answer for a guest that sends none
abbrev pub failure : List ℕ
failure = empty_answer 500

-- the whole answer of a guest that made these calls, piece by piece
abbrev pub sent : List ℕ → List Answered → List (List ℕ)
sent method trace = if is_headless (answer_behind method trace) then failure ∷ [] else frames method trace

-- the bytes of some pieces
abbrev pub joined : List (List ℕ) → List ℕ
joined pieces = flat_map (λ bytes. bytes) pieces
