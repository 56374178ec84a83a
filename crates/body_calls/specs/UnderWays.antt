-- What a row under way does with the reply to its outer call and with the replies after it.
use Rattle.std.specs.Prelude.{ℕ, true, false, List, ◌∷◌, Option, None}
use Rattle.cache_types.specs.declared.outer.OuterCall.TheVariants as call
use Rattle.cache_types.specs.declared.outer.OuterReply.{OuterReply}
use Rattle.wasm_memory.specs.Linear.{Linear}
use Rattle.edge_abi.specs.declared.status.Status.{Status}
use Rattle.edge_abi.specs.declared.status.Status.TheVariants as status
use Rattle.edge_abi.specs.Tables.{taken}
use Rattle.edge_abi.specs.Told.{Row, ask, done}
use Rattle.edge_body.specs.declared.body.Part.{Part}
use Rattle.edge_body.specs.declared.body.Part.TheVariants.{Rest}
use Rattle.edge_http_calls.specs.declared.tables.BodyState.{BodyState}
use Rattle.edge_http_calls.specs.declared.tables.BodyState.TheVariants as body
use Rattle.edge_http_calls.specs.declared.tables.To.{To}
use Rattle.edge_http_calls.specs.declared.tables.To.TheVariants as to
use Rattle.edge_http_calls.specs.declared.tables.HttpTables.{HttpTables}
use Rattle.edge_http_calls.specs.Tables.{with_changed}
use Rattle.edge_http_calls.specs.Moves.{piece_to, status_of_piece, passed, heard, onward, write_parts}
use Rattle.edge_http_calls.specs.Bodies.{appended, fails, was_read, read_parts, closed, abandoned, wrote, status_of_end, status_of_finish, status_of_abandon, status_of_sent}
use Rattle.body_calls.specs.declared.under_way.Then.{Then}
use Rattle.body_calls.specs.declared.under_way.Then.TheVariants.{Append, Send}
use Rattle.body_calls.specs.declared.under_way.UnderWay.{UnderWay}
use Rattle.body_calls.specs.declared.under_way.UnderWay.TheVariants.{Finishing, Closing, Abandoning, Cutting, Writing, Fetching, Heading, Moving, Reading, Ending, Failing}

-- an answer was given
abbrev pub answered : HttpTables → HttpTables
answered t = record t { answered = true }

abbrev pub down : BodyState → BodyState
down state = body.Down

-- the whole answer was sent: both handles are taken
abbrev pub sent : HttpTables → Linear → ℕ → ℕ → Status → Row HttpTables
sent t m response handle status.Ok = done status.Ok (record (answered t) { responses = taken t.responses response; bodies = taken t.bodies handle }) m
sent t m response handle said = done said (answered t) m

-- an answer was given that isn't whole
abbrev pub failed : HttpTables → Linear → Status → Row HttpTables
failed t m said = done said (answered t) m

-- how a row goes on behind a part that failed, and behind the last one
abbrev pub fails_of : Then → HttpTables → Linear → Status → Row HttpTables
fails_of (Append second) t m said = fails t m said
fails_of (Send response handle streamed) t m said = ask (call.Close false) (λ reply. failed t m status.Error)

abbrev pub ends_of : Then → HttpTables → Linear → Row HttpTables
ends_of (Append second) t m = appended t m second
ends_of (Send response handle false) t m = ask (call.Close true) (λ reply. sent t m response handle (status_of_sent reply))
ends_of (Send response handle true) t m = done status.Ok (with_changed (answered t) handle down) m

-- parts that are written on
abbrev pub moves : To → Then → List Part → HttpTables → Linear → Row HttpTables
moves target then left t m = write_parts target left (fails_of then t m) (ends_of then t m)

-- the rest of a hit behind what was read of it
abbrev pub rest_of : ℕ → ℕ → List ℕ → Part
rest_of hit place bytes = Rest hit (onward place bytes) None

-- a piece was written; these parts are left
abbrev pub pieced : To → Then → List Part → HttpTables → Linear → OuterReply → Row HttpTables
pieced target then left t m wrote replies =
    passed (status_of_piece target wrote) (λ said. fails_of then t m said replies) (moves target then left t m replies)

-- what was read is one piece, and the rest of the hit comes first then
abbrev pub written_bytes : To → Then → ℕ → ℕ → List Part → HttpTables → Linear → List ℕ → Row HttpTables
written_bytes target then hit place left t m bytes = ask (piece_to target bytes) (pieced target then (rest_of hit place bytes ∷ left) t m)

-- a hit was read to be written on
abbrev pub read_on : To → Then → ℕ → ℕ → List Part → HttpTables → Linear → OuterReply → Row HttpTables
read_on target then hit place left t m read replies =
    heard 65536 read (λ bytes. written_bytes target then hit place left t m bytes replies) (moves target then left t m replies) (fails_of then t m status.Error replies)

-- the head of an answer was sent
abbrev pub headed : Then → List Part → HttpTables → Linear → Status → Row HttpTables
headed then left t m status.Ok = moves to.Down then left t m
headed then left t m said = failed t m said

-- what was read of a hit goes to the guest, and the rest of it comes first then
abbrev pub fetched_bytes : HttpTables → Linear → ℕ → ℕ → ℕ → ℕ → ℕ → Option ℕ → List Part → List ℕ → Row HttpTables
fetched_bytes t m handle b o hit place length left bytes = was_read t m handle b o bytes (Rest hit (onward place bytes) length ∷ left)

-- a hit was read for the guest; these parts stand behind it
abbrev pub fetched : HttpTables → Linear → ℕ → ℕ → ℕ → ℕ → ℕ → ℕ → Option ℕ → List Part → OuterReply → Row HttpTables
fetched t m handle b most o hit place length left reply =
    heard most reply (fetched_bytes t m handle b o hit place length left) (read_parts t m handle b most o left) (done status.Error t m)

abbrev pub resumed : UnderWay → HttpTables → Linear → OuterReply → Row HttpTables
resumed (Finishing handle) t m reply = closed t m handle (status_of_end status_of_finish reply)
resumed (Closing handle) t m reply = closed t m handle (status_of_sent reply)
resumed (Abandoning handle) t m reply = abandoned t m handle (status_of_end status_of_abandon reply)
resumed (Cutting handle) t m reply = abandoned t m handle (status_of_sent reply)
resumed (Writing target written count) t m reply = wrote t m count written (status_of_piece target reply)
resumed (Fetching handle b most o hit place length left) t m reply = fetched t m handle b most o hit place length left reply
resumed (Heading then left) t m reply = headed then left t m (status_of_sent reply)
resumed (Moving target then left) t m reply = pieced target then left t m reply
resumed (Reading target then hit place left) t m reply = read_on target then hit place left t m reply
resumed (Ending response handle) t m reply = sent t m response handle (status_of_sent reply)
resumed Failing t m reply = failed t m status.Error
