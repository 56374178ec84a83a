-- How the steps of rows go on, by what was told apart.
use Rattle.std.proofs.Common.{◌≡◌, ◌∙◌, ℕ, List, refl, sym, ap, subst}
use Rattle.std.specs.Prelude.{Option, Result, Ok}
use Rattle.cache_types.specs.declared.outer.OuterReply.{OuterReply}
use Rattle.wasm_memory.specs.Linear.{Linear}
use Rattle.edge_abi.specs.declared.asked.Step.{Step}
use Rattle.edge_abi.specs.declared.status.Status.{Status}
use Rattle.edge_abi.specs.declared.status.Status.TheVariants as status
use Rattle.edge_abi.specs.declared.status.Refusal.{Refusal}
use Rattle.edge_abi.specs.Goes.{Goes}
use Rattle.edge_abi.specs.Told.{Row, judged}
use Rattle.edge_body.specs.declared.body.Part.{Part}
use Rattle.edge_http_calls.specs.declared.tables.HttpTables.{HttpTables}
use Rattle.edge_http_calls.specs.declared.tables.To.{To}
use Rattle.edge_http_calls.specs.declared.tables.To.TheVariants as targets
use Rattle.edge_http_calls.specs.Bodies.{read_parts, wrote}
use Rattle.edge_http_calls.specs.Moves.{heard, passed, status_of_piece}
use Rattle.body_calls.specs.declared.fronts.Front.{Front}
use Rattle.body_calls.specs.declared.replies.Heard.{Heard}
use Rattle.body_calls.specs.declared.replies.Heard.TheVariants.{Bytes, Ended, Failed}
use Rattle.body_calls.specs.declared.under_way.Then.{Then}
use Rattle.body_calls.specs.declared.under_way.UnderWay.{UnderWay}
use Rattle.body_calls.specs.Fronts.{front_of, reading, going}
use Rattle.body_calls.specs.Heards.{written_on, fetched_on}
use Rattle.body_calls.specs.UnderWays.{fails_of, failed, moves, pieced, read_on, fetched, headed, resumed}
use Rattle.body_calls.proofs.Going.{goes_same, passed_other}
use Rattle.body_calls.proofs.Heards.{written_is, fetched_is}
use Rattle.body_calls.proofs.PartFronts.{goes_on, reads_on}

-- ---- by what parts begin with, and by what was heard

pub moves_goes : (to : To) (row : Then) (t : HttpTables) (m : Linear) (parts : List Part) (front : Front) → front ≡ front_of 65536 parts → (step : Step UnderWay) (after : HttpTables)
    → Goes resumed (going to row front t m) step after m → Goes resumed (moves to row parts t m) step after m
moves_goes to row t m parts front is step after goes =
    goes_same (moves to row parts t m) (going to row front t m) (λ replies. goes_on to row t m parts replies ∙ ap (λ (x : Front). going to row x t m replies) (sym is)) step after m goes

pub reads_goes : (t : HttpTables) (m : Linear) (h b most o : ℕ) (parts : List Part) (front : Front) → front ≡ front_of most parts → (step : Step UnderWay) (after : HttpTables) (there : Linear)
    → Goes resumed (reading t m h b most o front) step after there → Goes resumed (read_parts t m h b most o parts) step after there
reads_goes t m h b most o parts front is step after there goes =
    goes_same (read_parts t m h b most o parts) (reading t m h b most o front) (λ replies. reads_on t m h b most o parts replies ∙ ap (λ (x : Front). reading t m h b most o x replies) (sym is)) step after there goes

pub written_goes : (to : To) (row : Then) (hit place : ℕ) (left : List Part) (t : HttpTables) (m : Linear) (read : OuterReply) (told : Heard) → told ≡ heard 65536 read Bytes Ended Failed
    → (step : Step UnderWay) (after : HttpTables) → Goes resumed (written_on to row hit place left t m told) step after m → Goes resumed (read_on to row hit place left t m read) step after m
written_goes to row hit place left t m read told is step after goes =
    goes_same (read_on to row hit place left t m read) (written_on to row hit place left t m told) (λ replies. written_is to row hit place left t m read told is replies) step after m goes

pub fetched_goes : (t : HttpTables) (m : Linear) (h b most o hit place : ℕ) (len : Option ℕ) (left : List Part) (read : OuterReply) (told : Heard) → told ≡ heard most read Bytes Ended Failed
    → (step : Step UnderWay) (after : HttpTables) (there : Linear) → Goes resumed (fetched_on t m h b most o hit place len left told) step after there
    → Goes resumed (fetched t m h b most o hit place len left read) step after there
fetched_goes t m h b most o hit place len left read told is step after there goes =
    goes_same (fetched t m h b most o hit place len left read) (fetched_on t m h b most o hit place len left told) (λ replies. fetched_is t m h b most o hit place len left read told is replies) step after there goes

-- ---- by a status

pub pieced_ok : (to : To) (row : Then) (left : List Part) (t : HttpTables) (m : Linear) (wrote : OuterReply) → status.Ok ≡ status_of_piece to wrote → (step : Step UnderWay) (after : HttpTables)
    → Goes resumed (moves to row left t m) step after m → Goes resumed (pieced to row left t m wrote) step after m
pieced_ok to row left t m wrote is step after goes =
    goes_same (pieced to row left t m wrote) (moves to row left t m)
    (λ replies. ap (λ (x : Status). passed x (λ said. fails_of row t m said replies) (moves to row left t m replies)) (sym is)) step after m goes

pub pieced_other : (to : To) (row : Then) (left : List Part) (t : HttpTables) (m : Linear) (wrote : OuterReply) (told : Status) → told ≡ status_of_piece to wrote → (told ≡ status.Ok → ⊥)
    → (step : Step UnderWay) (after : HttpTables) → Goes resumed (fails_of row t m told) step after m → Goes resumed (pieced to row left t m wrote) step after m
pieced_other to row left t m wrote told is other step after goes =
    goes_same (pieced to row left t m wrote) (fails_of row t m told)
    (λ replies.
    ap (λ (x : Status). passed x (λ said. fails_of row t m said replies) (moves to row left t m replies)) (sym is)
    ∙ passed_other told (λ said. fails_of row t m said replies) (moves to row left t m replies) other) step after m goes

pub headed_other : (row : Then) (left : List Part) (t : HttpTables) (m : Linear) (told : Status) → (told ≡ status.Ok → ⊥) → headed row left t m told ≡ failed t m told
headed_other row left t m status.Ok other = absurd (other refl)
headed_other row left t m told other = refl

pub headed_ok : (row : Then) (left : List Part) (t : HttpTables) (m : Linear) (told : Status) → status.Ok ≡ told → (step : Step UnderWay) (after : HttpTables)
    → Goes resumed (moves targets.Down row left t m) step after m → Goes resumed (headed row left t m told) step after m
headed_ok row left t m told is step after goes = subst (λ (x : Status). Goes resumed (headed row left t m x) step after m) is goes

pub headed_fails : (row : Then) (left : List Part) (t : HttpTables) (m : Linear) (told said : Status) → told ≡ said → (told ≡ status.Ok → ⊥) → (step : Step UnderWay) (after : HttpTables)
    → Goes resumed (failed t m told) step after m → Goes resumed (headed row left t m said) step after m
headed_fails row left t m told said is other step after goes =
    subst (λ (x : Status). Goes resumed (headed row left t m x) step after m) is
    (subst (λ (x : Row HttpTables). Goes resumed x step after m) (sym (headed_other row left t m told other)) goes)

-- ---- by what is the same

pub moves_same : (to : To) (row : Then) (m : Linear) (parts same : List Part) (t like : HttpTables) (step : Step UnderWay) (after : HttpTables) → parts ≡ same → t ≡ like
    → Goes resumed (moves to row parts t m) step after m → Goes resumed (moves to row same like m) step after m
moves_same to row m parts same t like step after parts_are tables_are goes =
    subst (λ (x : HttpTables). Goes resumed (moves to row same x m) step after m) tables_are
    (subst (λ (x : List Part). Goes resumed (moves to row x t m) step after m) parts_are goes)

pub reads_same : (m : Linear) (h b most o : ℕ) (parts same : List Part) (t like : HttpTables) (step : Step UnderWay) (after : HttpTables) (there : Linear) → parts ≡ same → t ≡ like
    → Goes resumed (read_parts t m h b most o parts) step after there → Goes resumed (read_parts like m h b most o same) step after there
reads_same m h b most o parts same t like step after there parts_are tables_are goes =
    subst (λ (x : HttpTables). Goes resumed (read_parts x m h b most o same) step after there) tables_are
    (subst (λ (x : List Part). Goes resumed (read_parts t m h b most o x) step after there) parts_are goes)

-- a row that isn't refused
pub judged_goes : {X : Type 0} (t : HttpTables) (m : Linear) (asked : Result X Refusal) (x : X) (next : X → Row HttpTables) → asked ≡ Ok x → (step : Step UnderWay) (after : HttpTables) (there : Linear)
    → Goes resumed (next x) step after there → Goes resumed (judged t m asked next) step after there
judged_goes {X} t m asked x next is step after there goes =
    goes_same (judged t m asked next) (next x) (λ replies. ap (λ (r : Result X Refusal). judged t m r next replies) is) step after there goes
