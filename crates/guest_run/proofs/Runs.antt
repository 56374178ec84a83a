-- A run of the machine and the row of its hostcall, under all replies.
use Rattle.std.proofs.Common.{◌≡◌, ◌∙◌, ℕ, zero, suc, ◌<◌, ◌≤◌, List, [], ◌∷◌, Option, None, Some, slice_get, refl, ap, sym, subst, arith}
use Rattle.std.specs.Prelude.{Result, Ok, Err, IfOk}
use Rattle.std.specs.declared.alloc.AllocError.{AllocError}
use Rattle.cache_types.specs.declared.outer.OuterReply.{OuterReply}
use Rattle.cache_types.specs.declared.outer.Outcome.TheVariants as outcome
use Rattle.cache_types.specs.declared.outer.TrapNumber.TheVariants as number
use Rattle.wasm_types.specs.declared.values.TrapKind.{TrapKind}
use Rattle.wasm_types.specs.declared.values.Value.{Value}
use Rattle.wasm_types.specs.declared.values.Value.TheVariants.{I32}
use Rattle.wasm_types.specs.Nested.{Body}
use Rattle.wasm_memory.specs.Linear.{Linear}
use Rattle.wasm_meaning.specs.declared.off.Off.TheVariants.{Trap}
use Rattle.wasm_meaning.specs.World.{World}
use Rattle.wasm_meaning.specs.Frames.{Program as Code, Function, State}
use Rattle.wasm_meaning.specs.Runs.{Ending as How, Returned, Stopped, Called, OutOfFuel, first, runs, resumed as goes_on}
use Rattle.wasm_machine.specs.declared.running.Stop.TheVariants as stops
use Rattle.module_machine.specs.declared.machine.Machine.{Machine}
use Rattle.module_machine.specs.Standing.{memory_of, IsIdle, Waits, Stands, LeadsOn, Tells as MachineTells, in_memory, with_memory}
use Rattle.module_machine.proofs.Machines.{written_so}
use Rattle.edge_abi.specs.Told.{Told, Wants, Gives, Row, After, Answer, Number, Code as Exits}
use Rattle.edge_abi.specs.declared.asked.Step.{Step}
use Rattle.edge_abi.specs.declared.asked.Step.TheVariants as step
use Rattle.edge_abi.specs.Goes.{Goes}
use Rattle.player.specs.Plays.{Program}
use Rattle.guest_calls.specs.declared.call.Call.{Call}
use Rattle.guest_calls.specs.declared.call.Call.TheVariants as calls
use Rattle.guest_calls.specs.declared.call.RowCall.{RowCall}
use Rattle.guest_calls.specs.declared.rows.Under.{Under}
use Rattle.guest_calls.specs.declared.tables.GuestTables.{GuestTables}
use Rattle.guest_calls.specs.Rows.{word, called}
use Rattle.body_calls.specs.Links.{IsUnlinked}
use Rattle.guest_calls.specs.Unders.{resumed}
use Rattle.guest_run.specs.declared.life.Left.{Left}
use Rattle.guest_run.specs.declared.life.Life.{Life}
use Rattle.guest_run.specs.declared.life.Life.TheVariants.{Going, Paused}
use Rattle.guest_run.specs.declared.life.Pause.{Pause}
use Rattle.guest_run.specs.declared.life.Pause.TheVariants.{Waiting, Ending}
use Rattle.guest_run.specs.Next.{Goes_on, Entry, live, begins, in_turn, after_run, after_ending, after_call, after_row, answered, memory_or, memory_in, trap_number}
use Rattle.guest_run.specs.Origins.{AreEntries}
use Rattle.guest_run.specs.Lives.{IsNext, IsGoing, IsCalling, IsHearing, IsEnding, IsPaused, LivesOn, HasLeft, HasLess, AnswersNumbers, AreAnswered, IsAfterRow, listed, weight}
use Rattle.guest_run.specs.Guests.{ComesIn}
use Rattle.guest_run.proofs.Stops.{returned_of, starved_of, trapped_of, called_of}

-- the memory of a place where a row goes on isn't read
same_answer : (answer : Answer) (t : GuestTables) (n : Linear) (left : ℕ) (s : State) (m : Linear) (goes : Goes_on) (replies : List OuterReply) → answered answer t n left s goes replies ≡ answered answer t n left (in_memory m s) goes replies
same_answer (Number number) t n left s m goes replies = refl
same_answer (Exits code) t n left s m goes replies = refl

same_row : (told : Told (After GuestTables)) (left : ℕ) (s : State) (m : Linear) (goes : Goes_on) → after_row told left s goes ≡ after_row told left (in_memory m s) goes
same_row (Wants call) left s m goes = refl
same_row (Gives after replies) left s m goes = same_answer after.answer after.tables after.memory left s m goes replies

-- a machine that waits has the memory of the state
memory_waits : (code : Code) (x : ℕ) (s : State) (machine : Machine) → Waits code x s machine → memory_of machine ≡ s.world.memory
memory_waits code x s machine h = ap (λ (w : World). w.memory) h.world

-- ---- behind a row

module _ (cs : List Call) (meaning : Program) (left : Left) (code : Code) (x : ℕ) (s : State) (entries : List Entry) (bound : ℕ) (enough : left.fuel < bound) (answered : AreAnswered code cs) (follow : AreEntries code (listed left.follows) entries) (numbers : AnswersNumbers code x) (machine : Machine) (waits : Waits code x s machine) (t : GuestTables) (m : Linear) (row : Row GuestTables) (goes : (replies : List OuterReply) → meaning replies ≡ after_row (row replies) left.fuel s (live bound code cs (begins code cs entries))) where
  told_by : (replies : List OuterReply) (told : Told (After GuestTables)) → row replies ≡ told → meaning replies ≡ after_row told left.fuel s (live bound code cs (begins code cs entries))
  told_by replies told is = goes replies ∙ ap (λ (x : Told (After GuestTables)). after_row x left.fuel s (live bound code cs (begins code cs entries))) is

  pub after_step : (step : Step Under) (life : Life) (now : Machine) → Goes resumed row step t m → IsUnlinked step → IsAfterRow step left (with_memory (Some m) (with_memory None machine)) life now → LivesOn cs meaning life now t
  after_step (step.Done n) life now told unlinked after =
      rw after.0 (record {
        code = code;
        state = goes_on (Some (I32 n)) (in_memory m s);
        entries = entries;
        bound = bound;
        enough = enough;
        answered = answered;
        follow = follow;
        stands = after.1 code x (in_memory m s) (written_so code x s machine m waits) (numbers n);
        goes = λ replies. told_by replies _ (told replies);
      })
  after_step (step.Outer call under) life now told unlinked after =
      rw (after.0, after.1) (record {
        code = code;
        place = x;
        state = in_memory m s;
        entries = entries;
        bound = bound;
        enough = enough;
        answered = answered;
        follow = follow;
        numbers = numbers;
        waits = written_so code x s machine m waits;
        may = told.0;
        unlinked = unlinked;
        asks = told_by [] _ told.1;
        goes = λ reply replies. told_by (reply ∷ replies) _ (told.2 reply replies) ∙ same_row (resumed under t m reply replies) left.fuel s m (live bound code cs (begins code cs entries));
      })

after_put : (step : Step Under) (left : Left) (m : Linear) (old taken put : Machine) (life : Life) (new : Machine) → taken ≡ with_memory None old → put ≡ with_memory (Some m) taken → IsAfterRow step left put life new → IsAfterRow step left (with_memory (Some m) (with_memory None old)) life new
after_put step left m old taken put life new took gave after = subst (λ (k : Machine). IsAfterRow step left k life new) (gave ∙ ap (with_memory (Some m)) took) after

-- a row that was started, in the memory that the machine had
pub row_lives : (cs : List Call) (meaning : Program) (left : Left) (x : ℕ) (arguments : List Value) (call : RowCall) (old : Machine) (t : GuestTables) (m : Linear) (now : GuestTables) (step : Step Under) (life : Life) (taken put new : Machine) (before : Linear)
    → slice_get cs x ≡ Some (calls.Row call) → IsCalling cs meaning left x arguments old t → before ≡ memory_or (memory_of old) → Goes resumed (called call arguments t before) step now m → IsUnlinked step
    → taken ≡ with_memory None old → put ≡ with_memory (Some m) taken → IsAfterRow step left put life new → LivesOn cs meaning life new now
row_lives cs meaning left x arguments call old t m now step life taken put new before is h saw told unlinked took gave after =
    let memory_is : before ≡ memory_in h.state = saw ∙ ap memory_or (memory_waits h.code x h.state old h.waits) in
    after_step cs meaning left h.code x h.state h.entries h.bound h.enough h.answered h.follow (h.answered x call is) old h.waits now m (called call arguments t before)
    (λ replies. h.goes replies
    ∙ ap (λ (o : Option Call). after_call o arguments left.fuel h.state t (live h.bound h.code cs (begins h.code cs h.entries)) replies) is
    ∙ ap (λ (b : Linear). after_row (called call arguments t b replies) left.fuel h.state (live h.bound h.code cs (begins h.code cs h.entries))) (sym memory_is))
    step life new told unlinked (after_put step left m old taken put life new took gave after)

-- a row that heard its reply
pub heard_lives : (cs : List Call) (meaning : Program) (left : Left) (under : Under) (reply : OuterReply) (old : Machine) (t : GuestTables) (m : Linear) (now : GuestTables) (step : Step Under) (life : Life) (taken put new : Machine) (before : Linear)
    → IsHearing cs meaning left under reply old t → before ≡ memory_or (memory_of old) → Goes resumed (resumed under t before reply) step now m → IsUnlinked step
    → taken ≡ with_memory None old → put ≡ with_memory (Some m) taken → IsAfterRow step left put life new → LivesOn cs meaning life new now
heard_lives cs meaning left under reply old t m now step life taken put new before h saw told unlinked took gave after =
    let memory_is : before ≡ memory_in h.state = saw ∙ ap memory_or (memory_waits h.code h.place h.state old h.waits) in
    after_step cs meaning left h.code h.place h.state h.entries h.bound h.enough h.answered h.follow h.numbers old h.waits now m (resumed under t before reply)
    (λ replies. h.goes replies ∙ ap (λ (b : Linear). after_row (resumed under t b reply replies) left.fuel h.state (live h.bound h.code cs (begins h.code cs h.entries))) (sym memory_is))
    step life new told unlinked (after_put step left m old taken put life new took gave after)

-- ---- behind a call that has no row

pub exits : (cs : List Call) (meaning : Program) (left : Left) (x : ℕ) (arguments : List Value) (old : Machine) (t : GuestTables) → slice_get cs x ≡ Some calls.Exit → IsCalling cs meaning left x arguments old t → IsEnding meaning (outcome.Exited (word arguments 0))
exits cs meaning left x arguments old t is h = λ replies. h.goes replies ∙ ap (λ (o : Option Call). after_call o arguments left.fuel h.state t (live h.bound h.code cs (begins h.code cs h.entries)) replies) is

pub strays : (cs : List Call) (meaning : Program) (left : Left) (x : ℕ) (arguments : List Value) (old : Machine) (t : GuestTables) → slice_get cs x ≡ None → IsCalling cs meaning left x arguments old t → IsEnding meaning (outcome.Trapped number.Unreachable)
strays cs meaning left x arguments old t is h = λ replies. h.goes replies ∙ ap (λ (o : Option Call). after_call o arguments left.fuel h.state t (live h.bound h.code cs (begins h.code cs h.entries)) replies) is

-- ---- functions that begin

pub begins_next : (cs : List Call) (meaning : Program) (fuel x : ℕ) (follows : Option ℕ) (idle now : Machine) (t : GuestTables) → IsNext cs meaning fuel (x ∷ listed follows) idle t
    → ((code : Code) (w : World) (f : Function) (body : Body) → IsIdle code w idle → slice_get code.functions x ≡ Some f → f.kind.params ≡ [] → f.body ≡ Some body → Stands code (first f body w) now)
    → IsGoing cs meaning (record { fuel = fuel; follows = follows }) now t
begins_next cs meaning fuel x follows idle now t h started = with h.entries h.follow h.goes
  where
    with : (entries : List Entry) → AreEntries h.code (x ∷ listed follows) entries → ((replies : List OuterReply) → meaning replies ≡ in_turn h.code cs entries fuel h.world t replies) → IsGoing cs meaning (record { fuel = fuel; follows = follows }) now t
    with [] follow goes = absurd follow
    with (e ∷ entries) (is, follow) goes = record {
      code = h.code;
      state = first e.function e.body h.world;
      entries = entries;
      bound = suc fuel;
      enough = omega arith;
      answered = h.answered;
      follow = follow;
      stands = started h.code h.world e.function e.body h.idle is.found is.takes_nothing is.defined;
      goes = goes;
    }

-- nothing follows
pub none_next : (cs : List Call) (meaning : Program) (fuel : ℕ) (machine : Machine) (t : GuestTables) → IsNext cs meaning fuel [] machine t → IsEnding meaning outcome.Returned
none_next cs meaning fuel machine t h = with h.entries h.follow h.goes
  where
    with : (entries : List Entry) → AreEntries h.code [] entries → ((replies : List OuterReply) → meaning replies ≡ in_turn h.code cs entries fuel h.world t replies) → IsEnding meaning outcome.Returned
    with [] follow goes = goes
    with (e ∷ entries) follow goes = absurd follow

-- ---- a run of the code

module _ (cs : List Call) (meaning : Program) (left : Left) (old : Machine) (t : GuestTables) where
  -- what is left of a bound, and what the run comes to
  record IsRun : Type 0 where
    pub code : Code
    pub state : State
    pub entries : List Entry
    pub bound : ℕ
    pub enough : left.fuel ≤ bound
    pub answered : AreAnswered code cs
    pub follow : AreEntries code (listed left.follows) entries
    pub stands : Stands code state old
    pub goes : (replies : List OuterReply) → meaning replies ≡ after_run cs (begins code cs entries) (runs left.fuel code state) t (live bound code cs (begins code cs entries)) replies

  run_with : (code : Code) (state : State) (entries : List Entry) (bound : ℕ) → left.fuel < bound → AreAnswered code cs → AreEntries code (listed left.follows) entries → Stands code state old
      → ((replies : List OuterReply) → meaning replies ≡ live bound code cs (begins code cs entries) left.fuel state t replies) → IsRun
  run_with code state entries zero enough answered follow stands goes = absurd (omega arith)
  run_with code state entries (suc bound) enough answered follow stands goes = record { code = code; state = state; entries = entries; bound = bound; enough = omega arith; answered = answered; follow = follow; stands = stands; goes = goes }

  run_of : IsGoing cs meaning left old t → IsRun
  run_of h = run_with h.code h.state h.entries h.bound h.enough h.answered h.follow h.stands h.goes

  comes_to : (h : IsGoing cs meaning left old t) (ending : How) → (runs left.fuel (run_of h).code (run_of h).state).ending ≡ ending → (replies : List OuterReply)
      → meaning replies ≡ after_ending cs (begins (run_of h).code cs (run_of h).entries) ending (runs left.fuel (run_of h).code (run_of h).state).left (runs left.fuel (run_of h).code (run_of h).state).state t (live (run_of h).bound (run_of h).code cs (begins (run_of h).code cs (run_of h).entries)) replies
  comes_to h ending is replies =
      let r = run_of h in
      let e = runs left.fuel r.code r.state in
      r.goes replies ∙ ap (λ (x : How). after_ending cs (begins r.code cs r.entries) x e.left e.state t (live r.bound r.code cs (begins r.code cs r.entries)) replies) is

  pub returns : (new : Machine) (rest : ℕ) → ((code : Code) (s : State) → Stands code s old → MachineTells code new stops.Returned rest (runs left.fuel code s)) → IsGoing cs meaning left old t → IsNext cs meaning rest (listed left.follows) new t
  returns new rest tells h =
      let r = run_of h in
      let e = runs left.fuel r.code r.state in
      let tell = tells r.code r.state r.stands in
      let is : e.ending ≡ Returned = returned_of e.ending tell.0 in
      record {
        code = r.code;
        entries = r.entries;
        world = e.state.world;
        answered = r.answered;
        follow = r.follow;
        idle = subst (LeadsOn r.code new e.state) is tell.3;
        goes = λ replies. comes_to h Returned is replies ∙ ap (λ (n : ℕ). in_turn r.code cs r.entries n e.state.world t replies) (sym tell.1);
      }

  pub starves : (new : Machine) (rest : ℕ) → ((code : Code) (s : State) → Stands code s old → MachineTells code new stops.OutOfFuel rest (runs left.fuel code s)) → IsGoing cs meaning left old t → IsEnding meaning outcome.OutOfFuel
  starves new rest tells h = comes_to h OutOfFuel (starved_of _ (tells (run_of h).code (run_of h).state (run_of h).stands).0)

  pub traps : (kind : TrapKind) (new : Machine) (rest : ℕ) → ((code : Code) (s : State) → Stands code s old → MachineTells code new (stops.Trapped kind) rest (runs left.fuel code s)) → IsGoing cs meaning left old t → IsEnding meaning (outcome.Trapped (trap_number kind))
  traps kind new rest tells h = comes_to h (Stopped (Trap kind)) (trapped_of kind _ (tells (run_of h).code (run_of h).state (run_of h).stands).0)

  pub calls_out : (x : ℕ) (arguments : List Value) (new : Machine) (rest : ℕ) → rest < left.fuel → ((code : Code) (s : State) → Stands code s old → MachineTells code new (stops.HostCall x arguments) rest (runs left.fuel code s)) → IsGoing cs meaning left old t
      → IsCalling cs meaning (record { fuel = rest; follows = left.follows }) x arguments new t
  calls_out x arguments new rest less tells h =
      let r = run_of h in
      let e = runs left.fuel r.code r.state in
      let tell = tells r.code r.state r.stands in
      let is : e.ending ≡ Called x arguments = called_of x arguments e.ending tell.0 in
      record {
        code = r.code;
        state = e.state;
        entries = r.entries;
        bound = r.bound;
        enough = omega (arith, r.enough, less);
        answered = r.answered;
        follow = r.follow;
        waits = subst (LeadsOn r.code new e.state) is tell.3;
        goes = λ replies. comes_to h (Called x arguments) is replies ∙ ap (λ (n : ℕ). after_call (slice_get cs x) arguments n e.state t (live r.bound r.code cs (begins r.code cs r.entries)) replies) (sym tell.1);
      }

-- what goes on behind a call has less than before it
pub less_left : (r : Result Life AllocError) (now left : Left) → IfOk r (HasLeft now) → weight now < weight left → IfOk r (HasLess left)
less_left (Ok (Going other)) now left is less = rw is less
less_left (Ok (Paused pause)) now left is less = tt
less_left (Err error) now left is less = tt

-- a machine of a guest
pub in_some : (cs : List Call) (r : Result Pause AllocError) (machine : Machine) (t : GuestTables) (meaning : Program) → IfOk r (λ (pause : Pause). IsPaused cs meaning pause machine t) → ComesIn cs r (Some machine) t meaning
in_some cs (Ok (Waiting left call under)) machine t meaning h = h
in_some cs (Ok (Ending outcome)) machine t meaning h = h
in_some cs (Err error) machine t meaning h = tt
