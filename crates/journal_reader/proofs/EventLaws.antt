-- Events and outcomes are read as they are spelled.
use Rattle.std.proofs.Common.{◌≡◌, ◌<◌, ◌^◌, ◌+◌, ◌%◌, ℕ, Bool, true, false, not, List, [], ◌∷◌, ◌++◌, refl, sym, ap, subst, Result, Option, None, Some, arith, lit<}
use Rattle.std.specs.Prelude.{bytes_eq, decimal, codes, ◌==◌}
use Rattle.std.specs.Option.{option_map}
use Rattle.std.proofs.lemmas.Bool.Decides.{nat_tests}
use Rattle.std.proofs.lemmas.Fmt.{decimal_by_steps}
use Rattle.std.proofs.lemmas.List.Folds.{list_all-append}
use Rattle.std.proofs.lemmas.Option.{same_Some}
use Rattle.hex.specs.Hex.{IsBytes}
use Rattle.cache_types.specs.declared.outer.OuterCall.TheVariants as outer
use Rattle.cache_types.specs.declared.outer.OuterReply.{OuterReply}
use Rattle.cache_types.specs.declared.outer.OuterReply.TheVariants as told
use Rattle.cache_types.specs.declared.outer.TrapNumber.{TrapNumber}
use Rattle.cache_types.specs.declared.outer.TrapNumber.TheVariants as trap
use Rattle.cache_types.specs.declared.outer.Outcome.{Outcome}
use Rattle.cache_types.specs.declared.outer.Outcome.TheVariants as outcome
use Rattle.cache_types.specs.declared.outer.Event.{Event}
use Rattle.cache_types.specs.declared.outer.Event.TheVariants as event
use Rattle.edge_words.specs.Words.{are_words}
use Rattle.edge_words.specs.declared.fault.LineFault.{LineFault}
use Rattle.edge_words.specs.Reading.{Gives, as_word, one, both, number_in, hex_in, listed_in}
use Rattle.edge_words.specs.Choices.{in_row, by_name, made, exactly, number_or, number_or_word}
use Rattle.edge_words.proofs.Lines.{lacks}
use Rattle.edge_words.proofs.Laws.{IsLawful, IsWhole, IsNumber, IsFromTo, FitBoth, number_codec, number_from_to_codec, one_lawful, both_lawful, whole_lawful}
use Rattle.edge_words.proofs.Commas.{SomeFit, listed_word, listed_codec}
use Rattle.edge_words.proofs.ChoiceLaws.{RowsTake, made_row, alone_row, first_then_whole, by_name_whole, exactly_codec, IsNumberBelow, number_or_codec, no_digits}
use Rattle.journal_writer.specs.Journal.{event_words, outcome_words, trap_word, close_word}
use Rattle.journal_reader.specs.Readable.{IsEvent, IsOutcome}
use Rattle.journal_reader.specs.Replies.{bytes_said}
use Rattle.journal_reader.specs.Events.{small_in, small_said, number_said, numbers_said, two_said, sign, after_sign, polled_rows, waited_rows, started_in, now_said, now_of, start_said, start_of, poll_said, poll_of, wait_said, wait_of, any_said, any_of, head_of, piece_of, closed, close_rows, log_of, event_rows, event_in, trap_rows, trap_in, trapped_of, timeout_of, outcome_rows, outcome_in}
use Rattle.journal_reader.proofs.ReplyLaws.{number_words, one_number, hex_words, one_hex, bytes_law}

-- ---- numbers and bytes

pub number_law : IsWhole number_words IsNumber number_said
number_law = whole_lawful number_words IsNumber (one number_in) one_number

abbrev pub two_numbers : ℕ × ℕ → List (List ℕ)
two_numbers said = number_words said.0 ++ number_words said.1

pub numbers_law : IsWhole two_numbers (FitBoth IsNumber IsNumber) numbers_said
numbers_law = whole_lawful two_numbers (FitBoth IsNumber IsNumber) (both (one number_in) (one number_in)) (both_lawful number_words IsNumber (one number_in) number_words IsNumber (one number_in) one_number one_number)

abbrev IsSmall : ℕ → Type 0
IsSmall = IsFromTo 0 4294967295

one_small : IsLawful number_words IsSmall (one small_in)
one_small = one_lawful decimal IsSmall small_in (number_from_to_codec 0 4294967295 (lit< tt))

small_law : IsWhole number_words IsSmall small_said
small_law = whole_lawful number_words IsSmall (one small_in) one_small

abbrev two_bytes : List ℕ × List ℕ → List (List ℕ)
two_bytes said = hex_words said.0 ++ hex_words said.1

two_lawful : IsLawful two_bytes (FitBoth IsBytes IsBytes) (both (one hex_in) (one hex_in))
two_lawful = both_lawful hex_words IsBytes (one hex_in) hex_words IsBytes (one hex_in) one_hex one_hex

two_law : IsWhole two_bytes (FitBoth IsBytes IsBytes) two_said
two_law = whole_lawful two_bytes (FitBoth IsBytes IsBytes) (both (one hex_in) (one hex_in)) two_lawful

-- ---- what stands after the sign

abbrev pub IsNothing : Unit {0} → Type 0
IsNothing _ = Unit {0}

abbrev pub sign_words : Unit {0} → List (List ℕ)
sign_words _ = codes "=" ∷ []

pub sign_law : IsLawful sign_words IsNothing sign
sign_law = one_lawful (λ (_ : Unit {0}). codes "=") IsNothing (exactly (codes "=")) (exactly_codec (codes "=") refl)

pub signed_law : {X : Type 0} (spell : X → List (List ℕ)) (Fits : X → Type 0) (read : List (List ℕ) → Option X) → IsWhole spell Fits read → IsWhole (λ (x : Unit {0} × X). sign_words x.0 ++ spell x.1) (FitBoth IsNothing Fits) (after_sign read)
signed_law spell Fits read law = first_then_whole sign_words IsNothing sign spell Fits read sign_law law

-- replies of a link, spelled without the sign
abbrev link_words : OuterReply → List (List ℕ)
link_words told.NotReady = codes "wait" ∷ []
link_words (told.Ready bytes) = codes "ready" ∷ hex_words bytes
link_words told.LinkFailed = codes "failed" ∷ []
link_words _ = []

abbrev IsPolled : OuterReply → Type 0
IsPolled told.NotReady = Unit {0}
IsPolled (told.Ready bytes) = IsBytes bytes
IsPolled told.LinkFailed = Unit {0}
IsPolled _ = ⊥

abbrev IsWaited : OuterReply → Type 0
IsWaited (told.Ready bytes) = IsBytes bytes
IsWaited told.LinkFailed = Unit {0}
IsWaited _ = ⊥

polled_again : (r : OuterReply) → IsPolled r → ((by_name polled_rows) (link_words r) ≡ Some r) × (are_words (link_words r) ≡ true)
polled_again told.NotReady fits = (refl, refl)
polled_again (told.Ready bytes) fits = (ap (option_map told.Ready) (bytes_law.again bytes fits), bytes_law.words bytes fits)
polled_again told.LinkFailed fits = (refl, refl)
polled_again _ fits = absurd fits

waited_again : (r : OuterReply) → IsWaited r → ((by_name waited_rows) (link_words r) ≡ Some r) × (are_words (link_words r) ≡ true)
waited_again (told.Ready bytes) fits = (ap (option_map told.Ready) (bytes_law.again bytes fits), bytes_law.words bytes fits)
waited_again told.LinkFailed fits = (refl, refl)
waited_again _ fits = absurd fits

polled_law : IsWhole link_words IsPolled (by_name polled_rows)
polled_law =
    by_name_whole link_words IsPolled polled_rows
    (alone_row (codes "wait") told.NotReady link_words IsPolled refl tt, (made_row (codes "ready") hex_words IsBytes bytes_said told.Ready link_words IsPolled bytes_law (λ bytes fits. (refl, fits)), (alone_row (codes "failed") told.LinkFailed link_words IsPolled refl tt, tt)))
    polled_again

waited_law : IsWhole link_words IsWaited (by_name waited_rows)
waited_law =
    by_name_whole link_words IsWaited waited_rows
    (made_row (codes "ready") hex_words IsBytes bytes_said told.Ready link_words IsWaited bytes_law (λ bytes fits. (refl, fits)), (alone_row (codes "failed") told.LinkFailed link_words IsWaited refl tt, tt))
    waited_again

no_number : number_in (codes "failed") ≡ None
no_number = no_digits (codes "failed") refl

abbrev started_words : Option ℕ → List (List ℕ)
started_words ticket = number_or_word (codes "failed") ticket ∷ []

started_law : IsWhole started_words (IsNumberBelow (2 ^ 64)) started_in
started_law = whole_lawful started_words (IsNumberBelow (2 ^ 64)) (one (number_or (codes "failed"))) (one_lawful (number_or_word (codes "failed")) (IsNumberBelow (2 ^ 64)) (number_or (codes "failed")) (number_or_codec (codes "failed") refl no_number))

-- ---- the words of each event after the first

now_law : IsWhole two_numbers (FitBoth IsSmall IsNumber) now_said
now_law = whole_lawful two_numbers (FitBoth IsSmall IsNumber) (both (one small_in) (one number_in)) (both_lawful number_words IsSmall (one small_in) number_words IsNumber (one number_in) one_small one_number)

abbrev Started : Type 0
Started = (List ℕ × List ℕ) × (Unit {0} × Option ℕ)

abbrev start_words : Started → List (List ℕ)
start_words said = two_bytes said.0 ++ (sign_words said.1.0 ++ started_words said.1.1)

abbrev FitStart : Started → Type 0
FitStart = FitBoth (FitBoth IsBytes IsBytes) (FitBoth IsNothing (IsNumberBelow (2 ^ 64)))

start_law : IsWhole start_words FitStart start_said
start_law =
    first_then_whole two_bytes (FitBoth IsBytes IsBytes) (both (one hex_in) (one hex_in)) (λ x. sign_words x.0 ++ started_words x.1) (FitBoth IsNothing (IsNumberBelow (2 ^ 64))) (after_sign started_in)
    two_lawful (signed_law started_words (IsNumberBelow (2 ^ 64)) started_in started_law)

abbrev asked_words : ℕ × (Unit {0} × OuterReply) → List (List ℕ)
asked_words said = number_words said.0 ++ (sign_words said.1.0 ++ link_words said.1.1)

abbrev FitPoll : ℕ × (Unit {0} × OuterReply) → Type 0
FitPoll = FitBoth IsNumber (FitBoth IsNothing IsPolled)

poll_law : IsWhole asked_words FitPoll poll_said
poll_law =
    first_then_whole number_words IsNumber (one number_in) (λ x. sign_words x.0 ++ link_words x.1) (FitBoth IsNothing IsPolled) (after_sign (by_name polled_rows))
    one_number (signed_law link_words IsPolled (by_name polled_rows) polled_law)

abbrev FitWait : ℕ × (Unit {0} × OuterReply) → Type 0
FitWait = FitBoth IsNumber (FitBoth IsNothing IsWaited)

wait_law : IsWhole asked_words FitWait wait_said
wait_law =
    first_then_whole number_words IsNumber (one number_in) (λ x. sign_words x.0 ++ link_words x.1) (FitBoth IsNothing IsWaited) (after_sign (by_name waited_rows))
    one_number (signed_law link_words IsWaited (by_name waited_rows) waited_law)

number_no_comma : (n : ℕ) → n < 2 ^ 64 → lacks 44 (decimal n) ≡ true
number_no_comma n fits =
    decimal_by_steps (λ _ digits. lacks 44 digits ≡ true)
    (λ k small. grind (arith, nat_tests))
    (λ k digits big front. rw (list_all-append (λ b. not (b == 44)) digits ((48 + k % 10) ∷ []), front) (grind (arith, nat_tests)))
    n fits

tickets_lawful : IsLawful (λ tickets. listed_word decimal tickets ∷ []) (SomeFit IsNumber) (one (listed_in number_in))
tickets_lawful = one_lawful (listed_word decimal) (SomeFit IsNumber) (listed_in number_in) (listed_codec decimal IsNumber number_in (record { codec = number_codec; no_comma = number_no_comma }))

abbrev any_words : List ℕ × (Unit {0} × ℕ) → List (List ℕ)
any_words said = (listed_word decimal said.0 ∷ []) ++ (sign_words said.1.0 ++ number_words said.1.1)

abbrev FitAny : List ℕ × (Unit {0} × ℕ) → Type 0
FitAny = FitBoth (SomeFit IsNumber) (FitBoth IsNothing IsSmall)

any_law : IsWhole any_words FitAny any_said
any_law =
    first_then_whole (λ tickets. listed_word decimal tickets ∷ []) (SomeFit IsNumber) (one (listed_in number_in)) (λ x. sign_words x.0 ++ number_words x.1) (FitBoth IsNothing IsSmall) (after_sign small_said)
    tickets_lawful (signed_law number_words IsSmall small_said small_law)

-- ---- events

-- what the words of an event must spell, and what they must say
abbrev IsOf : List (List ℕ) → Event → Type 0
IsOf words e = (words ≡ event_words e) × IsEvent e

start_fits : (said : Started) → FitStart said → IsOf (codes "start" ∷ start_words said) (start_of said)
start_fits (bytes, (sign, None)) fits = (refl, (refl, (fits.0, tt)))
start_fits (bytes, (sign, Some ticket)) fits = (refl, (refl, (fits.0, fits.1.1)))

poll_fits : (ticket : ℕ) (r : OuterReply) → IsNumber ticket → IsPolled r → IsOf (codes "poll" ∷ asked_words (ticket, (tt, r))) (poll_of (ticket, (tt, r)))
poll_fits ticket told.NotReady number fits = (refl, (refl, (number, tt)))
poll_fits ticket (told.Ready bytes) number fits = (refl, (refl, (number, fits)))
poll_fits ticket told.LinkFailed number fits = (refl, (refl, (number, tt)))
poll_fits ticket _ number fits = absurd fits

wait_fits : (ticket : ℕ) (r : OuterReply) → IsNumber ticket → IsWaited r → IsOf (codes "wait" ∷ asked_words (ticket, (tt, r))) (wait_of (ticket, (tt, r)))
wait_fits ticket (told.Ready bytes) number fits = (refl, (refl, (number, fits)))
wait_fits ticket told.LinkFailed number fits = (refl, (refl, (number, tt)))
wait_fits ticket _ number fits = absurd fits

any_fits : (said : List ℕ × (Unit {0} × ℕ)) → FitAny said → IsOf (codes "any" ∷ any_words said) (any_of said)
any_fits ([], (sign, index)) fits = absurd fits.0
any_fits (ticket ∷ tickets, (sign, index)) fits = (refl, (refl, (fits.0, omega arith)))

abbrev close_words : Bool → List (List ℕ)
close_words whole = close_word whole ∷ []

abbrev IsAny : {X : Type 0} → X → Type 0
IsAny _ = Unit {0}

close_again : (whole : Bool) → IsAny whole → (by_name close_rows (close_words whole) ≡ Some whole) × (are_words (close_words whole) ≡ true)
close_again true fits = (refl, refl)
close_again false fits = (refl, refl)

close_law : IsWhole close_words IsAny (by_name close_rows)
close_law = by_name_whole close_words IsAny close_rows (alone_row (codes "whole") true close_words IsAny refl tt, (alone_row (codes "cut") false close_words IsAny refl tt, tt)) close_again

rows_take : RowsTake event_words IsEvent event_rows
rows_take = (
  made_row (codes "c") number_words IsNumber number_said event.Entry event_words IsEvent number_law (λ n fits. (refl, fits)),
  (
    made_row (codes "now") two_numbers (FitBoth IsSmall IsNumber) now_said now_of event_words IsEvent now_law (λ said fits. (refl, (refl, (omega arith, fits.1)))),
    (
      made_row (codes "start") start_words FitStart start_said start_of event_words IsEvent start_law start_fits,
      (
        made_row (codes "poll") asked_words FitPoll poll_said poll_of event_words IsEvent poll_law (λ said fits. poll_fits said.0 said.1.1 fits.0 fits.1.1),
        (
          made_row (codes "wait") asked_words FitWait wait_said wait_of event_words IsEvent wait_law (λ said fits. wait_fits said.0 said.1.1 fits.0 fits.1.1),
          (
            made_row (codes "any") any_words FitAny any_said any_of event_words IsEvent any_law any_fits,
            (
              made_row (codes "head") hex_words IsBytes bytes_said head_of event_words IsEvent bytes_law (λ bytes fits. (refl, (refl, (fits, tt)))),
              (
                made_row (codes "piece") hex_words IsBytes bytes_said piece_of event_words IsEvent bytes_law (λ bytes fits. (refl, (refl, (fits, tt)))),
                (
                  made_row (codes "close") close_words IsAny (by_name close_rows) closed event_words IsEvent close_law (λ whole fits. (refl, (refl, (tt, tt)))),
                  (
                    made_row (codes "log") two_bytes (FitBoth IsBytes IsBytes) two_said log_of event_words IsEvent two_law (λ said fits. (refl, (refl, (fits, tt)))),
                    tt,
                  ),
                ),
              ),
            ),
          ),
        ),
      ),
    ),
  ),
)

-- an event is read again from its words
abbrev IsReadAgain : Event → Type 0
IsReadAgain e = (by_name event_rows (event_words e) ≡ Some e) × (are_words (event_words e) ≡ true)

-- by the law of its row
again_by : {X : Type 0} (spell : X → List (List ℕ)) (Fits : X → Type 0) (read : List (List ℕ) → Option X) (make : X → Event) → IsWhole spell Fits read → (x : X) → Fits x
    → (option_map make (read (spell x)) ≡ Some (make x)) × (are_words (spell x) ≡ true)
again_by spell Fits read make law x fits = (ap (option_map make) (law.again x fits), law.words x fits)

event_again : (e : Event) → IsEvent e → IsReadAgain e
event_again (event.Entry n) fits = again_by number_words IsNumber number_said event.Entry number_law n fits
event_again (event.Outer (outer.Now clock) (told.Now reading)) fits = again_by two_numbers (FitBoth IsSmall IsNumber) now_said now_of now_law (clock, reading) ((omega arith, omega arith), fits.1.1)
event_again (event.Outer (outer.Start address request) (told.Started ticket)) fits = again_by start_words FitStart start_said start_of start_law ((address, request), (tt, Some ticket)) (fits.1.0, (tt, fits.1.1))
event_again (event.Outer (outer.Start address request) told.LinkFailed) fits = again_by start_words FitStart start_said start_of start_law ((address, request), (tt, None)) (fits.1.0, (tt, tt))
event_again (event.Outer (outer.Poll ticket) told.NotReady) fits = again_by asked_words FitPoll poll_said poll_of poll_law (ticket, (tt, told.NotReady)) (fits.1.0, (tt, tt))
event_again (event.Outer (outer.Poll ticket) (told.Ready bytes)) fits = again_by asked_words FitPoll poll_said poll_of poll_law (ticket, (tt, told.Ready bytes)) (fits.1.0, (tt, fits.1.1))
event_again (event.Outer (outer.Poll ticket) told.LinkFailed) fits = again_by asked_words FitPoll poll_said poll_of poll_law (ticket, (tt, told.LinkFailed)) (fits.1.0, (tt, tt))
event_again (event.Outer (outer.WaitFor ticket) (told.Ready bytes)) fits = again_by asked_words FitWait wait_said wait_of wait_law (ticket, (tt, told.Ready bytes)) (fits.1.0, (tt, fits.1.1))
event_again (event.Outer (outer.WaitFor ticket) told.LinkFailed) fits = again_by asked_words FitWait wait_said wait_of wait_law (ticket, (tt, told.LinkFailed)) (fits.1.0, (tt, tt))
event_again (event.Outer (outer.AnyOf (ticket ∷ tickets)) (told.Index index)) fits = again_by any_words FitAny any_said any_of any_law (ticket ∷ tickets, (tt, index)) (fits.1.0, (tt, (omega arith, omega arith)))
event_again (event.Outer (outer.Head bytes) told.Sent) fits = again_by hex_words IsBytes bytes_said head_of bytes_law bytes fits.1.0
event_again (event.Outer (outer.Piece bytes) told.Sent) fits = again_by hex_words IsBytes bytes_said piece_of bytes_law bytes fits.1.0
event_again (event.Outer (outer.Close whole) told.Sent) fits = again_by close_words IsAny (by_name close_rows) closed close_law whole tt
event_again (event.Outer (outer.Log endpoint line) told.Sent) fits = again_by two_bytes (FitBoth IsBytes IsBytes) two_said log_of two_law (endpoint, line) fits.1.0
event_again (event.Outer _ _) fits = cc fits.0

pub event_law : IsWhole event_words IsEvent (by_name event_rows)
event_law = by_name_whole event_words IsEvent event_rows rows_take event_again

-- ---- outcomes

abbrev trap_words : TrapNumber → List (List ℕ)
trap_words t = trap_word t ∷ []

trap_again : (t : TrapNumber) → IsAny t → (by_name trap_rows (trap_words t) ≡ Some t) × (are_words (trap_words t) ≡ true)
trap_again trap.Unreachable fits = (refl, refl)
trap_again trap.DivideByZero fits = (refl, refl)
trap_again trap.Overflow fits = (refl, refl)
trap_again trap.OutOfBounds fits = (refl, refl)
trap_again trap.TableBounds fits = (refl, refl)
trap_again trap.NullElement fits = (refl, refl)
trap_again trap.IndirectType fits = (refl, refl)
trap_again trap.StackFull fits = (refl, refl)
trap_again trap.Segment fits = (refl, refl)

traps_take : RowsTake trap_words IsAny trap_rows
traps_take = (
  alone_row (codes "unreachable") trap.Unreachable trap_words IsAny refl tt,
  (
    alone_row (codes "divide") trap.DivideByZero trap_words IsAny refl tt,
    (
      alone_row (codes "overflow") trap.Overflow trap_words IsAny refl tt,
      (
        alone_row (codes "bounds") trap.OutOfBounds trap_words IsAny refl tt,
        (
          alone_row (codes "table") trap.TableBounds trap_words IsAny refl tt,
          (
            alone_row (codes "null") trap.NullElement trap_words IsAny refl tt,
            (
              alone_row (codes "indirect") trap.IndirectType trap_words IsAny refl tt,
              (
                alone_row (codes "stack") trap.StackFull trap_words IsAny refl tt,
                (
                  alone_row (codes "segment") trap.Segment trap_words IsAny refl tt,
                  tt,
                ),
              ),
            ),
          ),
        ),
      ),
    ),
  ),
)

trap_law : IsWhole trap_words IsAny trap_in
unfolding trap_in
trap_law = by_name_whole trap_words IsAny trap_rows traps_take trap_again

outcomes_take : RowsTake outcome_words IsOutcome outcome_rows
outcomes_take = (
  alone_row (codes "returned") outcome.Returned outcome_words IsOutcome refl tt,
  (
    made_row (codes "exited") number_words IsSmall small_said outcome.Exited outcome_words IsOutcome small_law (λ n fits. (refl, omega arith)),
    (
      made_row (codes "trapped") trap_words IsAny trap_in trapped_of outcome_words IsOutcome trap_law (λ t fits. (refl, tt)),
      (
        alone_row (codes "fuel") outcome.OutOfFuel outcome_words IsOutcome refl tt,
        (
          made_row (codes "timeout") two_numbers (FitBoth IsNumber IsNumber) numbers_said timeout_of outcome_words IsOutcome numbers_law (λ said fits. (refl, fits)),
          (
            alone_row (codes "full") outcome.HistoryFull outcome_words IsOutcome refl tt,
            (
              alone_row (codes "gone") outcome.ClientGone outcome_words IsOutcome refl tt,
              (
                alone_row (codes "unscheduled") outcome.Unscheduled outcome_words IsOutcome refl tt,
                (
                  alone_row (codes "memory") outcome.OutOfMemory outcome_words IsOutcome refl tt,
                  tt,
                ),
              ),
            ),
          ),
        ),
      ),
    ),
  ),
)

outcome_again : (o : Outcome) → IsOutcome o → (by_name outcome_rows (outcome_words o) ≡ Some o) × (are_words (outcome_words o) ≡ true)
outcome_again outcome.Returned fits = (refl, refl)
outcome_again (outcome.Exited code) fits = (ap (option_map outcome.Exited) (small_law.again code (omega arith, omega arith)), small_law.words code (omega arith, omega arith))
outcome_again (outcome.Trapped t) fits = (ap (option_map trapped_of) (trap_law.again t tt), trap_law.words t tt)
outcome_again outcome.OutOfFuel fits = (refl, refl)
outcome_again (outcome.Timeout first reading) fits = (ap (option_map timeout_of) (numbers_law.again (first, reading) fits), numbers_law.words (first, reading) fits)
outcome_again outcome.HistoryFull fits = (refl, refl)
outcome_again outcome.ClientGone fits = (refl, refl)
outcome_again outcome.Unscheduled fits = (refl, refl)
outcome_again outcome.OutOfMemory fits = (refl, refl)

pub outcome_law : IsWhole outcome_words IsOutcome outcome_in
unfolding outcome_in
outcome_law = by_name_whole outcome_words IsOutcome outcome_rows outcomes_take outcome_again

-- the event of a name and the words after it
pub event_named : (name : List ℕ) (words : List (List ℕ)) → event_in name words ≡ by_name event_rows (name ∷ words)
unfolding event_in
event_named name words = refl

-- a line that begins so tells the trap
pub outcome_trapped : (words : List (List ℕ)) (name : List ℕ) (rest : List (List ℕ)) (result : Result Outcome LineFault) → one as_word words ≡ Some (name, rest)
    → bytes_eq name (codes "returned") ≡ false → bytes_eq name (codes "exited") ≡ false → bytes_eq name (codes "trapped") ≡ true
    → Gives (λ (o : Outcome). o) result (made trapped_of trap_in rest) → Gives (λ (o : Outcome). o) result (outcome_in words)
unfolding outcome_in
outcome_trapped [] name rest result cut returned exited trapped gives = cc cut
outcome_trapped (word ∷ words) name rest result cut returned exited trapped gives =
    let P : List ℕ × List (List ℕ) → Type 0 = λ p. Gives (λ (o : Outcome). o) result (in_row outcome_rows p.0 p.1) in
    subst P (sym (same_Some _ _ cut)) (rw (returned, exited, trapped) gives)
