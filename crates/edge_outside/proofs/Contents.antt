-- What calls show of an object that tells its content.
use Rattle.std.specs.Prelude.{◌≡◌, ℕ, Bool, true, false, List, [], ◌∷◌, Option, None, Some, IfSome, IsSomeAnd, Result, Ok, Err, refl, if◌then◌else◌}
use Rattle.std.specs.Option.{option_map, ok_or}
use Rattle.std.proofs.Common.{inl, inr, subst, ap, ◌∙◌}
use Rattle.edge_outside.specs.declared.fault.Failed.{Failed}
use Rattle.edge_outside.specs.declared.fault.IoFault.{IoFault}
use Rattle.edge_outside.specs.declared.fault.IoFault.TheVariants as fault
use Rattle.edge_outside.specs.Made.{Made, made_shown}
use Rattle.edge_outside.specs.Files.{FilesContent, Read, IsAnswer, IsRead, AnswersFrom, IsHeld, AreHeld, after_read, bytes_of}
use Rattle.edge_outside.specs.Plan.{is_to_fail}
use Rattle.edge_outside.specs.Sink.{SinkContent, Write, Adds, AddsWhereTold, IsWrite}

-- a read or a write was made, by the facts of its call
pub read_made : {F : Type 0} (reads : F → List ℕ → Result (List ℕ) IoFault → F → Type 0) (content : F → Option FilesContent) (before : F) (name : List ℕ) (answer : Result (List ℕ) IoFault) (after : F) → reads before name answer after → IfSome (content before) (λ files. IsAnswer files name answer) → content after ≡ option_map after_read (content before) → IsRead reads content before name answer after
read_made reads content before name answer after made answered told = record { made = made; answered = answered; told = told }

pub write_made : {K : Type 0} (writes : K → List ℕ → Result (Unit {0}) Failed → K → Type 0) (content : K → Option SinkContent) (before : K) (piece : List ℕ) (answer : Result (Unit {0}) Failed) (after : K) → writes before piece answer after → AddsWhereTold (content before) piece answer (content after) → IsWrite writes content before piece answer after
write_made writes content before piece answer after made added = record { made = made; added = added }

some_and : {X : Type 0} (o : Option X) (P : X → Type 0) → IsSomeAnd o P → (x : X) × (P x × (o ≡ Some x))
some_and None P h = absurd h
some_and (Some x) P h = (x, (h, refl))

-- one read
read_shown : {F : Type 0} (reads : F → List ℕ → Result (List ℕ) IoFault → F → Type 0) (content : F → Option FilesContent) (before : F) (name : List ℕ) (answer : Result (List ℕ) IoFault) (after : F) (held : FilesContent) → IsRead reads content before name answer after → content before ≡ Some held → (later : FilesContent) × (AnswersFrom held name answer later × (content after ≡ Some later))
read_shown reads content before name answer after held read is =
    (after_read held, (record { answered = subst (λ o. IfSome o (λ files. IsAnswer files name answer)) is read.answered; content = refl }, read.told ∙ ap (option_map after_read) is))

from_files : (fails : Bool) (found : Option (List ℕ)) (bytes : List ℕ) → Ok bytes ≡ (if fails then Err fault.Failed else ok_or found fault.Failed) → found ≡ Some bytes
from_files true found bytes is = cc
from_files false None bytes is = cc
from_files false (Some x) bytes is = cc

bytes_held : (held : FilesContent) (name : List ℕ) (answer : Result (List ℕ) IoFault) → IsAnswer held name answer → IsHeld held.files name answer
bytes_held held name (Ok bytes) (inl none) = cc
bytes_held held name (Ok bytes) (inr is) = from_files (is_to_fail held.calls) (bytes_of held.files name) bytes is
bytes_held held name (Err fault) is = tt

all_held : (held : FilesContent) (calls : List Read) (later : FilesContent) → Made AnswersFrom held calls later → AreHeld held.files calls
unfolding Made
all_held held [] later made = tt
all_held held (call ∷ calls) later made =
    (bytes_held held call.0 call.1 made.1.0.answered, subst (λ files. AreHeld files calls) (ap (λ (c : FilesContent). c.files) made.1.0.content) (all_held made.0 calls later made.1.1))

pub reads_shown : {F : Type 0} (reads : F → List ℕ → Result (List ℕ) IoFault → F → Type 0) (content : F → Option FilesContent) (before after : F) (calls : List Read) (held : FilesContent) → Made (IsRead reads content) before calls after → content before ≡ Some held → (later : FilesContent) × (Made AnswersFrom held calls later × (content after ≡ Some later) × AreHeld held.files calls)
reads_shown reads content before after calls held made is =
    let shown = made_shown (IsRead reads content) AnswersFrom (λ f later. content f ≡ Some later) (read_shown reads content) before calls after held made is in
    (shown.0, (shown.1.0, shown.1.1, all_held held calls shown.0 shown.1.0))

-- one write
write_shown : {K : Type 0} (writes : K → List ℕ → Result (Unit {0}) Failed → K → Type 0) (content : K → Option SinkContent) (before : K) (piece : List ℕ) (answer : Result (Unit {0}) Failed) (after : K) (held : SinkContent) → IsWrite writes content before piece answer after → content before ≡ Some held → (later : SinkContent) × (Adds held piece answer later × (content after ≡ Some later))
write_shown writes content before piece answer after held write is =
    some_and (content after) (Adds held piece answer) (subst (λ o. AddsWhereTold o piece answer (content after)) is write.added)

pub writes_shown : {K : Type 0} (writes : K → List ℕ → Result (Unit {0}) Failed → K → Type 0) (content : K → Option SinkContent) (before after : K) (calls : List Write) (held : SinkContent) → Made (IsWrite writes content) before calls after → content before ≡ Some held → (later : SinkContent) × (Made Adds held calls later × (content after ≡ Some later))
writes_shown writes content before after calls held = made_shown (IsWrite writes content) Adds (λ k later. content k ≡ Some later) (write_shown writes content) before calls after held
