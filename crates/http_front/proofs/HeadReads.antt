-- What a head that isn't read says of the reads.
use Rattle.std.proofs.Common.{ℕ, ◌<◌, List, [], ◌++◌, length, refl, sym, subst, Result, Ok, Err, IsErrOf, inl, inr}
use Rattle.edge_outside.specs.declared.fault.Failed.{Failed}
use Rattle.edge_outside.specs.Reads.{Reads, ReadsUntil, more, failed}
use Rattle.httparse.specs.Grammar.{HasNoRequest, NeverHasRequest}
use Rattle.httparse.specs.Spans.{RequestOverflows, RequestExceeds}
use Rattle.http_text.specs.Fields.{most_headers}
use Rattle.http_text.specs.declared.fault.NoBytes.{NoBytes}
use Rattle.http_text.specs.declared.fault.NoBytes.TheVariants as bytes
use Rattle.http_front.specs.declared.fault.FrontFault.{FrontFault}
use Rattle.http_front.specs.declared.fault.FrontFault.TheVariants.{Bad, HeadTooLarge, TooLarge, Unsupported, Cut, ReadFault, OutOfMemory}
use Rattle.http_front.specs.Faults.{IsOfHead, EndsAs, StopsAs}
use Rattle.http_front.specs.Gives.{HeadGives}

-- the bytes that were read have a fault
pub head_refused : {S : Type 0} (Step : S → Result (List ℕ) Failed → S → Type 0) (old new : S) (ahead : List ℕ) (fault : FrontFault)
    → Reads Step HasNoRequest old [] ahead new → IsOfHead fault
    → (IsErrOf {T = Unit {0}} (Err fault) Bad → NeverHasRequest ahead)
    → (IsErrOf {T = Unit {0}} (Err fault) HeadTooLarge → RequestOverflows most_headers ahead)
    → (IsErrOf {T = Unit {0}} (Err fault) HeadTooLarge → RequestExceeds most_headers ahead)
    → HeadGives Step old (Err fault) ahead new
head_refused Step old new ahead Bad r kind bad many headers = (inl r, bad refl)
head_refused Step old new ahead HeadTooLarge r kind bad many headers = (inl r, inr (many refl, headers refl))
head_refused Step old new ahead TooLarge r kind bad many headers = absurd kind
head_refused Step old new ahead Unsupported r kind bad many headers = absurd kind
head_refused Step old new ahead Cut r kind bad many headers = absurd kind
head_refused Step old new ahead ReadFault r kind bad many headers = absurd kind
head_refused Step old new ahead OutOfMemory r kind bad many headers = (ahead, inl r, tt)

at_end : {S : Type 0} (Step : S → Result (List ℕ) Failed → S → Type 0) (old new : S) (ahead : List ℕ) (fault : FrontFault)
    → ReadsUntil Step HasNoRequest old [] (Ok []) ahead new → EndsAs ahead fault → HeadGives Step old (Err fault) ahead new
at_end Step old new ahead Bad until x = (inr until, x)
at_end Step old new ahead HeadTooLarge until x = (inr until, inr x)
at_end Step old new ahead TooLarge until x = absurd x
at_end Step old new ahead Unsupported until x = absurd x
at_end Step old new ahead Cut until x = (until, x)
at_end Step old new ahead ReadFault until x = absurd x
at_end Step old new ahead OutOfMemory until x = absurd x

-- a read gave no more
pub head_stopped : {S : Type 0} (Step : S → Result (List ℕ) Failed → S → Type 0) (old mid new : S) (ahead : List ℕ) (why : NoBytes) (fault : FrontFault)
    → Reads Step HasNoRequest old [] ahead mid → HasNoRequest ahead → StopsAs ahead why fault
    → (IsErrOf {T = Unit {0}} (Err why) bytes.Ended → Step mid (Ok []) new)
    → (IsErrOf {T = Unit {0}} (Err why) bytes.Failed → Step mid (Err failed) new)
    → (IsErrOf {T = Unit {0}} (Err why) bytes.OutOfMemory → (piece : List ℕ) × (0 < length piece) × Step mid (Ok piece) new)
    → HeadGives Step old (Err fault) ahead new
head_stopped Step old mid new ahead bytes.Ended fault r o x ends fails memory =
    at_end Step old new ahead fault (record { mid = mid; before = r; is_open = o; last = ends refl }) x
head_stopped Step old mid new ahead bytes.Failed fault r o x ends fails memory =
    subst (λ f. HeadGives Step old (Err f) ahead new) (sym x) (record { mid = mid; before = r; is_open = o; last = fails refl })
head_stopped Step old mid new ahead bytes.OutOfMemory fault r o x ends fails memory =
    let lost = memory refl in
    subst (λ f. HeadGives Step old (Err f) ahead new) (sym x) (ahead ++ lost.0, inl (more ahead lost.0 mid new r o lost.1 lost.2), tt)
