-- Bodies that are read of a source: what each answer says of the reads that were made.
use Rattle.std.specs.Prelude.{◌≡◌, ◌≤◌, ℕ, Bool, true, false, List, [], ◌++◌, length, Result, Ok, Err, ⊤}
use Rattle.edge_outside.specs.declared.fault.Failed.{Failed}
use Rattle.edge_outside.specs.Reads.{Reads, ReadsUntil, failed}
use Rattle.http_text.specs.Fields.{most_body}
use Rattle.http_text.specs.Chunks.{HasNone, IsChunked, GoesWrong, GoesOver}
use Rattle.http_text.specs.declared.fault.NoBytes.{NoBytes}
use Rattle.http_text.specs.declared.fault.NoBytes.TheVariants as bytes
use Rattle.http_text.specs.declared.fault.BodyFault.{BodyFault}
use Rattle.http_text.specs.declared.fault.BodyFault.TheVariants.{Bad, TooLarge, Ended, Failed as HasFailed, OutOfMemory}

-- how many bytes may be ahead before a body in chunks
abbrev pub most_ahead : ℕ
most_ahead = 65536

-- the text is the body itself, which has n bytes
pub record IsSized (n : ℕ) (text body : List ℕ) : Type 0 where
  pub same : text ≡ body
  pub count : length body ≡ n

-- how a head tells its body: chunks, or so many bytes
abbrev pub IsTold : Bool → ℕ → List ℕ → List ℕ → Type 0
IsTold true n text body = IsChunked text body
IsTold false n text body = IsSized n text body

-- nothing is so
abbrev pub NeverSo : List ℕ → Type 0
NeverSo bytes = ⊥

-- the bytes go wrong, or go over the limit, which those of a stated length don't
abbrev pub IsWrong : Bool → List ℕ → Type 0
IsWrong true bytes = GoesWrong bytes
IsWrong false bytes = NeverSo bytes

abbrev pub IsOver : Bool → List ℕ → Type 0
IsOver true bytes = GoesOver bytes
IsOver false bytes = NeverSo bytes

-- the fault of a body that a read left open
abbrev pub body_fault : NoBytes → BodyFault
body_fault bytes.Ended = Ended
body_fault bytes.Failed = HasFailed
body_fault bytes.OutOfMemory = OutOfMemory

-- some reads were made while what was known was open, and of what is known then P is true
abbrev pub ReadsSome : {S : Type 0} → (S → Result (List ℕ) Failed → S → Type 0) → (List ℕ → Type 0) → S → List ℕ → (List ℕ → Type 0) → S → Type 0
ReadsSome Step Open old had P new = (known : List ℕ) × Reads Step Open old had known new × P known

-- the last read, made while what was known was open, had this answer
abbrev pub EndsAt : {S : Type 0} → (S → Result (List ℕ) Failed → S → Type 0) → (List ℕ → Type 0) → S → List ℕ → Result (List ℕ) Failed → S → Type 0
EndsAt Step Open old had answer new = (known : List ℕ) × ReadsUntil Step Open old had answer known new

-- a body was read, where so much was ahead, and now this is
pub record ReadsBody {S : Type 0} (Step : S → Result (List ℕ) Failed → S → Type 0) (Is : List ℕ → List ℕ → Type 0) (old : S) (had body ahead : List ℕ) (new : S) : Type 0 where
  pub text : List ℕ
  pub is_body : Is text body
  pub fits : length body ≤ most_body
  pub reads : Reads Step (HasNone Is) old had (text ++ ahead) new

-- Each read was made while what was known was no whole body. A body is bad, or too large, by what is known then.
abbrev pub BodyGives : {S : Type 0} → (S → Result (List ℕ) Failed → S → Type 0) → (List ℕ → List ℕ → Type 0) → (List ℕ → Type 0) → (List ℕ → Type 0)
    → S → List ℕ → Result (List ℕ) BodyFault → List ℕ → S → Type 0
BodyGives Step Is Wrong Over old had (Ok body) ahead new = ReadsBody Step Is old had body ahead new
BodyGives Step Is Wrong Over old had (Err Bad) ahead new = ReadsSome Step (HasNone Is) old had Wrong new
BodyGives Step Is Wrong Over old had (Err TooLarge) ahead new = ReadsSome Step (HasNone Is) old had Over new
BodyGives Step Is Wrong Over old had (Err Ended) ahead new = EndsAt Step (HasNone Is) old had (Ok []) new
BodyGives Step Is Wrong Over old had (Err HasFailed) ahead new = EndsAt Step (HasNone Is) old had (Err failed) new
BodyGives Step Is Wrong Over old had (Err OutOfMemory) ahead new = ReadsSome Step (HasNone Is) old had (λ known. ⊤) new
