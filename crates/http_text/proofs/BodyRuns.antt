-- Bodies that are read, of a stated length or in chunks.
use Rattle.std.proofs.Common.{◌≡◌, ℕ, ◌+◌, ◌-◌, ◌*◌, ◌<◌, ◌≤◌, List, [], ◌++◌, length, take, drop, refl, sym, ◌∙◌, ap, subst, arith, take-append-drop, length-append, length-take, length-drop, Result, Ok, Err, IsErrOf}
use Rattle.edge_outside.specs.declared.fault.Failed.{Failed}
use Rattle.edge_outside.specs.Reads.{Reads, none, more, failed}
use Rattle.http_text.specs.Fields.{most_body}
use Rattle.http_text.specs.Chunks.{HasNone, IsChunked, HasNoChunked, ChunksBefore, GoesOver, GoesWrong, Tells, TellsAfter}
use Rattle.http_text.specs.Bodies.{IsSized, ReadsBody, ReadsSome, BodyGives, body_fault}
use Rattle.http_text.specs.declared.chunks.AfterChunks.{AfterChunks}
use Rattle.http_text.specs.declared.chunks.NextChunk.TheVariants.{Last, Over, Bad as BadChunk}
use Rattle.http_text.specs.declared.fault.NoBytes.{NoBytes}
use Rattle.http_text.specs.declared.fault.NoBytes.TheVariants as bytes
use Rattle.http_text.proofs.ChunkLaws.{none_behind, all_chunks, chunks_grow}
use Rattle.http_text.proofs.ChunkRuns.{no_chunks, chunks_both, chunks_paid}

-- too few bytes for the stated length
pub few_bytes : (n : ℕ) (bytes : List ℕ) → length bytes < n → HasNone (IsSized n) bytes
few_bytes n bytes few text body rest x e =
    omega (arith, few, x.count, ap (λ (t : List ℕ). length t) x.same, ap (λ (t : List ℕ). length t) e, length-append text rest)

-- the body of the stated length is there
pub sized_read : {S : Type 0} {Step : S → Result (List ℕ) Failed → S → Type 0} (old : S) (had ahead : List ℕ) (n : ℕ) (new : S)
    → n ≤ most_body → n ≤ length ahead → Reads Step (HasNone (IsSized n)) old had ahead new
    → ReadsBody Step (IsSized n) old had (take n ahead) (drop n ahead) new
sized_read {Step = Step} old had ahead n new fits enough r =
    let count : length (take n ahead) ≡ n = omega (arith, enough, length-take n ahead) in
    record {
      text = take n ahead;
      is_body = record { same = refl; count = count };
      fits = omega (arith, count, fits);
      reads = subst (λ (t : List ℕ). Reads Step (HasNone (IsSized n)) old had t new) (sym (take-append-drop n ahead)) r;
    }

-- a read that gave no more, while the body was open
pub ended_gives : {S : Type 0} {Step : S → Result (List ℕ) Failed → S → Type 0} (Is : List ℕ → List ℕ → Type 0) (Wrong Large : List ℕ → Type 0)
    (old : S) (had known ahead : List ℕ) (mid new : S) (fault : NoBytes)
    → Reads Step (HasNone Is) old had known mid → HasNone Is known
    → (IsErrOf {T = Unit {0}} (Err fault) bytes.Ended → Step mid (Ok []) new) → (IsErrOf {T = Unit {0}} (Err fault) bytes.Failed → Step mid (Err failed) new)
    → (IsErrOf {T = Unit {0}} (Err fault) bytes.OutOfMemory → (piece : List ℕ) × (0 < length piece) × Step mid (Ok piece) new)
    → BodyGives Step Is Wrong Large old had (Err (body_fault fault)) ahead new
ended_gives Is Wrong Large old had known ahead mid new bytes.Ended r o ends fails memory = (known, record { mid = mid; before = r; is_open = o; last = ends refl })
ended_gives Is Wrong Large old had known ahead mid new bytes.Failed r o ends fails memory = (known, record { mid = mid; before = r; is_open = o; last = fails refl })
ended_gives Is Wrong Large old had known ahead mid new bytes.OutOfMemory r o ends fails memory =
    let x = memory refl in (known ++ x.0, more known x.0 mid new r o x.1 x.2, tt)

-- after these reads there are whole chunks with this body, and some bytes past them
pub record ReadsChunks {S : Type 0} (Step : S → Result (List ℕ) Failed → S → Type 0) (old : S) (had body ahead : List ℕ) (new : S) : Type 0 where
  pub known : List ℕ
  pub reads : Reads Step (HasNone IsChunked) old had known new
  pub before : ChunksBefore known [] body ahead

pub no_reads : {S : Type 0} {Step : S → Result (List ℕ) Failed → S → Type 0} (old : S) (had : List ℕ) → ReadsChunks Step old had [] had old
no_reads old had = record { known = had; reads = none; before = no_chunks had [] }

-- chunks were taken
pub some_chunks : {S : Type 0} {Step : S → Result (List ℕ) Failed → S → Type 0} (old : S) (had body ahead all rest : List ℕ) (new : S)
    → ReadsChunks Step old had body ahead new → ChunksBefore ahead body all rest → ReadsChunks Step old had all rest new
some_chunks old had body ahead all rest new x y = record { known = x.known; reads = x.reads; before = chunks_both x.known [] body ahead all rest x.before y }

-- the same by the calls' own words
pub chunks_taken : {S : Type 0} {Step : S → Result (List ℕ) Failed → S → Type 0} (old : S) (had body ahead all rest bytes : List ℕ) (used : ℕ) (new : S)
    → ReadsChunks Step old had body ahead new → bytes ≡ ahead → rest ≡ drop used ahead → ChunksBefore bytes body all (drop used bytes)
    → ReadsChunks Step old had all rest new
chunks_taken old had body ahead all rest bytes used new x e f y =
    some_chunks old had body ahead all rest new x
    (subst (λ (b : List ℕ). ChunksBefore b body all rest) e (subst (λ (r : List ℕ). ChunksBefore bytes body all r) (ap (drop used) e ∙ sym f) y))

pub told_as : (bytes ahead rest : List ℕ) (used room : ℕ) (then is : AfterChunks) → bytes ≡ ahead → rest ≡ drop used ahead
    → TellsAfter (drop used bytes) room then → then ≡ is → TellsAfter rest room is
told_as bytes ahead rest used room then is e f told same =
    subst (λ (x : AfterChunks). TellsAfter rest room x) same (subst (λ (b : List ℕ). TellsAfter b room then) (ap (drop used) e ∙ sym f) told)

pub paid : (body ahead all rest bytes : List ℕ) (used : ℕ) → bytes ≡ ahead → rest ≡ drop used ahead → ChunksBefore bytes body all (drop used bytes)
    → length ahead + 1027 * length body ≤ length rest + 1027 * length all
paid body ahead all rest bytes used e f y =
    omega (arith, chunks_paid bytes body all (drop used bytes) y, ap (λ (t : List ℕ). length t) e, ap (λ (t : List ℕ). length t) f, ap (λ (t : List ℕ). length (drop used t)) e)

-- a read was made
pub chunks_read : {S : Type 0} {Step : S → Result (List ℕ) Failed → S → Type 0} (old : S) (had body rest ahead : List ℕ) (mid new : S)
    → ReadsChunks Step old had body rest mid → HasNoChunked rest → length rest < length ahead → take (length rest) ahead ≡ rest
    → Step mid (Ok (drop (length rest) ahead)) new → ReadsChunks Step old had body ahead new
chunks_read {Step = Step} old had body rest ahead mid new x nothing longer kept step =
    let piece : List ℕ = drop (length rest) ahead in
    let whole : rest ++ piece ≡ ahead = ap (λ (t : List ℕ). t ++ piece) (sym kept) ∙ take-append-drop (length rest) ahead in
    record {
      known = x.known ++ piece;
      reads = more x.known piece mid new x.reads
          (none_behind x.known [] body rest x.before nothing) (omega (arith, longer, length-drop (length rest) ahead)) step;
      before = subst (λ (t : List ℕ). ChunksBefore (x.known ++ piece) [] body t) whole (chunks_grow x.known [] body rest piece x.before);
    }

-- the end of the body
pub chunks_end : {S : Type 0} {Step : S → Result (List ℕ) Failed → S → Type 0} (old : S) (had body rest : List ℕ) (new : S) (room end : ℕ)
    → length body ≤ most_body → ReadsChunks Step old had body rest new → Tells rest room (Last end)
    → ReadsBody Step IsChunked old had body (drop end rest) new
chunks_end {Step = Step} old had body rest new room end fits x (last, is_last, inside, e) =
    let all = all_chunks x.known body rest last (drop end rest) x.before is_last e in
    record {
      text = all.0;
      is_body = all.1;
      fits = fits;
      reads = subst (λ (t : List ℕ). Reads Step (HasNone IsChunked) old had t new) all.2 x.reads;
    }

pub chunks_over : {S : Type 0} {Step : S → Result (List ℕ) Failed → S → Type 0} (old : S) (had body rest : List ℕ) (new : S) (room : ℕ)
    → length body ≤ most_body → ReadsChunks Step old had body rest new → Tells rest room Over → room ≡ most_body - length body
    → ReadsSome Step (HasNone IsChunked) old had GoesOver new
chunks_over old had body rest new room fits x over left =
    (x.known, x.reads, record { body = body; rest = rest; before = x.before; fits = fits; over = subst (λ n. Tells rest n Over) left over })

pub chunks_bad : {S : Type 0} {Step : S → Result (List ℕ) Failed → S → Type 0} (old : S) (had body rest : List ℕ) (new : S) (room : ℕ)
    → length body ≤ most_body → ReadsChunks Step old had body rest new → Tells rest room BadChunk → room ≡ most_body - length body
    → ReadsSome Step (HasNone IsChunked) old had GoesWrong new
chunks_bad old had body rest new room fits x bad left =
    let told = subst (λ n. Tells rest n BadChunk) left bad in
    (x.known, x.reads, record { body = body; rest = rest; before = x.before; fits = fits; under = told.1; never = told.0 })
