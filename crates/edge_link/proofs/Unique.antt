-- Bytes hold one response to a method at most, so all that reads them right reads the same.
use Rattle.std.proofs.Common.{◌≡◌, ◌∙◌, ℕ, ◌≤◌, ◌<◌, List, length, refl, sym, ap, subst, arith}
use Rattle.std.specs.Prelude.{Result, Ok, Err, IfOk, IsErrOf}
use Rattle.edge_body.specs.Heads.{Response}
use Rattle.http_text.specs.Fields.{most_body}
use Rattle.http_text.proofs.ChunkLaws.{chunked_unique}
use Rattle.edge_link.specs.declared.bodies.Told.{Told}
use Rattle.edge_link.specs.declared.bodies.Told.TheVariants.{Nothing, ToEnd, Counted, Chunks, Wrong}
use Rattle.edge_link.specs.declared.fault.ResponseFault.{ResponseFault}
use Rattle.edge_link.specs.declared.fault.ResponseFault.TheVariants as fault
use Rattle.edge_link.specs.Heads.{head_of}
use Rattle.edge_link.specs.Bodies.{told_of, Gives}
use Rattle.edge_link.specs.Responses.{response_of, IsResponse, HasNoResponseTo}
use Rattle.edge_link.specs.Readings.{Reading, IsRead, IsReading, Agrees}
use Rattle.edge_link.proofs.HeadRuns.{led_unique}

-- a way of telling gives one body
gives_one : (told : Told) (rest b d : List ℕ) → Gives told rest b → Gives told rest d → b ≡ d
gives_one Nothing rest b d x y = x ∙ sym y
gives_one ToEnd rest b d x y = x ∙ sym y
gives_one (Counted n) rest b d x y = x.1 ∙ sym y.1
gives_one Chunks rest b d (s, r, x, e) (t, q, y, f) = (chunked_unique s b r t d q x y (sym e ∙ f)).0
gives_one Wrong rest b d x y = absurd x

pub response_one : (method bytes : List ℕ) (r s : Response) (b d : List ℕ) → IsResponse method bytes r b → IsResponse method bytes s d → (r ≡ s) × (b ≡ d)
response_one method bytes r s b d x y =
    let same = led_unique bytes x.tree y.tree x.rest y.rest x.led y.led in
    let gives = subst (λ (q : List ℕ). Gives (told_of method (head_of y.tree)) q b) same.1 (subst (λ t. Gives (told_of method (head_of t)) x.rest b) same.0 x.gives) in
    (x.response_is ∙ (ap (λ t. response_of (head_of t)) same.0 ∙ sym y.response_is), gives_one (told_of method (head_of y.tree)) y.rest b d gives y.gives)

-- a reading of bytes that hold a response
read_found : (method bytes : List ℕ) (meaning : Result (Response × List ℕ) ResponseFault) (r : Response) (b : List ℕ)
    → IsRead method bytes meaning → IsResponse method bytes r b → length bytes ≤ most_body → meaning ≡ Ok (r, b)
read_found method bytes (Ok (s, d)) r b is x small =
    let same = response_one method bytes s r d b is.1 x in
    ap (λ (y : Response). Ok (y, d)) same.0 ∙ ap (λ (z : List ℕ). Ok (r, z)) same.1
read_found method bytes (Err fault.TooLarge) r b is x small = absurd (omega (arith, is, small))
read_found method bytes (Err fault.BadResponse) r b is x small = absurd (is.1 r b x)
read_found method bytes (Err fault.OutOfMemory) r b is x small = absurd is

-- a reading of bytes that are too many, and of bytes that hold none
read_large : (method bytes : List ℕ) (meaning : Result (Response × List ℕ) ResponseFault) → IsRead method bytes meaning → most_body < length bytes → meaning ≡ Err fault.TooLarge
read_large method bytes (Ok found) is large = absurd (omega (arith, is.0, large))
read_large method bytes (Err fault.TooLarge) is large = refl
read_large method bytes (Err fault.BadResponse) is large = absurd (omega (arith, is.0, large))
read_large method bytes (Err fault.OutOfMemory) is large = absurd is

read_none : (method bytes : List ℕ) (meaning : Result (Response × List ℕ) ResponseFault) → IsRead method bytes meaning → length bytes ≤ most_body → HasNoResponseTo method bytes
    → meaning ≡ Err fault.BadResponse
read_none method bytes (Ok found) is small none = absurd (none found.0 found.1 is.1)
read_none method bytes (Err fault.TooLarge) is small none = absurd (omega (arith, is, small))
read_none method bytes (Err fault.BadResponse) is small none = refl
read_none method bytes (Err fault.OutOfMemory) is small none = absurd is

not_large : (method bytes : List ℕ) → (most_body < length bytes → ⊥) → length bytes ≤ most_body
not_large method bytes small = omega (arith, small)

-- what was read, by what its clauses say, is what a reading says
pub agrees : (reads : Reading) → IsReading reads → (method bytes : List ℕ) (result : Result (Response × List ℕ) ResponseFault)
    → IfOk result (λ found. IsResponse method bytes found.0 found.1) → (IsErrOf result fault.TooLarge → most_body < length bytes)
    → (most_body < length bytes → IsErrOf result fault.TooLarge) → (IsErrOf result fault.BadResponse → HasNoResponseTo method bytes)
    → Agrees (reads method bytes) result
agrees reads is method bytes (Ok found) ok large first bad =
    read_found method bytes (reads method bytes) found.0 found.1 (is method bytes) ok (not_large method bytes (λ e. cc (first e)))
agrees reads is method bytes (Err fault.TooLarge) ok large first bad = read_large method bytes (reads method bytes) (is method bytes) (large refl)
agrees reads is method bytes (Err fault.BadResponse) ok large first bad =
    read_none method bytes (reads method bytes) (is method bytes) (not_large method bytes (λ e. cc (first e))) (bad refl)
agrees reads is method bytes (Err fault.OutOfMemory) ok large first bad = tt
