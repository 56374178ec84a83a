-- What it is to read the bytes of a backend, for the method of the request that they answer.
use Rattle.std.specs.Prelude.{◌≡◌, ◌<◌, ◌≤◌, ℕ, List, length, Result, Ok, Err}
use Rattle.edge_body.specs.Heads.{Response}
use Rattle.http_text.specs.Fields.{most_body}
use Rattle.edge_link.specs.declared.fault.ResponseFault.{ResponseFault}
use Rattle.edge_link.specs.declared.fault.ResponseFault.TheVariants.{TooLarge, BadResponse, OutOfMemory}
use Rattle.edge_link.specs.Responses.{IsResponse, HasNoResponseTo}

-- what is read of bytes: a response and its body, or why there is none
abbrev pub Reading : Type 0
Reading = List ℕ → List ℕ → Result (Response × List ℕ) ResponseFault

-- it is what they hold; of the faults the first that holds
abbrev pub IsRead : List ℕ → List ℕ → Result (Response × List ℕ) ResponseFault → Type 0
IsRead method bytes (Ok found) = (length bytes ≤ most_body) × IsResponse method bytes found.0 found.1
IsRead method bytes (Err TooLarge) = most_body < length bytes
IsRead method bytes (Err BadResponse) = (length bytes ≤ most_body) × HasNoResponseTo method bytes
IsRead method bytes (Err OutOfMemory) = ⊥

-- a reading of all bytes
abbrev pub IsReading : Reading → Type 0
IsReading reads = (method bytes : List ℕ) → IsRead method bytes (reads method bytes)

-- what was read is what a reading says, but for want of memory
abbrev pub Agrees : Result (Response × List ℕ) ResponseFault → Result (Response × List ℕ) ResponseFault → Type 0
Agrees meaning (Ok found) = meaning ≡ Ok found
Agrees meaning (Err OutOfMemory) = Unit {0}
Agrees meaning (Err fault) = meaning ≡ Err fault
