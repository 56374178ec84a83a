-- A text that is read as one request.
use Rattle.std.specs.Prelude.{◌≡◌, ◌-◌, ◌^◌, ◌++◌, ℕ, List, Option, None, Some, Result, Ok, Err}
use Rattle.edge_words.specs.declared.fault.LineFault.{LineFault}
use Rattle.edge_words.specs.declared.fault.LineFault.TheVariants.{Bad, OutOfMemory}
use Rattle.http_front.specs.declared.heads.Incoming.{Incoming}
use Rattle.http_front.specs.Requests.{IsRequest}
use Rattle.play_files.specs.Requests.{IsRequestText}

-- the most that one read of a text gives
abbrev pub most_read : ℕ
most_read = 2 ^ 64 - 1

-- a request stands at the front
abbrev pub IsAtFront : List ℕ → Incoming → Type 0
IsAtFront bytes incoming = (text rest : List ℕ) × IsRequest text incoming × (bytes ≡ text ++ rest)

-- the request at the front, or there is none
abbrev pub TellsFront : List ℕ → Option Incoming → Type 0
TellsFront bytes (Some incoming) = IsAtFront bytes incoming
TellsFront bytes None = (incoming : Incoming) → IsAtFront bytes incoming → ⊥

-- the text is this request; or it is none; or memory ran out
abbrev pub TellsWhole : List ℕ → Result Incoming LineFault → Type 0
TellsWhole text (Ok incoming) = IsRequest text incoming
TellsWhole text (Err Bad) = IsRequestText text → ⊥
TellsWhole text (Err OutOfMemory) = Unit {0}
