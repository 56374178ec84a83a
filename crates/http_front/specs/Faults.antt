-- Which faults a step has, and why.
use Rattle.std.specs.Prelude.{◌≡◌, ℕ, List, ⊤}
use Rattle.httparse.specs.Grammar.{NeverHasRequest, MayBecomeRequest}
use Rattle.httparse.specs.Spans.{RequestOverflows, RequestExceeds}
use Rattle.http_text.specs.Fields.{most_headers}
use Rattle.http_text.specs.declared.fault.BodyFault.{BodyFault}
use Rattle.http_text.specs.declared.fault.BodyFault.TheVariants as body
use Rattle.http_text.specs.declared.fault.NoBytes.{NoBytes}
use Rattle.http_text.specs.declared.fault.NoBytes.TheVariants as bytes
use Rattle.http_front.specs.declared.fault.FrontFault.{FrontFault}
use Rattle.http_front.specs.declared.fault.FrontFault.TheVariants.{Bad, HeadTooLarge, TooLarge, Unsupported, Cut, ReadFault, OutOfMemory}

-- the faults that a text at the front has
abbrev pub IsOfHead : FrontFault → Type 0
IsOfHead Bad = ⊤
IsOfHead HeadTooLarge = ⊤
IsOfHead TooLarge = ⊥
IsOfHead Unsupported = ⊥
IsOfHead Cut = ⊥
IsOfHead ReadFault = ⊥
IsOfHead OutOfMemory = ⊤

-- whatever follows there are too many headers
abbrev pub HasManyHeaders : List ℕ → Type 0
HasManyHeaders known = RequestOverflows most_headers known × RequestExceeds most_headers known

-- why there is no head, where the input ends with these bytes
abbrev pub EndsAs : List ℕ → FrontFault → Type 0
EndsAs known Bad = NeverHasRequest known
EndsAs known HeadTooLarge = HasManyHeaders known
EndsAs known TooLarge = ⊥
EndsAs known Unsupported = ⊥
EndsAs known Cut = MayBecomeRequest known
EndsAs known ReadFault = ⊥
EndsAs known OutOfMemory = ⊥

-- why there is none, where a read gave no more
abbrev pub StopsAs : List ℕ → NoBytes → FrontFault → Type 0
StopsAs known bytes.Ended fault = EndsAs known fault
StopsAs known bytes.Failed fault = fault ≡ ReadFault
StopsAs known bytes.OutOfMemory fault = fault ≡ OutOfMemory

-- the fault of a request whose body has this fault
abbrev pub front_fault : BodyFault → FrontFault
front_fault body.Bad = Bad
front_fault body.TooLarge = TooLarge
front_fault body.Ended = Cut
front_fault body.Failed = ReadFault
front_fault body.OutOfMemory = OutOfMemory
