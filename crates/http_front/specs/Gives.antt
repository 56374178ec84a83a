-- What each answer of a reading step says of the reads that were made.
use Rattle.std.specs.Prelude.{◌≡◌, ◌≤◌, ◌⊎◌, ℕ, List, [], ◌++◌, length, drop, Result, Ok, Err, ⊤}
use Rattle.httparse.specs.Grammar as grammar
use Rattle.edge_outside.specs.declared.fault.Failed.{Failed}
use Rattle.edge_outside.specs.Reads.{Reads, ReadsUntil, failed}
use Rattle.http_text.specs.Fields.{most_headers}
use Rattle.http_front.specs.declared.heads.Head.{Head}
use Rattle.http_front.specs.declared.heads.Incoming.{Incoming}
use Rattle.http_front.specs.declared.fault.FrontFault.{FrontFault}
use Rattle.http_front.specs.declared.fault.FrontFault.TheVariants.{Bad, HeadTooLarge, TooLarge, Unsupported, Cut, ReadFault, OutOfMemory}
use Rattle.http_front.specs.Heads.{head_of, IsLargeHead, most_head}
use Rattle.http_front.specs.Requests.{IsRequest, IsUnfinished, IsCut, IsBad, IsTooLarge, HasHeadFault}

-- a head of these parts stands at the front and has this length
abbrev pub HasHead : List ℕ → Head → ℕ → Type 0
HasHead bytes head len =
    (tree : grammar.RequestHead) × grammar.ReadsRequest bytes tree (drop len bytes) × (len ≡ length (grammar.print_request tree))
    × (head ≡ head_of tree) × (length tree.fields ≤ most_headers)

-- a head within the limits was read, whose parts are these, and some bytes past it
pub record ReadsHead {S : Type 0} (Step : S → Result (List ℕ) Failed → S → Type 0) (old : S) (head : Head) (ahead : List ℕ) (new : S) : Type 0 where
  pub tree : grammar.RequestHead
  pub is_head : grammar.IsRequestHead tree
  pub few : length tree.fields ≤ most_headers
  pub short : length (grammar.print_request tree) ≤ most_head
  pub parts : head ≡ head_of tree
  pub reads : Reads Step grammar.HasNoRequest old [] (grammar.print_request tree ++ ahead) new

-- Such bytes were read from nothing, and the end may have been met behind them. Each read was made while they were open.
abbrev pub Knows : {S : Type 0} → (S → Result (List ℕ) Failed → S → Type 0) → (List ℕ → Type 0) → S → List ℕ → S → Type 0
Knows Step Open old known new = Reads Step Open old [] known new ⊎ ReadsUntil Step Open old [] (Ok []) known new

-- the same of bytes of which P is true
abbrev pub KnowsSome : {S : Type 0} → (S → Result (List ℕ) Failed → S → Type 0) → (List ℕ → Type 0) → S → (List ℕ → Type 0) → S → Type 0
KnowsSome Step Open old P new = (known : List ℕ) × Knows Step Open old known new × P known

-- the last read had this answer, and before it such bytes were read
abbrev pub StopsAt : {S : Type 0} → (S → Result (List ℕ) Failed → S → Type 0) → (List ℕ → Type 0) → S → Result (List ℕ) Failed → (List ℕ → Type 0) → S → Type 0
StopsAt Step Open old answer P new = (known : List ℕ) × ReadsUntil Step Open old [] answer known new × P known

-- A head from nothing. Where there is none all that was read is still ahead, unless memory ran out behind a read.
abbrev pub HeadGives : {S : Type 0} → (S → Result (List ℕ) Failed → S → Type 0) → S → Result Head FrontFault → List ℕ → S → Type 0
HeadGives Step old (Ok head) ahead new = ReadsHead Step old head ahead new
HeadGives Step old (Err Bad) ahead new = Knows Step grammar.HasNoRequest old ahead new × grammar.NeverHasRequest ahead
HeadGives Step old (Err HeadTooLarge) ahead new = Knows Step grammar.HasNoRequest old ahead new × IsLargeHead ahead
HeadGives Step old (Err TooLarge) ahead new = ⊥
HeadGives Step old (Err Unsupported) ahead new = ⊥
HeadGives Step old (Err Cut) ahead new = ReadsUntil Step grammar.HasNoRequest old [] (Ok []) ahead new × grammar.MayBecomeRequest ahead
HeadGives Step old (Err ReadFault) ahead new = ReadsUntil Step grammar.HasNoRequest old [] (Err failed) ahead new
HeadGives Step old (Err OutOfMemory) ahead new = KnowsSome Step grammar.HasNoRequest old (λ known. ⊤) new

-- The whole request: each read was made while what was read before was no whole request.
abbrev pub RequestGives : {S : Type 0} → (S → Result (List ℕ) Failed → S → Type 0) → S → Result Incoming FrontFault → S → Type 0
RequestGives Step old (Ok incoming) new = (text dropped : List ℕ) × IsRequest text incoming × Reads Step IsUnfinished old [] (text ++ dropped) new
RequestGives Step old (Err Bad) new = KnowsSome Step IsUnfinished old IsBad new
RequestGives Step old (Err HeadTooLarge) new = KnowsSome Step IsUnfinished old IsLargeHead new
RequestGives Step old (Err TooLarge) new = KnowsSome Step IsUnfinished old IsTooLarge new
RequestGives Step old (Err Unsupported) new = KnowsSome Step IsUnfinished old (HasHeadFault Unsupported) new
RequestGives Step old (Err Cut) new = StopsAt Step IsUnfinished old (Ok []) IsCut new
RequestGives Step old (Err ReadFault) new = StopsAt Step IsUnfinished old (Err failed) (λ known. ⊤) new
RequestGives Step old (Err OutOfMemory) new = KnowsSome Step IsUnfinished old (λ known. ⊤) new
