-- A request (RFC 9112, sections 3, 6 and 7.1): its head, and a body of the stated length or in chunks.
use Rattle.std.specs.Prelude.{◌≡◌, ◌≤◌, ◌⊎◌, ℕ, List, ◌++◌, length, None, Some, Result, Ok, Err, ⊤}
use Rattle.httparse.specs.Grammar as grammar
use Rattle.http_text.specs.Fields.{most_headers, most_body}
use Rattle.http_text.specs.Chunks.{HasNone}
use Rattle.http_text.specs.Bodies.{IsTold, IsWrong, IsOver}
use Rattle.http_front.specs.declared.heads.Head.{Head}
use Rattle.http_front.specs.declared.heads.Incoming.{Incoming}
use Rattle.http_front.specs.declared.fault.FrontFault.{FrontFault}
use Rattle.http_front.specs.declared.fault.FrontFault.TheVariants.{Bad, HeadTooLarge, TooLarge, Unsupported, Cut, ReadFault, OutOfMemory}
use Rattle.http_front.specs.Heads.{head_of, head_fault, stated_length, is_chunked, request_of, most_head}

-- the text is the body that a head announces, which has these bytes: chunks, or as many as it states
abbrev pub IsBody : Head → List ℕ → List ℕ → Type 0
IsBody head = IsTold (is_chunked head) (stated_length head)

-- the text is one request, which is read as this
pub record IsRequest (text : List ℕ) (incoming : Incoming) : Type 0 where
  pub tree : grammar.RequestHead
  pub is_head : grammar.IsRequestHead tree
  pub few : length tree.fields ≤ most_headers
  pub short : length (grammar.print_request tree) ≤ most_head
  pub good : head_fault (head_of tree) ≡ None
  pub head_is : incoming.head ≡ request_of (head_of tree)
  pub body_text : List ℕ
  pub body : IsBody (head_of tree) body_text incoming.body
  pub fits : length incoming.body ≤ most_body
  pub text_is : text ≡ grammar.print_request tree ++ body_text

-- a whole head stands at the front of the bytes, with this fault
abbrev pub HasHeadFault : FrontFault → List ℕ → Type 0
HasHeadFault fault bytes =
    (tree : grammar.RequestHead) × (rest : List ℕ) × grammar.ReadsRequest bytes tree rest × (head_fault (head_of tree) ≡ Some fault)

-- a whole head without fault stands at the front, and of what follows it P is true
pub record HasHeadAnd (P : Head → List ℕ → Type 0) (bytes : List ℕ) : Type 0 where
  pub tree : grammar.RequestHead
  pub rest : List ℕ
  pub reads : grammar.ReadsRequest bytes tree rest
  pub good : head_fault (head_of tree) ≡ None
  pub after : P (head_of tree) rest

-- no body that the head announces stands at the front
abbrev pub HasNoBody : Head → List ℕ → Type 0
HasNoBody head = HasNone (IsBody head)

-- its chunks go wrong, or go over the limit
abbrev pub IsWrongBody : Head → List ℕ → Type 0
IsWrongBody head = IsWrong (is_chunked head)

abbrev pub IsLargeBody : Head → List ℕ → Type 0
IsLargeBody head = IsOver (is_chunked head)

-- why a request is bad
abbrev pub IsBad : List ℕ → Type 0
IsBad bytes = grammar.NeverHasRequest bytes ⊎ (HasHeadFault Bad bytes ⊎ HasHeadAnd IsWrongBody bytes)

-- why it is too large
abbrev pub IsTooLarge : List ℕ → Type 0
IsTooLarge bytes = HasHeadFault TooLarge bytes ⊎ HasHeadAnd IsLargeBody bytes

-- A request isn't whole yet: no head, or a head without fault and no whole body.
abbrev pub IsUnfinished : List ℕ → Type 0
IsUnfinished bytes = grammar.HasNoRequest bytes ⊎ HasHeadAnd HasNoBody bytes

-- the same where bytes may still come that make a head
abbrev pub IsCut : List ℕ → Type 0
IsCut bytes = (grammar.HasNoRequest bytes × grammar.MayBecomeRequest bytes) ⊎ HasHeadAnd HasNoBody bytes

-- the answer where a source begins with this request
abbrev pub Finds : Result Incoming FrontFault → Incoming → Type 0
Finds (Ok found) incoming = found ≡ incoming
Finds (Err Bad) incoming = ⊥
Finds (Err HeadTooLarge) incoming = ⊥
Finds (Err TooLarge) incoming = ⊥
Finds (Err Unsupported) incoming = ⊥
Finds (Err Cut) incoming = ⊥
Finds (Err ReadFault) incoming = ⊤
Finds (Err OutOfMemory) incoming = ⊤
