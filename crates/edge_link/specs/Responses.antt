-- The response that a backend's bytes hold, read for the method of its request (RFC 9112, sections 4, 6 and 7.1). Bytes past
-- a body whose end is told are passed over.
use Rattle.std.specs.Prelude.{◌≡◌, ◌+◌, ℕ, List}
use Rattle.httparse.specs.Grammar as grammar
use Rattle.edge_body.specs.Heads.{Response}
use Rattle.edge_link.specs.declared.heads.Head.{Head}
use Rattle.edge_link.specs.Heads.{head_of, IsLed}
use Rattle.edge_link.specs.Bodies.{told_of, Gives}

-- what a guest sees of a head; its version is 1 or 2 for HTTP/1.0 and 1.1
abbrev pub response_of : Head → Response
response_of head = record { status = head.status; version = head.version + 1; fields = head.fields }

-- interim heads, the head of this response, and its body
pub record IsResponse (method bytes : List ℕ) (response : Response) (body : List ℕ) : Type 0 where
  pub tree : grammar.ResponseHead
  pub rest : List ℕ
  pub led : IsLed bytes tree rest
  pub response_is : response ≡ response_of (head_of tree)
  pub gives : Gives (told_of method (head_of tree)) rest body

-- the bytes hold no response to the method
abbrev pub HasNoResponseTo : List ℕ → List ℕ → Type 0
HasNoResponseTo method bytes = (response : Response) (body : List ℕ) → ¬ (IsResponse method bytes response body)
