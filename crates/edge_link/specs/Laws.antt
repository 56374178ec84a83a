-- What a reader of RFC 9112 gets back of a request: by the grammar of `httparse` one head, and the body behind it.
use Rattle.std.specs.Prelude.{◌≡◌, ℕ, List, map, IsUtf8}
use Rattle.httparse.specs.Grammar.{RequestHead as Tree, AllPass, IsToken, is_uri_byte, ReadsRequest}
use Rattle.httparse.specs.Spans.{name_and_value}
use Rattle.cache_types.specs.declared.calls.Field.{Field}
use Rattle.edge_body.specs.Heads.{Request}
use Rattle.http_front.specs.Laws.{IsPlain, ArePlain, parts_of}
use Rattle.edge_link.specs.Targets.{target_of}

-- a request that a reader takes: its method is a token, its target has no blank and no control byte and is UTF-8, and no
-- value has control bytes or blanks at its ends
pub record IsSendable (head : Request) (authority : List ℕ) : Type 0 where
  pub method : IsToken head.method
  pub target : AllPass is_uri_byte (target_of head.uri)
  pub text : IsUtf8 (target_of head.uri)
  pub fields : ArePlain head.fields
  pub host : IsPlain authority

-- a reader finds one head, which has these parts, and behind it this body
pub record IsSentAs (method target : List ℕ) (fields : List Field) (body text : List ℕ) : Type 0 where
  pub tree : Tree
  pub reads : ReadsRequest text tree body
  pub only : (other : Tree) (rest : List ℕ) → ReadsRequest text other rest → (other ≡ tree) × (rest ≡ body)
  pub method_is : tree.method ≡ method
  pub target_is : tree.target ≡ target
  pub version_is : tree.minor ≡ 1
  pub fields_are : map name_and_value tree.fields ≡ map parts_of fields
