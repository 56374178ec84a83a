-- A lookup that is asked for.
use Rattle.std.specs.Prelude.{ℕ, List}
use Rattle.cache_types.specs.declared.calls.Field.{Field}

pub record Wanted : Type 0 where
  pub key : List ℕ
  pub headers : List Field
