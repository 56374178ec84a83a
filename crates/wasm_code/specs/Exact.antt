-- Reading and the grammar agree.
use Rattle.std.specs.Prelude.{◌≡◌, ℕ, Ok, List}
use Rattle.wasm_code.specs.Reading.{Reading}

-- what is read is in the grammar, and what is in the grammar is read, whatever follows it
pub record IsExact {A : Type 0} (read : List ℕ → Reading A) (Is : List ℕ → A → List ℕ → Type 0) : Type 0 where
  pub sound : (bytes rest : List ℕ) (x : A) → read bytes ≡ Ok (x, rest) → Is bytes x rest
  pub complete : (bytes rest : List ℕ) (x : A) → Is bytes x rest → read bytes ≡ Ok (x, rest)
