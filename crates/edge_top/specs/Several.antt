-- What a command of several files reads, and works out from that.
use Rattle.std.specs.Prelude.{◌≡◌, ℕ, List, [], ◌∷◌, ◌++◌, Result, Ok, Err}
use Rattle.edge_outside.specs.declared.fault.IoFault.{IoFault}
use Rattle.edge_outside.specs.declared.fault.IoFault.TheVariants as io
use Rattle.edge_outside.specs.Files.{Read}
use Rattle.edge_outside.specs.InOrder.{AreAnswered, StopsAt}
use Rattle.edge_top.specs.declared.exit.Exit.{Exit}
use Rattle.edge_top.specs.Exit.{of_read}
use Rattle.edge_top.specs.Worked.{Worked}

-- these files were read in this order, each once, up to the first that failed or to want of memory
abbrev pub ReadsAll : List (List ℕ) → List Read → Result (List (List ℕ)) Exit → Type 0
ReadsAll names reads (Ok pieces) = AreAnswered names reads pieces
ReadsAll names reads (Err ended) = (fault : IoFault) × (StopsAt (λ f. f ≡ io.OutOfMemory) names reads fault × (ended ≡ of_read fault))

-- what follows from what was found: an early end reads nothing more
abbrev pub Follows : {V : Type 0} → (V → List Read → Worked → Type 0) → Result V Exit → List Read → Worked → Type 0
Follows Next (Ok value) reads worked = Next value reads worked
Follows Next (Err early) reads worked = (reads ≡ []) × (worked ≡ Err early)

-- something was found without a read, and this followed
pub record Then {V : Type 0} (Is : Result V Exit → Type 0) (Next : V → List Read → Worked → Type 0) (reads : List Read) (worked : Worked) : Type 0 where
  pub found : Result V Exit
  pub is : Is found
  pub follows : Follows Next found reads worked

-- these files were read, and this followed
pub record ReadsThen (names : List (List ℕ)) (Next : List (List ℕ) → List Read → Worked → Type 0) (reads : List Read) (worked : Worked) : Type 0 where
  pub these : List Read
  pub others : List Read
  pub parts : reads ≡ these ++ others
  pub files : Result (List (List ℕ)) Exit
  pub are : ReadsAll names these files
  pub follows : Follows Next files others worked

-- work on the bytes of one file, with no further read
abbrev pub OnOne : (List ℕ → Worked → Type 0) → List (List ℕ) → List Read → Worked → Type 0
OnOne Work (bytes ∷ []) reads worked = (reads ≡ []) × Work bytes worked
OnOne Work _ reads worked = ⊥
