-- Where the blocks of flat code end, read from right to left.
use Rattle.std.specs.Prelude.{ℕ, ◌+◌, List, [], ◌∷◌}
use Rattle.wasm_types.specs.declared.instructions.Instr.{Instr}
use Rattle.wasm_types.specs.Nested.{Role, Opens, Parts, Closes, Plain, role_of}
use Rattle.stacks.specs.Tops.{tail_of}

abbrev pub first_of : List ℕ → ℕ
first_of [] = 0
first_of (n ∷ ns) = n

-- the places of the ends and elses that close what stands before, the nearest one first
abbrev pub waiting_by : Role → ℕ → List ℕ → List ℕ
waiting_by (Opens b) p ends = tail_of ends
waiting_by Parts p ends = p ∷ tail_of ends
waiting_by Closes p ends = p ∷ ends
waiting_by Plain p ends = ends

abbrev pub waiting : List Instr → ℕ → List ℕ
waiting [] p = []
waiting (i ∷ code) p = waiting_by (role_of i) p (waiting code (p + 1))

-- for each place that of the end or the else that closes what begins there
abbrev pub exits_of : List Instr → ℕ → List ℕ
exits_of [] p = []
exits_of (i ∷ code) p = first_of (waiting code (p + 1)) ∷ exits_of code (p + 1)
