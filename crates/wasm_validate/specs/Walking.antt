-- The first fault of nested instructions: what is checked in which order, with the numbers of the instructions.
use Rattle.std.specs.Prelude.{ℕ, ◌+◌, None, Result, Ok, [], ◌∷◌}
use Rattle.wasm_types.specs.declared.types.ValueType.TheVariants.{I32}
use Rattle.wasm_types.specs.Nested.{Body, Done, Goes, InBlock, InLoop, InIf, InIfElse}
use Rattle.wasm_validate.specs.declared.fault.ValidKind.{ValidKind}
use Rattle.wasm_validate.specs.declared.operands.Operands.{Operands}
use Rattle.wasm_validate.specs.declared.checker.BlockKind.TheVariants as blocks
use Rattle.wasm_validate.specs.Steps.{◌>>=◌, unless, told}
use Rattle.wasm_validate.specs.Rules.{Context, Labels}
use Rattle.wasm_validate.specs.Operands.{take_one, plain, none, fresh, again, ends, missing, given}

-- the number of the next instruction, and the operands after a sequence, or its first fault
abbrev pub walk : Body → Context → Labels → ℕ → Operands → Result (ℕ × Operands) (ValidKind × ℕ)
walk Done c labels n o = Ok (n, o)
walk (Goes i p rest) c labels n o = told n (plain c labels i o) >>= λ o. walk rest c labels (n + 1) o
walk (InBlock r inner rest) c labels n o =
    walk inner c (r ∷ labels) (n + 1) (fresh o) >>= λ e. told n (ends r e.1 >>= λ _. given r o) >>= λ o. walk rest c labels e.0 o
walk (InLoop r inner rest) c labels n o =
    walk inner c (None ∷ labels) (n + 1) (fresh o) >>= λ e. told n (ends r e.1 >>= λ _. given r o) >>= λ o. walk rest c labels e.0 o
walk (InIf r inner rest) c labels n o =
    told n (take_one I32 o) >>= λ o. walk inner c (r ∷ labels) (n + 1) (fresh o) >>= λ e. told n (ends r e.1 >>= λ _. unless o (missing blocks.If r) >>= given r) >>= λ o. walk rest c labels e.0 o
walk (InIfElse r first second rest) c labels n o =
    told n (take_one I32 o) >>= λ o. walk first c (r ∷ labels) (n + 1) (fresh o) >>= λ e. told n (ends r e.1) >>= λ _.
    walk second c (r ∷ labels) e.0 (again e.1) >>= λ e. told n (ends r e.1 >>= λ _. given r o) >>= λ o. walk rest c labels e.0 o

-- the first fault of a function's body
abbrev pub walk_body : Context → Body → Result (Unit {0}) (ValidKind × ℕ)
walk_body c body = walk body c (c.result ∷ []) 0 none >>= λ e. told e.0 (ends c.result e.1) >>= λ _. Ok tt
