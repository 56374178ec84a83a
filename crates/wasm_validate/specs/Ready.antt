-- What a module is that was read: its expressions nest, and the limits on its parts are kept, all but that on the height
-- of operands.
use Rattle.std.specs.Prelude.{◌≡◌, ℕ, ◌+◌, ◌≤◌, IfSome, List, length, slice_get}
use Rattle.std.specs.Option.{option_map_or}
use Rattle.wasm_types.specs.declared.instructions.Instr.{Instr}
use Rattle.wasm_types.specs.declared.instructions.Instr.TheVariants.{BrTable}
use Rattle.wasm_types.specs.declared.modules.Module.{Module}
use Rattle.wasm_types.specs.Nested.{NestsWithin}
use Rattle.wasm_validate.specs.Spaces.{tables_of, memories_of}
use Rattle.wasm_validate.specs.Valid.{AllAt}

-- the tables of branches have 65,536 labels at most
abbrev pub IsSmall : Instr → Type 0
IsSmall (BrTable labels other) = length labels ≤ 65536
IsSmall i = Unit {0}

-- an expression: at most 1,024 blocks are open at once
abbrev pub IsExpression : List Instr → Type 0
IsExpression code = NestsWithin 1024 code × AllAt (λ _ i. IsSmall i) 0 code

-- how many parameters a function has
abbrev pub params_count : Module → ℕ → ℕ
params_count m k = option_map_or (λ t. option_map_or (λ f. length f.params) (slice_get m.types t) 0) (slice_get m.functions k) 0

pub record IsReady (m : Module) : Type 0 where
  pub one_count : length m.code ≡ length m.functions
  pub types : length m.types ≤ 65536
  pub functions : length m.functions ≤ 65536
  pub tables : AllAt (λ _ l. l.least ≤ 65536) 0 (tables_of m)
  pub memories : AllAt (λ _ l. (l.least ≤ 2048) × IfSome l.most (λ n. n ≤ 65536)) 0 (memories_of m)
  pub globals : length m.globals ≤ 4096
  pub starts : AllAt (λ _ g. IsExpression g.start) 0 m.globals
  pub element_offsets : AllAt (λ _ e. IsExpression e.offset) 0 m.elements
  pub bodies : AllAt (λ k c. (params_count m k + length c.locals ≤ 4096) × IsExpression c.body) 0 m.code
  pub offsets : AllAt (λ _ s. IsExpression s.offset) 0 m.segments
