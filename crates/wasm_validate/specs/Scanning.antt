-- The check of a flat list of instructions from left to right, with the open blocks (the appendix on the validation
-- algorithm).
use Rattle.std.specs.Prelude.{◌≡◌, ℕ, ◌+◌, Bool, true, false, Option, Some, None, Result, Ok, Err, List, [], ◌∷◌}
use Rattle.wasm_types.specs.declared.types.ValueType.{ValueType}
use Rattle.wasm_types.specs.declared.types.ValueType.TheVariants.{I32}
use Rattle.wasm_types.specs.declared.instructions.Instr.{Instr}
use Rattle.wasm_types.specs.declared.instructions.Instr.TheVariants.{Block, Loop, If, Else, End}
use Rattle.wasm_validate.specs.declared.fault.ValidKind.{ValidKind}
use Rattle.basics.specs.declared.stop.Stop.{Stop}
use Rattle.wasm_validate.specs.declared.operands.Operands.{Operands}
use Rattle.wasm_validate.specs.declared.checker.BlockKind.{BlockKind}
use Rattle.wasm_validate.specs.declared.checker.BlockKind.TheVariants as blocks
use Rattle.wasm_validate.specs.declared.checker.Open.{Open}
use Rattle.wasm_validate.specs.declared.checker.Checker.{Checker}
use Rattle.wasm_validate.specs.Lists.{head_of, tail_of, is_nil}
use Rattle.wasm_validate.specs.Steps.{◌>>=◌, unless, told, Fails}
use Rattle.wasm_validate.specs.Rules.{Context}
use Rattle.wasm_validate.specs.Operands.{take_one, plain, none, fresh, again, ends, missing, given}

abbrev pub with_operands : Open → Operands → Open
with_operands block o = record block { operands = o }

-- the types that a branch to a block takes: to a loop, none
abbrev pub label_of : BlockKind → Option ValueType → Option ValueType
label_of blocks.Loop r = None
label_of block_kind r = r

-- the instruction at hand is done, and left these operands
abbrev pub passed : Checker → Operands → Checker
passed s o = record s { number = s.number + 1; current = with_operands s.current o }

abbrev pub opened : BlockKind → Option ValueType → Checker → Operands → Checker
opened block_kind r s o = record {
  number = s.number + 1;
  current = record { block_kind = block_kind; result = r; number = s.number; operands = fresh o };
  outer = with_operands s.current o ∷ s.outer;
  labels = label_of block_kind r ∷ s.labels;
}

-- the block that is parted goes on with its second part
abbrev pub parted : Checker → Checker
parted s = record s { current = record s.current { block_kind = blocks.Else; operands = again s.current.operands } }

abbrev pub parting : Checker → Result (Option Checker) ValidKind
parting s = ends s.current.result s.current.operands >>= λ _. Ok (Some (parted s))

-- the block is closed, and the one round it goes on; there is none round a whole body
abbrev pub closed : Checker → Option Open → Result (Option Checker) ValidKind
closed s None = Ok None
closed s (Some block) =
    given s.current.result block.operands >>= λ o. Ok (Some (record { number = s.number; current = with_operands block o; outer = tail_of s.outer; labels = tail_of s.labels }))

abbrev pub closing : Checker → Result (Option Checker) ValidKind
closing s = ends s.current.result s.current.operands >>= λ _. unless s (missing s.current.block_kind s.current.result) >>= λ s. closed s (head_of s.outer)

-- one instruction: what is open after it, and None after the last one
abbrev pub step : Instr → Context → Checker → Result (Option Checker) ValidKind
step (Block r) c s = Ok (Some (opened blocks.Block r s s.current.operands))
step (Loop r) c s = Ok (Some (opened blocks.Loop r s s.current.operands))
step (If r) c s = take_one I32 s.current.operands >>= λ o. Ok (Some (opened blocks.If r s o))
step Else c s = parting s
step End c s = closing s
step i c s = plain c s.labels i s.current.operands >>= λ o. Ok (Some (passed s o))

-- ---- numbers of instructions: an else or an end has that of the instruction that it closes

abbrev pub number_of : Checker → Bool → ℕ
number_of s true = s.number
number_of s false = s.current.number

abbrev pub told_at : Instr → Checker → ℕ
told_at Else s = s.current.number
told_at End s = number_of s (is_nil s.outer)
told_at i s = s.number

abbrev pub scan : List Instr → Context → Option Checker → Result (Unit {0}) (ValidKind × ℕ)
scan [] c next = Ok tt
scan (i ∷ code) c None = Ok tt
scan (i ∷ code) c (Some s) = told (told_at i s) (step i c s) >>= scan code c

-- the body of a function, before its first instruction
abbrev pub outset : Option ValueType → Checker
outset result = record {
  number = 0;
  current = record { block_kind = blocks.Block; result = result; number = 0; operands = none };
  outer = [];
  labels = result ∷ [];
}

-- What a step made of the open blocks, and whether it was the last one, unless memory ran out.
abbrev pub Steps : Result Bool (Stop ValidKind) → Checker → Result (Option Checker) ValidKind → Type 0
Steps (Ok true) new taken = taken ≡ Ok None
Steps (Ok false) new taken = taken ≡ Ok (Some new)
Steps (Err e) new taken = Fails e taken
