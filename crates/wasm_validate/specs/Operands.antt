-- What is known of the operands of a block while its instructions are checked (the appendix on the validation
-- algorithm). An operand of unknown type comes from code that is never reached.
use Rattle.std.specs.Option.{option_to_list as listed}
use Rattle.std.specs.Prelude.{ℕ, ◌+◌, nat_lt, Bool, true, false, if◌then◌else◌, Option, Some, None, Result, Ok, Err, List, [], ◌∷◌, length}
use Rattle.wasm_types.specs.declared.types.ValueType.{ValueType}
use Rattle.wasm_types.specs.declared.types.ValueType.TheVariants.{I32, I64}
use Rattle.wasm_types.specs.declared.instructions.Instr.{Instr}
use Rattle.wasm_validate.specs.declared.fault.ValidKind.{ValidKind}
use Rattle.wasm_validate.specs.declared.fault.ValidKind.TheVariants.{TypeMismatch, TooHigh}
use Rattle.wasm_validate.specs.declared.operands.Operands.{Operands}
use Rattle.wasm_validate.specs.declared.checker.BlockKind.{BlockKind}
use Rattle.wasm_validate.specs.declared.checker.BlockKind.TheVariants as blocks
use Rattle.wasm_validate.specs.Lists.{is_nil}
use Rattle.wasm_validate.specs.Steps.{◌>>=◌, unless}
use Rattle.wasm_validate.specs.Rules.{Context, Labels, Rule, Mono, Leaves, AnyDrop, AnySelect, rule_of, misuse}

abbrev pub Known : Type 0
Known = List (Option ValueType)

abbrev pub is_type : ValueType → Option ValueType → Bool
is_type t None = true
is_type I32 (Some I32) = true
is_type I32 (Some I64) = false
is_type I64 (Some I32) = false
is_type I64 (Some I64) = true

abbrev pub with_known : Operands → Known → Operands
with_known o known = record o { known = known }

-- ---- operands are taken from the top and given to it

-- where nothing is known, unreachable code has an operand of unknown type
abbrev pub pop_known : Bool → Known → Result (Option ValueType × Known) ValidKind
pop_known below (k ∷ known) = Ok (k, known)
pop_known true [] = Ok (None, [])
pop_known false [] = Err TypeMismatch

abbrev pub pop : Operands → Result (Option ValueType × Operands) ValidKind
pop o = pop_known o.unreachable o.known >>= λ p. Ok (p.0, with_known o p.1)

abbrev pub take_one : ValueType → Operands → Result Operands ValidKind
take_one t o = pop o >>= λ p. if is_type t p.0 then Ok p.1 else Err TypeMismatch

abbrev pub take_all : List ValueType → Operands → Result Operands ValidKind
take_all [] o = Ok o
take_all (t ∷ ts) o = take_one t o >>= take_all ts

abbrev pub give : List ValueType → Operands → Operands
give [] o = o
give (t ∷ ts) o = with_known o (Some t ∷ (give ts o).known)

-- the code that follows is never reached
abbrev pub left : Operands → Operands
left o = record o { unreachable = true; known = [] }

-- what both of two operands can be
abbrev pub meet : Option ValueType → Option ValueType → Result (Option ValueType) ValidKind
meet None k = Ok k
meet (Some t) None = Ok (Some t)
meet (Some t) (Some u) = if is_type t (Some u) then Ok (Some t) else Err TypeMismatch

abbrev pub by_rule : Rule → Operands → Result Operands ValidKind
by_rule (Mono takes gives) o = take_all takes o >>= λ p. Ok (give gives p)
by_rule (Leaves takes) o = take_all takes o >>= λ p. Ok (left p)
by_rule AnyDrop o = pop o >>= λ p. Ok p.1
by_rule AnySelect o = take_one I32 o >>= λ o. pop o >>= λ p. pop p.1 >>= λ q. meet p.0 q.0 >>= λ k. Ok (with_known q.1 (k ∷ q.1.known))

-- ---- an instruction

-- how many operands there are, those of the blocks round this one included
abbrev pub stacked : Operands → ℕ
stacked o = o.height + length o.known

abbrev pub low : Operands → Result Operands ValidKind
low o = if nat_lt 1024 (stacked o) then Err TooHigh else Ok o

abbrev pub typed : Context → Labels → Instr → Operands → Result Operands ValidKind
typed c labels i o = rule_of c labels i >>= λ rule. by_rule rule o

abbrev pub plain : Context → Labels → Instr → Operands → Result Operands ValidKind
plain c labels i o = typed c labels i o >>= λ next. unless next (misuse c i) >>= low

-- ---- a block

abbrev pub none : Operands
none = record { height = 0; unreachable = false; known = [] }

-- a block begins with no operands, above those that are there
abbrev pub fresh : Operands → Operands
fresh o = record { height = stacked o; unreachable = false; known = [] }

-- and so does the second part of an if
abbrev pub again : Operands → Operands
again o = record { height = o.height; unreachable = false; known = [] }

-- a block ends with its result and nothing else
abbrev pub ends : Option ValueType → Operands → Result Operands ValidKind
ends r o = take_all (listed r) o >>= λ p. if is_nil p.known then Ok p else Err TypeMismatch

-- the operands round a block, with its result
abbrev pub given : Option ValueType → Operands → Result Operands ValidKind
given r o = low (give (listed r) o)

-- an if without an else has no result
abbrev pub missing : BlockKind → Option ValueType → Option ValidKind
missing blocks.If (Some t) = Some TypeMismatch
missing block_kind r = None
