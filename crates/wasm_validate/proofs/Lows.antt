-- A step keeps the limit on the height of operands, and counts by one at most.
use Rattle.std.proofs.Common.{◌≡◌, ◌+◌, ◌≤◌, Option, Some, None, Ok, sym, subst, arith}
use Rattle.wasm_types.specs.declared.types.ValueType.TheVariants.{I32}
use Rattle.wasm_types.specs.declared.instructions.Instr.{Instr}
use Rattle.wasm_types.specs.declared.instructions.Instr.TheVariants.{Block, Loop, If, Else, End}
use Rattle.wasm_validate.specs.declared.fault.ValidKind.{ValidKind}
use Rattle.wasm_validate.specs.declared.checker.BlockKind.TheVariants as blocks
use Rattle.wasm_validate.specs.declared.checker.Open.{Open}
use Rattle.wasm_validate.specs.declared.checker.Checker.{Checker}
use Rattle.wasm_validate.specs.Lists.{head_of, tail_of}
use Rattle.wasm_validate.specs.Steps.{◌>>=◌, unless}
use Rattle.wasm_validate.specs.Rules.{Context}
use Rattle.wasm_validate.specs.Operands.{take_one, stacked, plain, ends, missing, given}
use Rattle.wasm_validate.specs.Scanning.{with_operands, passed, opened, parted, closed, step}
use Rattle.wasm_validate.proofs.Results.{bind_ok, unless_ok, done, ok_is}
use Rattle.wasm_validate.proofs.Sizes.{one_sizes, plain_ok, given_ok}

pub record Lower (s t : Checker) : Type 0 where
  pub limit : stacked t.current.operands ≤ 1024
  pub number : t.number ≤ s.number + 1

some_is : (u t : Checker) → (let o : Option Checker = Some u in o) ≡ Some t → u ≡ t
some_is u t e = cc

lower_is : (s u t : Checker) → done {E = ValidKind} (Some u) ≡ done {E = ValidKind} (Some t) → Lower s u → Lower s t
lower_is s u t e h = subst (λ (v : Checker). Lower s v) (some_is u t (ok_is {E = ValidKind} (Some u) (Some t) e)) h

plain_low : (i : Instr) (c : Context) (s t : Checker) → (plain c s.labels i s.current.operands >>= λ o. Ok (Some (passed s o))) ≡ Ok (Some t) → Lower s t
plain_low i c s t e =
    let b = bind_ok (plain c s.labels i s.current.operands) (λ o. done (Some (passed s o))) (Some t) e in
    let p = plain_ok c s.labels i s.current.operands b.0 b.1 in
    lower_is s (passed s b.0) t b.2 (record { limit = omega (arith, p.limit, p.sizes.height, p.sizes.size); number = omega arith })

closed_low : (s t : Checker) (block : Option Open) → closed s block ≡ Ok (Some t) → Lower s t
closed_low s t None e = absurd cc
closed_low s t (Some block) e =
    let b = bind_ok (given s.current.result block.operands) (λ o. done (Some (record { number = s.number; current = with_operands block o; outer = tail_of s.outer; labels = tail_of s.labels }))) (Some t) e in
    let g = given_ok s.current.result block.operands b.0 b.1 in
    lower_is s (record { number = s.number; current = with_operands block b.0; outer = tail_of s.outer; labels = tail_of s.labels }) t b.2 (record { limit = omega (arith, g.1.height, g.1.size, g.2); number = omega arith })

pub step_low : (i : Instr) (c : Context) (s t : Checker) → stacked s.current.operands ≤ 1024 → step i c s ≡ Ok (Some t) → Lower s t
step_low (Block r) c s t h e = lower_is s (opened blocks.Block r s s.current.operands) t e (record { limit = omega arith; number = omega arith })
step_low (Loop r) c s t h e = lower_is s (opened blocks.Loop r s s.current.operands) t e (record { limit = omega arith; number = omega arith })
step_low (If r) c s t h e =
    let b = bind_ok (take_one I32 s.current.operands) (λ o. done (Some (opened blocks.If r s o))) (Some t) e in
    let z = one_sizes I32 s.current.operands b.0 b.1 in
    lower_is s (opened blocks.If r s b.0) t b.2 (record { limit = omega (arith, z.height, z.size); number = omega arith })
step_low Else c s t h e =
    let b = bind_ok (ends s.current.result s.current.operands) (λ _. done (Some (parted s))) (Some t) e in
    lower_is s (parted s) t b.2 (record { limit = omega arith; number = omega arith })
step_low End c s t h e =
    let b = bind_ok (ends s.current.result s.current.operands) (λ _. unless s (missing s.current.block_kind s.current.result) >>= λ s. closed s (head_of s.outer)) (Some t) e in
    let d = bind_ok (unless s (missing s.current.block_kind s.current.result)) (λ s. closed s (head_of s.outer)) (Some t) b.2 in
    let u = unless_ok s d.0 (missing s.current.block_kind s.current.result) d.1 in
    let same : closed s (head_of s.outer) ≡ Ok (Some t) = subst (λ (v : Checker). closed v (head_of v.outer) ≡ Ok (Some t)) (sym u.1) d.2 in
    closed_low s t (head_of s.outer) same
step_low i c s t h e = plain_low i c s t e
