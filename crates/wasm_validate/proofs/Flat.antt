-- Checking a flat list of nested instructions is checking the nested instructions.
use Rattle.std.proofs.Common.{◌≡◌, ℕ, ◌+◌, Option, Some, None, Result, Ok, Err, List, [], ◌∷◌, refl, ◌∙◌}
use Rattle.wasm_types.specs.declared.types.ValueType.{ValueType}
use Rattle.wasm_types.specs.declared.types.ValueType.TheVariants.{I32}
use Rattle.wasm_types.specs.declared.instructions.Instr.{Instr}
use Rattle.wasm_types.specs.declared.instructions.Instr.TheVariants.{Block, Loop, If, Else, End}
use Rattle.wasm_types.specs.Nested.{role_of, Plain, Body, Done, Goes, InBlock, InLoop, InIf, InIfElse, flat_onto, Nests}
use Rattle.wasm_validate.specs.declared.fault.ValidKind.{ValidKind}
use Rattle.wasm_validate.specs.declared.operands.Operands.{Operands}
use Rattle.wasm_validate.specs.declared.checker.BlockKind.TheVariants as blocks
use Rattle.wasm_validate.specs.declared.checker.Checker.{Checker}
use Rattle.wasm_validate.specs.Lists.{head_of}
use Rattle.wasm_validate.specs.Steps.{◌>>=◌, unless, told}
use Rattle.wasm_validate.specs.Rules.{Context}
use Rattle.wasm_validate.specs.Operands.{take_one, plain, none, fresh, again, ends, missing, given}
use Rattle.wasm_validate.specs.Scanning.{with_operands, passed, opened, parted, closed, step, told_at, scan, outset}
use Rattle.wasm_validate.specs.Walking.{walk, walk_body}
use Rattle.wasm_validate.proofs.Results.{stepped, same_after, chained, closing, closing_if}

-- the open blocks after a sequence
abbrev pub reached : Checker → ℕ × Operands → Checker
reached s e = record s { number = e.0; current = with_operands s.current e.1 }

plain_step : (i : Instr) (c : Context) (s : Checker) → role_of i ≡ Plain → step i c s ≡ (plain c s.labels i s.current.operands >>= λ o. Ok (Some (passed s o)))
plain_step (Block r) c s p = absurd cc
plain_step (Loop r) c s p = absurd cc
plain_step (If r) c s p = absurd cc
plain_step Else c s p = absurd cc
plain_step End c s p = absurd cc
plain_step i c s p = refl

plain_number : (i : Instr) (s : Checker) → role_of i ≡ Plain → told_at i s ≡ s.number
plain_number Else s p = absurd cc
plain_number End s p = absurd cc
plain_number i s p = refl

-- the end of an if without an else
if_end : (r : Option ValueType) (rest : Body) (after : List Instr) (c : Context) (s : Checker) (o : Operands) (e : ℕ × Operands)
    → ((p : Operands) → scan (flat_onto rest after) c (Some (reached s (e.0, p))) ≡ (walk rest c s.labels e.0 p >>= λ e. scan after c (Some (reached s e))))
    → scan (End ∷ flat_onto rest after) c (Some (reached (opened blocks.If r s o) e))
    ≡ ((told s.number (ends r e.1 >>= λ _. unless o (missing blocks.If r) >>= given r) >>= λ p. walk rest c s.labels e.0 p) >>= λ e. scan after c (Some (reached s e)))
if_end r rest after c s o e h =
    let s1 = reached (opened blocks.If r s o) e in
    closing_if s.number (ends r e.1) (missing blocks.If r) s1 o (λ t. closed t (head_of t.outer)) (given r) (λ p. Some (reached s (e.0, p))) (scan (flat_onto rest after) c) (λ p. walk rest c s.labels e.0 p) (λ e. scan after c (Some (reached s e))) refl h

-- the end of an if with an else
else_end : (r : Option ValueType) (second rest : Body) (after : List Instr) (c : Context) (s : Checker) (o : Operands) (e : ℕ × Operands)
    → ((t : Checker) → scan (flat_onto second (End ∷ flat_onto rest after)) c (Some t) ≡ (walk second c t.labels t.number t.current.operands >>= λ e. scan (End ∷ flat_onto rest after) c (Some (reached t e))))
    → ((e : ℕ × Operands) → scan (flat_onto rest after) c (Some (reached s e)) ≡ (walk rest c s.labels e.0 e.1 >>= λ e. scan after c (Some (reached s e))))
    → scan (Else ∷ flat_onto second (End ∷ flat_onto rest after)) c (Some (reached (opened blocks.If r s o) e))
    ≡ ((told s.number (ends r e.1) >>= λ _. walk second c (r ∷ s.labels) e.0 (again e.1) >>= λ e. told s.number (ends r e.1 >>= λ _. given r o) >>= λ p. walk rest c s.labels e.0 p) >>= λ e. scan after c (Some (reached s e)))
else_end r second rest after c s o e h k =
    let s1 = parted (reached (opened blocks.If r s o) e) in
    stepped s.number (ends r e.1) (λ _. Some s1) (scan (flat_onto second (End ∷ flat_onto rest after)) c)
    (λ _. walk second c (r ∷ s.labels) e.0 (again e.1) >>= λ e. told s.number (ends r e.1 >>= λ _. given r o) >>= λ p. walk rest c s.labels e.0 p)
    (λ e. scan after c (Some (reached s e)))
    (λ _. h s1
    ∙ chained (walk second c (r ∷ s.labels) e.0 (again e.1)) (λ e. scan (End ∷ flat_onto rest after) c (Some (reached s1 e)))
    (λ e. told s.number (ends r e.1 >>= λ _. given r o) >>= λ p. walk rest c s.labels e.0 p)
    (λ e. scan after c (Some (reached s e)))
    (λ e. closing s.number (ends r e.1) (given r o) (λ p. Some (reached s (e.0, p))) (scan (flat_onto rest after) c) (λ p. walk rest c s.labels e.0 p) (λ e. scan after c (Some (reached s e)))
    (λ p. k (e.0, p))))

pub scan_walk : (body : Body) (after : List Instr) (c : Context) (s : Checker) → scan (flat_onto body after) c (Some s) ≡ (walk body c s.labels s.number s.current.operands >>= λ e. scan after c (Some (reached s e)))
scan_walk Done after c s = refl
scan_walk (Goes i p rest) after c s =
    rw (plain_step i c s p, plain_number i s p)
    (stepped s.number (plain c s.labels i s.current.operands) (λ o. Some (passed s o)) (scan (flat_onto rest after) c) (λ o. walk rest c s.labels (s.number + 1) o) (λ e. scan after c (Some (reached s e)))
    (λ o. scan_walk rest after c (passed s o)))
scan_walk (InBlock r inner rest) after c s =
    let o = s.current.operands in
    let s1 = opened blocks.Block r s o in
    scan_walk inner (End ∷ flat_onto rest after) c s1
    ∙ chained (walk inner c (r ∷ s.labels) (s.number + 1) (fresh o)) (λ e. scan (End ∷ flat_onto rest after) c (Some (reached s1 e)))
    (λ e. told s.number (ends r e.1 >>= λ _. given r o) >>= λ p. walk rest c s.labels e.0 p)
    (λ e. scan after c (Some (reached s e)))
    (λ e. closing s.number (ends r e.1) (given r o) (λ p. Some (reached s (e.0, p))) (scan (flat_onto rest after) c) (λ p. walk rest c s.labels e.0 p) (λ e. scan after c (Some (reached s e)))
    (λ p. scan_walk rest after c (reached s (e.0, p))))
scan_walk (InLoop r inner rest) after c s =
    let o = s.current.operands in
    let s1 = opened blocks.Loop r s o in
    scan_walk inner (End ∷ flat_onto rest after) c s1
    ∙ chained (walk inner c (None ∷ s.labels) (s.number + 1) (fresh o)) (λ e. scan (End ∷ flat_onto rest after) c (Some (reached s1 e)))
    (λ e. told s.number (ends r e.1 >>= λ _. given r o) >>= λ p. walk rest c s.labels e.0 p)
    (λ e. scan after c (Some (reached s e)))
    (λ e. closing s.number (ends r e.1) (given r o) (λ p. Some (reached s (e.0, p))) (scan (flat_onto rest after) c) (λ p. walk rest c s.labels e.0 p) (λ e. scan after c (Some (reached s e)))
    (λ p. scan_walk rest after c (reached s (e.0, p))))
scan_walk (InIf r inner rest) after c s =
    stepped s.number (take_one I32 s.current.operands) (λ o. Some (opened blocks.If r s o)) (scan (flat_onto inner (End ∷ flat_onto rest after)) c)
    (λ o. walk inner c (r ∷ s.labels) (s.number + 1) (fresh o) >>= λ e. told s.number (ends r e.1 >>= λ _. unless o (missing blocks.If r) >>= given r) >>= λ o. walk rest c s.labels e.0 o)
    (λ e. scan after c (Some (reached s e)))
    (λ o. scan_walk inner (End ∷ flat_onto rest after) c (opened blocks.If r s o)
    ∙ chained (walk inner c (r ∷ s.labels) (s.number + 1) (fresh o)) (λ e. scan (End ∷ flat_onto rest after) c (Some (reached (opened blocks.If r s o) e)))
    (λ e. told s.number (ends r e.1 >>= λ _. unless o (missing blocks.If r) >>= given r) >>= λ o. walk rest c s.labels e.0 o)
    (λ e. scan after c (Some (reached s e)))
    (λ e. if_end r rest after c s o e (λ p. scan_walk rest after c (reached s (e.0, p)))))
scan_walk (InIfElse r first second rest) after c s =
    let tail = Else ∷ flat_onto second (End ∷ flat_onto rest after) in
    stepped s.number (take_one I32 s.current.operands) (λ o. Some (opened blocks.If r s o)) (scan (flat_onto first tail) c)
    (λ o. walk first c (r ∷ s.labels) (s.number + 1) (fresh o) >>= λ e. told s.number (ends r e.1) >>= λ _. walk second c (r ∷ s.labels) e.0 (again e.1) >>= λ e. told s.number (ends r e.1 >>= λ _. given r o) >>= λ p. walk rest c s.labels e.0 p)
    (λ e. scan after c (Some (reached s e)))
    (λ o. scan_walk first tail c (opened blocks.If r s o)
    ∙ chained (walk first c (r ∷ s.labels) (s.number + 1) (fresh o)) (λ e. scan tail c (Some (reached (opened blocks.If r s o) e)))
    (λ e. told s.number (ends r e.1) >>= λ _. walk second c (r ∷ s.labels) e.0 (again e.1) >>= λ e. told s.number (ends r e.1 >>= λ _. given r o) >>= λ p. walk rest c s.labels e.0 p)
    (λ e. scan after c (Some (reached s e)))
    (λ e. else_end r second rest after c s o e (λ t. scan_walk second (End ∷ flat_onto rest after) c t) (λ e. scan_walk rest after c (reached s e))))

-- the whole body of a function
whole : (c : Context) (n : ℕ) (x : Result Operands ValidKind) → (told n (x >>= λ _. Ok (let o : Option Checker = None in o)) >>= scan [] c) ≡ (told n x >>= λ _. Ok tt)
whole c n (Ok p) = refl
whole c n (Err k) = refl

pub scan_body : (c : Context) (code : List Instr) (body : Body) → Nests code body → scan code c (Some (outset c.result)) ≡ walk_body c body
scan_body c code body nests =
    rw nests
    (scan_walk body (End ∷ []) c (outset c.result)
    ∙ same_after (walk body c (c.result ∷ []) 0 none) (λ e. scan (End ∷ []) c (Some (reached (outset c.result) e))) (λ e. told e.0 (ends c.result e.1) >>= λ _. Ok tt) (λ e. whole c e.0 (ends c.result e.1)))
