-- Fuel that is given in two parts.
use Rattle.std.proofs.Common.{◌≡◌, ℕ, zero, suc, ◌+◌, refl, sym, ap, ◌∙◌, arith, zero-add, suc-add, Bool, true, false, if◌then◌else◌, Option, Some, None, Result, Ok, Err, List, [], ◌∷◌, ◌++◌}
use Rattle.wasm_types.specs.declared.values.Value.{Value}
use Rattle.wasm_types.specs.Nested.{Body, Done, Goes, InBlock, InLoop, InIf, InIfElse}
use Rattle.wasm_meaning.specs.declared.off.Off.{Off}
use Rattle.wasm_meaning.specs.World.{World}
use Rattle.wasm_meaning.specs.Frames.{Label, Frame, Program, State}
use Rattle.wasm_meaning.specs.Meaning.{step}
use Rattle.wasm_meaning.specs.Runs.{Ended, Returned, settled_in, standing, is_done, back, settled, next, dry, gone, fed, runs, continued}

-- ---- what has settled stays so

stands : (ls : List Label) (vs : List Value) (b : Body) (f : Frame) → standing (settled_in ls vs b f) ≡ settled_in ls vs b f
stands [] vs b f = refl
stands (l ∷ ls) vs Done f = stands ls (vs ++ l.below) l.rest f
stands (l ∷ ls) vs (Goes i p rest) f = refl
stands (l ∷ ls) vs (InBlock r inner rest) f = refl
stands (l ∷ ls) vs (InLoop r inner rest) f = refl
stands (l ∷ ls) vs (InIf r inner rest) f = refl
stands (l ∷ ls) vs (InIfElse r first second rest) f = refl

-- where a call stands that has callers
abbrev in_callers : World → Frame → List Frame → Frame → State
in_callers w c cs g = if is_done g.body then settled w cs (back g c) else record { frame = g; callers = c ∷ cs; world = w }

stays : (w : World) (cs : List Frame) (f : Frame) → next (settled w cs f) ≡ settled w cs f
stays w [] f = ap (λ (g : Frame). let s : State = record { frame = g; callers = []; world = w } in s) (stands f.labels f.operands f.body f)
stays w (c ∷ cs) f = by_end (stays w cs (back (standing f) c)) (is_done (standing f).body) refl
  where
    by_end : next (settled w cs (back (standing f) c)) ≡ settled w cs (back (standing f) c) → (b : Bool) → is_done (standing f).body ≡ b
        → next (if b then settled w cs (back (standing f) c) else record { frame = standing f; callers = c ∷ cs; world = w })
        ≡ (if b then settled w cs (back (standing f) c) else record { frame = standing f; callers = c ∷ cs; world = w })
    by_end rest true e = rest
    by_end rest false e =
        ap (in_callers w c cs) (stands f.labels f.operands f.body f)
        ∙ ap (λ (b : Bool). if b then settled w cs (back (standing f) c) else record { frame = standing f; callers = c ∷ cs; world = w }) e

next_next : (s : State) → next (next s) ≡ next s
next_next s = stays s.world s.callers s.frame

runs_next : (n : ℕ) (p : Program) (s : State) → runs n p (next s) ≡ runs n p s
runs_next zero p s = ap (λ (t : State). dry (is_done t.frame.body) t) (next_next s)
runs_next (suc n) p s = ap (λ (t : State). fed p (runs n p) n (is_done t.frame.body) t) (next_next s)

-- ---- by the first part

returns : (n : ℕ) (p : Program) (t : State) → is_done t.frame.body ≡ true → next t ≡ t → runs n p t ≡ record { ending = Returned; left = 0 + n; state = t }
returns zero p t e same = ap (λ (u : State). dry (is_done u.frame.body) u) same ∙ ap (λ (b : Bool). dry b t) e
returns (suc n) p t e same =
    ap (λ (u : State). fed p (runs n p) n (is_done u.frame.body) u) same
    ∙ ap (λ (b : Bool). fed p (runs n p) n b t) e
    ∙ ap (λ (k : ℕ). let s : Ended = record { ending = Returned; left = k; state = t } in s) (omega arith)

after_dry : (b : Bool) (t : State) (n : ℕ) (p : Program) → is_done t.frame.body ≡ b → next t ≡ t → runs n p t ≡ continued (dry b t).ending p n (dry b t)
after_dry true t n p e same = returns n p t e same
after_dry false t n p e same = refl

after_gone : (m n : ℕ) (p : Program) (t : State) (r : Result (Option ℕ × State) Off) → ((s : State) → runs (m + n) p s ≡ continued (runs m p s).ending p n (runs m p s))
    → gone p (runs (m + n) p) (m + n) t r ≡ continued (gone p (runs m p) m t r).ending p n (gone p (runs m p) m t r)
after_gone m n p t (Ok (None, after)) hyp = hyp after
after_gone m n p t (Ok (Some x, after)) hyp = refl
after_gone m n p t (Err e) hyp = refl

after_fed : (m n : ℕ) (p : Program) (t : State) (b : Bool) → ((s : State) → runs (m + n) p s ≡ continued (runs m p s).ending p n (runs m p s))
    → fed p (runs (m + n) p) (m + n) b t ≡ continued (fed p (runs m p) m b t).ending p n (fed p (runs m p) m b t)
after_fed m n p t true hyp = ap (λ (k : ℕ). let s : Ended = record { ending = Returned; left = k; state = t } in s) (omega arith)
after_fed m n p t false hyp = after_gone m n p t (step p t.frame.body t.frame t) hyp

pub adds : (m n : ℕ) (p : Program) (s : State) → runs (m + n) p s ≡ continued (runs m p s).ending p n (runs m p s)
adds zero n p s =
    ap (λ (k : ℕ). runs k p s) (zero-add n) ∙ sym (runs_next n p s) ∙ after_dry (is_done (next s).frame.body) (next s) n p refl (next_next s)
adds (suc m) n p s = ap (λ (k : ℕ). runs k p s) (suc-add m n) ∙ after_fed m n p (next s) (is_done (next s).frame.body) (adds m n p)
