-- Lists of numbers in the memory of a guest.
use Rattle.std.proofs.Common.{◌≡◌, ◌∙◌, ℕ, zero, suc, ◌+◌, ◌-◌, ◌<◌, ◌&&◌, not, Bool, true, false, List, [], ◌∷◌, ◌++◌, Bor, refl, sym, ap, arith}
use Rattle.std.specs.Prelude.{Option, None, Some, is_some, option_copied}
use Rattle.std.specs.List.{list_all}
use Rattle.std.proofs.lemmas.List.{append_assoc}
use Rattle.wasm_memory.specs.Linear.{Linear}
use Rattle.edge_abi.specs.Tables.{held}
use Rattle.edge_pending.specs.Choices.{word_at, words, is_held}
use Rattle.edge_pending.specs.declared.tables.Pending.{Pending}

words_step : (m : Linear) (place left : ℕ) → 0 < left → words m place left ≡ word_at m place ∷ words m (place + 4) (left - 1)
words_step m place zero some = absurd (omega (arith, some))
words_step m place (suc left) some = let same : suc left - 1 ≡ left = omega arith in ap (λ (k : ℕ). word_at m place ∷ words m (place + 4) k) (sym same)

copied_some : (found : Option (Bor Pending)) → is_some (option_copied found) ≡ is_some found
copied_some None = refl
copied_some (Some pending) = refl

-- a handle that the code finds
pub held_by : (table : List (Option Pending)) (found : Option (Bor Pending)) (n handle : ℕ) (none : Bool) → option_copied found ≡ held table n → n ≡ handle → is_some found ≡ not none → none ≡ false
    → is_held table handle ≡ true
held_by table found n handle none is same some not_none =
    ap (λ (k : ℕ). is_some (held table k)) (sym same) ∙ (ap (λ (x : Option Pending). is_some x) (sym is) ∙ (copied_some found ∙ (some ∙ ap not not_none)))

-- behind a handle that names something
pub all_step : (table : List (Option Pending)) (m : Linear) (place left : ℕ) → 0 < left → is_held table (word_at m place) ≡ true
    → list_all (is_held table) (words m (place + 4) (left - 1)) ≡ list_all (is_held table) (words m place left)
all_step table m place left some is =
    sym
    (ap (λ (l : List ℕ). list_all (is_held table) l) (words_step m place left some)
    ∙ ap (λ (b : Bool). b && list_all (is_held table) (words m (place + 4) (left - 1))) is)

-- one number more
pub more : (m : Linear) (place left : ℕ) (had now : List ℕ) (n : ℕ) → 0 < left → n ≡ word_at m place → now ≡ had ++ n ∷ []
    → now ++ words m (place + 4) (left - 1) ≡ had ++ words m place left
more m place left had now n some is pushed =
    let rest = words m (place + 4) (left - 1) in
    ap (λ (l : List ℕ). l ++ rest) pushed
    ∙ (append_assoc had (n ∷ []) rest ∙ (ap (λ (k : ℕ). had ++ k ∷ rest) is ∙ ap (λ (l : List ℕ). had ++ l) (sym (words_step m place left some))))
