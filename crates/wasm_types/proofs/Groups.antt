-- Groups that can't be joined are those of their locals, and stay so when locals are put behind them.
use Rattle.std.proofs.Common.{◌≡◌, ℕ, zero, suc, ◌+◌, ◌<◌, ◌≤◌, Bool, true, false, List, [], ◌∷◌, ◌++◌, length, replicate, refl, sym, ap, ◌∙◌, arith, append_assoc}
use Rattle.std.specs.Prelude.{Result, Ok, Err, IfOk}
use Rattle.std.proofs.lemmas.List.{length-append, length-replicate, append-nil, replicate-append-replicate}
use Rattle.wasm_types.specs.declared.types.ValueType.{ValueType}
use Rattle.wasm_types.specs.declared.types.ValueType.TheVariants as types
use Rattle.wasm_types.specs.declared.locals.Group.{Group}
use Rattle.wasm_types.specs.Types.{same_type}
use Rattle.wasm_types.specs.Locals.{locals_of, one_more, groups_of, Differ, AreFewest}

pub same_self : (a : ValueType) → same_type a a ≡ true
same_self types.I32 = refl
same_self types.I64 = refl

pub same_is : (a b : ValueType) → same_type a b ≡ true → a ≡ b
same_is types.I32 types.I32 e = refl
same_is types.I32 types.I64 e = absurd cc
same_is types.I64 types.I32 e = absurd cc
same_is types.I64 types.I64 e = refl

abbrev pub group : ℕ → ValueType → Group
group count kind = record { count = count; kind = kind }

more_other : (kind : ValueType) (groups : List Group) → Differ kind groups → one_more kind groups ≡ group 1 kind ∷ groups
more_other kind [] d = refl
more_other kind (g ∷ groups) d = rw d refl

many : (n : ℕ) (kind : ValueType) (locals : List ValueType) (groups : List Group) → groups_of locals ≡ groups → Differ kind groups → groups_of (replicate (suc n) kind ++ locals) ≡ group (suc n) kind ∷ groups
unfolding groups_of
many zero kind locals groups e d = ap (one_more kind) e ∙ more_other kind groups d
many (suc n) kind locals groups e d =
    let same = same_self kind in
    let joined : one_more kind (group (suc n) kind ∷ groups) ≡ group (suc (suc n)) kind ∷ groups = rw same refl in
    ap (one_more kind) (many n kind locals groups e d) ∙ joined

some : (n : ℕ) (kind : ValueType) (locals : List ValueType) (groups : List Group) → 0 < n → groups_of locals ≡ groups → Differ kind groups → groups_of (replicate n kind ++ locals) ≡ group n kind ∷ groups
some zero kind locals groups p e d = absurd (omega (arith, p))
some (suc n) kind locals groups p e d = many n kind locals groups e d

pub groups_are : (groups : List Group) → AreFewest groups → groups_of (locals_of groups) ≡ groups
unfolding groups_of
groups_are [] h = refl
groups_are (g ∷ groups) h = some g.count g.kind (locals_of groups) groups h.0 (groups_are groups h.2) h.1

pub locals_behind : (xs ys : List Group) → locals_of (xs ++ ys) ≡ locals_of xs ++ locals_of ys
locals_behind [] ys = refl
locals_behind (x ∷ xs) ys = ap (λ (l : List ValueType). replicate x.count x.kind ++ l) (locals_behind xs ys) ∙ sym (append_assoc (replicate x.count x.kind) (locals_of xs) (locals_of ys))

last_is : (xs : List Group) (n : ℕ) (kind : ValueType) → locals_of (xs ++ group n kind ∷ []) ≡ locals_of xs ++ replicate n kind
last_is xs n kind = locals_behind xs (group n kind ∷ []) ∙ ap (λ (l : List ValueType). locals_of xs ++ l) (append-nil (replicate n kind))

-- the last group is longer
pub longer_locals : (xs : List Group) (m n : ℕ) (kind : ValueType) → locals_of (xs ++ group (m + n) kind ∷ []) ≡ locals_of (xs ++ group m kind ∷ []) ++ replicate n kind
longer_locals xs m n kind =
    last_is xs (m + n) kind
    ∙ ap (λ (l : List ValueType). locals_of xs ++ l) (sym (replicate-append-replicate m n kind))
    ∙ sym (append_assoc (locals_of xs) (replicate m kind) (replicate n kind))
    ∙ ap (λ (l : List ValueType). l ++ replicate n kind) (sym (last_is xs m kind))

differ_longer : (kind : ValueType) (xs : List Group) (m n : ℕ) (own : ValueType) → Differ kind (xs ++ group m own ∷ []) → Differ kind (xs ++ group n own ∷ [])
differ_longer kind [] m n own d = d
differ_longer kind (x ∷ xs) m n own d = d

pub longer_fewest : (xs : List Group) (m n : ℕ) (kind : ValueType) → AreFewest (xs ++ group m kind ∷ []) → AreFewest (xs ++ group (m + n) kind ∷ [])
longer_fewest [] m n kind h = let p = h.0 in (omega (arith, p), tt, tt)
longer_fewest (x ∷ xs) m n kind h = (h.0, differ_longer x.kind xs m (m + n) kind h.1, longer_fewest xs m n kind h.2)

pub last_length : (xs : List Group) (m : ℕ) (kind : ValueType) → m ≤ length (locals_of (xs ++ group m kind ∷ []))
last_length xs m kind =
    let same = ap (λ (l : List ValueType). length l) (last_is xs m kind) in
    omega (arith, same, length-append (locals_of xs) (replicate m kind), length-replicate m kind)

-- one more group
pub more_locals : (xs : List Group) (g : Group) (n : ℕ) (kind : ValueType) → locals_of ((xs ++ g ∷ []) ++ group n kind ∷ []) ≡ locals_of (xs ++ g ∷ []) ++ replicate n kind
more_locals xs g n kind = last_is (xs ++ g ∷ []) n kind

differ_more : (kind : ValueType) (xs : List Group) (g last : Group) → Differ kind (xs ++ g ∷ []) → Differ kind ((xs ++ g ∷ []) ++ last ∷ [])
differ_more kind [] g last d = d
differ_more kind (x ∷ xs) g last d = d

pub more_fewest : (xs : List Group) (g : Group) (n : ℕ) (kind : ValueType) → 0 < n → same_type g.kind kind ≡ false → AreFewest (xs ++ g ∷ []) → AreFewest ((xs ++ g ∷ []) ++ group n kind ∷ [])
more_fewest [] g n kind p d h = (h.0, d, (p, tt, tt))
more_fewest (x ∷ xs) g n kind p d h = (h.0, differ_more x.kind xs g (group n kind) h.1, more_fewest xs g n kind p d h.2)

-- what holds of a value leads on to what holds of it
pub ifok_one : {T E : Type 0} {P Q : T → Type 0} (r : Result T E) → IfOk r P → ((x : T) → P x → Q x) → IfOk r Q
ifok_one (Ok x) p so = so x p
ifok_one (Err e) p so = tt
