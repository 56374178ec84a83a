-- Locals in the fewest groups, and the code of functions.
use Rattle.std.proofs.Common.{◌≡◌, ◌⊎◌, ℕ, zero, suc, ◌+◌, ◌<◌, ◌≤◌, true, List, [], ◌∷◌, ◌++◌, length, replicate, refl, sym, ap, subst, arith, append_assoc, ◌∙◌, inl, inr}
use Rattle.std.specs.List.{flat_map}
use Rattle.std.proofs.lemmas.Bool.{cases_Bool}
use Rattle.std.proofs.lemmas.List.{length-append, length-replicate}
use Rattle.wasm_types.specs.declared.types.ValueType.{ValueType}
use Rattle.wasm_types.specs.declared.types.ValueType.TheVariants as types
use Rattle.wasm_types.specs.declared.types.FuncType.{FuncType}
use Rattle.wasm_types.specs.declared.modules.Code.{Code}
use Rattle.wasm_types.proofs.Groups.{same_self, same_is}
use Rattle.wasm_code.specs.Grammar.{AreMany, IsU32, IsValueType, IsExpression}
use Rattle.wasm_reader.specs.Grammar.{IsGroup, AreLocals, IsBody, AreBodies, AreCode, IsSized, params_of}
use Rattle.wasm_types.specs.declared.locals.Group.{Group}
use Rattle.wasm_types.specs.Types.{same_type}
use Rattle.wasm_types.specs.Locals.{locals_of, one_more, groups_of}
use Rattle.wasm_writer.specs.Numbers.{number_text}
use Rattle.wasm_writer.specs.Spelled.{vector_text, type_text, group_text, code_text, body_text, sized_body_text}
use Rattle.wasm_writer.proofs.Best.{IsBest, AreBest, best_nothing, best_after, best_given, best_many}
use Rattle.wasm_writer.proofs.BestNumbers.{u32_spells, u32_below, u32_best, number_fewer, sum_fewer}
use Rattle.wasm_writer.proofs.BestParts.{value_type_best, sized_best, expression_best}

-- ---- groups

group_best : AreBest IsGroup group_text
unfolding group_text
group_best g = best_after (λ b r. IsU32 b g.count r) (λ b r. IsValueType b g.kind r) (number_text g.count) (type_text g.kind) (u32_best g.count) (value_type_best g.kind)

more_locals : (kind : ValueType) (groups : List Group) → locals_of (one_more kind groups) ≡ kind ∷ locals_of groups
more_locals kind [] = refl
more_locals kind (g ∷ groups) =
    elim (cases_Bool (same_type kind g.kind)) [
      | inl t ↦ let same = same_is kind g.kind t in rw (t, same) refl
      | inr f ↦ rw f refl
    ]

-- the groups are those of the locals
groups_are : (locals : List ValueType) → locals_of (groups_of locals) ≡ locals
unfolding groups_of
groups_are [] = refl
groups_are (kind ∷ locals) = more_locals kind (groups_of locals) ∙ ap (λ (ts : List ValueType). kind ∷ ts) (groups_are locals)

-- ---- the groups are the fewest, and no others have fewer bytes

abbrev bytes_of : List Group → ℕ
bytes_of groups = length (flat_map group_text groups)

group_bytes : (g : Group) → length (group_text g) ≡ length (number_text g.count) + 1
unfolding group_text
group_bytes g = length-append (number_text g.count) (type_text g.kind)

more_bytes : (g : Group) (groups : List Group) → bytes_of (g ∷ groups) ≡ length (number_text g.count) + 1 + bytes_of groups
more_bytes g groups = omega (arith, length-append (group_text g) (flat_map group_text groups), group_bytes g)

-- so many locals of one type before these groups
abbrev many_more : ℕ → ValueType → List Group → List Group
many_more zero kind groups = groups
many_more (suc n) kind groups = one_more kind (many_more n kind groups)

many_more_is : (n : ℕ) (kind : ValueType) (locals : List ValueType) → groups_of (replicate n kind ++ locals) ≡ many_more n kind (groups_of locals)
unfolding groups_of
many_more_is zero kind locals = refl
many_more_is (suc n) kind locals = ap (one_more kind) (many_more_is n kind locals)

-- they are a group of their own, or join the first group
record Joins (n : ℕ) (kind : ValueType) (groups made : List Group) : Type 0 where
  pub old : ℕ
  pub tail : List Group
  pub is : made ≡ record { count = old + suc n; kind = kind } ∷ tail
  pub from : ((old ≡ 0) × (tail ≡ groups)) ⊎ (groups ≡ record { count = old; kind = kind } ∷ tail)

abbrev with_group : ℕ → ValueType → List Group → List Group
with_group count kind tail = record { count = count; kind = kind } ∷ tail

with_same : (a b : ℕ) (j k : ValueType) (tail : List Group) → a ≡ b → j ≡ k → with_group a j tail ≡ with_group b k tail
with_same a b j k tail p q = cc

one_joins : (kind : ValueType) (groups : List Group) → Joins 0 kind groups (one_more kind groups)
one_joins kind [] = record { old = 0; tail = []; is = refl; from = inl (refl, refl) }
one_joins kind (g ∷ groups) =
    elim (cases_Bool (same_type kind g.kind)) [
      | inl t ↦ record {
        old = g.count;
        tail = groups;
        is = rw t (with_same (suc g.count) (g.count + 1) g.kind kind groups (omega arith) (sym (same_is kind g.kind t)));
        from = inr (with_same g.count g.count g.kind kind groups refl (sym (same_is kind g.kind t)));
      }
      | inr f ↦ record { old = 0; tail = g ∷ groups; is = rw f refl; from = inl (refl, refl) }
    ]

many_join : (n : ℕ) (kind : ValueType) (groups : List Group) → Joins n kind groups (many_more (suc n) kind groups)
many_join zero kind groups = one_joins kind groups
many_join (suc n) kind groups =
    let inner = many_join n kind groups in
    let same = same_self kind in
    record {
      old = inner.old;
      tail = inner.tail;
      is = ap (one_more kind) inner.is ∙ rw same (with_same (suc (inner.old + suc n)) (inner.old + suc (suc n)) kind kind inner.tail (omega arith) refl);
      from = inner.from;
    }

-- what they cost at most
record Costs (n : ℕ) (groups made : List Group) : Type 0 where
  pub count : length made ≤ suc (length groups)
  pub bytes : bytes_of made ≤ length (number_text n) + 1 + bytes_of groups

joins_cost : (n : ℕ) (kind : ValueType) (groups made : List Group) → Joins n kind groups made → Costs (suc n) groups made
joins_cost n kind groups made j = elim j.from [
  | inl own ↦
      let first : Group = record { count = j.old + suc n; kind = kind } in
      let bytes = more_bytes first j.tail in
      let number : j.old + suc n ≡ suc n = omega (arith, own.0) in
      record {
        count = rw (j.is, own.1) (omega arith);
        bytes = rw (j.is, bytes, own.1, number) (omega arith);
      }
  | inr with_first ↦
      let first : Group = record { count = j.old + suc n; kind = kind } in
      let old : Group = record { count = j.old; kind = kind } in
      let bytes = more_bytes first j.tail in
      let before = more_bytes old j.tail in
      let fewer = sum_fewer j.old (suc n) in
      record {
        count = rw (j.is, with_first) (omega arith);
        bytes = rw (j.is, with_first, bytes, before) (omega (arith, fewer));
      }
]

many_cost : (n : ℕ) (kind : ValueType) (groups : List Group) → Costs n groups (many_more n kind groups)
many_cost zero kind groups = record { count = omega arith; bytes = omega arith }
many_cost (suc n) kind groups = joins_cost n kind groups (many_more (suc n) kind groups) (many_join n kind groups)

fewest_groups : (groups : List Group) → (length (groups_of (locals_of groups)) ≤ length groups) × (bytes_of (groups_of (locals_of groups)) ≤ bytes_of groups)
unfolding groups_of
fewest_groups [] = (omega arith, omega arith)
fewest_groups (g ∷ groups) =
    let inner = fewest_groups groups in
    let cost = many_cost g.count g.kind (groups_of (locals_of groups)) in
    let bytes = more_bytes g groups in
    let same = many_more_is g.count g.kind (locals_of groups) in
    (rw same (omega (arith, inner.0, cost.count)), rw same (omega (arith, inner.1, cost.bytes, bytes)))

-- ---- locals

type_spells : (kind : ValueType) (after : List ℕ) → IsValueType (type_text kind ++ after) kind after
type_spells types.I32 after = refl
type_spells types.I64 after = refl

group_spells : (g : Group) (after : List ℕ) → g.count < 4294967296 → IsGroup (group_text g ++ after) g after
unfolding group_text
group_spells g after fits =
    (type_text g.kind ++ after, subst (λ (whole : List ℕ). IsU32 whole g.count (type_text g.kind ++ after)) (sym (append_assoc (number_text g.count) (type_text g.kind) after)) (u32_spells g.count (type_text g.kind ++ after) fits), type_spells g.kind after)

groups_spell : (groups : List Group) (after : List ℕ) → length (locals_of groups) < 4294967296 → AreMany IsGroup (flat_map group_text groups ++ after) groups after
groups_spell [] after fits = refl
groups_spell (g ∷ groups) after fits =
    let count = length-append (replicate g.count g.kind) (locals_of groups) in
    let own = length-replicate g.count g.kind in
    let others = flat_map group_text groups in
    (others ++ after, subst (λ (whole : List ℕ). IsGroup whole g (others ++ after)) (sym (append_assoc (group_text g) others after)) (group_spells g (others ++ after) (omega (arith, fits, count, own))), groups_spell groups after (omega (arith, fits, count)))

locals_best : (locals : List ValueType) → length locals ≤ 4096 → IsBest (λ bytes rest. AreLocals bytes locals rest) (vector_text group_text (groups_of locals))
unfolding vector_text
locals_best locals few bytes rest all is =
    let given = is.0 in
    let mid = is.1 in
    let size = u32_best (length given) bytes mid all is.2 in
    let many = best_many IsGroup group_text group_best given mid rest size.octets is.3 in
    let below = u32_below bytes mid (length given) all is.2 in
    let least = subst (λ (ls : List ValueType). (length (groups_of ls) ≤ length given) × (bytes_of (groups_of ls) ≤ bytes_of given)) (sym is.4) (fewest_groups given) in
    let made = groups_of locals in
    let number = number_text (length made) in
    let text = flat_map group_text made in
    let same = groups_are locals in
    let fits : length (locals_of made) < 4294967296 = rw same (omega (arith, few)) in
    record {
      spells = λ after. (made, text ++ after, subst (λ (whole : List ℕ). IsU32 whole (length made) (text ++ after)) (sym (append_assoc number text after)) (u32_spells (length made) (text ++ after) (omega (arith, below, least.0))), groups_spell made after fits, sym same);
      fewest = omega (arith, size.fewest, many.fewest, least.1, number_fewer (length made) (length given) least.0, length-append number text);
      octets = many.octets;
    }

-- ---- bodies

-- a fact that stands before the bytes bears on them
best_under : (Is : List ℕ → List ℕ → Type 0) (Fact : Type 0) (text : List ℕ) → (Fact → IsBest Is text) → IsBest (λ bytes rest. Fact × Is bytes rest) text
best_under Is Fact text best bytes rest all is = best_given Is Fact text (best is.0) bytes rest all is

body_best : (params : ℕ) → AreBest (IsBody params) body_text
unfolding body_text
body_best params c =
    let locals = vector_text group_text (groups_of c.locals) in
    best_under (λ b r. (mid : List ℕ) × AreLocals b c.locals mid × IsExpression mid c.body r) (params + length c.locals ≤ 4096) (locals ++ code_text c.body) (λ few.
    best_after (λ b r. AreLocals b c.locals r) (λ b r. IsExpression b c.body r) locals (code_text c.body) (locals_best c.locals (omega (arith, few))) (expression_best c.body))

sized_body_best : (params : ℕ) → AreBest (IsSized (IsBody params)) sized_body_text
unfolding sized_body_text
sized_body_best params c = sized_best (IsBody params) c (body_text c) (body_best params c)

bodies_best : (kinds : List FuncType) (functions : List ℕ) (index : ℕ) (cs : List Code) → IsBest (λ bytes rest. AreBodies kinds functions index bytes cs rest) (flat_map sized_body_text cs)
bodies_best kinds functions index [] bytes rest all is = best_nothing bytes rest all is
bodies_best kinds functions index (c ∷ cs) bytes rest all is =
    best_after (λ b r. IsSized (IsBody (params_of kinds functions index)) b c r) (λ b r. AreBodies kinds functions (suc index) b cs r) (sized_body_text c) (flat_map sized_body_text cs) (sized_body_best (params_of kinds functions index) c) (bodies_best kinds functions (suc index) cs) bytes rest all is

pub code_best : (kinds : List FuncType) (functions : List ℕ) → AreBest (AreCode kinds functions) (vector_text sized_body_text)
unfolding vector_text
code_best kinds functions cs =
    let number = number_text (length cs) in
    let bodies = flat_map sized_body_text cs in
    best_given (λ b r. (mid : List ℕ) × IsU32 b (length cs) mid × AreBodies kinds functions 0 mid cs r) (length cs ≤ 65536) (number ++ bodies) (
    best_after (λ b r. IsU32 b (length cs) r) (λ b r. AreBodies kinds functions 0 b cs r) number bodies (u32_best (length cs)) (bodies_best kinds functions 0 cs))
