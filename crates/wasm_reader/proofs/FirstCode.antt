-- Code tells its first fault; the one exception is a count of groups that is cut off behind too many parameters.
use Rattle.std.proofs.Common.{◌≡◌, ℕ, zero, suc, true, false, ltb, List, [], ◌∷◌, ◌++◌, Ok, Err, refl, sym, ap, ◌∙◌, ◌⊎◌, inl, inr, append_assoc}
use Rattle.std.proofs.lemmas.Bool.{cases_Bool}
use Rattle.wasm_types.specs.declared.types.ValueType.{ValueType}
use Rattle.wasm_types.specs.declared.types.FuncType.{FuncType}
use Rattle.wasm_types.specs.declared.instructions.Instr.{Instr}
use Rattle.wasm_types.specs.declared.modules.Code.{Code}
use Rattle.wasm_code.specs.declared.fault.ReadKind.{ReadKind}
use Rattle.wasm_code.specs.declared.fault.ReadKind.TheVariants.{BadLeb, TooLarge}
use Rattle.wasm_code.specs.declared.fault.ReadFault.{ReadFault}
use Rattle.wasm_code.specs.declared.scope.Scope.{Scope}
use Rattle.wasm_code.specs.Reading.{Reading, ◌>>=◌, fault_at, short_of, unsigned_at, u32_at, count_at}
use Rattle.wasm_code.specs.Instructions.{expression_at}
use Rattle.wasm_code.proofs.FirstSequences.{TakesFront, done, mapped}
use Rattle.wasm_code.proofs.FirstNumbers.{unsigned_fails, u32_reads}
use Rattle.wasm_code.proofs.FirstInstructions.{u32_nil, count_reads}
use Rattle.wasm_code.proofs.FirstExpressions.{expression_reads}
use Rattle.wasm_reader.specs.Grammar.{params_of}
use Rattle.wasm_reader.specs.Sections.{sized_at, crowded_at, groups_at, locals_from, locals_at, body_at, bodies_at, code_section_at}
use Rattle.wasm_reader.specs.FirstFault.{IsCut, IsNotMended, IsCutCount, IsFirstBut}
use Rattle.wasm_reader.proofs.FirstCarried.{failed, same_fault, fault_no_value, Tells, tells_plainly, after}
use Rattle.wasm_reader.proofs.FirstContent.{cases}
use Rattle.wasm_reader.proofs.FirstSized.{as_is, body_reads}
use Rattle.wasm_reader.proofs.FirstParts.{locals_reads}

-- ---- the count of groups

groups_few : (params : ℕ) → ltb 4096 params ≡ false → (s : Scope) (bytes : List ℕ) → groups_at params s bytes ≡ u32_at s bytes
unfolding groups_at
groups_few params few s [] = sym (u32_nil s)
groups_few params few s (b ∷ bytes) = rw few refl

groups_many : (params : ℕ) → ltb 4096 params ≡ true → (s : Scope) (b : ℕ) (bytes : List ℕ) → groups_at params s (b ∷ bytes) ≡ crowded_at s (b ∷ bytes)
unfolding groups_at
groups_many params many s b bytes = rw many refl

groups_nil : (params : ℕ) (s : Scope) → groups_at params s [] ≡ Err (short_of s)
unfolding groups_at
groups_nil params s = refl

abbrev large : Scope → Scope
large s = record { end = s.end; short = TooLarge }

-- a count that is a number, or isn't one, or is cut off
crowded_number : (s : Scope) (bytes rest : List ℕ) (n : ℕ) → u32_at (large s) bytes ≡ Ok (n, rest) → crowded_at s bytes ≡ Err (fault_at TooLarge s bytes)
unfolding crowded_at
crowded_number s bytes rest n e = rw e refl

crowded_bad : (s : Scope) (bytes : List ℕ) → unsigned_at (fault_at BadLeb s bytes) (short_of (large s)) 4294967296 bytes ≡ Err (fault_at BadLeb s bytes) → crowded_at s bytes ≡ Err (fault_at BadLeb s bytes)
unfolding crowded_at u32_at
crowded_bad s bytes e = rw e refl

crowded_cut : (s : Scope) (bytes : List ℕ) → unsigned_at (fault_at BadLeb s bytes) (short_of (large s)) 4294967296 bytes ≡ Err (short_of (large s)) → crowded_at s bytes ≡ Err (fault_at TooLarge s bytes)
unfolding crowded_at u32_at
crowded_cut s bytes e = rw e refl

abbrev number_at : ReadFault → ReadFault → List ℕ → Reading ℕ
number_at bad short bytes = unsigned_at bad short 4294967296 bytes

number_is : (s : Scope) (bytes : List ℕ) → u32_at s bytes ≡ number_at (fault_at BadLeb s bytes) (short_of s) bytes
unfolding u32_at
number_is s bytes = refl

-- in any scope one of the two faults
crowded_any : (s : Scope) (bytes : List ℕ) → (crowded_at s bytes ≡ Err (fault_at TooLarge s bytes)) ⊎ (crowded_at s bytes ≡ Err (fault_at BadLeb s bytes))
crowded_any s bytes =
    elim (cases (u32_at (large s) bytes)) [
      | inl ok ↦ inl (crowded_number s bytes ok.0.1 ok.0.0 ok.1)
      | inr err ↦
          (let whole : number_at (fault_at BadLeb s bytes) (short_of (large s)) bytes ≡ Err err.0 = sym (number_is (large s) bytes) ∙ err.1 in
          elim (unsigned_fails (fault_at BadLeb s bytes) (short_of (large s)) 4294967296 bytes err.0 whole) [
            | inl bad ↦ inr (crowded_bad s bytes (whole ∙ ap (λ (d : ReadFault). failed d) bad.0))
            | inr cut ↦ inl (crowded_cut s bytes (whole ∙ ap (λ (d : ReadFault). failed d) cut.0))
          ])
    ]

abbrev GroupsTold : ℕ → ReadKind → List ℕ → Type 0
GroupsTold params kind bytes = IsNotMended (groups_at params) kind [] bytes ⊎ IsCutCount (groups_at params) kind [] bytes

crowd : (params : ℕ) → ltb 4096 params ≡ true → (scope : Scope) (b : ℕ) (bytes : List ℕ) → (kind : ReadKind) × (crowded_at scope (b ∷ bytes) ≡ Err (fault_at kind scope (b ∷ bytes))) × GroupsTold params kind (b ∷ bytes)
crowd params many scope b bytes =
    let all = b ∷ bytes in
    elim (cases (u32_at (large scope) all)) [
      | inl ok ↦
          (let t = u32_reads.takes (large scope) all ok.0.1 ok.0.0 ok.1 in (
            TooLarge,
            crowded_number scope all ok.0.1 ok.0.0 ok.1,
            inl (λ s more.
                (let whole : t.0 ++ (ok.0.1 ++ more) ≡ all ++ more = sym (append_assoc t.0 ok.0.1 more) ∙ ap (λ (l : List ℕ). l ++ more) (sym t.1) in
                groups_many params many s b (bytes ++ more) ∙ crowded_number s (all ++ more) (ok.0.1 ++ more) ok.0.0 (ap (u32_at (large s)) (sym whole) ∙ t.2 (large s) (ok.0.1 ++ more)))),
          ))
      | inr err ↦
          (let whole : number_at (fault_at BadLeb scope all) (short_of (large scope)) all ≡ Err err.0 = sym (number_is (large scope) all) ∙ err.1 in
          elim (unsigned_fails (fault_at BadLeb scope all) (short_of (large scope)) 4294967296 all err.0 whole) [
            | inl bad ↦ (
              BadLeb,
              crowded_bad scope all (whole ∙ ap (λ (d : ReadFault). failed d) bad.0),
              inl (λ s more. groups_many params many s b (bytes ++ more) ∙ crowded_bad s (all ++ more) (bad.1 (fault_at BadLeb s (all ++ more)) (short_of (large s)) more)),
            )
            | inr cut ↦ (
              TooLarge,
              crowded_cut scope all (whole ∙ ap (λ (d : ReadFault). failed d) cut.0),
              inr (
                refl,
                λ s. number_is s all ∙ cut.1 (fault_at BadLeb s all) (short_of s),
                λ s. groups_many params many s b bytes ∙ crowded_cut s all (cut.1 (fault_at BadLeb s all) (short_of (large s))),
                λ s more.
                    elim (crowded_any s (all ++ more)) [
                      | inl full ↦ inl (groups_many params many s b (bytes ++ more) ∙ full)
                      | inr bad ↦ inr (groups_many params many s b (bytes ++ more) ∙ bad)
                    ],
              ),
            )
          ])
    ]

crowd_tells : (params : ℕ) → ltb 4096 params ≡ true → (scope : Scope) (bytes : List ℕ) (fault : ReadFault) → groups_at params scope bytes ≡ Err fault → IsFirstBut false IsCut (groups_at params) scope bytes fault
crowd_tells params many scope [] fault e = record { front = []; tail = []; parts = refl; before = inl (groups_nil params); there = inl (refl, sym e ∙ groups_nil params scope) }
crowd_tells params many scope (b ∷ bytes) fault e =
    let c = crowd params many scope b bytes in
    record {
      front = [];
      tail = b ∷ bytes;
      parts = refl;
      before = inl (groups_nil params);
      there = inr (c.0, same_fault {A = ℕ × List ℕ} fault (fault_at c.0 scope (b ∷ bytes)) (sym e ∙ groups_many params many scope b bytes ∙ c.1), c.2);
    }

crowd_takes : (params : ℕ) → ltb 4096 params ≡ true → (scope : Scope) (bytes rest : List ℕ) (n : ℕ) → groups_at params scope bytes ≡ Ok (n, rest) → TakesFront (groups_at params) bytes n rest
crowd_takes params many scope [] rest n e = fault_no_value (n, rest) (short_of scope) (sym (groups_nil params scope) ∙ e)
crowd_takes params many scope (b ∷ bytes) rest n e =
    let c = crowd params many scope b bytes in
    fault_no_value (n, rest) (fault_at c.0 scope (b ∷ bytes)) (sym c.1 ∙ sym (groups_many params many scope b bytes) ∙ e)

groups_tell : (params : ℕ) → Tells false (groups_at params)
groups_tell params =
    elim (cases_Bool (ltb 4096 params)) [
      | inl many ↦ record { takes = λ scope bytes rest n e. crowd_takes params many scope bytes rest n e; tells = λ scope bytes fault e. crowd_tells params many scope bytes fault e }
      | inr few ↦ as_is u32_at (groups_at params) (groups_few params few) (tells_plainly u32_at u32_reads)
    ]

-- ---- bodies

locals_tell : (params : ℕ) → Tells false (locals_at params)
unfolding locals_at
locals_tell params = after (groups_at params) (λ n s b. locals_from params [] n s b) (groups_tell params) (λ n. tells_plainly (λ s b. locals_from params [] n s b) (locals_reads params [] n))

abbrev code_of : List ValueType → List Instr → Code
code_of locals body = record { locals = locals; body = body }

pub body_tells : (params : ℕ) → Tells false (body_at params)
unfolding body_at
body_tells params = after (locals_at params) (λ locals s b. expression_at s b >>= λ code. Ok (code_of locals code.0, code.1)) (locals_tell params) (λ locals. tells_plainly (λ s b. expression_at s b >>= λ code. Ok (code_of locals code.0, code.1)) (mapped expression_at (λ code. code_of locals code) expression_reads))

abbrev joined : Code → List Code → List Code
joined first others = first ∷ others

bodies_tell : (types : List FuncType) (functions : List ℕ) (index n : ℕ) → Tells false (bodies_at types functions index n)
unfolding bodies_at
bodies_tell types functions index zero = tells_plainly (λ s b. Ok ([], b)) (done [])
bodies_tell types functions index (suc n) =
    let read = body_at (params_of types functions index) in
    after (λ s b. sized_at s.short read s b) (λ first s b. bodies_at types functions (suc index) n s b >>= λ others. Ok (joined first others.0, others.1)) (body_reads read (body_tells (params_of types functions index))) (λ first.
    after (bodies_at types functions (suc index) n) (λ others s b. Ok (joined first others, b)) (bodies_tell types functions (suc index) n) (λ others. tells_plainly (λ s b. Ok (joined first others, b)) (done (joined first others))))

pub code_tells : (types : List FuncType) (functions : List ℕ) → Tells false (code_section_at types functions)
unfolding code_section_at
code_tells types functions = after (count_at 65536) (λ n s b. bodies_at types functions 0 n s b) (tells_plainly (count_at 65536) (count_reads 65536)) (λ n. bodies_tell types functions 0 n)
