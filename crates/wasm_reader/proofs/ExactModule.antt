-- A module is read exactly: the sections from each number on, from the last one back to the first.
use Rattle.std.proofs.Common.{◌≡◌, ℕ, true, ◌&&◌, eqb, ltb, List, [], ◌∷◌, length, Option, None, Result, Ok, refl, sym, ap, subst, ◌∙◌, arith}
use Rattle.std.proofs.lemmas.Bool.{ltb-false, le-ltb, eqb-true, eq-eqb, and_parts}
use Rattle.wasm_types.specs.declared.types.FuncType.{FuncType}
use Rattle.wasm_types.specs.declared.types.Limits.{Limits}
use Rattle.wasm_types.specs.declared.modules.Import.{Import}
use Rattle.wasm_types.specs.declared.modules.GlobalItem.{GlobalItem}
use Rattle.wasm_types.specs.declared.modules.Export.{Export}
use Rattle.wasm_types.specs.declared.modules.Element.{Element}
use Rattle.wasm_types.specs.declared.modules.Code.{Code}
use Rattle.wasm_types.specs.declared.modules.Segment.{Segment}
use Rattle.wasm_types.specs.declared.modules.Module.{Module}
use Rattle.wasm_code.specs.declared.fault.ReadKind.TheVariants.{Truncated, BadMagic, BadVersion, CountMismatch, TooLarge}
use Rattle.wasm_code.specs.declared.fault.ReadFault.{ReadFault}
use Rattle.wasm_code.specs.declared.scope.Scope.{Scope}
use Rattle.wasm_code.specs.Grammar.{IsU32, IsVector}
use Rattle.wasm_code.specs.Reading.{◌>>=◌, fault_at, u32_at, vector_at}
use Rattle.wasm_code.proofs.Steps.{bind_ok, needs_ok, guard_ok, ok_is}
use Rattle.wasm_code.proofs.ExactNumbers.{u32_exact, vector_exact}
use Rattle.wasm_reader.specs.Grammar.{IsList, IsFuncType, IsImport, IsTable, IsMemory, IsGlobal, IsExport, IsStart, IsElement, AreCode, IsSegment, Ends, AreSections, IsModule}
use Rattle.wasm_reader.specs.Reading.{func_type_at, import_at, table_at, memory_at, global_at, export_at, start_at, element_at, segment_at}
use Rattle.wasm_reader.specs.Sections.{code_section_at, customs_at, magic_at, version_at, ended_at, end_at, sections_at, whole_at, module_at}
use Rattle.wasm_reader.proofs.ExactParts.{func_type_exact, import_exact, table_exact, memory_exact, global_exact, export_exact, start_exact, element_exact, segment_exact}
use Rattle.wasm_reader.proofs.ExactSections.{code_exact, skipped, skips, skips_again, IsAbove, IsTail, Chain, chain_at, chain_tail}

-- ---- the end

abbrev Flow12 : Module → List ℕ → Module → Type 0
Flow12 made bytes m = Ends bytes [] × (length made.functions ≡ length made.code) × (m ≡ made)

ended_sound : (scope : Scope) (made m : Module) (bytes : List ℕ) → ended_at scope made bytes ≡ Ok m → (bytes ≡ []) × (length made.functions ≡ length made.code) × (m ≡ made)
unfolding ended_at
ended_sound scope made m (b ∷ bytes) e = absurd cc
ended_sound scope made m [] e =
    let g = needs_ok (eqb (length made.functions) (length made.code)) (fault_at CountMismatch scope []) (Ok made) m e in
    (refl, eqb-true (length made.functions) (length made.code) g.0, sym (ok_is made m g.1))

ended_complete : (scope : Scope) (made : Module) → length made.functions ≡ length made.code → ended_at scope made [] ≡ Ok made
unfolding ended_at
ended_complete scope made h = let t = eq-eqb (length made.functions) (length made.code) h in rw t refl

abbrev done : {A : Type 0} → A → Result A ReadFault
done x = Ok x

end_tail : (scope : Scope) (made : Module) → IsTail scope 12 (end_at scope made) (Flow12 made)
unfolding end_at
end_tail scope made = record {
  sound = λ bytes m e.
      let a = bind_ok (customs_at scope bytes) (λ rest. ended_at scope made rest) m e in
      let s = skipped scope bytes a.0 a.1 in
      let h = ended_sound scope made m a.0 a.2 in
      (subst (λ (r : List ℕ). Ends bytes r) h.0 (s.0.0, s.0.1, h.0), h.1, h.2);
  complete = λ bytes m h.
      let rest = skips h.0.0 scope bytes [] h.0.1 tt in
      let one : (customs_at scope bytes >>= λ r. ended_at scope made r) ≡ done made = rw rest (ended_complete scope made h.1) in
      one ∙ ap (λ (x : Module). done x) (sym h.2);
  same = λ bytes mid e.
      let go : Result (List ℕ) ReadFault → Result Module ReadFault = λ r. r >>= λ rest. ended_at scope made rest in
      ap go (e ∙ sym (skips_again scope bytes mid e));
  starts = λ bytes m e.
      let a = bind_ok (customs_at scope bytes) (λ rest. ended_at scope made rest) m e in
      let h = ended_sound scope made m a.0 a.2 in
      (a.0, a.1, subst (λ (r : List ℕ). IsAbove 12 r) (sym h.0) tt);
}

-- ---- the sections from each number on

abbrev read12 : Scope → List FuncType → List Import → List ℕ → List Limits → List Limits → List GlobalItem → List Export → Option ℕ → List Element → List Code → List Segment → List ℕ → Result Module ReadFault
read12 scope types imports functions tables memories globals exports start elements code segments = end_at scope (record { types = types; imports = imports; functions = functions; tables = tables; memories = memories; globals = globals; exports = exports; start = start; elements = elements; code = code; segments = segments })

abbrev Sections12 : List FuncType → List Import → List ℕ → List Limits → List Limits → List GlobalItem → List Export → Option ℕ → List Element → List Code → List Segment → List ℕ → Module → Type 0
Sections12 types imports functions tables memories globals exports start elements code segments = Flow12 (record { types = types; imports = imports; functions = functions; tables = tables; memories = memories; globals = globals; exports = exports; start = start; elements = elements; code = code; segments = segments })

tail12 : (scope : Scope) (types : List FuncType) (imports : List Import) (functions : List ℕ) (tables : List Limits) (memories : List Limits) (globals : List GlobalItem) (exports : List Export) (start : Option ℕ) (elements : List Element) (code : List Code) (segments : List Segment) → IsTail scope 12 (read12 scope types imports functions tables memories globals exports start elements code segments) (Sections12 types imports functions tables memories globals exports start elements code segments)
tail12 scope types imports functions tables memories globals exports start elements code segments = end_tail scope (record { types = types; imports = imports; functions = functions; tables = tables; memories = memories; globals = globals; exports = exports; start = start; elements = elements; code = code; segments = segments })

abbrev read11 : Scope → List FuncType → List Import → List ℕ → List Limits → List Limits → List GlobalItem → List Export → Option ℕ → List Element → List Code → List ℕ → Result Module ReadFault
read11 scope types imports functions tables memories globals exports start elements code = chain_at 11 [] (vector_at 4294967295 segment_at) (λ segments. read12 scope types imports functions tables memories globals exports start elements code segments) scope

abbrev Sections11 : List FuncType → List Import → List ℕ → List Limits → List Limits → List GlobalItem → List Export → Option ℕ → List Element → List Code → List ℕ → Module → Type 0
Sections11 types imports functions tables memories globals exports start elements code = Chain 11 [] (IsList IsSegment) (λ segments. Sections12 types imports functions tables memories globals exports start elements code segments)

tail11 : (scope : Scope) (types : List FuncType) (imports : List Import) (functions : List ℕ) (tables : List Limits) (memories : List Limits) (globals : List GlobalItem) (exports : List Export) (start : Option ℕ) (elements : List Element) (code : List Code) → IsTail scope 11 (read11 scope types imports functions tables memories globals exports start elements code) (Sections11 types imports functions tables memories globals exports start elements code)
tail11 scope types imports functions tables memories globals exports start elements code = chain_tail 11 [] (vector_at 4294967295 segment_at) (IsList IsSegment) (λ segments. read12 scope types imports functions tables memories globals exports start elements code segments) (λ segments. Sections12 types imports functions tables memories globals exports start elements code segments) scope (omega arith) (vector_exact 4294967295 segment_at IsSegment segment_exact) (λ segments. tail12 scope types imports functions tables memories globals exports start elements code segments)

abbrev read10 : Scope → List FuncType → List Import → List ℕ → List Limits → List Limits → List GlobalItem → List Export → Option ℕ → List Element → List ℕ → Result Module ReadFault
read10 scope types imports functions tables memories globals exports start elements = chain_at 10 [] (code_section_at types functions) (λ code. read11 scope types imports functions tables memories globals exports start elements code) scope

abbrev Sections10 : List FuncType → List Import → List ℕ → List Limits → List Limits → List GlobalItem → List Export → Option ℕ → List Element → List ℕ → Module → Type 0
Sections10 types imports functions tables memories globals exports start elements = Chain 10 [] (AreCode types functions) (λ code. Sections11 types imports functions tables memories globals exports start elements code)

tail10 : (scope : Scope) (types : List FuncType) (imports : List Import) (functions : List ℕ) (tables : List Limits) (memories : List Limits) (globals : List GlobalItem) (exports : List Export) (start : Option ℕ) (elements : List Element) → IsTail scope 10 (read10 scope types imports functions tables memories globals exports start elements) (Sections10 types imports functions tables memories globals exports start elements)
tail10 scope types imports functions tables memories globals exports start elements = chain_tail 10 [] (code_section_at types functions) (AreCode types functions) (λ code. read11 scope types imports functions tables memories globals exports start elements code) (λ code. Sections11 types imports functions tables memories globals exports start elements code) scope (omega arith) (code_exact types functions) (λ code. tail11 scope types imports functions tables memories globals exports start elements code)

abbrev read9 : Scope → List FuncType → List Import → List ℕ → List Limits → List Limits → List GlobalItem → List Export → Option ℕ → List ℕ → Result Module ReadFault
read9 scope types imports functions tables memories globals exports start = chain_at 9 [] (vector_at 4294967295 element_at) (λ elements. read10 scope types imports functions tables memories globals exports start elements) scope

abbrev Sections9 : List FuncType → List Import → List ℕ → List Limits → List Limits → List GlobalItem → List Export → Option ℕ → List ℕ → Module → Type 0
Sections9 types imports functions tables memories globals exports start = Chain 9 [] (IsList IsElement) (λ elements. Sections10 types imports functions tables memories globals exports start elements)

tail9 : (scope : Scope) (types : List FuncType) (imports : List Import) (functions : List ℕ) (tables : List Limits) (memories : List Limits) (globals : List GlobalItem) (exports : List Export) (start : Option ℕ) → IsTail scope 9 (read9 scope types imports functions tables memories globals exports start) (Sections9 types imports functions tables memories globals exports start)
tail9 scope types imports functions tables memories globals exports start = chain_tail 9 [] (vector_at 4294967295 element_at) (IsList IsElement) (λ elements. read10 scope types imports functions tables memories globals exports start elements) (λ elements. Sections10 types imports functions tables memories globals exports start elements) scope (omega arith) (vector_exact 4294967295 element_at IsElement element_exact) (λ elements. tail10 scope types imports functions tables memories globals exports start elements)

abbrev read8 : Scope → List FuncType → List Import → List ℕ → List Limits → List Limits → List GlobalItem → List Export → List ℕ → Result Module ReadFault
read8 scope types imports functions tables memories globals exports = chain_at 8 None (start_at) (λ start. read9 scope types imports functions tables memories globals exports start) scope

abbrev Sections8 : List FuncType → List Import → List ℕ → List Limits → List Limits → List GlobalItem → List Export → List ℕ → Module → Type 0
Sections8 types imports functions tables memories globals exports = Chain 8 None (IsStart) (λ start. Sections9 types imports functions tables memories globals exports start)

tail8 : (scope : Scope) (types : List FuncType) (imports : List Import) (functions : List ℕ) (tables : List Limits) (memories : List Limits) (globals : List GlobalItem) (exports : List Export) → IsTail scope 8 (read8 scope types imports functions tables memories globals exports) (Sections8 types imports functions tables memories globals exports)
tail8 scope types imports functions tables memories globals exports = chain_tail 8 None (start_at) (IsStart) (λ start. read9 scope types imports functions tables memories globals exports start) (λ start. Sections9 types imports functions tables memories globals exports start) scope (omega arith) (start_exact) (λ start. tail9 scope types imports functions tables memories globals exports start)

abbrev read7 : Scope → List FuncType → List Import → List ℕ → List Limits → List Limits → List GlobalItem → List ℕ → Result Module ReadFault
read7 scope types imports functions tables memories globals = chain_at 7 [] (vector_at 4294967295 export_at) (λ exports. read8 scope types imports functions tables memories globals exports) scope

abbrev Sections7 : List FuncType → List Import → List ℕ → List Limits → List Limits → List GlobalItem → List ℕ → Module → Type 0
Sections7 types imports functions tables memories globals = Chain 7 [] (IsList IsExport) (λ exports. Sections8 types imports functions tables memories globals exports)

tail7 : (scope : Scope) (types : List FuncType) (imports : List Import) (functions : List ℕ) (tables : List Limits) (memories : List Limits) (globals : List GlobalItem) → IsTail scope 7 (read7 scope types imports functions tables memories globals) (Sections7 types imports functions tables memories globals)
tail7 scope types imports functions tables memories globals = chain_tail 7 [] (vector_at 4294967295 export_at) (IsList IsExport) (λ exports. read8 scope types imports functions tables memories globals exports) (λ exports. Sections8 types imports functions tables memories globals exports) scope (omega arith) (vector_exact 4294967295 export_at IsExport export_exact) (λ exports. tail8 scope types imports functions tables memories globals exports)

abbrev read6 : Scope → List FuncType → List Import → List ℕ → List Limits → List Limits → List ℕ → Result Module ReadFault
read6 scope types imports functions tables memories = chain_at 6 [] (vector_at 4096 global_at) (λ globals. read7 scope types imports functions tables memories globals) scope

abbrev Sections6 : List FuncType → List Import → List ℕ → List Limits → List Limits → List ℕ → Module → Type 0
Sections6 types imports functions tables memories = Chain 6 [] (IsVector 4096 IsGlobal) (λ globals. Sections7 types imports functions tables memories globals)

tail6 : (scope : Scope) (types : List FuncType) (imports : List Import) (functions : List ℕ) (tables : List Limits) (memories : List Limits) → IsTail scope 6 (read6 scope types imports functions tables memories) (Sections6 types imports functions tables memories)
tail6 scope types imports functions tables memories = chain_tail 6 [] (vector_at 4096 global_at) (IsVector 4096 IsGlobal) (λ globals. read7 scope types imports functions tables memories globals) (λ globals. Sections7 types imports functions tables memories globals) scope (omega arith) (vector_exact 4096 global_at IsGlobal global_exact) (λ globals. tail7 scope types imports functions tables memories globals)

abbrev read5 : Scope → List FuncType → List Import → List ℕ → List Limits → List ℕ → Result Module ReadFault
read5 scope types imports functions tables = chain_at 5 [] (vector_at 4294967295 memory_at) (λ memories. read6 scope types imports functions tables memories) scope

abbrev Sections5 : List FuncType → List Import → List ℕ → List Limits → List ℕ → Module → Type 0
Sections5 types imports functions tables = Chain 5 [] (IsList IsMemory) (λ memories. Sections6 types imports functions tables memories)

tail5 : (scope : Scope) (types : List FuncType) (imports : List Import) (functions : List ℕ) (tables : List Limits) → IsTail scope 5 (read5 scope types imports functions tables) (Sections5 types imports functions tables)
tail5 scope types imports functions tables = chain_tail 5 [] (vector_at 4294967295 memory_at) (IsList IsMemory) (λ memories. read6 scope types imports functions tables memories) (λ memories. Sections6 types imports functions tables memories) scope (omega arith) (vector_exact 4294967295 memory_at IsMemory memory_exact) (λ memories. tail6 scope types imports functions tables memories)

abbrev read4 : Scope → List FuncType → List Import → List ℕ → List ℕ → Result Module ReadFault
read4 scope types imports functions = chain_at 4 [] (vector_at 4294967295 table_at) (λ tables. read5 scope types imports functions tables) scope

abbrev Sections4 : List FuncType → List Import → List ℕ → List ℕ → Module → Type 0
Sections4 types imports functions = Chain 4 [] (IsList IsTable) (λ tables. Sections5 types imports functions tables)

tail4 : (scope : Scope) (types : List FuncType) (imports : List Import) (functions : List ℕ) → IsTail scope 4 (read4 scope types imports functions) (Sections4 types imports functions)
tail4 scope types imports functions = chain_tail 4 [] (vector_at 4294967295 table_at) (IsList IsTable) (λ tables. read5 scope types imports functions tables) (λ tables. Sections5 types imports functions tables) scope (omega arith) (vector_exact 4294967295 table_at IsTable table_exact) (λ tables. tail5 scope types imports functions tables)

abbrev read3 : Scope → List FuncType → List Import → List ℕ → Result Module ReadFault
read3 scope types imports = chain_at 3 [] (vector_at 65536 u32_at) (λ functions. read4 scope types imports functions) scope

abbrev Sections3 : List FuncType → List Import → List ℕ → Module → Type 0
Sections3 types imports = Chain 3 [] (IsVector 65536 IsU32) (λ functions. Sections4 types imports functions)

tail3 : (scope : Scope) (types : List FuncType) (imports : List Import) → IsTail scope 3 (read3 scope types imports) (Sections3 types imports)
tail3 scope types imports = chain_tail 3 [] (vector_at 65536 u32_at) (IsVector 65536 IsU32) (λ functions. read4 scope types imports functions) (λ functions. Sections4 types imports functions) scope (omega arith) (vector_exact 65536 u32_at IsU32 u32_exact) (λ functions. tail4 scope types imports functions)

abbrev read2 : Scope → List FuncType → List ℕ → Result Module ReadFault
read2 scope types = chain_at 2 [] (vector_at 4294967295 import_at) (λ imports. read3 scope types imports) scope

abbrev Sections2 : List FuncType → List ℕ → Module → Type 0
Sections2 types = Chain 2 [] (IsList IsImport) (λ imports. Sections3 types imports)

tail2 : (scope : Scope) (types : List FuncType) → IsTail scope 2 (read2 scope types) (Sections2 types)
tail2 scope types = chain_tail 2 [] (vector_at 4294967295 import_at) (IsList IsImport) (λ imports. read3 scope types imports) (λ imports. Sections3 types imports) scope (omega arith) (vector_exact 4294967295 import_at IsImport import_exact) (λ imports. tail3 scope types imports)

abbrev read1 : Scope → List ℕ → Result Module ReadFault
read1 scope = chain_at 1 [] (vector_at 65536 func_type_at) (λ types. read2 scope types) scope

abbrev Sections1 : List ℕ → Module → Type 0
Sections1 = Chain 1 [] (IsVector 65536 IsFuncType) (λ types. Sections2 types)

tail1 : (scope : Scope) → IsTail scope 1 (read1 scope) (Sections1)
tail1 scope = chain_tail 1 [] (vector_at 65536 func_type_at) (IsVector 65536 IsFuncType) (λ types. read2 scope types) (λ types. Sections2 types) scope (omega arith) (vector_exact 65536 func_type_at IsFuncType func_type_exact) (λ types. tail2 scope types)

in_order : (bytes : List ℕ) (m : Module) → Sections1 bytes m → AreSections m bytes [] × (length m.functions ≡ length m.code)
in_order bytes m h = subst (λ (x : Module). AreSections x bytes [] × (length x.functions ≡ length x.code)) (sym h.3.3.3.3.3.3.3.3.3.3.3.2) ((h.1, h.2, (h.3.1, h.3.2, (h.3.3.1, h.3.3.2, (h.3.3.3.1, h.3.3.3.2, (h.3.3.3.3.1, h.3.3.3.3.2, (h.3.3.3.3.3.1, h.3.3.3.3.3.2, (h.3.3.3.3.3.3.1, h.3.3.3.3.3.3.2, (h.3.3.3.3.3.3.3.1, h.3.3.3.3.3.3.3.2, (h.3.3.3.3.3.3.3.3.1, h.3.3.3.3.3.3.3.3.2, (h.3.3.3.3.3.3.3.3.3.1, h.3.3.3.3.3.3.3.3.3.2, (h.3.3.3.3.3.3.3.3.3.3.1, h.3.3.3.3.3.3.3.3.3.3.2, h.3.3.3.3.3.3.3.3.3.3.3.0))))))))))), h.3.3.3.3.3.3.3.3.3.3.3.1)

one_by_one : (bytes : List ℕ) (m : Module) → AreSections m bytes [] → length m.functions ≡ length m.code → Sections1 bytes m
one_by_one bytes m s counts = (m.types, s.0, s.1, (m.imports, s.2.0, s.2.1, (m.functions, s.2.2.0, s.2.2.1, (m.tables, s.2.2.2.0, s.2.2.2.1, (m.memories, s.2.2.2.2.0, s.2.2.2.2.1, (m.globals, s.2.2.2.2.2.0, s.2.2.2.2.2.1, (m.exports, s.2.2.2.2.2.2.0, s.2.2.2.2.2.2.1, (m.start, s.2.2.2.2.2.2.2.0, s.2.2.2.2.2.2.2.1, (m.elements, s.2.2.2.2.2.2.2.2.0, s.2.2.2.2.2.2.2.2.1, (m.code, s.2.2.2.2.2.2.2.2.2.0, s.2.2.2.2.2.2.2.2.2.1, (m.segments, s.2.2.2.2.2.2.2.2.2.2.0, s.2.2.2.2.2.2.2.2.2.2.1, (s.2.2.2.2.2.2.2.2.2.2.2, counts, refl))))))))))))

sections_sound : (scope : Scope) (bytes : List ℕ) (m : Module) → sections_at scope bytes ≡ Ok m → AreSections m bytes [] × (length m.functions ≡ length m.code)
unfolding sections_at
sections_sound scope bytes m e = in_order bytes m ((tail1 scope).sound bytes m e)

sections_complete : (scope : Scope) (bytes : List ℕ) (m : Module) → AreSections m bytes [] → length m.functions ≡ length m.code → sections_at scope bytes ≡ Ok m
unfolding sections_at
sections_complete scope bytes m s counts = (tail1 scope).complete bytes m (one_by_one bytes m s counts)

-- ---- the whole

four_are : (a b c d w x y z : ℕ) → (eqb a w && eqb b x && (eqb c y && eqb d z)) ≡ true → (rest : List ℕ) → a ∷ b ∷ c ∷ d ∷ rest ≡ w ∷ x ∷ y ∷ z ∷ rest
four_are a b c d w x y z t rest =
    let p = and_parts (eqb a w && eqb b x) (eqb c y && eqb d z) t in
    let q = and_parts (eqb a w) (eqb b x) p.0 in
    let r = and_parts (eqb c y) (eqb d z) p.1 in
    rw (eqb-true a w q.0, eqb-true b x q.1, eqb-true c y r.0, eqb-true d z r.1) refl

magic_sound : (scope : Scope) (bytes rest : List ℕ) → magic_at scope bytes ≡ Ok rest → bytes ≡ 0x00 ∷ 0x61 ∷ 0x73 ∷ 0x6D ∷ rest
unfolding magic_at
magic_sound scope [] rest e = absurd cc
magic_sound scope (a ∷ []) rest e = absurd cc
magic_sound scope (a ∷ b ∷ []) rest e = absurd cc
magic_sound scope (a ∷ b ∷ c ∷ []) rest e = absurd cc
magic_sound scope (a ∷ b ∷ c ∷ d ∷ tail) rest e =
    let g = needs_ok ((eqb a 0x00 && eqb b 0x61) && (eqb c 0x73 && eqb d 0x6D)) (fault_at BadMagic scope (a ∷ b ∷ c ∷ d ∷ tail)) (Ok tail) rest e in
    four_are a b c d 0x00 0x61 0x73 0x6D g.0 tail ∙ ap (λ (t : List ℕ). 0x00 ∷ 0x61 ∷ 0x73 ∷ 0x6D ∷ t) (ok_is tail rest g.1)

version_sound : (scope : Scope) (bytes rest : List ℕ) → version_at scope bytes ≡ Ok rest → bytes ≡ 0x01 ∷ 0x00 ∷ 0x00 ∷ 0x00 ∷ rest
unfolding version_at
version_sound scope [] rest e = absurd cc
version_sound scope (a ∷ []) rest e = absurd cc
version_sound scope (a ∷ b ∷ []) rest e = absurd cc
version_sound scope (a ∷ b ∷ c ∷ []) rest e = absurd cc
version_sound scope (a ∷ b ∷ c ∷ d ∷ tail) rest e =
    let g = needs_ok ((eqb a 0x01 && eqb b 0x00) && (eqb c 0x00 && eqb d 0x00)) (fault_at BadVersion scope (a ∷ b ∷ c ∷ d ∷ tail)) (Ok tail) rest e in
    four_are a b c d 0x01 0x00 0x00 0x00 g.0 tail ∙ ap (λ (t : List ℕ). 0x01 ∷ 0x00 ∷ 0x00 ∷ 0x00 ∷ t) (ok_is tail rest g.1)

pub module_sound : (bytes : List ℕ) (m : Module) → module_at bytes ≡ Ok m → IsModule bytes m
unfolding module_at whole_at
module_sound bytes m e =
    let scope : Scope = record { end = length bytes; short = Truncated } in
    let g = guard_ok (ltb 16777216 (length bytes)) (record { kind = TooLarge; place = 0 }) (magic_at scope bytes >>= λ version. version_at scope version >>= λ start. sections_at scope start) m e in
    let a = bind_ok (magic_at scope bytes) (λ version. version_at scope version >>= λ start. sections_at scope start) m g.1 in
    let b = bind_ok (version_at scope a.0) (λ start. sections_at scope start) m a.2 in
    let s = sections_sound scope b.0 m b.2 in
    record {
      size = ltb-false 16777216 (length bytes) g.0;
      sections = (b.0, magic_sound scope bytes a.0 a.1 ∙ ap (λ (t : List ℕ). 0x00 ∷ 0x61 ∷ 0x73 ∷ 0x6D ∷ t) (version_sound scope a.0 b.0 b.1), s.0);
      same_count = s.1;
    }

header_read : (scope : Scope) (start : List ℕ) → (magic_at scope (0x00 ∷ 0x61 ∷ 0x73 ∷ 0x6D ∷ 0x01 ∷ 0x00 ∷ 0x00 ∷ 0x00 ∷ start) >>= λ version. version_at scope version) ≡ done start
unfolding magic_at version_at
header_read scope start = refl

pub module_complete : (bytes : List ℕ) (m : Module) → IsModule bytes m → module_at bytes ≡ Ok m
unfolding module_at whole_at magic_at version_at
module_complete bytes m h =
    let scope : Scope = record { end = length bytes; short = Truncated } in
    let small = le-ltb 16777216 (length bytes) h.size in
    let start = h.sections.0 in
    let read = sections_complete scope start m h.sections.2 h.same_count in
    let whole : List ℕ = 0x00 ∷ 0x61 ∷ 0x73 ∷ 0x6D ∷ 0x01 ∷ 0x00 ∷ 0x00 ∷ 0x00 ∷ start in
    let go : List ℕ → Result Module ReadFault = λ l. magic_at scope l >>= λ version. version_at scope version >>= λ begin. sections_at scope begin in
    rw small (ap go h.sections.1 ∙ read)
