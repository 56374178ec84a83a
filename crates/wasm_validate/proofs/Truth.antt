-- A module that is ready has no fault exactly where it is valid.
use Rattle.std.proofs.Common.{◌≡◌, ℕ, ◌+◌, ◌≤◌, ◌<◌, ltb, None, Ok, [], length, refl}
use Rattle.wasm_types.specs.declared.modules.Module.{Module}
use Rattle.wasm_validate.specs.declared.fault.ValidKind.TheVariants.{UnknownType}
use Rattle.wasm_validate.specs.declared.fault.Part.TheVariants as parts
use Rattle.wasm_validate.specs.Steps.{◌>>=◌}
use Rattle.wasm_validate.specs.declared.fault.ValidFault.{ValidFault}
use Rattle.basics.specs.declared.stop.Stop.{Stop}
use Rattle.basics.specs.declared.stop.Stop.TheVariants as stops
use Rattle.basics.specs.Stops.{Fails}
use Rattle.wasm_validate.specs.Faults.{told_of, memory_fault}
use Rattle.wasm_validate.specs.Spaces.{functions_in, globals_in, context_of}
use Rattle.wasm_validate.specs.Valid.{AllAt, HasType, GivesConstant, IsExport, IsElement, IsFunction, IsSegment, IsValid}
use Rattle.wasm_validate.specs.Ready.{IsReady, IsExpression, params_count}
use Rattle.wasm_validate.specs.Parts.{needs, placed, import_type, constant, export_at, start_at, element, segment, code_at, imports_at, functions_at, globals_at, exports_at, elements_at, bodies_at, segments_at, tables_at, memories_at, later_fault, rest_fault, first_fault}
use Rattle.wasm_validate.proofs.Results.{bind_ok}
use Rattle.wasm_validate.proofs.PartByPart.{every_all, all_every, all_each, all_each_with, placed_ok, below_ok, ok_below}
use Rattle.wasm_validate.proofs.ConstantExpressions.{constant_ok, ok_constant}
use Rattle.wasm_validate.proofs.Sizing.{tables_ok, ok_tables, memories_ok, ok_memories}
use Rattle.wasm_validate.proofs.Members.{import_ok, ok_import, export_ok, ok_export, start_ok, ok_start, element_ok, ok_element, segment_ok, ok_segment, code_ok, ok_code}

-- ---- part by part

imports_all : (m : Module) → imports_at m.types m.imports ≡ Ok tt → AllAt (λ _ i. HasType m.types i.kind) 0 m.imports
unfolding imports_at
imports_all m e = every_all parts.Import (λ _ i. import_type m.types i.kind) (λ _ i. HasType m.types i.kind) (λ k i h. import_ok m.types i.kind h) m.imports e

all_imports : (m : Module) → AllAt (λ _ i. HasType m.types i.kind) 0 m.imports → imports_at m.types m.imports ≡ Ok tt
unfolding imports_at
all_imports m a = all_every parts.Import (λ _ i. import_type m.types i.kind) (λ _ i. HasType m.types i.kind) (λ k i h. ok_import m.types i.kind h) m.imports a

functions_all : (m : Module) → functions_at m.types m.functions ≡ Ok tt → AllAt (λ _ t. t < length m.types) 0 m.functions
unfolding functions_at
functions_all m e = every_all parts.Func (λ _ t. needs (ltb t (length m.types)) UnknownType) (λ _ t. t < length m.types) (λ k t h. below_ok t (length m.types) UnknownType h) m.functions e

all_functions : (m : Module) → AllAt (λ _ t. t < length m.types) 0 m.functions → functions_at m.types m.functions ≡ Ok tt
unfolding functions_at
all_functions m a = all_every parts.Func (λ _ t. needs (ltb t (length m.types)) UnknownType) (λ _ t. t < length m.types) (λ k t h. ok_below t (length m.types) UnknownType h) m.functions a

globals_all : (m : Module) → IsReady m → globals_at (globals_in m.imports) m.globals ≡ Ok tt → AllAt (λ _ g. GivesConstant (globals_in m.imports) g.kind.kind g.start) 0 m.globals
unfolding globals_at
globals_all m ready e =
    all_each_with (placed parts.Global (λ _ g. constant (globals_in m.imports) g.kind.kind g.start)) (λ _ g. GivesConstant (globals_in m.imports) g.kind.kind g.start) (λ _ g. IsExpression g.start)
    (λ k g q h. constant_ok (globals_in m.imports) g.kind.kind g.start q.0.0 q.0.1 (placed_ok parts.Global k (constant (globals_in m.imports) g.kind.kind g.start) tt h)) 0 m.globals ready.starts e

all_globals : (m : Module) → AllAt (λ _ g. GivesConstant (globals_in m.imports) g.kind.kind g.start) 0 m.globals → globals_at (globals_in m.imports) m.globals ≡ Ok tt
unfolding globals_at
all_globals m a = all_every parts.Global (λ _ g. constant (globals_in m.imports) g.kind.kind g.start) (λ _ g. GivesConstant (globals_in m.imports) g.kind.kind g.start) (λ k g h. ok_constant (globals_in m.imports) g.kind.kind g.start h) m.globals a

exports_all : (m : Module) → exports_at (context_of m [] None) m.exports ≡ Ok tt → AllAt (IsExport m) 0 m.exports
unfolding exports_at
exports_all m e = every_all parts.Export (export_at (context_of m [] None) m.exports) (IsExport m) (λ k x h. export_ok m k x h) m.exports e

all_exports : (m : Module) → AllAt (IsExport m) 0 m.exports → exports_at (context_of m [] None) m.exports ≡ Ok tt
unfolding exports_at
all_exports m a = all_every parts.Export (export_at (context_of m [] None) m.exports) (IsExport m) (λ k x h. ok_export m k x h) m.exports a

elements_all : (m : Module) → IsReady m → elements_at (context_of m [] None) m.elements ≡ Ok tt → AllAt (IsElement m) 0 m.elements
unfolding elements_at
elements_all m ready e =
    all_each_with (placed parts.Element (λ _ x. element (context_of m [] None) x)) (IsElement m) (λ _ x. IsExpression x.offset)
    (λ k x q h. element_ok m k x q.0.0 q.0.1 (placed_ok parts.Element k (element (context_of m [] None) x) tt h)) 0 m.elements ready.element_offsets e

all_elements : (m : Module) → AllAt (IsElement m) 0 m.elements → elements_at (context_of m [] None) m.elements ≡ Ok tt
unfolding elements_at
all_elements m a = all_every parts.Element (λ _ x. element (context_of m [] None) x) (IsElement m) (λ k x h. ok_element m k x h) m.elements a

bodies_all : (m : Module) (first : ℕ) → IsReady m → bodies_at (context_of m [] None) first m.functions m.code ≡ Ok tt → AllAt (IsFunction m) 0 m.code
unfolding bodies_at
bodies_all m first ready e =
    all_each_with (code_at (context_of m [] None) first m.functions) (IsFunction m) (λ k x. (params_count m k + length x.locals ≤ 4096) × IsExpression x.body)
    (λ k x q h. code_ok m first k x q.1.0.0 q.1.0.1 h) 0 m.code ready.bodies e

all_bodies : (m : Module) (first : ℕ) → AllAt (IsFunction m) 0 m.code → bodies_at (context_of m [] None) first m.functions m.code ≡ Ok tt
unfolding bodies_at
all_bodies m first a = all_each (code_at (context_of m [] None) first m.functions) (IsFunction m) (λ k x h. ok_code m first k x h) 0 m.code a

segments_all : (m : Module) → IsReady m → segments_at (context_of m [] None) m.segments ≡ Ok tt → AllAt (IsSegment m) 0 m.segments
unfolding segments_at
segments_all m ready e =
    all_each_with (placed parts.Data (λ _ x. segment (context_of m [] None) x)) (IsSegment m) (λ _ x. IsExpression x.offset)
    (λ k x q h. segment_ok m k x q.0.0 q.0.1 (placed_ok parts.Data k (segment (context_of m [] None) x) tt h)) 0 m.segments ready.offsets e

all_segments : (m : Module) → AllAt (IsSegment m) 0 m.segments → segments_at (context_of m [] None) m.segments ≡ Ok tt
unfolding segments_at
all_segments m a = all_every parts.Data (λ _ x. segment (context_of m [] None) x) (IsSegment m) (λ k x h. ok_segment m k x h) m.segments a

-- ---- the module

pub faultless_valid : (m : Module) → IsReady m → first_fault m ≡ Ok tt → IsValid m
faultless_valid m ready e =
    let c = context_of m [] None in
    let first = length (functions_in m.imports) in
    let a = bind_ok (imports_at m.types m.imports) (λ _. functions_at m.types m.functions >>= λ _. tables_at m >>= λ _. memories_at m >>= λ _. rest_fault m) tt e in
    let b = bind_ok (functions_at m.types m.functions) (λ _. tables_at m >>= λ _. memories_at m >>= λ _. rest_fault m) tt a.2 in
    let d = bind_ok (tables_at m) (λ _. memories_at m >>= λ _. rest_fault m) tt b.2 in
    let f = bind_ok (memories_at m) (λ _. rest_fault m) tt d.2 in
    let g = bind_ok (globals_at (globals_in m.imports) m.globals) (λ _. later_fault c first m) tt f.2 in
    let h = bind_ok (exports_at c m.exports) (λ _. start_at c m.start >>= λ _. elements_at c m.elements >>= λ _. bodies_at c first m.functions m.code >>= λ _. segments_at c m.segments) tt g.2 in
    let i = bind_ok (start_at c m.start) (λ _. elements_at c m.elements >>= λ _. bodies_at c first m.functions m.code >>= λ _. segments_at c m.segments) tt h.2 in
    let j = bind_ok (elements_at c m.elements) (λ _. bodies_at c first m.functions m.code >>= λ _. segments_at c m.segments) tt i.2 in
    let k = bind_ok (bodies_at c first m.functions m.code) (λ _. segments_at c m.segments) tt j.2 in
    let tables = tables_ok m d.0 d.1 in
    let memories = memories_ok m f.0 f.1 in
    record {
      imports = imports_all m a.1;
      functions = functions_all m b.1;
      tables = tables.0;
      one_table = tables.1;
      memories = memories.0;
      one_memory = memories.1;
      globals = globals_all m ready g.1;
      exports = exports_all m h.1;
      start = start_ok m m.start i.1;
      elements = elements_all m ready j.1;
      code = bodies_all m first ready k.1;
      data_segments = segments_all m ready k.2;
    }

pub valid_faultless : (m : Module) → IsValid m → first_fault m ≡ Ok tt
valid_faultless m v =
    let c = context_of m [] None in
    let first = length (functions_in m.imports) in
    let tables = ok_tables m v.tables v.one_table in
    let memories = ok_memories m v.memories v.one_memory in
    rw (all_imports m v.imports, all_functions m v.functions, tables.1, memories.1, all_globals m v.globals, all_exports m v.exports, ok_start m m.start v.start, all_elements m v.elements, all_bodies m first v.code)
    (all_segments m v.data_segments)

-- where a halt is told of a module without a fault, memory ran out
pub only_memory : (e : Stop ValidFault) (m : Module) → Fails e (first_fault m) → IsValid m → told_of e ≡ memory_fault
only_memory stops.Memory m h v = refl
only_memory (stops.Fault f) m h v = let k = valid_faultless m v in absurd cc
