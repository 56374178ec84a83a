-- Reading sections, code and a whole module from left to right, with the first fault that is met.
use Rattle.std.specs.Prelude.{ℕ, zero, suc, ◌+◌, ◌-◌, ◌==◌, ◌&&◌, nat_lt, nat_le, if◌then◌else◌, Bool, true, false, Option, Some, None, Result, Ok, Err, List, [], ◌∷◌, ◌++◌, length, take, drop, replicate}
use Rattle.std.specs.Option.{option_map_or}
use Rattle.wasm_types.specs.declared.types.ValueType.{ValueType}
use Rattle.wasm_types.specs.declared.types.FuncType.{FuncType}
use Rattle.wasm_types.specs.declared.modules.Code.{Code}
use Rattle.wasm_types.specs.declared.modules.Module.{Module}
use Rattle.wasm_code.specs.declared.fault.ReadKind.{ReadKind}
use Rattle.wasm_code.specs.declared.fault.ReadKind.TheVariants.{Truncated, BadMagic, BadVersion, SectionOrder, SectionSize, BadLeb, TooLarge, CountMismatch}
use Rattle.wasm_code.specs.declared.fault.ReadFault.{ReadFault}
use Rattle.wasm_code.specs.declared.scope.Scope.{Scope}
use Rattle.wasm_code.specs.Reading.{Reading, ◌>>=◌, fault_at, short_of, u32_at, count_at, vector_at}
use Rattle.wasm_code.specs.Instructions.{value_type_at, expression_at}
use Rattle.wasm_reader.specs.Grammar.{params_of}
use Rattle.wasm_reader.specs.Reading.{name_at, func_type_at, memory_at, table_at, import_at, export_at, global_at, element_at, segment_at, start_at}

-- ---- parts with a stated size

-- what a stated size leaves to read inside it and after it; not whole where it passes the end of what surrounds it, and
-- then what stands up to that end is read
pub record Inside : Type 0 where
  pub scope : Scope
  pub content : List ℕ
  pub after : List ℕ
  pub whole : Bool

-- what it is to pass the end of a part behind which these bytes stand; last is what it is where none do
abbrev pub short_before : ReadKind → List ℕ → ReadKind
short_before last [] = last
short_before last (b ∷ rest) = SectionSize

unfoldable pub open_at : ReadKind → Scope → List ℕ → Result Inside ReadFault
open_at last scope bytes =
    u32_at scope bytes >>= λ size.
    if nat_le size.0 (length size.1)
    then Ok (record {
      scope = record { end = scope.end - length (drop size.0 size.1); short = short_before last (drop size.0 size.1) };
      content = take size.0 size.1;
      after = drop size.0 size.1;
      whole = true;
    })
    else Ok (record { scope = scope; content = size.1; after = []; whole = false })

-- the content has to end where the part does
unfoldable pub close_at : Inside → List ℕ → Result (List ℕ) ReadFault
close_at part [] = if part.whole then Ok part.after else Err (short_of part.scope)
close_at part (b ∷ rest) = Err (fault_at SectionSize part.scope (b ∷ rest))

unfoldable pub sized_at : {A : Type 0} → ReadKind → (Scope → List ℕ → Reading A) → Scope → List ℕ → Reading A
sized_at last content scope bytes =
    open_at last scope bytes >>= λ part.
    content part.scope part.content >>= λ x.
    close_at part x.1 >>= λ after.
    Ok (x.0, after)

-- ---- code

abbrev pub is_bad_leb : ReadKind → Bool
is_bad_leb BadLeb = true
is_bad_leb kind = false

-- too many parameters are told at the first byte of the count of groups, behind a count that is wrong itself
abbrev pub crowded : ReadFault → Reading ℕ → Reading ℕ
crowded full (Ok n) = Err full
crowded full (Err fault) = if is_bad_leb fault.kind then Err fault else Err full

unfoldable pub crowded_at : Scope → List ℕ → Reading ℕ
crowded_at scope bytes = crowded (fault_at TooLarge scope bytes) (u32_at (record { end = scope.end; short = TooLarge }) bytes)

-- the count of groups of locals
unfoldable pub groups_at : ℕ → Scope → List ℕ → Reading ℕ
groups_at params scope [] = Err (short_of scope)
groups_at params scope (b ∷ rest) = if nat_lt 4096 params then crowded_at scope (b ∷ rest) else u32_at scope (b ∷ rest)

-- the groups one after the other, with the locals so far
unfoldable pub locals_from : ℕ → List ValueType → ℕ → Scope → List ℕ → Reading (List ValueType)
locals_from params before zero scope bytes = Ok (before, bytes)
locals_from params before (suc n) scope bytes =
    count_at (4096 - (params + length before)) scope bytes >>= λ count.
    value_type_at scope count.1 >>= λ kind.
    locals_from params (before ++ replicate count.0 kind.0) n scope kind.1

unfoldable pub locals_at : ℕ → Scope → List ℕ → Reading (List ValueType)
locals_at params scope bytes = groups_at params scope bytes >>= λ n. locals_from params [] n.0 scope n.1

unfoldable pub body_at : ℕ → Scope → List ℕ → Reading Code
body_at params scope bytes =
    locals_at params scope bytes >>= λ locals.
    expression_at scope locals.1 >>= λ code.
    Ok (record { locals = locals.0; body = code.0 }, code.1)

-- the code of so many functions from an index on; to pass the end of a body that ends where its section does, or where
-- the bytes of a section do that is cut off, is to pass that end
unfoldable pub bodies_at : List FuncType → List ℕ → ℕ → ℕ → Scope → List ℕ → Reading (List Code)
bodies_at types functions index zero scope bytes = Ok ([], bytes)
bodies_at types functions index (suc n) scope bytes =
    sized_at scope.short (body_at (params_of types functions index)) scope bytes >>= λ first.
    bodies_at types functions (suc index) n scope first.1 >>= λ others.
    Ok (first.0 ∷ others.0, others.1)

unfoldable pub code_section_at : List FuncType → List ℕ → Scope → List ℕ → Reading (List Code)
code_section_at types functions scope bytes = count_at 65536 scope bytes >>= λ n. bodies_at types functions 0 n.0 scope n.1

-- ---- sections

-- a custom section behind its number: its name is read, the rest passed over
unfoldable pub custom_at : Scope → List ℕ → Result (List ℕ) ReadFault
custom_at scope bytes = open_at SectionSize scope bytes >>= λ part. name_at part.scope part.content >>= λ name. close_at part []

-- what follows the custom section that stands here, if one does
unfoldable pub next_custom_at : Scope → List ℕ → Result (Option (List ℕ)) ReadFault
next_custom_at scope [] = Ok None
next_custom_at scope (id ∷ rest) = if id == 0 then (custom_at scope rest >>= λ after. Ok (Some after)) else Ok None

-- all custom sections that stand here, at most so many
unfoldable pub customs_from : ℕ → Scope → List ℕ → Result (List ℕ) ReadFault
customs_from zero scope bytes = Ok bytes
customs_from (suc most) scope bytes = next_custom_at scope bytes >>= λ next. option_map_or (λ after. customs_from most scope after) next (Ok bytes)

unfoldable pub customs_at : Scope → List ℕ → Result (List ℕ) ReadFault
customs_at scope bytes = customs_from (length bytes) scope bytes

-- a section that may be left out
unfoldable pub optional_at : {A : Type 0} → ℕ → A → (Scope → List ℕ → Reading A) → Scope → List ℕ → Reading A
optional_at id none content scope [] = Ok (none, [])
optional_at id none content scope (b ∷ rest) = if b == id then sized_at SectionSize content scope rest else Ok (none, b ∷ rest)

unfoldable pub section_at : {A : Type 0} → ℕ → A → (Scope → List ℕ → Reading A) → Scope → List ℕ → Reading A
section_at id none content scope bytes = customs_at scope bytes >>= λ rest. optional_at id none content scope rest

unfoldable pub magic_at : Scope → List ℕ → Result (List ℕ) ReadFault
magic_at scope (a ∷ b ∷ c ∷ d ∷ rest) = if (a == 0x00 && b == 0x61) && (c == 0x73 && d == 0x6D) then Ok rest else Err (fault_at BadMagic scope (a ∷ b ∷ c ∷ d ∷ rest))
magic_at scope bytes = Err (short_of scope)

unfoldable pub version_at : Scope → List ℕ → Result (List ℕ) ReadFault
version_at scope (a ∷ b ∷ c ∷ d ∷ rest) = if (a == 0x01 && b == 0x00) && (c == 0x00 && d == 0x00) then Ok rest else Err (fault_at BadVersion scope (a ∷ b ∷ c ∷ d ∷ rest))
version_at scope bytes = Err (short_of scope)

-- after the last section nothing may stand; then the counts of functions and bodies are compared
unfoldable pub ended_at : Scope → Module → List ℕ → Result Module ReadFault
ended_at scope m (b ∷ rest) = Err (fault_at SectionOrder scope (b ∷ rest))
ended_at scope m [] = if length m.functions == length m.code then Ok m else Err (fault_at CountMismatch scope [])

unfoldable pub end_at : Scope → Module → List ℕ → Result Module ReadFault
end_at scope m bytes = customs_at scope bytes >>= λ rest. ended_at scope m rest

unfoldable pub sections_at : Scope → List ℕ → Result Module ReadFault
sections_at scope bytes =
    section_at 1 [] (vector_at 65536 func_type_at) scope bytes >>= λ types.
    section_at 2 [] (vector_at 4294967295 import_at) scope types.1 >>= λ imports.
    section_at 3 [] (vector_at 65536 u32_at) scope imports.1 >>= λ functions.
    section_at 4 [] (vector_at 4294967295 table_at) scope functions.1 >>= λ tables.
    section_at 5 [] (vector_at 4294967295 memory_at) scope tables.1 >>= λ memories.
    section_at 6 [] (vector_at 4096 global_at) scope memories.1 >>= λ globals.
    section_at 7 [] (vector_at 4294967295 export_at) scope globals.1 >>= λ exports.
    section_at 8 None start_at scope exports.1 >>= λ start.
    section_at 9 [] (vector_at 4294967295 element_at) scope start.1 >>= λ elements.
    section_at 10 [] (code_section_at types.0 functions.0) scope elements.1 >>= λ code.
    section_at 11 [] (vector_at 4294967295 segment_at) scope code.1 >>= λ segments.
    end_at scope (record {
      types = types.0;
      imports = imports.0;
      functions = functions.0;
      tables = tables.0;
      memories = memories.0;
      globals = globals.0;
      exports = exports.0;
      start = start.0;
      elements = elements.0;
      code = code.0;
      segments = segments.0;
    }) segments.1

-- the header and the sections
unfoldable pub whole_at : Scope → List ℕ → Result Module ReadFault
whole_at scope bytes = magic_at scope bytes >>= λ version. version_at scope version >>= λ start. sections_at scope start

-- a module; that it is too long is told first, at place 0
unfoldable pub module_at : List ℕ → Result Module ReadFault
module_at bytes =
    if nat_lt 16777216 (length bytes)
    then Err (record { kind = TooLarge; place = 0 })
    else whole_at (record { end = length bytes; short = Truncated }) bytes
