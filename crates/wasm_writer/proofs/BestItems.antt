-- The spellings of imports, globals, exports and segments are in the grammar and the shortest.
use Rattle.std.proofs.Common.{◌≡◌, ℕ, List, ◌∷◌, ◌++◌, refl, subst}
use Rattle.wasm_types.specs.declared.modules.ImportKind.TheVariants as kinds
use Rattle.wasm_code.specs.Grammar.{IsU32, IsExpression}
use Rattle.wasm_reader.specs.Grammar.{IsList, AreBytes, IsName, IsMemory, IsTable, IsGlobalType, IsImportKind, IsImport, IsGlobal, export_byte, IsExport, IsElement, IsSegment}
use Rattle.wasm_writer.specs.Numbers.{number_text}
use Rattle.wasm_writer.specs.Spelled.{vector_text, bytes_text, limits_text, table_text, global_type_text, code_text, import_kind_text, import_text, global_text, export_text, element_text, segment_text}
use Rattle.wasm_writer.proofs.Best.{IsBest, AreBest, best_behind, best_after, best_as}
use Rattle.wasm_writer.proofs.BestNumbers.{u32_best}
use Rattle.wasm_writer.proofs.BestParts.{vector_best, bytes_best, name_best, memory_best, table_best, global_type_best, expression_best}

-- three parts one after another, with the places between them told first
best_three : (First Second Third As : List ℕ → List ℕ → Type 0) (a b c : List ℕ) → IsBest First a → IsBest Second b → IsBest Third c → ((bytes rest : List ℕ) → As bytes rest → (first : List ℕ) × (second : List ℕ) × First bytes first × Second first second × Third second rest) → ((bytes first second rest : List ℕ) → First bytes first → Second first second → Third second rest → As bytes rest) → IsBest As (a ++ (b ++ c))
best_three First Second Third As a b c first second third from to =
    best_as (λ bytes rest. (mid : List ℕ) × First bytes mid × ((later : List ℕ) × Second mid later × Third later rest)) As (a ++ (b ++ c)) (
    best_after First (λ mid rest. (later : List ℕ) × Second mid later × Third later rest) a (b ++ c) first (best_after Second Third b c second third))
    (λ bytes rest is. let parts = from bytes rest is in (parts.0, parts.2, (parts.1, parts.3, parts.4)))
    (λ bytes rest is. to bytes is.0 is.2.0 rest is.1 is.2.1 is.2.2)

import_kind_best : AreBest IsImportKind import_kind_text
unfolding import_kind_text
import_kind_best (kinds.Function t) = best_behind (λ b r. IsU32 b t r) 0x00 (number_text t) (u32_best t)
import_kind_best (kinds.Table l) = best_behind (λ b r. IsTable b l r) 0x01 (table_text l) (table_best l)
import_kind_best (kinds.Memory l) = best_behind (λ b r. IsMemory b l r) 0x02 (limits_text l) (memory_best l)
import_kind_best (kinds.Global g) = best_behind (λ b r. IsGlobalType b g r) 0x03 (global_type_text g) (global_type_best g)

pub import_best : AreBest IsImport import_text
unfolding import_text
import_best i =
    best_three (λ b r. IsName b i.module r) (λ b r. IsName b i.name r) (λ b r. IsImportKind b i.kind r) (λ b r. IsImport b i r) (bytes_text i.module) (bytes_text i.name) (import_kind_text i.kind) (name_best i.module) (name_best i.name) (import_kind_best i.kind)
    (λ b r is. is)
    (λ b first second r p q t. (first, second, p, q, t))

pub global_best : AreBest IsGlobal global_text
unfolding global_text
global_best g = best_after (λ b r. IsGlobalType b g.kind r) (λ b r. IsExpression b g.start r) (global_type_text g.kind) (code_text g.start) (global_type_best g.kind) (expression_best g.start)

pub export_best : AreBest IsExport export_text
unfolding export_text
export_best e =
    best_as (λ b r. (mid : List ℕ) × IsName b e.name mid × ((later : List ℕ) × (mid ≡ export_byte e.kind ∷ later) × IsU32 later e.index r)) (λ b r. IsExport b e r) (bytes_text e.name ++ (export_byte e.kind ∷ number_text e.index)) (
    best_after (λ b r. IsName b e.name r) (λ b r. (later : List ℕ) × (b ≡ export_byte e.kind ∷ later) × IsU32 later e.index r) (bytes_text e.name) (export_byte e.kind ∷ number_text e.index) (name_best e.name) (
    best_behind (λ b r. IsU32 b e.index r) (export_byte e.kind) (number_text e.index) (u32_best e.index)))
    (λ b r is. (export_byte e.kind ∷ is.0, is.1, (is.0, refl, is.2)))
    (λ b r is. (is.2.0, subst (λ (mid : List ℕ). IsName b e.name mid) is.2.1 is.1, is.2.2))

pub element_best : AreBest IsElement element_text
unfolding element_text
element_best e =
    best_three (λ b r. IsU32 b e.table r) (λ b r. IsExpression b e.offset r) (λ b r. IsList IsU32 b e.functions r) (λ b r. IsElement b e r) (number_text e.table) (code_text e.offset) (vector_text number_text e.functions) (u32_best e.table) (expression_best e.offset) (vector_best 4294967295 IsU32 number_text u32_best e.functions)
    (λ b r is. is)
    (λ b first second r p q t. (first, second, p, q, t))

pub segment_best : AreBest IsSegment segment_text
unfolding segment_text
segment_best s =
    best_three (λ b r. IsU32 b s.memory r) (λ b r. IsExpression b s.offset r) (λ b r. AreBytes b s.bytes r) (λ b r. IsSegment b s r) (number_text s.memory) (code_text s.offset) (bytes_text s.bytes) (u32_best s.memory) (expression_best s.offset) (bytes_best s.bytes)
    (λ b r is. is)
    (λ b first second r p q t. (first, second, p, q, t))
