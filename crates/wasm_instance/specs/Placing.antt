-- Segments one by one: whether they fit, and what they write.
use Rattle.std.specs.Prelude.{ℕ, ◌+◌, nat_le, Bool, Option, Some, None, Result, Ok, List, ◌++◌, take, drop, length, map}
use Rattle.wasm_types.specs.declared.values.Value.{Value}
use Rattle.wasm_types.specs.declared.modules.Element.{Element}
use Rattle.wasm_types.specs.declared.modules.Segment.{Segment}
use Rattle.wasm_memory.specs.Bytes.{written}
use Rattle.wasm_memory.specs.Linear.{Linear, with_bytes}
use Rattle.wasm_meaning.specs.declared.off.Off.{Off}
use Rattle.wasm_meaning.specs.Steps.{◌>>=◌}
use Rattle.wasm_meaning.specs.Instance.{offset_of, elements_of, segments_of, all_within, with_elements, filled}

-- a list with these items from a place on
abbrev pub with_part : {A : Type 0} → ℕ → List A → List A → List A
with_part at items xs = take at xs ++ (items ++ drop (at + length items) xs)

-- ---- the table

abbrev pub element_fits : ℕ → List Value → Element → Result Bool Off
element_fits size globals e = offset_of globals e.offset >>= λ n. Ok (nat_le (n + length e.functions) size)

abbrev pub elements_fit : ℕ → List Value → List Element → Result Bool Off
elements_fit size globals es = elements_of globals es >>= λ l. Ok (all_within size l)

abbrev pub element_placed : List Value → Element → List (Option ℕ) → Result (List (Option ℕ)) Off
element_placed globals e table = offset_of globals e.offset >>= λ n. Ok (with_part n (map Some e.functions) table)

abbrev pub elements_placed : List Value → List Element → List (Option ℕ) → Result (List (Option ℕ)) Off
elements_placed globals es table = elements_of globals es >>= λ l. Ok (with_elements l table)

-- ---- the memory

abbrev pub segment_fits : ℕ → List Value → Segment → Result Bool Off
segment_fits size globals s = offset_of globals s.offset >>= λ n. Ok (nat_le (n + length s.bytes) size)

abbrev pub segments_fit : ℕ → List Value → List Segment → Result Bool Off
segments_fit size globals ss = segments_of globals ss >>= λ l. Ok (all_within size l)

abbrev pub written_in : ℕ → List ℕ → Option Linear → Option Linear
written_in n bytes None = None
written_in n bytes (Some m) = Some (with_bytes m (written m.bytes n bytes))

abbrev pub segment_placed : List Value → Segment → Option Linear → Result (Option Linear) Off
segment_placed globals s memory = offset_of globals s.offset >>= λ n. Ok (written_in n s.bytes memory)

abbrev pub segments_placed : List Value → List Segment → Option Linear → Result (Option Linear) Off
segments_placed globals ss memory = segments_of globals ss >>= λ l. Ok (filled l memory)
