-- An instance is made in these parts.
use Rattle.std.proofs.Common.{◌≡◌, ℕ, Bool, true, false, ◌&&◌, length, Result, Ok, Err, List, refl, sym, ◌∙◌}
use Rattle.wasm_types.specs.declared.values.Value.{Value}
use Rattle.wasm_types.specs.declared.modules.Module.{Module}
use Rattle.wasm_meaning.specs.declared.off.Off.{Off}
use Rattle.wasm_meaning.specs.Steps.{◌>>=◌}
use Rattle.wasm_meaning.specs.Instance.{Instance, instance_of, global_values, elements_of, segments_of, placed, all_within, empty_table, empty_memory, size_of}
use Rattle.wasm_instance.specs.Starting.{started, fits_in, placed_where}

-- where the lists of segments are these
abbrev blank_with : Module → List Value → Instance
blank_with m globals = record { table = empty_table m.tables; world = record { globals = globals; memory = empty_memory m.memories } }

abbrev in_parts : Module → List Value → Result (List (ℕ × List ℕ)) Off → Result (List (ℕ × List ℕ)) Off → Result Instance Off
in_parts m globals es ss = es >>= λ elements. ss >>= λ bytes. placed m globals elements bytes

by_test : (m : Module) (globals : List Value) (es ss : List (ℕ × List ℕ)) (b : Bool) → elements_of globals m.elements ≡ Ok es → segments_of globals m.segments ≡ Ok ss
    → (all_within (length (empty_table m.tables)) es && all_within (size_of (empty_memory m.memories)) ss) ≡ b
    → placed m globals es ss ≡ placed_where (all_within (length (empty_table m.tables)) es && all_within (size_of (empty_memory m.memories)) ss) m (blank_with m globals)
by_test m globals es ss true e f test = rw (test, e, f) refl
by_test m globals es ss false e f test = rw test refl

by_parts : (m : Module) (globals : List Value) (es ss : Result (List (ℕ × List ℕ)) Off) → elements_of globals m.elements ≡ es → segments_of globals m.segments ≡ ss
    → in_parts m globals es ss ≡ (fits_in m (blank_with m globals) >>= λ b. placed_where b m (blank_with m globals))
by_parts m globals (Ok es) (Ok ss) e f = rw (e, f) (by_test m globals es ss (all_within (length (empty_table m.tables)) es && all_within (size_of (empty_memory m.memories)) ss) e f refl)
by_parts m globals (Ok es) (Err x) e f = rw (e, f) refl
by_parts m globals (Err x) ss e f = rw e refl

by_globals : (m : Module) (r : Result (List Value) Off) → global_values m.globals ≡ r
    → (r >>= λ globals. in_parts m globals (elements_of globals m.elements) (segments_of globals m.segments)) ≡ (r >>= λ globals. fits_in m (blank_with m globals) >>= λ b. placed_where b m (blank_with m globals))
by_globals m (Ok globals) e = by_parts m globals (elements_of globals m.elements) (segments_of globals m.segments) refl refl
by_globals m (Err x) e = refl

bound : {A B C : Type 0} (r : Result A Off) (f : A → B) (g : B → Result C Off) → ((r >>= λ x. Ok (f x)) >>= g) ≡ (r >>= λ x. g (f x))
bound (Ok x) f g = refl
bound (Err e) f g = refl

pub starts_so : (m : Module) → instance_of m ≡ started m
starts_so m = by_globals m (global_values m.globals) refl ∙ sym (bound (global_values m.globals) (blank_with m) (λ i. fits_in m i >>= λ b. placed_where b m i))
