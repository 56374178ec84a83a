-- One segment, and those that follow it.
use Rattle.std.proofs.Common.{◌≡◌, ℕ, ◌+◌, ◌<◌, get_or, add-one, nat_le, Bool, true, false, ◌&&◌, Option, Some, None, Result, Ok, Err, List, [], ◌∷◌, ◌++◌, take, drop, length, map, refl, sym, ap, ◌∙◌, append_assoc}
use Rattle.std.proofs.lemmas.List.{length-map}
use Rattle.std.proofs.Math.Seq.{drop-cons}
use Rattle.wasm_types.specs.declared.values.Value.{Value}
use Rattle.wasm_types.specs.declared.modules.GlobalItem.{GlobalItem}
use Rattle.wasm_types.specs.declared.modules.Element.{Element}
use Rattle.wasm_types.specs.declared.modules.Segment.{Segment}
use Rattle.wasm_memory.specs.Linear.{Linear}
use Rattle.wasm_meaning.specs.declared.off.Off.{Off}
use Rattle.wasm_meaning.specs.declared.off.Off.TheVariants as offs
use Rattle.wasm_flat.specs.declared.halt.Halt.{Halt}
use Rattle.wasm_flat.specs.declared.halt.Halt.TheVariants as halts
use Rattle.wasm_flat.specs.Made.{Stops}
use Rattle.wasm_meaning.specs.Steps.{◌>>=◌}
use Rattle.wasm_meaning.specs.Instance.{constant_of, offset_of, global_values, elements_of, segments_of, all_within, with_elements, filled}
use Rattle.wasm_instance.specs.Placing.{with_part, element_fits, elements_fit, element_placed, elements_placed, segment_fits, segments_fit, written_in, segment_placed, segments_placed}

-- what is left of a list, and its next item
next_is : {A : Type 0} (xs : List A) (k : ℕ) (x : A) → k < length xs → x ≡ get_or xs k x → drop k xs ≡ x ∷ drop (k + 1) xs
next_is {A} xs k x lt is = drop-cons xs k x lt ∙ rw (← is, add-one) refl

-- ---- globals

-- values, and those that follow
abbrev pub following : List Value → Result (List Value) Off → Result (List Value) Off
following vs r = r >>= λ ws. Ok (vs ++ ws)

one_more : (vs : List Value) (v : Value) (r : Result (List Value) Off) → following vs (r >>= λ ws. Ok (v ∷ ws)) ≡ following (vs ++ v ∷ []) r
one_more vs v (Ok ws) = ap Ok (sym (append_assoc vs (v ∷ []) ws))
one_more vs v (Err e) = refl

pub next_global : (vs : List Value) (v : Value) (g : GlobalItem) (gs : List GlobalItem) → constant_of [] g.start ≡ Ok v
    → following vs (global_values (g ∷ gs)) ≡ following (vs ++ v ∷ []) (global_values gs)
next_global vs v g gs h = rw h (one_more vs v (global_values gs))

pub no_global : (vs : List Value) (e : Off) (g : GlobalItem) (gs : List GlobalItem) → constant_of [] g.start ≡ Err e → following vs (global_values (g ∷ gs)) ≡ Err e
no_global vs e g gs h = rw h refl

-- ---- whether they fit

-- those before fit, or don't, and those that follow
abbrev pub both : Bool → Result Bool Off → Result Bool Off
both fit r = r >>= λ b. Ok (fit && b)

and_order : (a b c : Bool) → a && (b && c) ≡ (b && a) && c
and_order true true c = refl
and_order true false c = refl
and_order false true c = refl
and_order false false c = refl

next_fits : (fit : Bool) (size n : ℕ) (fs : List ℕ) (r : Result (List (ℕ × List ℕ)) Off)
    → both fit ((r >>= λ rest. Ok ((n, fs) ∷ rest)) >>= λ l. Ok (all_within size l)) ≡ both (nat_le (n + length fs) size && fit) (r >>= λ l. Ok (all_within size l))
next_fits fit size n fs (Ok l) = ap Ok (and_order fit (nat_le (n + length fs) size) (all_within size l))
next_fits fit size n fs (Err e) = refl

element_by : (fit b : Bool) (size : ℕ) (globals : List Value) (e : Element) (es : List Element) (o : Result ℕ Off) → offset_of globals e.offset ≡ o
    → (o >>= λ n. Ok (nat_le (n + length e.functions) size)) ≡ Ok b → both fit (elements_fit size globals (e ∷ es)) ≡ both (b && fit) (elements_fit size globals es)
element_by fit b size globals e es (Ok n) is h =
    let same : nat_le (n + length e.functions) size ≡ b = cc in
    rw is (next_fits fit size n e.functions (elements_of globals es) ∙ ap (λ x. both (x && fit) (elements_fit size globals es)) same)
element_by fit b size globals e es (Err f) is h = absurd cc

pub next_element_fits : (fit b : Bool) (size : ℕ) (globals : List Value) (e : Element) (es : List Element) → element_fits size globals e ≡ Ok b
    → both fit (elements_fit size globals (e ∷ es)) ≡ both (b && fit) (elements_fit size globals es)
next_element_fits fit b size globals e es h = element_by fit b size globals e es (offset_of globals e.offset) refl h

element_stops_by : (fit : Bool) (f : Off) (size : ℕ) (globals : List Value) (e : Element) (es : List Element) (o : Result ℕ Off) → offset_of globals e.offset ≡ o
    → (o >>= λ n. Ok (nat_le (n + length e.functions) size)) ≡ Err f → both fit (elements_fit size globals (e ∷ es)) ≡ Err f
element_stops_by fit f size globals e es (Ok n) is h = absurd cc
element_stops_by fit f size globals e es (Err g) is h = let same : g ≡ f = cc in rw is (ap Err same)

pub element_stops : (fit : Bool) (f : Off) (size : ℕ) (globals : List Value) (e : Element) (es : List Element) → element_fits size globals e ≡ Err f → both fit (elements_fit size globals (e ∷ es)) ≡ Err f
element_stops fit f size globals e es h = element_stops_by fit f size globals e es (offset_of globals e.offset) refl h

segment_by : (fit b : Bool) (size : ℕ) (globals : List Value) (e : Segment) (es : List Segment) (o : Result ℕ Off) → offset_of globals e.offset ≡ o
    → (o >>= λ n. Ok (nat_le (n + length e.bytes) size)) ≡ Ok b → both fit (segments_fit size globals (e ∷ es)) ≡ both (b && fit) (segments_fit size globals es)
segment_by fit b size globals e es (Ok n) is h =
    let same : nat_le (n + length e.bytes) size ≡ b = cc in
    rw is (next_fits fit size n e.bytes (segments_of globals es) ∙ ap (λ x. both (x && fit) (segments_fit size globals es)) same)
segment_by fit b size globals e es (Err f) is h = absurd cc

pub next_segment_fits : (fit b : Bool) (size : ℕ) (globals : List Value) (e : Segment) (es : List Segment) → segment_fits size globals e ≡ Ok b
    → both fit (segments_fit size globals (e ∷ es)) ≡ both (b && fit) (segments_fit size globals es)
next_segment_fits fit b size globals e es h = segment_by fit b size globals e es (offset_of globals e.offset) refl h

segment_stops_by : (fit : Bool) (f : Off) (size : ℕ) (globals : List Value) (e : Segment) (es : List Segment) (o : Result ℕ Off) → offset_of globals e.offset ≡ o
    → (o >>= λ n. Ok (nat_le (n + length e.bytes) size)) ≡ Err f → both fit (segments_fit size globals (e ∷ es)) ≡ Err f
segment_stops_by fit f size globals e es (Ok n) is h = absurd cc
segment_stops_by fit f size globals e es (Err g) is h = let same : g ≡ f = cc in rw is (ap Err same)

pub segment_stops : (fit : Bool) (f : Off) (size : ℕ) (globals : List Value) (e : Segment) (es : List Segment) → segment_fits size globals e ≡ Err f → both fit (segments_fit size globals (e ∷ es)) ≡ Err f
segment_stops fit f size globals e es h = segment_stops_by fit f size globals e es (offset_of globals e.offset) refl h

-- ---- what they write

element_writes : (n : ℕ) (fs : List ℕ) (t : List (Option ℕ)) (r : Result (List (ℕ × List ℕ)) Off)
    → ((r >>= λ rest. Ok ((n, fs) ∷ rest)) >>= λ l. Ok (with_elements l t)) ≡ (r >>= λ l. Ok (with_elements l (with_part n (map Some fs) t)))
element_writes n fs t (Ok l) = ap (λ k. Ok (with_elements l (take n t ++ (map Some fs ++ drop (n + k) t)))) (sym (length-map fs Some))
element_writes n fs t (Err e) = refl

element_placed_by : (globals : List Value) (e : Element) (es : List Element) (t u : List (Option ℕ)) (o : Result ℕ Off) → offset_of globals e.offset ≡ o
    → (o >>= λ n. Ok (with_part n (map Some e.functions) t)) ≡ Ok u → elements_placed globals (e ∷ es) t ≡ elements_placed globals es u
element_placed_by globals e es t u (Ok n) is h =
    let same : with_part n (map Some e.functions) t ≡ u = cc in
    rw is (element_writes n e.functions t (elements_of globals es) ∙ ap (elements_placed globals es) same)
element_placed_by globals e es t u (Err f) is h = absurd cc

pub next_element : (globals : List Value) (e : Element) (es : List Element) (t u : List (Option ℕ)) → element_placed globals e t ≡ Ok u → elements_placed globals (e ∷ es) t ≡ elements_placed globals es u
next_element globals e es t u h = element_placed_by globals e es t u (offset_of globals e.offset) refl h

no_element_by : (globals : List Value) (e : Element) (es : List Element) (t : List (Option ℕ)) (f : Off) (o : Result ℕ Off) → offset_of globals e.offset ≡ o
    → (o >>= λ n. Ok (with_part n (map Some e.functions) t)) ≡ Err f → elements_placed globals (e ∷ es) t ≡ Err f
no_element_by globals e es t f (Ok n) is h = absurd cc
no_element_by globals e es t f (Err g) is h = let same : g ≡ f = cc in rw is (ap Err same)

pub no_element : (globals : List Value) (e : Element) (es : List Element) (t : List (Option ℕ)) (f : Off) → element_placed globals e t ≡ Err f → elements_placed globals (e ∷ es) t ≡ Err f
no_element globals e es t f h = no_element_by globals e es t f (offset_of globals e.offset) refl h

segment_writes : (n : ℕ) (bytes : List ℕ) (m : Option Linear) (r : Result (List (ℕ × List ℕ)) Off)
    → ((r >>= λ rest. Ok ((n, bytes) ∷ rest)) >>= λ l. Ok (filled l m)) ≡ (r >>= λ l. Ok (filled l (written_in n bytes m)))
segment_writes n bytes None (Ok l) = refl
segment_writes n bytes (Some m) (Ok l) = refl
segment_writes n bytes m (Err e) = refl

segment_placed_by : (globals : List Value) (e : Segment) (es : List Segment) (t u : Option Linear) (o : Result ℕ Off) → offset_of globals e.offset ≡ o
    → (o >>= λ n. Ok (written_in n e.bytes t)) ≡ Ok u → segments_placed globals (e ∷ es) t ≡ segments_placed globals es u
segment_placed_by globals e es t u (Ok n) is h =
    let same : written_in n e.bytes t ≡ u = cc in
    rw is (segment_writes n e.bytes t (segments_of globals es) ∙ ap (segments_placed globals es) same)
segment_placed_by globals e es t u (Err f) is h = absurd cc

pub next_segment : (globals : List Value) (e : Segment) (es : List Segment) (t u : Option Linear) → segment_placed globals e t ≡ Ok u → segments_placed globals (e ∷ es) t ≡ segments_placed globals es u
next_segment globals e es t u h = segment_placed_by globals e es t u (offset_of globals e.offset) refl h

no_segment_by : (globals : List Value) (e : Segment) (es : List Segment) (t : Option Linear) (f : Off) (o : Result ℕ Off) → offset_of globals e.offset ≡ o
    → (o >>= λ n. Ok (written_in n e.bytes t)) ≡ Err f → segments_placed globals (e ∷ es) t ≡ Err f
no_segment_by globals e es t f (Ok n) is h = absurd cc
no_segment_by globals e es t f (Err g) is h = let same : g ≡ f = cc in rw is (ap Err same)

pub no_segment : (globals : List Value) (e : Segment) (es : List Segment) (t : Option Linear) (f : Off) → segment_placed globals e t ≡ Err f → segments_placed globals (e ∷ es) t ≡ Err f
no_segment globals e es t f h = no_segment_by globals e es t f (offset_of globals e.offset) refl h

-- ---- in loops

pub global_passed : (vs : List Value) (v : Value) (gs : List GlobalItem) (k : ℕ) (g : GlobalItem) → k < length gs → g ≡ get_or gs k g → constant_of [] g.start ≡ Ok v
    → following vs (global_values (drop k gs)) ≡ following (vs ++ v ∷ []) (global_values (drop (k + 1) gs))
global_passed vs v gs k g lt is h = ap (λ l. following vs (global_values l)) (next_is gs k g lt is) ∙ next_global vs v g (drop (k + 1) gs) h

pub global_stops : (vs : List Value) (e : Off) (gs : List GlobalItem) (k : ℕ) (g : GlobalItem) → k < length gs → g ≡ get_or gs k g → constant_of [] g.start ≡ Err e
    → following vs (global_values (drop k gs)) ≡ Err e
global_stops vs e gs k g lt is h = ap (λ l. following vs (global_values l)) (next_is gs k g lt is) ∙ no_global vs e g (drop (k + 1) gs) h

pub element_passed : (fit b : Bool) (size : ℕ) (globals : List Value) (es : List Element) (k : ℕ) (e : Element) → k < length es → e ≡ get_or es k e → element_fits size globals e ≡ Ok b
    → both fit (elements_fit size globals (drop k es)) ≡ both (b && fit) (elements_fit size globals (drop (k + 1) es))
element_passed fit b size globals es k e lt is h = ap (λ l. both fit (elements_fit size globals l)) (next_is es k e lt is) ∙ next_element_fits fit b size globals e (drop (k + 1) es) h

pub element_ends : (fit : Bool) (f : Off) (size : ℕ) (globals : List Value) (es : List Element) (k : ℕ) (e : Element) → k < length es → e ≡ get_or es k e → element_fits size globals e ≡ Err f
    → both fit (elements_fit size globals (drop k es)) ≡ Err f
element_ends fit f size globals es k e lt is h = ap (λ l. both fit (elements_fit size globals l)) (next_is es k e lt is) ∙ element_stops fit f size globals e (drop (k + 1) es) h

pub segment_passed : (fit b : Bool) (size : ℕ) (globals : List Value) (es : List Segment) (k : ℕ) (e : Segment) → k < length es → e ≡ get_or es k e → segment_fits size globals e ≡ Ok b
    → both fit (segments_fit size globals (drop k es)) ≡ both (b && fit) (segments_fit size globals (drop (k + 1) es))
segment_passed fit b size globals es k e lt is h = ap (λ l. both fit (segments_fit size globals l)) (next_is es k e lt is) ∙ next_segment_fits fit b size globals e (drop (k + 1) es) h

pub segment_ends : (fit : Bool) (f : Off) (size : ℕ) (globals : List Value) (es : List Segment) (k : ℕ) (e : Segment) → k < length es → e ≡ get_or es k e → segment_fits size globals e ≡ Err f
    → both fit (segments_fit size globals (drop k es)) ≡ Err f
segment_ends fit f size globals es k e lt is h = ap (λ l. both fit (segments_fit size globals l)) (next_is es k e lt is) ∙ segment_stops fit f size globals e (drop (k + 1) es) h

pub element_written : (globals : List Value) (es : List Element) (t u : List (Option ℕ)) (k : ℕ) (e : Element) → k < length es → e ≡ get_or es k e → element_placed globals e t ≡ Ok u
    → elements_placed globals (drop k es) t ≡ elements_placed globals (drop (k + 1) es) u
element_written globals es t u k e lt is h = ap (λ l. elements_placed globals l t) (next_is es k e lt is) ∙ next_element globals e (drop (k + 1) es) t u h

pub element_unwritten : (globals : List Value) (es : List Element) (t : List (Option ℕ)) (f : Off) (k : ℕ) (e : Element) → k < length es → e ≡ get_or es k e → element_placed globals e t ≡ Err f
    → elements_placed globals (drop k es) t ≡ Err f
element_unwritten globals es t f k e lt is h = ap (λ l. elements_placed globals l t) (next_is es k e lt is) ∙ no_element globals e (drop (k + 1) es) t f h

pub segment_written : (globals : List Value) (es : List Segment) (t u : Option Linear) (k : ℕ) (e : Segment) → k < length es → e ≡ get_or es k e → segment_placed globals e t ≡ Ok u
    → segments_placed globals (drop k es) t ≡ segments_placed globals (drop (k + 1) es) u
segment_written globals es t u k e lt is h = ap (λ l. segments_placed globals l t) (next_is es k e lt is) ∙ next_segment globals e (drop (k + 1) es) t u h

pub segment_unwritten : (globals : List Value) (es : List Segment) (t : Option Linear) (f : Off) (k : ℕ) (e : Segment) → k < length es → e ≡ get_or es k e → segment_placed globals e t ≡ Err f
    → segments_placed globals (drop k es) t ≡ Err f
segment_unwritten globals es t f k e lt is h = ap (λ l. segments_placed globals l t) (next_is es k e lt is) ∙ no_segment globals e (drop (k + 1) es) t f h

-- where a part stops, so does the whole
pub stops_too : {X Y : Type 0} (e : Halt) (r : Result X Off) (s : Result Y Off) → Stops e r → ((f : Off) → r ≡ Err f → s ≡ Err f) → Stops e s
stops_too halts.Memory r s h k = tt
stops_too halts.Stuck r s h k = k offs.Stuck h
stops_too (halts.Trap kind) r s h k = k (offs.Trap kind) h
