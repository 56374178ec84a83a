-- Ends leave typed states.
use Rattle.std.specs.Option.{option_to_list as listed, is_some}
use Rattle.std.proofs.Common.{◌≡◌, refl, subst, ◌∙◌, true, false, Bool, if◌then◌else◌, Option, List, [], ◌∷◌, ◌++◌}
use Rattle.wasm_types.specs.declared.types.ValueType.{ValueType}
use Rattle.wasm_types.specs.declared.values.Value.{Value}
use Rattle.wasm_types.specs.Nested.{Body, Done, Goes, InBlock, InLoop, InIf, InIfElse}
use Rattle.wasm_validate.specs.Rules.{Context, Labels}
use Rattle.wasm_validate.specs.Typing.{Types, AreTyped}
use Rattle.wasm_meaning.specs.World.{World}
use Rattle.wasm_meaning.specs.Frames.{Frame, Label, State}
use Rattle.wasm_meaning.specs.Runs.{settled_in, standing, settled, next, back, is_done}
use Rattle.wasm_sound.specs.Typed.{TypedAs, WorldTyped, Outer, inside, FrameTyped, AllWait, StateTyped}

pub retyped : (vs : List Value) (xs ys : Types) → xs ≡ ys → TypedAs vs xs → TypedAs vs ys
retyped vs xs ys e h = let P : Types → Type 0 = λ ts. TypedAs vs ts in subst P e h

pub typed_append : (vs ws : List Value) (xs ys : Types) → TypedAs vs xs → TypedAs ws ys → TypedAs (vs ++ ws) (xs ++ ys)
typed_append [] ws [] ys h k = k
typed_append [] ws (t ∷ ts) ys h k = absurd h
typed_append (v ∷ vs) ws [] ys h k = absurd h
typed_append (v ∷ vs) ws (t ∷ ts) ys h k = (h.0, typed_append vs ws ts ys h.1 k)

-- a frame with other blocks, operands and code
abbrev framed : Frame → List Label → List Value → Body → Frame
framed f ls vs b = record f { labels = ls; operands = vs; body = b }

abbrev pub Framed : Context → Types → Option ValueType → Frame → List Label → List Value → Body → Type 0
Framed c locals result f ls vs b = FrameTyped c locals result [] (record f { labels = ls; operands = vs; body = b })

settled_typed : (c : Context) (locals : Types) (result : Option ValueType) (f : Frame) (keeps : f.keeps ≡ is_some result) (has : TypedAs f.locals locals)
    (ls : List Label) (vs : List Value) (b : Body) (labels : Labels) (xs gives : Types) → TypedAs vs xs → AreTyped b (inside c locals result) labels xs gives → Outer (inside c locals result) ls gives labels
    → FrameTyped c locals result [] (settled_in ls vs b f)
settled_typed c locals result f keeps has [] vs b labels xs gives typed body outer = record { labels = labels; operands = xs; gives = gives; keeps = keeps; locals_typed = has; operands_typed = typed; body_typed = body; outer = outer }
settled_typed c locals result f keeps has (l ∷ ls) vs Done labels xs gives typed body (r, out, below, after, is, ends, k, again, low, rest, o) =
    settled_typed c locals result f keeps has ls (vs ++ l.below) l.rest out (listed r ++ below) after (typed_append vs l.below (listed r) below (retyped vs xs (listed r) (body ∙ ends) typed) low) rest o
settled_typed c locals result f keeps has (l ∷ ls) vs b labels xs gives typed body outer = record { labels = labels; operands = xs; gives = gives; keeps = keeps; locals_typed = has; operands_typed = typed; body_typed = body; outer = outer }

pub standing_typed : (c : Context) (locals : Types) (result : Option ValueType) (f : Frame) → FrameTyped c locals result [] f → FrameTyped c locals result [] (standing f)
standing_typed c locals result f k = settled_typed c locals result f k.keeps k.locals_typed f.labels f.operands f.body k.labels k.operands k.gives k.operands_typed k.body_typed k.outer

-- nothing of a frame is left only at the end of its function
no_labels : (ls : List Label) (vs : List Value) (b : Body) (f : Frame) → is_done (settled_in ls vs b f).body ≡ true → ((settled_in ls vs b f).body ≡ Done) × ((settled_in ls vs b f).labels ≡ [])
no_labels [] vs Done f e = (refl, refl)
no_labels [] vs (Goes i p rest) f e = absurd cc
no_labels [] vs (InBlock r x y) f e = absurd cc
no_labels [] vs (InLoop r x y) f e = absurd cc
no_labels [] vs (InIf r x y) f e = absurd cc
no_labels [] vs (InIfElse r x y z) f e = absurd cc
no_labels (l ∷ ls) vs Done f e = no_labels ls (vs ++ l.below) l.rest f e
no_labels (l ∷ ls) vs (Goes i p rest) f e = absurd cc
no_labels (l ∷ ls) vs (InBlock r x y) f e = absurd cc
no_labels (l ∷ ls) vs (InLoop r x y) f e = absurd cc
no_labels (l ∷ ls) vs (InIf r x y) f e = absurd cc
no_labels (l ∷ ls) vs (InIfElse r x y z) f e = absurd cc

-- its operands are its result
leaves_result : (c : Context) (locals : Types) (result : Option ValueType) (f : Frame) → FrameTyped c locals result [] f → (f.body ≡ Done) × (f.labels ≡ []) → TypedAs f.operands (listed result)
leaves_result c locals result f k (done, none) =
    let P : Body → Type 0 = λ b. AreTyped b (inside c locals result) k.labels k.operands k.gives in
    let Q : List Label → Type 0 = λ ls. Outer (inside c locals result) ls k.gives k.labels in
    let same : k.operands ≡ k.gives = subst P done k.body_typed in
    let last : (k.labels ≡ result ∷ []) × (k.gives ≡ listed result) = subst Q none k.outer in
    retyped f.operands k.operands (listed result) (same ∙ last.1) k.operands_typed

gone_back : (c : Context) (locals : Types) (result t : Option ValueType) (f caller : Frame) → FrameTyped c locals result (listed t) caller → TypedAs f.operands (listed t) → FrameTyped c locals result [] (back f caller)
gone_back c locals result t f caller k h = record {
  labels = k.labels;
  operands = listed t ++ k.operands;
  gives = k.gives;
  keeps = k.keeps;
  locals_typed = k.locals_typed;
  operands_typed = typed_append f.operands caller.operands (listed t) k.operands h k.operands_typed;
  body_typed = k.body_typed;
  outer = k.outer;
}

settles : (c : Context) (w : World) (cs : List Frame) (f : Frame) (locals : Types) (result : Option ValueType) → WorldTyped c w → FrameTyped c locals result [] f → AllWait c result cs → StateTyped c (settled w cs f)
settles c w [] f locals result g k a = record { locals = locals; result = result; frame = standing_typed c locals result f k; callers = tt; world = g }
settles c w (d ∷ ds) f locals result g k a =
    let again : is_done (standing f).body ≡ true → StateTyped c (settled w ds (back (standing f) d)) = λ e.
    settles c w ds (back (standing f) d) a.0 a.1 g
    (gone_back c a.0 a.1 result (standing f) d a.2 (leaves_result c locals result (standing f) (standing_typed c locals result f k) (no_labels f.labels f.operands f.body f e))) a.3 in
    at_test again (is_done (standing f).body) refl
  where
    at_test : (is_done (standing f).body ≡ true → StateTyped c (settled w ds (back (standing f) d))) → (b : Bool) → is_done (standing f).body ≡ b → StateTyped c (if b then settled w ds (back (standing f) d) else record { frame = standing f; callers = d ∷ ds; world = w })
    at_test again true e = again e
    at_test again false e = record { locals = locals; result = result; frame = standing_typed c locals result f k; callers = a; world = g }

pub next_typed : (c : Context) (s : State) → StateTyped c s → StateTyped c (next s)
next_typed c s k = settles c s.world s.callers s.frame k.locals k.result k.world k.frame k.callers
