-- The next call of a scripted guest, by its place.
use Rattle.std.specs.Prelude.{◌≡◌, ℕ, ◌+◌, ◌<◌, ◌≤◌, Bool, true, false, not, ◌&&◌, List, [], ◌∷◌, ◌++◌, length, nat_lt, ◌==◌, slice_get, refl, IsTrue, if◌then◌else◌, Option, None, Some, option_map, is_some, Result, Ok, Err, OnErr}
use Rattle.std.proofs.Common.{arith, ap, sym, ◌∙◌, subst, zero, suc, eqb-true, eq-eqb}
use Rattle.std.proofs.lemmas.Bool.{and_parts, not-true, ltb-true, ltb-false}
use Rattle.std.proofs.lemmas.List.{length_push}
use Rattle.cache_types.specs.declared.calls.CacheCall.{CacheCall}
use Rattle.cache_types.specs.declared.calls.CacheCall.TheVariants.{Begin, Lookup, TxLookup, Insert, TxInsert, TxUpdate, TxCancel, Close, Write, Finish, Abandon, Read, Purge, End}
use Rattle.cache_types.specs.Entries.{is_begin, is_end}
use Rattle.cache_types.specs.Limits.{is_within_limits}
use Rattle.script_lines.specs.declared.line.Line.{Line}
use Rattle.script_lines.specs.Names.{with_name}
use Rattle.player.specs.Plays.{call_in, is_over, is_end_call}
use Rattle.player.specs.May.{may_want}
use Rattle.scripted_guest.specs.Script.{call_of, name_in, line_call, next_call, turn_of, is_script, is_script_line, is_asking, is_end_of, is_end_at}

-- a call keeps its kind and its limits under another name
pub record IsLike (call other : CacheCall) : Type 0 where
  pub limits : is_within_limits call ≡ is_within_limits other
  pub begins : is_begin call ≡ is_begin other
  pub ends : is_end call ≡ is_end other

pub with_name-like : (name : ℕ) (call : CacheCall) → IsLike (with_name name call) call
with_name-like name Begin = record { limits = refl; begins = refl; ends = refl }
with_name-like name (Lookup key headers) = record { limits = refl; begins = refl; ends = refl }
with_name-like name (TxLookup key headers) = record { limits = refl; begins = refl; ends = refl }
with_name-like name (Insert key headers writing) = record { limits = refl; begins = refl; ends = refl }
with_name-like name (TxInsert tx writing) = record { limits = refl; begins = refl; ends = refl }
with_name-like name (TxUpdate tx terms) = record { limits = refl; begins = refl; ends = refl }
with_name-like name (TxCancel tx) = record { limits = refl; begins = refl; ends = refl }
with_name-like name (Close tx) = record { limits = refl; begins = refl; ends = refl }
with_name-like name (Write object piece) = record { limits = refl; begins = refl; ends = refl }
with_name-like name (Finish object) = record { limits = refl; begins = refl; ends = refl }
with_name-like name (Abandon object) = record { limits = refl; begins = refl; ends = refl }
with_name-like name (Read hit place most) = record { limits = refl; begins = refl; ends = refl }
with_name-like name (Purge key soft) = record { limits = refl; begins = refl; ends = refl }
with_name-like name End = record { limits = refl; begins = refl; ends = refl }

-- a line of a script
script-line : (script : List Line) (place : ℕ) (line : Line) → is_script script ≡ true → slice_get script place ≡ Some line → is_script_line line ≡ true
script-line [] place line good is = cc
script-line (first ∷ script) zero line good is =
    let same : first ≡ line = cc in subst (λ l. is_script_line l ≡ true) same ((and_parts (is_script_line first) (is_script script) good).0)
script-line (first ∷ script) (suc place) line good is =
    script-line script place line ((and_parts (is_script_line first) (is_script script) good).1) is

-- its call is within the limits, and neither Begin nor End
pub record IsLineCall (call : CacheCall) : Type 0 where
  pub limits : is_within_limits call ≡ true
  pub no_begin : is_begin call ≡ false
  pub no_end : is_end call ≡ false

line-call : (values : List ℕ) (line : Line) → is_script_line line ≡ true → IsLineCall (call_of values line)
line-call values line good =
    let like = with_name-like (name_in values line.named) line.call in
    let parts = and_parts (is_within_limits line.call) (not (is_begin line.call) && not (is_end line.call)) good in
    let kinds = and_parts (not (is_begin line.call)) (not (is_end line.call)) parts.1 in
    record { limits = like.limits ∙ parts.0; no_begin = like.begins ∙ not-true (is_begin line.call) kinds.0; no_end = like.ends ∙ not-true (is_end line.call) kinds.1 }

-- there is a line at each place below their number
some-line : (script : List Line) (place : ℕ) → place < length script → is_some (slice_get script place) ≡ true
some-line [] place within = absurd (omega arith)
some-line (line ∷ script) zero within = refl
some-line (line ∷ script) (suc place) within = some-line script place (omega arith)

-- what stands at a place behind the Begin: a line's call, End, or nothing
pub data At (script : List Line) (place : ℕ) (found : Option CacheCall) : Type 0 where
  AtLine : (call : CacheCall) → found ≡ Some call → IsLineCall call → place < length script → At script place found
  AtEnd : found ≡ Some End → place ≡ length script → At script place found
  Past : found ≡ None → length script < place → At script place found

line-at : (script : List Line) (values : List ℕ) (place : ℕ) → is_script script ≡ true → place < length script → (line : Option Line) → slice_get script place ≡ line → is_some line ≡ true → At script place (option_map (call_of values) line)
line-at script values place good within None at some = cc some
line-at script values place good within (Some line) at some = AtLine (call_of values line) refl (line-call values line (script-line script place line good at)) within

pub at-place : (script : List Line) (values : List ℕ) (place : ℕ) → is_script script ≡ true → At script place (line_call script values place)
at-place script values place good =
    let behind : (length script ≤ place) → (b : Bool) → (place == length script) ≡ b → At script place (if b then Some End else None) = λ least.
    elim [ true ↦ λ is. AtEnd refl (eqb-true place (length script) is) | false ↦ λ isnt. Past refl (omega (arith, least, apart place (length script) isnt)) ]
    in
    let with : (b : Bool) → nat_lt place (length script) ≡ b → At script place (if b then option_map (call_of values) (slice_get script place) else (if place == length script then Some End else None)) =
    elim [
      | true ↦ λ is. let within : place < length script = ltb-true place (length script) is in line-at script values place good within (slice_get script place) refl (some-line script place within)
      | false ↦ λ isnt. behind (ltb-false place (length script) isnt) (place == length script) refl
    ]
    in with (nat_lt place (length script)) refl
  where
    apart : (a b : ℕ) → (a == b) ≡ false → a ≡ b → ⊥
    apart a b isnt same = let is : (a == b) ≡ true = eq-eqb a b same in cc (is, isnt)

-- memory may be wanted there
pub wants-asking : (script : List Line) (values : List ℕ) → is_script script ≡ true → is_asking script values ≡ true → IsTrue (may_want (turn_of (next_call script values)))
wants-asking script [] good is = refl
wants-asking script (begin ∷ values) good is =
    let within : length values < length script = ltb-true (length values) (length script) is in
    elim (at-place script (begin ∷ values) (length values) good) [
      | AtLine call found line _ ↦ rw found (ap not line.no_end)
      | AtEnd _ same ↦ absurd (omega (arith, within, same))
      | Past _ past ↦ absurd (omega (arith, within, past))
    ]

pub onerr-from : {T E : Type 0} {P : Type 0} (r : Result T E) → P → OnErr r P
onerr-from (Ok x) p = tt
onerr-from (Err e) p = p

-- behind the last line
pub last-turn : (script : List Line) (values : List ℕ) → is_asking script values ≡ false → next_call script values ≡ (if is_end_at script values then Some End else None)
last-turn script [] is = cc is
last-turn script (begin ∷ values) is = rw is refl

-- the call that waits is End
end-line : (values : List ℕ) (line : Option Line) → is_end_of line ≡ is_end_call (call_in (turn_of (option_map (call_of values) line)))
end-line values None = refl
end-line values (Some line) = sym (with_name-like (name_in values line.named) line.call).ends

pub end-at : (script : List Line) (values : List ℕ) → is_end_at script values ≡ is_end_call (call_in (turn_of (next_call script values)))
end-at script [] = refl
end-at script (begin ∷ values) =
    let place : ℕ = length values in
    let behind : (b : Bool) → b ≡ is_end_call (call_in (turn_of (if b then Some End else None))) = elim [ true ↦ refl | false ↦ refl ] in
    let with : (b : Bool) → (if b then is_end_of (slice_get script place) else place == length script) ≡ is_end_call (call_in (turn_of (if b then option_map (call_of (begin ∷ values)) (slice_get script place) else (if place == length script then Some End else None)))) =
    elim [ true ↦ end-line (begin ∷ values) (slice_get script place) | false ↦ behind (place == length script) ]
    in with (nat_lt place (length script))

abbrev pub no_values : List ℕ → Bool
no_values [] = true
no_values (begin ∷ values) = false

-- what a call of a guest that goes on is: Begin first, and no other
pub record IsNextCall (values : List ℕ) (call : CacheCall) : Type 0 where
  pub limits : is_within_limits call ≡ true
  pub begins : is_begin call ≡ no_values values

pub next-call : (script : List Line) (values : List ℕ) (call : CacheCall) → is_script script ≡ true → next_call script values ≡ Some call → IsNextCall values call
next-call script [] call good is = let same : Begin ≡ call = cc in subst (IsNextCall []) same (record { limits = refl; begins = refl })
next-call script (begin ∷ values) call good is =
    elim (at-place script (begin ∷ values) (length values) good) [
      | AtLine found at line _ ↦ let same : found ≡ call = some-same found call (sym at ∙ is) in subst (IsNextCall (begin ∷ values)) same (record { limits = line.limits; begins = line.no_begin })
      | AtEnd at _ ↦ let same : End ≡ call = some-same End call (sym at ∙ is) in subst (IsNextCall (begin ∷ values)) same (record { limits = refl; begins = refl })
      | Past at _ ↦ none-some call (sym at ∙ is)
    ]
  where
    some-same : (x y : CacheCall) → Some x ≡ Some y → x ≡ y
    some-same x y is = cc is

    none-some : (call : CacheCall) → None ≡ Some call → IsNextCall (begin ∷ values) call
    none-some call is = cc is

-- behind a call that is answered, no call is left exactly where it was End
over-past : (script : List Line) (values : List ℕ) (place : ℕ) → is_script script ≡ true → (length script < place → is_over (turn_of (line_call script values place)) ≡ true) × (place ≤ length script → is_over (turn_of (line_call script values place)) ≡ false)
over-past script values place good =
    elim (at-place script values place good) [
      | AtLine call found _ within ↦ ((λ past. absurd (omega (arith, within, past))), λ _. rw found refl)
      | AtEnd found same ↦ ((λ past. absurd (omega (arith, same, past))), λ _. rw found refl)
      | Past found past ↦ ((λ _. rw found refl), λ within. absurd (omega (arith, past, within)))
    ]

pub over-next : (script : List Line) (values : List ℕ) (value : ℕ) (call : CacheCall) → is_script script ≡ true → next_call script values ≡ Some call → is_end call ≡ is_over (turn_of (next_call script (values ++ value ∷ [])))
over-next script [] value call good is = let same : Begin ≡ call = cc in subst (λ c. is_end c ≡ is_over (turn_of (next_call script (value ∷ [])))) same (sym ((over-past script (value ∷ []) 0 good).1 (omega arith)))
over-next script (begin ∷ values) value call good is =
    let count : length (values ++ value ∷ []) ≡ length values + 1 = length_push values value in
    let later = over-past script (begin ∷ (values ++ value ∷ [])) (length (values ++ value ∷ [])) good in
    elim (at-place script (begin ∷ values) (length values) good) [
      | AtLine found at line within ↦
          let same : found ≡ call = some-same found call (sym at ∙ is) in
          subst (λ c. is_end c ≡ is_over (turn_of (next_call script (begin ∷ (values ++ value ∷ []))))) same (line.no_end ∙ sym (later.1 (omega (arith, within, count))))
      | AtEnd at end ↦
          let same : End ≡ call = some-same End call (sym at ∙ is) in
          subst (λ c. is_end c ≡ is_over (turn_of (next_call script (begin ∷ (values ++ value ∷ []))))) same (sym (later.0 (omega (arith, end, count))))
      | Past at _ ↦ none-some (sym at ∙ is)
    ]
  where
    some-same : (x y : CacheCall) → Some x ≡ Some y → x ≡ y
    some-same x y is = cc is

    none-some : None ≡ Some call → is_end call ≡ is_over (turn_of (next_call script ((begin ∷ values) ++ value ∷ [])))
    none-some is = cc is
