-- What is found, rule by rule, when the parts know the entries.
use Rattle.std.specs.Prelude.{◌≡◌, ℕ, Bool, true, false, cond, not, ◌&&◌, ◌==◌, List, [], ◌∷◌, Option, Some, None, is_some, option_map, refl, if◌then◌else◌}
use Rattle.std.specs.List.{find, filter_map, cons_option}
use Rattle.std.specs.Option.{option_map_or}
use Rattle.std.proofs.Common.{sym, ap, ◌∙◌, eq-eqb}
use Rattle.std.proofs.lemmas.Bool.{false≢true}
use Rattle.std.proofs.lemmas.Option.{same_Some, none-some}
use Rattle.cache_types.specs.declared.calls.Field.{Field}
use Rattle.cache_types.specs.declared.entries.Entry.{Entry}
use Rattle.cache_types.specs.Slots.{Slot, slot_for, same_slot}
use Rattle.cache_types.specs.Objects.{Insertion, Renewal, last_renewal, insertion_at, insertions, slot_of, is_alive}
use Rattle.cache_types.specs.Found.{last_in, first_alive}
use Rattle.cache_types.proofs.Lists.{by_test}
use Rattle.cache_index.specs.Told.{object_told}
use Rattle.cache_objects.specs.declared.standing.Standing.{Standing}
use Rattle.cache_objects.specs.Standings.{ObjectMap, standing_at}
use Rattle.cache_core.specs.declared.parts.Parts.{Parts}
use Rattle.cache_core.specs.Object.{Fate, Object, fate_of, object_by, Holds, Each}
use Rattle.cache_core.specs.Knows.{renewer, standing_of, IsHeld, Knows}
use Rattle.cache_core.specs.Living.{has_life, living}
use Rattle.cache_core.proofs.Renewing.{terms_stand}

-- what is found in a list is found there by its number
found_again : {X : Type 0} (p : X → Bool) (number : X → ℕ) (x : X) (xs : List X) → find p xs ≡ Some x → is_some (find (λ y. number y == number x) xs) ≡ true
found_again p number x [] is = absurd (none-some x is)
found_again {X} p number x (y ∷ ys) is = by_test (p y)
    (λ h. here (number y == number x) (eq-eqb (number y) (number x) (ap number (same_Some y x (sym (ap (λ b. cond b (Some y) (find p ys)) h) ∙ is)))))
    (λ h. later (number y == number x) (found_again p number x ys (sym (ap (λ b. cond b (Some y) (find p ys)) h) ∙ is)))
  where
    here : (b : Bool) → b ≡ true → is_some (cond b (Some y) (find (λ z. number z == number x) ys)) ≡ true
    here true e = refl
    here false e = absurd (false≢true e)

    later : (b : Bool) → is_some (find (λ z. number z == number x) ys) ≡ true → is_some (cond b (Some y) (find (λ z. number z == number x) ys)) ≡ true
    later true e = refl
    later false e = e

life_by : (n : ℕ) (i : Option Insertion) (r : Option Renewal) (f : Fate) (s : Option Standing) → is_some i ≡ true → (is_some i ≡ true → is_some r ≡ true) → Holds (λ (x : Object). s ≡ Some (standing_of n x)) (object_by i r f) → option_map_or has_life s false ≡ (not f.abandoned && not f.purged)
life_by n None r f s some stand h = absurd (false≢true some)
life_by n (Some m) None f s some stand h = absurd (false≢true (stand some))
life_by n (Some m) (Some r) f s some stand h = ap (λ t. option_map_or has_life t false) h

-- what is held of an object says whether it is alive
life_is : (past : List Entry) (objects : ObjectMap) → Each (IsHeld objects past) past → (o : ℕ) → is_some (insertion_at past o) ≡ true → option_map_or has_life (standing_at objects o) false ≡ is_alive past o
life_is past objects held o some = life_by (renewer past o) (insertion_at past o) (last_renewal past o) (fate_of past o) (standing_at objects o) some (terms_stand past o) (held o)

one_alive : (alive : Bool) (made : Insertion) → (if alive then Some made.object else None) ≡ option_map (λ (m : Insertion). m.object) (cond alive (Some made) None)
one_alive true made = refl
one_alive false made = refl

living_is : (past : List Entry) (parts : Parts) → Knows parts past → (slot : Slot) (o : Option Insertion) → last_in past slot ≡ o → living parts.objects (option_map (λ (m : Insertion). m.object) o) ≡ option_map (λ (m : Insertion). m.object) (find (λ (m : Insertion). is_alive past m.object) (cons_option o []))
living_is past parts knows slot None is = refl
living_is past parts knows slot (Some made) is =
    let some = found_again (λ (m : Insertion). same_slot (slot_of m) slot) (λ (m : Insertion). m.object) made (insertions past) is in
    ap (λ b. if b then Some made.object else None) (life_is past parts.objects knows.held made.object some) ∙ one_alive (is_alive past made.object) made

-- what the parts find under a rule
pub under : (past : List Entry) (parts : Parts) → Knows parts past → (key : List ℕ) (headers : List Field) (rule : List (List ℕ)) → living parts.objects (object_told (insertions past) (slot_for key rule headers)) ≡ option_map (λ (m : Insertion). m.object) (first_alive past key headers (rule ∷ []))
under past parts knows key headers rule = living_is past parts knows (slot_for key rule headers) (last_in past (slot_for key rule headers)) refl

first_more : (p : Insertion → Bool) (first : Option Insertion) (xs : List Insertion) (b : Bool) → is_some (find p (cons_option first [])) ≡ b → (b ≡ true → find p (cons_option first xs) ≡ find p (cons_option first [])) × (b ≡ false → find p (cons_option first xs) ≡ find p xs)
first_more p None xs b is = (λ h. absurd (false≢true (is ∙ h)), λ h. refl)
first_more p (Some x) xs b is = case (p x) refl is
  where
    case : (t : Bool) → p x ≡ t → is_some (cond t (Some x) None) ≡ b → (b ≡ true → cond t (Some x) (find p xs) ≡ cond t (Some x) None) × (b ≡ false → cond t (Some x) (find p xs) ≡ find p xs)
    case true e f = (λ h. refl, λ h. absurd (false≢true (sym h ∙ sym f)))
    case false e f = (λ h. absurd (false≢true (f ∙ h)), λ h. refl)

some_object : (o : Option Insertion) → is_some (option_map (λ (m : Insertion). m.object) o) ≡ is_some o
some_object None = refl
some_object (Some m) = refl

pub here_alive : (past : List Entry) (key : List ℕ) (headers : List Field) (rule : List (List ℕ)) (rules : List (List (List ℕ))) → is_some (option_map (λ (m : Insertion). m.object) (first_alive past key headers (rule ∷ []))) ≡ true → first_alive past key headers (rule ∷ rules) ≡ first_alive past key headers (rule ∷ [])
here_alive past key headers rule rules some =
    (first_more (λ (m : Insertion). is_alive past m.object) (last_in past (slot_for key rule headers)) (filter_map (λ r. last_in past (slot_for key r headers)) rules) true
    (sym (some_object (first_alive past key headers (rule ∷ []))) ∙ some)).0 refl

pub none_here : (past : List Entry) (key : List ℕ) (headers : List Field) (rule : List (List ℕ)) (rules : List (List (List ℕ))) → is_some (option_map (λ (m : Insertion). m.object) (first_alive past key headers (rule ∷ []))) ≡ false → first_alive past key headers (rule ∷ rules) ≡ first_alive past key headers rules
none_here past key headers rule rules none =
    (first_more (λ (m : Insertion). is_alive past m.object) (last_in past (slot_for key rule headers)) (filter_map (λ r. last_in past (slot_for key r headers)) rules) false
    (sym (some_object (first_alive past key headers (rule ∷ []))) ∙ none)).1 refl
