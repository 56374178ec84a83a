-- Asking an object of the outside for several things in their order, each once, up to the first that fails.
use Rattle.std.specs.Prelude.{◌≡◌, List, [], ◌∷◌, ◌++◌, Result, Ok, Err}

-- each of these was asked once, in this order, and answered with these values
abbrev pub AreAnswered : {A V F : Type 0} → List A → List (A × Result V F) → List V → Type 0
AreAnswered [] [] [] = Unit {0}
AreAnswered (asked ∷ others) (call ∷ calls) (value ∷ values) = (call.0 ≡ asked) × (call.1 ≡ Ok value) × AreAnswered others calls values
AreAnswered _ _ _ = ⊥

-- how it ends there with what is left: between two calls, by a fault that may come there, or by the next call, which failed
abbrev pub EndsAt : {A V F : Type 0} → (F → Type 0) → List (A × Result V F) → List A → F → Type 0
EndsAt Between [] left fault = Between fault
EndsAt Between (call ∷ []) (asked ∷ left) fault = (call.0 ≡ asked) × (call.1 ≡ Err fault)
EndsAt Between _ _ fault = ⊥

-- the earlier ones were answered, and there it ended
pub record StopsAt {A V F : Type 0} (Between : F → Type 0) (asked : List A) (calls : List (A × Result V F)) (fault : F) : Type 0 where
  pub earlier : List A
  pub left : List A
  pub asked_are : asked ≡ earlier ++ left
  pub before : List (A × Result V F)
  pub last : List (A × Result V F)
  pub calls_are : calls ≡ before ++ last
  pub values : List V
  pub answered : AreAnswered earlier before values
  pub ends : EndsAt Between last left fault

-- what was asked in order gave all values, or stopped
abbrev pub InOrder : {A V F : Type 0} → (F → Type 0) → List A → List (A × Result V F) → Result (List V) F → Type 0
InOrder Between asked calls (Ok values) = AreAnswered asked calls values
InOrder Between asked calls (Err fault) = StopsAt Between asked calls fault
