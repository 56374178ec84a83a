-- What a kept value's contracts say of its entries.
use Rattle.std.specs.Prelude.{◌≡◌, ℕ, ◌==◌, List, [], ◌∷◌, ◌++◌, filter, Bool, true, false, Option, None, Some, Contains}

-- a new family's number is that of the entry that opens it
abbrev pub family_number : Option ℕ → ℕ → ℕ
family_number None n = n
family_number (Some f) n = f

module _ {E : Type 0} where
  -- the entries of one family
  abbrev pub of_family : (E → ℕ) → ℕ → List E → List E
  of_family family f = filter (λ e. family e == f)

  -- the entries of the family that is joined: a new family has none
  abbrev pub family_entries : (E → ℕ) → Option ℕ → List E → List E
  family_entries family None xs = []
  family_entries family (Some f) xs = of_family family f xs

  -- the list gained just this entry, if any, which has the number n
  abbrev pub Adds : (E → ℕ) → Option ℕ → ℕ → List E → Option E → Bool → List E → Type 0
  Adds family joins n before None added after = (added ≡ false) × (after ≡ before)
  Adds family joins n before (Some e) added after = (added ≡ true) × (after ≡ before ++ e ∷ []) × (family e ≡ family_number joins n)

-- A later value of a turnstile that began with `start`: it stands for this list.
pub record Fits {T E S : Type 0} (setting : T → S) (first : T → ℕ) (entries : T → List E) (sound : T → Type 0) (start : T) (list : List E) (value : T) : Type 0 where
  pub stands : entries value ≡ list
  pub same_setting : setting value ≡ setting start
  pub same_first : first value ≡ first start
  pub is_sound : sound value

-- the opening entry of the family that is joined is among these
abbrev pub MayJoin : {E : Type 0} → (E → ℕ) → Option ℕ → List (ℕ × E) → Type 0
MayJoin family None mine = Unit {0}
MayJoin {E} family (Some f) mine = (opener : E) × Contains mine (f, opener) × (family opener ≡ f)

-- an entry that was gained is of the family that was joined, or opens the one that has its number
abbrev pub OfFamily : {E : Type 0} → (E → ℕ) → Option ℕ → ℕ → Option E → Type 0
OfFamily family joins number None = Unit {0}
OfFamily family joins number (Some e) = family e ≡ family_number joins number
