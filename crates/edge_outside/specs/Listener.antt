-- Places with connections, which a listener gives one after another.
use Rattle.std.specs.Prelude.{◌≡◌, ◌<◌, ◌+◌, ◌-◌, ◌↔◌, ℕ, List, length, slice_get, slice_set, Result, Ok, Err, IsTrue, Option, None, Some, IsSomeAnd, MatchOption}
use Rattle.edge_outside.specs.declared.fault.IoFault.{IoFault}
use Rattle.edge_outside.specs.declared.fault.IoFault.TheVariants.{Failed}
use Rattle.edge_outside.specs.Faults.{Counts}
use Rattle.edge_outside.specs.Plan.{Calls, one_more, is_to_fail}

-- the places, each with a connection or empty, how many were given, and the calls
pub record ListenerContent (C : Type 0) : Type 0 where
  pub places : List (Option C)
  pub given : ℕ
  pub calls : Calls

-- a listener in memory: its places, and its count of faults
pub record ListenerInMemory (C : Type 0) : Type 0 where
  pub content : ListenerContent C
  pub faults : ℕ

module _ {C : Type 0} where
  -- what an answer says of the places: the connection of the next place, which is then empty; or none is left; or a fault
  abbrev pub Takes : ListenerContent C → Result (Option C) IoFault → ListenerContent C → Type 0
  Takes old (Ok (Some conn)) new = (slice_get old.places old.given ≡ Some (Some conn)) × (new.places ≡ slice_set old.places old.given None) × (new.given ≡ old.given + 1)
  Takes old (Ok None) new = (old.given ≡ length old.places) × (new.places ≡ old.places) × (new.given ≡ old.given)
  Takes old (Err fault) new = (new.places ≡ old.places) × (new.given ≡ old.given)

  -- one accept
  pub record Accepts (old : ListenerContent C) (answer : Result (Option C) IoFault) (new : ListenerContent C) : Type 0 where
    pub calls : new.calls ≡ one_more old.calls
    pub takes : Takes old answer new
    pub to_fail : (answer ≡ Err Failed) ↔ IsTrue (is_to_fail old.calls)

  -- the same of a listener that may not tell
  abbrev pub AcceptsWhereTold : Option (ListenerContent C) → Result (Option C) IoFault → Option (ListenerContent C) → Type 0
  AcceptsWhereTold old answer new = MatchOption old (new ≡ None) (λ content. IsSomeAnd new (Accepts content answer))

  -- the place of an index, counted from 1, is empty
  abbrev pub IsEmptyAt : List (Option C) → ℕ → Type 0
  IsEmptyAt places index = (0 < index) × (slice_get places (index - 1) ≡ Some None)

  -- a connection comes back into the empty place of its index; where that isn't empty, nothing changes
  pub record PutsBack (old : ListenerContent C) (index : ℕ) (conn : C) (new : ListenerContent C) : Type 0 where
    pub empty : IsEmptyAt old.places index → new.places ≡ slice_set old.places (index - 1) (Some conn)
    pub other : ¬ IsEmptyAt old.places index → new.places ≡ old.places
    pub given : new.given ≡ old.given
    pub calls : new.calls ≡ old.calls

  -- the same of a listener that may not tell
  abbrev pub PutsBackWhereTold : Option (ListenerContent C) → ℕ → C → Option (ListenerContent C) → Type 0
  PutsBackWhereTold old index conn new = MatchOption old (new ≡ None) (λ content. IsSomeAnd new (PutsBack content index conn))

  -- one accept of a listener in memory
  pub record AcceptsInMemory (before : ListenerInMemory C) (answer : Result (Option C) IoFault) (after : ListenerInMemory C) : Type 0 where
    pub content : Accepts before.content answer after.content
    pub faults : Counts (answer ≡ Err Failed) before.faults after.faults

  -- a connection given back to a listener in memory
  pub record PutsBackInMemory (before : ListenerInMemory C) (index : ℕ) (conn : C) (after : ListenerInMemory C) : Type 0 where
    pub content : PutsBack before.content index conn after.content
    pub faults : after.faults ≡ before.faults
