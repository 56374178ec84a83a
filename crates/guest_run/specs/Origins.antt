-- Where the code of a module begins, and the program that a guest of it is.
use Rattle.std.specs.Prelude.{◌≡◌, ℕ, List, [], ◌∷◌, Option, None, Some, Ok, Err, slice_get}
use Rattle.cache_types.specs.declared.calls.CacheCall.TheVariants.{Begin}
use Rattle.cache_types.specs.declared.outer.OuterCall.TheVariants as call
use Rattle.cache_types.specs.declared.outer.Outcome.TheVariants as outcome
use Rattle.wasm_types.specs.declared.values.TrapKind.{TrapKind}
use Rattle.wasm_types.specs.declared.modules.Module.{Module}
use Rattle.wasm_meaning.specs.declared.off.Off.TheVariants.{Trap}
use Rattle.wasm_meaning.specs.World.{World}
use Rattle.wasm_meaning.specs.Frames.{Program as Code}
use Rattle.wasm_meaning.specs.Instance.{Instance, IsProgram, instance_of}
use Rattle.player.specs.declared.turn.Turn.TheVariants.{Outer}
use Rattle.player.specs.Plays.{Program}
use Rattle.guest_calls.specs.declared.call.Call.{Call}
use Rattle.guest_calls.specs.declared.tables.GuestTables.{GuestTables}
use Rattle.guest_run.specs.Next.{Entry, trap_number, ends, in_turn}

-- ---- the functions that begin, by their indices

-- the module's start function, where it has one, and then this one
abbrev pub starts_from : Option ℕ → ℕ → List ℕ
starts_from None start = start ∷ []
starts_from (Some function) start = function ∷ start ∷ []

-- the function with this index, which takes nothing, and which the module itself defines
pub record IsEntry (code : Code) (index : ℕ) (entry : Entry) : Type 0 where
  pub found : slice_get code.functions index ≡ Some entry.function
  pub takes_nothing : entry.function.kind.params ≡ []
  pub defined : entry.function.body ≡ Some entry.body

abbrev pub AreEntries : Code → List ℕ → List Entry → Type 0
AreEntries code [] [] = Unit {0}
AreEntries code (index ∷ indices) (entry ∷ entries) = IsEntry code index entry × AreEntries code indices entries
AreEntries code indices entries = ⊥

-- ---- where the code begins

-- the code, what begins in it, and the world that it finds; or the trap that the instance of the module is
pub data Origin : Type 0 where
  Begins : Code → List Entry → World → Origin
  Faults : TrapKind → Origin

-- the instance is made first; then the start function of the module is called, if there is one (section 4.5.4), and then the
-- function with this index
pub record IsFirst (m : Module) (start : ℕ) (code : Code) (entries : List Entry) (w : World) : Type 0 where
  pub begun : Instance
  pub instance_is : instance_of m ≡ Ok begun
  pub program : IsProgram m begun code
  pub entries_are : AreEntries code (starts_from m.start start) entries
  pub world_is : w ≡ begun.world

-- where the code of a module begins that starts with this function
abbrev pub IsOrigin : Module → ℕ → Origin → Type 0
IsOrigin m start (Begins code entries w) = IsFirst m start code entries w
IsOrigin m start (Faults kind) = instance_of m ≡ Err (Trap kind)

-- the instance is made behind the Begin; a segment out of bounds is a trap
abbrev pub behind_begin : Origin → List Call → ℕ → GuestTables → Program
behind_begin (Begins code entries w) calls fuel t replies = in_turn code calls entries fuel w t replies
behind_begin (Faults kind) calls fuel t replies = ends (outcome.Trapped (trap_number kind)) replies

-- what a guest does next: Begin first, then what its code does with this fuel, then End
abbrev pub next : Origin → List Call → ℕ → GuestTables → Program
next origin calls fuel t [] = Outer (call.Cache Begin)
next origin calls fuel t (begun ∷ replies) = behind_begin origin calls fuel t replies
