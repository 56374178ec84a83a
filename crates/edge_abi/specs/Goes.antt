-- What the code of a row promises: it is the row, step by step.
use Rattle.std.specs.Prelude.{◌≡◌, Bool, false, true, IsTrue, List, [], ◌∷◌, Result, Ok, Err}
use Rattle.cache_types.specs.Limits.{is_within_limits}
use Rattle.cache_types.specs.declared.calls.CacheCall.{CacheCall}
use Rattle.cache_types.specs.declared.calls.CacheCall.TheVariants.{Begin, End}
use Rattle.cache_types.specs.declared.outer.OuterCall.{OuterCall}
use Rattle.cache_types.specs.declared.outer.OuterCall.TheVariants as call
use Rattle.cache_types.specs.declared.outer.OuterReply.{OuterReply}
use Rattle.wasm_memory.specs.Linear.{Linear}
use Rattle.edge_abi.specs.declared.asked.Step.{Step}
use Rattle.edge_abi.specs.declared.asked.Step.TheVariants.{Done, Outer}
use Rattle.edge_abi.specs.declared.status.Status.{Status}
use Rattle.edge_abi.specs.declared.status.Refusal.{Refusal}
use Rattle.edge_abi.specs.declared.status.Refusal.TheVariants as refusal
use Rattle.edge_abi.specs.Told.{Wants, Row, answers, done}

-- a row that makes no outer call comes to this, whatever the replies
abbrev pub Ends : {T : Type 0} → Row T → Status → T → Linear → Type 0
Ends row status tables memory = (replies : List OuterReply) → row replies ≡ done status tables memory replies

-- the same, but for want of memory
abbrev pub Stops : {T : Type 0} → Row T → Result Status Refusal → T → Linear → Type 0
Stops row (Ok status) tables memory = Ends row status tables memory
Stops row (Err (refusal.Told status)) tables memory = Ends row status tables memory
Stops row (Err refusal.OutOfMemory) tables memory = Unit {0}

-- Begin and End are the guest's own
abbrev pub is_of_rows : CacheCall → Bool
is_of_rows Begin = false
is_of_rows End = false
is_of_rows _ = true

-- a call that a row may make, within the limits of the cache
abbrev pub MayMake : OuterCall → Type 0
MayMake (call.Cache cache_call) = IsTrue (is_of_rows cache_call) × IsTrue (is_within_limits cache_call)
MayMake _ = Unit {0}

-- How rows under way go on with a reply is told once for all of them: `resumed`.
module _ {T U : Type 0} (resumed : U → T → Linear → OuterReply → Row T) where
  -- one step of a row: what it comes to, or the call that it makes and how it goes on behind any reply
  abbrev pub Goes : Row T → Step U → T → Linear → Type 0
  Goes row (Done number) tables memory = (replies : List OuterReply) → row replies ≡ answers number tables memory replies
  Goes row (Outer call under) tables memory =
      MayMake call × (row [] ≡ Wants call)
      × ((reply : OuterReply) (replies : List OuterReply) → row (reply ∷ replies) ≡ resumed under tables memory reply replies)

  -- the same, but for want of memory
  abbrev pub Tells : Row T → Result (Step U) Refusal → T → Linear → Type 0
  Tells row (Ok step) tables memory = Goes row step tables memory
  Tells row (Err (refusal.Told status)) tables memory = Ends row status tables memory
  Tells row (Err refusal.OutOfMemory) tables memory = Unit {0}
