-- No row on bodies asks a link.
use Rattle.std.specs.Prelude.{◌≡◌, Bool, true, false}
use Rattle.cache_types.specs.declared.outer.OuterCall.{OuterCall}
use Rattle.cache_types.specs.declared.outer.OuterCall.TheVariants as call
use Rattle.edge_abi.specs.declared.asked.Step.{Step}
use Rattle.edge_abi.specs.declared.asked.Step.TheVariants.{Done, Outer}

-- a request to a backend, or what became of one
abbrev pub asks_link : OuterCall → Bool
asks_link (call.Start address request) = true
asks_link (call.Poll ticket) = true
asks_link (call.WaitFor ticket) = true
asks_link (call.AnyOf tickets) = true
asks_link _ = false

abbrev pub IsUnlinked : {U : Type 0} → Step U → Type 0
IsUnlinked (Done number) = Unit {0}
IsUnlinked (Outer call under) = asks_link call ≡ false
