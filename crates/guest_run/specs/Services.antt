-- What all guests of a module share, and the program of one of them.
use Rattle.std.specs.Prelude.{◌≡◌, ℕ, List, [], ◌∷◌, Option, None, Some, Ok}
use Rattle.cache_types.specs.declared.outer.OuterReply.{OuterReply}
use Rattle.edge_body.specs.Heads.{Request}
use Rattle.edge_imports.specs.declared.hostcall.Hostcall.{Hostcall}
use Rattle.edge_imports.specs.Links.{LinkedModule, linked}
use Rattle.fastly_toml.specs.declared.settings.Settings.{Settings}
use Rattle.module_machine.specs.Shared.{IsImage}
use Rattle.player.specs.Plays.{Program}
use Rattle.guest_calls.specs.declared.call.Call.{Call}
use Rattle.guest_calls.specs.Calls.{standing}
use Rattle.guest_calls.specs.Rows.{first_tables}
use Rattle.guest_run.specs.declared.service.Service.{Service}
use Rattle.guest_run.specs.declared.service.ServiceFault.{ServiceFault}
use Rattle.guest_run.specs.declared.service.ServiceFault.TheVariants.{NotStanding, OutOfMemory}
use Rattle.guest_run.specs.Origins.{Origin, IsOrigin, starts_from, next}

abbrev pub with_call : Option Call → Option (List Call) → Option (List Call)
with_call (Some call) (Some calls) = Some (call ∷ calls)
with_call _ _ = None

-- the calls of imports, where all of them stand
abbrev pub calls_of : List Hostcall → Option (List Call)
calls_of [] = Some []
calls_of (call ∷ calls) = with_call (standing call) (calls_of calls)

-- the fuel of each of its guests, and how long each may take
abbrev pub fuel_in : Service → ℕ
fuel_in service = service.fuel

abbrev pub limit_in : Service → ℕ
limit_in service = service.limit

-- the settings that its guests read, and the seed of their random words
abbrev pub settings_in : Service → Settings
settings_in service = service.settings.now

abbrev pub random_in : Service → List ℕ
random_in service = service.random

-- the functions with which the code of each of its guests begins
abbrev pub starts_in : Service → List ℕ
starts_in service = starts_from service.linked.now.whole.start service.linked.now.links.start

-- the service of a linked module, whose calls stand
pub record IsServiceOf (l : LinkedModule) (service : Service) : Type 0 where
  pub same : service.linked.now ≡ l
  pub linked_is : linked l.whole ≡ Ok l.links
  pub image : IsImage l.whole service.image
  pub calls : calls_of l.links.calls ≡ Some service.calls.items

-- one of these calls doesn't stand, unless memory ran out
abbrev pub IsCallsFault : List Hostcall → ServiceFault → Type 0
IsCallsFault calls NotStanding = calls_of calls ≡ None
IsCallsFault calls OutOfMemory = Unit {0}

-- the program of a guest: by the module, its calls, the settings, the fuel, the seed, the guest's index and the request alone
pub record IsGuestProgram (l : LinkedModule) (settings : Settings) (fuel : ℕ) (random : List ℕ) (index : ℕ) (head : Request) (body : List ℕ) (program : Program) : Type 0 where
  pub calls : List Call
  pub calls_are : calls_of l.links.calls ≡ Some calls
  pub origin : Origin
  pub begins : IsOrigin l.whole l.links.start origin
  pub does : (replies : List OuterReply) → program replies ≡ next origin calls fuel (first_tables settings random index head body) replies
