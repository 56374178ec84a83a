-- The backends of the settings, and a request on its way to one.
use Rattle.std.specs.Prelude.{ℕ, Bool, not, List, Option, None, Some, Result, Ok, if◌then◌else◌}
use Rattle.std.specs.List.{list_all}
use Rattle.std.specs.BTreeMap.{get}
use Rattle.std.specs.Ordering.{nat_cmp}
use Rattle.std.specs.Cmp.Lexicographic.{slice_cmp}
use Rattle.cache_types.specs.Limits.{is_from_to}
use Rattle.edge_abi.specs.declared.status.Status.TheVariants as status
use Rattle.edge_abi.specs.declared.status.Refusal.{Refusal}
use Rattle.edge_abi.specs.Refusals.{and_then, unless, some_or}
use Rattle.edge_body.specs.Heads.{Request}
use Rattle.fastly_toml.specs.declared.settings.Backend.{Backend}
use Rattle.fastly_toml.specs.declared.settings.Settings.{Settings}
use Rattle.edge_pending.specs.declared.sending.Then.{Then}

-- the bytes 21 to 7E alone
abbrev pub is_address : List ℕ → Bool
is_address address = list_all (is_from_to 33 126) address

-- a backend of another address is none; settings that were read have only such addresses
abbrev pub if_address : Option Backend → Option Backend
if_address None = None
if_address (Some backend) = if is_address backend.address then Some backend else None

abbrev pub backend_named : Settings → List ℕ → Option Backend
backend_named settings name = if_address (get (slice_cmp nat_cmp) settings.backends name)

-- inval where there is none, unsupported where it is asked by HTTPS
abbrev pub address_for : Settings → List ℕ → Result (List ℕ) Refusal
address_for settings name =
    and_then (some_or (backend_named settings name) status.Inval) (λ (backend : Backend).
    and_then (unless (not backend.https) status.Unsupported) (λ _. Ok backend.address))

-- a request whose body is gathered
pub record Sent : Type 0 where
  pub head : Request
  pub address : List ℕ
  pub next : Then
