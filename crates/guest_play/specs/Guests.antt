-- The programs of guests that answer requests.
use Rattle.std.specs.Prelude.{ℕ, ◌+◌, List, [], ◌∷◌}
use Rattle.http_front.specs.declared.heads.Incoming.{Incoming}
use Rattle.fastly_toml.specs.declared.settings.Settings.{Settings}
use Rattle.edge_imports.specs.Links.{LinkedModule}
use Rattle.player.specs.Plays.{Program}
use Rattle.guest_run.specs.Services.{IsGuestProgram}

-- one program for each request, with indexes from this one on
abbrev pub EachIs : (ℕ → Incoming → Program → Type 0) → ℕ → List Incoming → List Program → Type 0
EachIs Is index [] [] = Unit {0}
EachIs Is index (request ∷ requests) (program ∷ programs) = Is index request program × EachIs Is (index + 1) requests programs
EachIs Is index _ _ = ⊥

-- the program of the guest of a module that answers a request: by the settings, the fuel, the seed, its index and the request
abbrev pub Answers : LinkedModule → Settings → ℕ → List ℕ → ℕ → Incoming → Program → Type 0
Answers l settings fuel random index request program = IsGuestProgram l settings fuel random index request.head request.body program

-- those of the guests that answer these requests, with indexes from 1
abbrev pub AreGuestPrograms : LinkedModule → Settings → ℕ → List ℕ → List Incoming → List Program → Type 0
AreGuestPrograms l settings fuel random requests programs = EachIs (Answers l settings fuel random) 1 requests programs
