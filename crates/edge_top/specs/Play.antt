-- What `play` reads, and works out from that: the module is loaded, then the settings are read with the files of their stores,
-- then the run file, and then its guests are played.
use Rattle.std.specs.Prelude.{◌≡◌, ◌≤◌, ℕ, List, [], ◌∷◌, ◌++◌, length, Option, Result, Ok, Err}
use Rattle.cache_types.specs.declared.outer.OuterCall.{OuterCall}
use Rattle.cache_types.specs.declared.outer.OuterReply.{OuterReply}
use Rattle.edge_outside.specs.declared.fault.IoFault.TheVariants.{Failed}
use Rattle.edge_outside.specs.Faults.{raised}
use Rattle.edge_outside.specs.Files.{Read}
use Rattle.edge_imports.specs.Links.{LinkedModule}
use Rattle.edge_modules.specs.Loading.{IsLoaded, IsFault}
use Rattle.fastly_toml.specs.declared.settings.Settings.{Settings}
use Rattle.fastly_toml.specs.declared.fault.SettingsFault.{SettingsFault}
use Rattle.fastly_toml.specs.Reading.{Gives}
use Rattle.run_files.specs.Run.{most_bytes}
use Rattle.play_files.specs.declared.play.PlayFile.{PlayFile}
use Rattle.play_files.specs.Play.{IsPlayFile}
use Rattle.play_files.specs.Begins.{IsFirstBad}
use Rattle.player.specs.Plays.{Program}
use Rattle.schedule_play.specs.Links.{Asks}
use Rattle.guest_play.specs.Guests.{AreGuestPrograms}
use Rattle.guest_play.specs.Journal.{IsGuestJournal}
use Rattle.edge_top.specs.declared.exit.Exit.{Exit}
use Rattle.edge_top.specs.declared.exit.Exit.TheVariants as exit
use Rattle.edge_top.specs.Exit.{of_settings}
use Rattle.edge_top.specs.Script.{most_entries}
use Rattle.edge_top.specs.Several.{Then}
use Rattle.edge_top.specs.Worked.{Worked, HasText}

-- ---- the module

-- the module that the bytes spell and its links, or what stands in its way
abbrev pub IsFound : List ℕ → Result LinkedModule Exit → Type 0
IsFound bytes (Ok l) = IsLoaded bytes l
IsFound bytes (Err (exit.ModuleBad fault)) = IsFault bytes fault
IsFound bytes (Err exit.OutOfMemory) = Unit {0}
IsFound bytes (Err _) = ⊥

-- it was found, unless memory ran out
abbrev pub IsThis : LinkedModule → Result LinkedModule Exit → Type 0
IsThis l (Ok found) = found ≡ l
IsThis l (Err exit.OutOfMemory) = Unit {0}
IsThis l (Err _) = ⊥

-- and a module that runs here is not refused
pub record Finds (bytes : List ℕ) (found : Result LinkedModule Exit) : Type 0 where
  pub is : IsFound bytes found
  pub complete : (l : LinkedModule) → IsLoaded bytes l → IsThis l found

-- ---- the settings

-- what follows from the settings; a fault ends the command, and nothing more is read
abbrev pub FollowsSettings : (Settings → List Read → Worked → Type 0) → Result Settings SettingsFault → List Read → Worked → Type 0
FollowsSettings Next (Ok settings) reads worked = Next settings reads worked
FollowsSettings Next (Err fault) reads worked = (reads ≡ []) × (worked ≡ Err (of_settings fault))

-- the settings were read from their text and the files that it names, and this followed
pub record Settles (text : List ℕ) (Next : Settings → List Read → Worked → Type 0) (reads : List Read) (worked : Worked) : Type 0 where
  pub these : List Read
  pub others : List Read
  pub parts : reads ≡ these ++ others
  pub answer : Result Settings SettingsFault
  pub gives : Gives text these answer
  pub follows : FollowsSettings Next answer others worked

-- ---- the run file, and its guests

-- the link of a run without backends: whatever it is asked fails
abbrev pub AsksNobody : ℕ → OuterCall → Option OuterReply → ℕ → Type 0
AsksNobody =
    Asks (λ before address request answer after. (answer ≡ Err Failed) × (after ≡ raised before)) (λ before ticket answer after. (answer ≡ Err Failed) × (after ≡ raised before))
    (λ before ticket answer after. (answer ≡ Err Failed) × (after ≡ raised before)) (λ before tickets answer after. (answer ≡ 0) × (after ≡ before))

-- the bytes are this file
pub record IsPlayFileOf (bytes : List ℕ) (file : PlayFile) : Type 0 where
  pub size : length bytes ≤ most_bytes
  pub is : IsPlayFile bytes file

-- the text is a journal of guests of the module with these settings, one for each request of the file
pub record IsPlayedBy (l : LinkedModule) (settings : Settings) (file : PlayFile) (text : List ℕ) : Type 0 where
  pub programs : List Program
  pub programs_are : AreGuestPrograms l settings file.fuel file.random file.requests programs
  pub after : ℕ
  pub journal : IsGuestJournal AsksNobody most_entries programs file.steps 0 after text

-- of the file that the bytes spell
pub record IsPlayedFrom (l : LinkedModule) (settings : Settings) (bytes text : List ℕ) : Type 0 where
  pub file : PlayFile
  pub file_is : IsPlayFileOf bytes file
  pub journal : IsPlayedBy l settings file text

abbrev pub IsPlayed : LinkedModule → Settings → List ℕ → Worked → Type 0
IsPlayed l settings bytes (Ok text) = IsPlayedFrom l settings bytes text
IsPlayed l settings bytes (Err (exit.RunBad line)) = IsFirstBad bytes line
IsPlayed l settings bytes (Err exit.OutOfMemory) = Unit {0}
IsPlayed l settings bytes (Err _) = ⊥

-- and a run file is not refused
pub record PlaysRun (l : LinkedModule) (settings : Settings) (bytes : List ℕ) (worked : Worked) : Type 0 where
  pub is : IsPlayed l settings bytes worked
  pub complete : (file : PlayFile) → IsPlayFileOf bytes file → HasText worked

-- ---- the whole, behind the three files

-- it reads nothing more
abbrev pub OnRun : LinkedModule → List ℕ → Settings → List Read → Worked → Type 0
OnRun l bytes settings reads worked = (reads ≡ []) × PlaysRun l settings bytes worked

-- the order of what is refused: the module, the settings, the run file
abbrev pub Plays : List (List ℕ) → List Read → Worked → Type 0
Plays (binary ∷ (settings ∷ (run ∷ []))) reads worked = Then (Finds binary) (λ l. Settles settings (OnRun l run)) reads worked
Plays _ reads worked = ⊥
