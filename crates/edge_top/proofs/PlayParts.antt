-- A play by its parts: the files, the module, the settings, the run.
use Rattle.std.specs.Prelude.{◌≡◌, ◌≤◌, ℕ, List, [], ◌∷◌, ◌++◌, length, Result, Ok, Err, refl}
use Rattle.std.proofs.Common.{arith, subst, sym, inl, inr}
use Rattle.std.proofs.lemmas.List.{append-nil}
use Rattle.edge_outside.specs.declared.fault.IoFault.{IoFault}
use Rattle.edge_outside.specs.declared.fault.IoFault.TheVariants as io
use Rattle.edge_outside.specs.Files.{Read}
use Rattle.edge_outside.specs.InOrder.{InOrder}
use Rattle.line_reader.specs.declared.fault.RunFault.{RunFault}
use Rattle.line_reader.specs.declared.fault.RunFault.TheVariants as fault
use Rattle.line_reader.specs.ByLines.{IsReadAs}
use Rattle.edge_imports.specs.Links.{LinkedModule}
use Rattle.edge_modules.specs.declared.fault.Stopped.{Stopped}
use Rattle.edge_modules.specs.declared.fault.Stopped.TheVariants as stopped
use Rattle.edge_modules.specs.Loading.{IsLoaded, IsAnswered, IsCause as IsModuleCause}
use Rattle.fastly_toml.specs.declared.settings.Settings.{Settings}
use Rattle.fastly_toml.specs.declared.fault.SettingsFault.{SettingsFault}
use Rattle.fastly_toml.specs.Reading.{Gives}
use Rattle.run_files.specs.Run.{most_bytes}
use Rattle.play_files.specs.declared.play.PlayFile.{PlayFile}
use Rattle.play_files.specs.Play.{IsPlayFile}
use Rattle.play_files.specs.Begins.{IsCause}
use Rattle.play_files.specs.Requests.{AreRequests}
use Rattle.http_front.specs.declared.heads.Incoming.{Incoming}
use Rattle.script_lines.specs.declared.step.Step.{Step}
use Rattle.player.specs.Plays.{Program}
use Rattle.guest_play.specs.Guests.{AreGuestPrograms}
use Rattle.guest_play.specs.Journal.{IsGuestJournal}
use Rattle.edge_top.specs.declared.exit.Exit.{Exit}
use Rattle.edge_top.specs.declared.exit.Exit.TheVariants as exit
use Rattle.edge_top.specs.Exit.{of_read, of_run, of_load, of_settings}
use Rattle.edge_top.specs.Play.{AsksNobody, IsPlayedBy, PlaysRun, OnRun, Settles, Plays}
use Rattle.edge_top.specs.Script.{most_entries}
use Rattle.edge_top.specs.Several.{ReadsThen}
use Rattle.edge_top.specs.Worked.{Worked}

-- ---- the run

-- what can't be read isn't a play file
never : {V : Type 0} (value : V) (n : ℕ) → IsReadAs value (Err (fault.Line n)) → ⊥
never value n is = elim is [ inl same ↦ cc same | inr same ↦ cc same ]

-- a request for each text
pub requests-count : (texts : List (List ℕ)) (requests : List Incoming) → AreRequests texts requests → length texts ≡ length requests
requests-count [] [] are = refl
requests-count [] (request ∷ requests) are = absurd are
requests-count (text ∷ texts) [] are = absurd are
requests-count (text ∷ texts) (request ∷ requests) are = let rest = requests-count texts requests are.1 in omega (arith, rest)

pub run-refused : (l : LinkedModule) (settings : Settings) (bytes : List ℕ) (why : RunFault) → IsCause bytes why → ((file : PlayFile) → length bytes ≤ most_bytes → IsPlayFile bytes file → IsReadAs file (Err why)) → PlaysRun l settings bytes (Err (of_run why))
run-refused l settings bytes (fault.Line n) cause only = record { is = cause; complete = λ file of. absurd (never file n (only file of.size of.is)) }
run-refused l settings bytes fault.OutOfMemory cause only = record { is = tt; complete = λ file of. tt }

pub run-played : (l : LinkedModule) (settings : Settings) (bytes text : List ℕ) (file : PlayFile) → length bytes ≤ most_bytes → IsPlayFile bytes file → IsPlayedBy l settings file text → PlaysRun l settings bytes (Ok text)
run-played l settings bytes text file size is journal = record {
  is = record { file = file; file_is = record { size = size; is = is }; journal = journal };
  complete = λ other of. tt;
}

pub run-short : (l : LinkedModule) (settings : Settings) (bytes : List ℕ) → PlaysRun l settings bytes (Err exit.OutOfMemory)
run-short l settings bytes = record { is = tt; complete = λ file of. tt }

-- ---- the settings

pub settled : (l : LinkedModule) (text bytes : List ℕ) (settings : Settings) (reads : List Read) (worked : Worked) → Gives text reads (Ok settings) → PlaysRun l settings bytes worked → Settles text (OnRun l bytes) reads worked
settled l text bytes settings reads worked gives plays = record {
  these = reads;
  others = [];
  parts = sym (append-nil reads);
  answer = Ok settings;
  gives = gives;
  follows = (refl, plays);
}

pub unsettled : (l : LinkedModule) (text bytes : List ℕ) (why : SettingsFault) (reads : List Read) → Gives text reads (Err why) → Settles text (OnRun l bytes) reads (Err (of_settings why))
unsettled l text bytes why reads gives = record {
  these = reads;
  others = [];
  parts = sym (append-nil reads);
  answer = Err why;
  gives = gives;
  follows = (refl, refl);
}

-- ---- the module

pub found : (binary settings run : List ℕ) (l : LinkedModule) (reads : List Read) (worked : Worked) → IsLoaded binary l → ((other : LinkedModule) → IsLoaded binary other → IsAnswered other (Ok l)) → Settles settings (OnRun l run) reads worked → Plays (binary ∷ (settings ∷ (run ∷ []))) reads worked
found binary settings run l reads worked loaded only settles = record {
  found = Ok l;
  is = record { is = loaded; complete = only };
  follows = settles;
}

pub refused : (binary settings run : List ℕ) (why : Stopped) → IsModuleCause binary why → ((other : LinkedModule) → IsLoaded binary other → IsAnswered other (Err why)) → Plays (binary ∷ (settings ∷ (run ∷ []))) [] (Err (of_load why))
refused binary settings run (stopped.Fault why) cause only = record {
  found = Err (exit.ModuleBad why);
  is = record { is = cause; complete = λ other is. only other is };
  follows = (refl, refl);
}
refused binary settings run stopped.OutOfMemory cause only = record {
  found = Err exit.OutOfMemory;
  is = record { is = tt; complete = λ other is. tt };
  follows = (refl, refl);
}

-- ---- the files

pub read-then : (names pieces : List (List ℕ)) (these others : List Read) (worked : Worked) → InOrder (λ f. f ≡ io.OutOfMemory) names these (Ok pieces) → Plays pieces others worked → ReadsThen names Plays (these ++ others) worked
read-then names pieces these others worked answered plays = record {
  these = these;
  others = others;
  parts = refl;
  files = Ok pieces;
  are = answered;
  follows = plays;
}

pub unread : (names : List (List ℕ)) (reads : List Read) (why : IoFault) → InOrder (λ f. f ≡ io.OutOfMemory) names reads (Err why) → ReadsThen names Plays reads (Err (of_read why))
unread names reads why stops = record {
  these = reads;
  others = [];
  parts = sym (append-nil reads);
  files = Err (of_read why);
  are = (why, (stops, refl));
  follows = (refl, refl);
}

-- ---- the journal

pub journal-of : (l : LinkedModule) (settings : Settings) (file : PlayFile) (set : Settings) (fuel : ℕ) (random : List ℕ) (requests : List Incoming) (steps : List Step) (most before after : ℕ) → set ≡ settings → fuel ≡ file.fuel → random ≡ file.random → requests ≡ file.requests → steps ≡ file.steps → most ≡ most_entries → before ≡ 0 → (programs : List Program) → AreGuestPrograms l set fuel random requests programs → (text : List ℕ) → IsGuestJournal AsksNobody most programs steps before after text → IsPlayedBy l settings file text
journal-of l settings file set fuel random requests steps most before after set_is fuel_is random_is requests_are steps_are most_is begins programs are text journal = record {
  programs = programs;
  programs_are =
      subst (λ (s : Settings). AreGuestPrograms l s file.fuel file.random file.requests programs) set_is
      (subst (λ (n : ℕ). AreGuestPrograms l set n file.random file.requests programs) fuel_is
      (subst (λ (seed : List ℕ). AreGuestPrograms l set fuel seed file.requests programs) random_is
      (subst (λ (rs : List Incoming). AreGuestPrograms l set fuel random rs programs) requests_are are)));
  after = after;
  journal =
      subst (λ (n : ℕ). IsGuestJournal AsksNobody most_entries programs file.steps n after text) begins
      (subst (λ (n : ℕ). IsGuestJournal AsksNobody n programs file.steps before after text) most_is
      (subst (λ (ss : List Step). IsGuestJournal AsksNobody most programs ss before after text) steps_are journal));
}
