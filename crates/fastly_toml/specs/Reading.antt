-- What reading settings gives, and which reads it makes.
use Rattle.std.specs.Prelude.{ℕ, ◌≡◌, ◌⊎◌, List, [], Option, None, Some, Result, Ok, Err, codes}
use Rattle.edge_outside.specs.declared.fault.IoFault.{IoFault}
use Rattle.edge_outside.specs.declared.fault.IoFault.TheVariants as io
use Rattle.edge_outside.specs.Files.{Read}
use Rattle.edge_outside.specs.InOrder.{AreAnswered, StopsAt}
use Rattle.toml.specs.Data.{Members}
use Rattle.fastly_toml.specs.declared.settings.Settings.{Settings}
use Rattle.fastly_toml.specs.declared.fault.SettingsFault.{SettingsFault}
use Rattle.fastly_toml.specs.declared.fault.SettingsFault.TheVariants.{Bad, ReadFault, OutOfMemory}
use Rattle.fastly_toml.specs.declared.fault.SettingsKind.{SettingsKind}
use Rattle.fastly_toml.specs.declared.fault.SettingsKind.TheVariants.{BadFile}
use Rattle.fastly_toml.specs.Document.{members_at}
use Rattle.fastly_toml.specs.Kinds.{judged}
use Rattle.fastly_toml.specs.Files.{files_of}
use Rattle.fastly_toml.specs.Maps.{map_of, backend_pairs, stores_of, stores_shown}

-- what a read that failed is told as
abbrev pub fault_of : IoFault → SettingsFault
fault_of io.Failed = ReadFault
fault_of io.OutOfMemory = OutOfMemory

-- the settings are those of a document and the bytes of its files
pub record AreSettings (document : Members) (pieces : List (List ℕ)) (settings : Settings) : Type 0 where
  pub backends : settings.backends.entries ≡ map_of (backend_pairs (members_at (codes "backends") document))
  pub stores : stores_of document pieces ≡ Some (stores_shown settings)

-- what a document makes with the bytes of its files: settings, or `bad-file` where one is no JSON object of texts
abbrev pub Makes : Members → List (List ℕ) → Result Settings SettingsFault → Type 0
Makes document pieces (Ok settings) = AreSettings document pieces settings
Makes document pieces (Err (Bad kind)) = (kind ≡ BadFile) × (stores_of document pieces ≡ None)
Makes document pieces (Err ReadFault) = ⊥
Makes document pieces (Err OutOfMemory) = Unit {0}

-- all files of a document were read, each once and in order, and this was made of their bytes
pub record AllRead (document : Members) (reads : List Read) (answer : Result Settings SettingsFault) : Type 0 where
  pub pieces : List (List ℕ)
  pub answered : AreAnswered (files_of document) reads pieces
  pub makes : Makes document pieces answer

-- the reads stopped: at the first that failed so, or between two where memory ran out
pub record Stopped (document : Members) (reads : List Read) (answer : Result Settings SettingsFault) : Type 0 where
  pub fault : IoFault
  pub stops : StopsAt (λ f. f ≡ io.OutOfMemory) (files_of document) reads fault
  pub told : answer ≡ Err (fault_of fault)

abbrev pub GivesOf : Members → List Read → Result Settings SettingsFault → Type 0
GivesOf document reads answer = AllRead document reads answer ⊎ Stopped document reads answer

-- The first of the first four kinds that stands is told, and nothing is read. Where none stands, the document's files are
-- read. Memory may run out before.
pub data Gives (text : List ℕ) (reads : List Read) (answer : Result Settings SettingsFault) : Type 0 where
  bad : (kind : SettingsKind) → judged text ≡ Err kind → reads ≡ [] → answer ≡ Err (Bad kind) → Gives text reads answer
  good : (document : Members) → judged text ≡ Ok document → GivesOf document reads answer → Gives text reads answer
  no_memory : reads ≡ [] → answer ≡ Err OutOfMemory → Gives text reads answer
