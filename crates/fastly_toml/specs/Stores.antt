-- The two kinds of stores: of texts, and of entries.
use Rattle.std.specs.Prelude.{ℕ, List, Option}
use Rattle.toml.specs.Data.{Data}
use Rattle.fastly_toml.specs.declared.stores.StoreKind.{StoreKind}
use Rattle.fastly_toml.specs.declared.stores.StoreKind.TheVariants.{OfTexts, OfEntries}
use Rattle.fastly_toml.specs.Files.{store_files, list_files}
use Rattle.fastly_toml.specs.Maps.{store_pairs, list_pairs}
use Rattle.fastly_toml.specs.Texts.{Pair}

-- the files of a store of this kind
abbrev pub files_by : StoreKind → Data → List (List ℕ)
files_by OfTexts = store_files
files_by OfEntries = list_files

-- its pairs
abbrev pub pairs_by : StoreKind → Data → List (List ℕ) → Option (List Pair)
pairs_by OfTexts = store_pairs
pairs_by OfEntries = list_pairs
