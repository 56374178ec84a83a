-- What settings say: the maps that a document and the bytes of its files make.
use Rattle.std.specs.Prelude.{ℕ, ◌≡◌, List, [], ◌∷◌, ◌++◌, length, map, drop, Option, None, Some, if◌then◌else◌, codes, option_map, option_and_then}
use Rattle.std.specs.BTreeMap.{BTreeMap, insert_entry}
use Rattle.std.specs.Ordering.{nat_cmp}
use Rattle.std.specs.Cmp.Lexicographic.{slice_cmp}
use Rattle.toml.specs.Data.{Data, string, table, array, Items, no_items, item, Members, no_members, member, get, as_str}
use Rattle.fastly_toml.specs.declared.settings.Backend.{Backend}
use Rattle.fastly_toml.specs.declared.settings.Settings.{Settings}
use Rattle.fastly_toml.specs.Document.{members_at, text_at}
use Rattle.fastly_toml.specs.Kinds.{is_json}
use Rattle.fastly_toml.specs.Files.{file_of, store_files, list_files, files_in}
use Rattle.fastly_toml.specs.Texts.{Pair, json_pairs}
use Rattle.fastly_toml.specs.Urls.{backend_of}

-- the map with these put in one after another
abbrev pub put_all : {V : Type 0} → List (List ℕ × V) → List (List ℕ × V) → List (List ℕ × V)
put_all entries [] = entries
put_all entries (pair ∷ pairs) = put_all (insert_entry (slice_cmp nat_cmp) entries pair.0 pair.1) pairs

abbrev pub map_of : {V : Type 0} → List (List ℕ × V) → List (List ℕ × V)
map_of pairs = put_all [] pairs

-- the pair of a name and a value, where there are both
abbrev pub listed : {V : Type 0} → Option (List ℕ) → Option V → List (List ℕ × V)
listed (Some name) (Some value) = (name, value) ∷ []
listed _ _ = []

-- the backends of a table
abbrev pub backend_pairs : Members → List (List ℕ × Backend)
backend_pairs no_members = []
backend_pairs (member name backend rest) = listed (Some name) (option_and_then backend_of (text_at (codes "url") backend)) ++ backend_pairs rest

-- the texts of a table
abbrev pub inline_pairs : Members → List Pair
inline_pairs no_members = []
inline_pairs (member name value rest) = listed (Some name) (as_str value) ++ inline_pairs rest

abbrev pub contents_of : Option Data → List Pair
contents_of (Some (table texts)) = inline_pairs texts
contents_of _ = []

-- the first of the pieces
abbrev pub first_of : List (List ℕ) → Option (List ℕ)
first_of [] = None
first_of (piece ∷ pieces) = Some piece

-- the pairs of a store of texts, where its file, if it has one, is such a store
abbrev pub store_pairs : Data → List (List ℕ) → Option (List Pair)
store_pairs store pieces = if is_json store then option_and_then json_pairs (first_of pieces) else Some (contents_of (get (codes "contents") store))

-- the bytes of an entry: its data, or those of its file
abbrev pub bytes_of : Option (List ℕ) → List (List ℕ) → Option (List ℕ)
bytes_of (Some text) pieces = Some text
bytes_of None pieces = first_of pieces

-- the pairs of a list of entries: the pieces are those of its files in order
abbrev pub item_pairs : Items → List (List ℕ) → List Pair
item_pairs no_items pieces = []
item_pairs (item entry rest) pieces =
    listed (text_at (codes "key") entry) (bytes_of (text_at (codes "data") entry) pieces)
    ++ item_pairs rest (drop (length (file_of (text_at (codes "file") entry))) pieces)

abbrev pub list_pairs : Data → List (List ℕ) → Option (List Pair)
list_pairs (array entries) pieces = Some (item_pairs entries pieces)
list_pairs _ pieces = Some []

-- one more store, where there is one
abbrev pub joined : List ℕ → Option (List Pair) → Option (List (List ℕ × List Pair)) → Option (List (List ℕ × List Pair))
joined name (Some pairs) (Some others) = Some ((name, map_of pairs) ∷ others)
joined name _ _ = None

-- the stores of a table, each with its part of the pieces
abbrev pub stores_in : (Data → List (List ℕ)) → (Data → List (List ℕ) → Option (List Pair)) → Members → List (List ℕ) → Option (List (List ℕ × List Pair))
stores_in files pairs no_members pieces = Some []
stores_in files pairs (member name store rest) pieces = joined name (pairs store pieces) (stores_in files pairs rest (drop (length (files store)) pieces))

-- the pieces behind those of a table
abbrev pub pieces_after : (Data → List (List ℕ)) → Members → List (List ℕ) → List (List ℕ)
pieces_after files members pieces = drop (length (files_in files members)) pieces

-- four maps of stores
pub record Stores : Type 0 where
  pub dictionaries : List (List ℕ × List Pair)
  pub configs : List (List ℕ × List Pair)
  pub secrets : List (List ℕ × List Pair)
  pub kv : List (List ℕ × List Pair)

abbrev pub stores_from : Option (List (List ℕ × List Pair)) → Option (List (List ℕ × List Pair)) → Option (List (List ℕ × List Pair)) → Option (List (List ℕ × List Pair)) → Option Stores
stores_from (Some dictionaries) (Some configs) (Some secrets) (Some kv) =
    Some (record { dictionaries = map_of dictionaries; configs = map_of configs; secrets = map_of secrets; kv = map_of kv })
stores_from _ _ _ _ = None

-- the stores of a document, where no file is bad
abbrev pub stores_of : Members → List (List ℕ) → Option Stores
stores_of document pieces =
    let behind_dictionaries = pieces_after store_files (members_at (codes "dictionaries") document) pieces in
    let behind_configs = pieces_after store_files (members_at (codes "config_stores") document) behind_dictionaries in
    let behind_secrets = pieces_after list_files (members_at (codes "secret_stores") document) behind_configs in
    stores_from (stores_in store_files store_pairs (members_at (codes "dictionaries") document) pieces)
    (stores_in store_files store_pairs (members_at (codes "config_stores") document) behind_dictionaries)
    (stores_in list_files list_pairs (members_at (codes "secret_stores") document) behind_configs)
    (stores_in list_files list_pairs (members_at (codes "kv_stores") document) behind_secrets)

-- the names of stores with their texts
abbrev pub shown : List (List ℕ × BTreeMap (List ℕ) (List ℕ)) → List (List ℕ × List Pair)
shown stores = map (λ store. (store.0, store.1.entries)) stores

abbrev pub stores_shown : Settings → Stores
stores_shown settings = record { dictionaries = shown settings.dictionaries.entries; configs = shown settings.configs.entries; secrets = shown settings.secrets.entries; kv = shown settings.kv.entries }
