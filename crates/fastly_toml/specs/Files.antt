-- Which files settings name, in the order in which they are read.
use Rattle.std.specs.Prelude.{ℕ, ◌≡◌, List, [], ◌∷◌, ◌++◌, Option, None, Some, if◌then◌else◌, codes}
use Rattle.toml.specs.Data.{Data, Items, no_items, item, Members, no_members, member, array}
use Rattle.fastly_toml.specs.Document.{members_at, text_at}
use Rattle.fastly_toml.specs.Kinds.{is_json}

-- the file of a value, where it names one
abbrev pub file_of : Option (List ℕ) → List (List ℕ)
file_of None = []
file_of (Some name) = name ∷ []

-- of a store of texts: the one of a JSON store
abbrev pub store_files : Data → List (List ℕ)
store_files store = if is_json store then file_of (text_at (codes "file") store) else []

-- of a list of entries: each entry's, by place
abbrev pub item_files : Items → List (List ℕ)
item_files no_items = []
item_files (item entry rest) = file_of (text_at (codes "file") entry) ++ item_files rest

abbrev pub list_files : Data → List (List ℕ)
list_files (array entries) = item_files entries
list_files _ = []

-- of the stores in a table, by name
abbrev pub files_in : (Data → List (List ℕ)) → Members → List (List ℕ)
files_in files no_members = []
files_in files (member name store rest) = files store ++ files_in files rest

-- dictionaries, config stores, secret stores, kv stores
abbrev pub files_of : Members → List (List ℕ)
files_of document = files_in store_files (members_at (codes "dictionaries") document)
    ++ files_in store_files (members_at (codes "config_stores") document)
    ++ files_in list_files (members_at (codes "secret_stores") document)
    ++ files_in list_files (members_at (codes "kv_stores") document)
