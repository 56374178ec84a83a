-- What is wrong with settings. All backends are looked at for the first kind, then all for the second, then the stores.
use Rattle.std.specs.Prelude.{ℕ, Bool, true, false, not, ◌&&◌, ◌||◌, List, Option, None, Some, Result, Ok, Err, if◌then◌else◌, codes, option_and_then, is_none, is_some}
use Rattle.std.specs.Option.{option_map_or}
use Rattle.toml.specs.Data.{Data, Items, no_items, item, Members, get, get_member, as_str, as_array, as_table}
use Rattle.fastly_toml.specs.declared.fault.SettingsKind.{SettingsKind}
use Rattle.fastly_toml.specs.declared.fault.SettingsKind.TheVariants.{NotToml, MissingUrl, BadUrl, BadStore, BadFile}
use Rattle.fastly_toml.specs.Document.{any_member, any_item, local, members_at, text_at, says, is_no_table, document_of}
use Rattle.fastly_toml.specs.Urls.{backend_of}

-- the kind as it is told
abbrev pub kind_name : SettingsKind → List ℕ
kind_name NotToml = codes "not-toml"
kind_name MissingUrl = codes "missing-url"
kind_name BadUrl = codes "bad-url"
kind_name BadStore = codes "bad-store"
kind_name BadFile = codes "bad-file"

-- a backend with no url
abbrev pub lacks_url : Data → Bool
lacks_url backend = is_none (get (codes "url") backend)

-- a url that is no text of the form
abbrev pub is_bad_url : Data → Bool
is_bad_url url = is_none (option_and_then backend_of (as_str url))

abbrev pub has_bad_url : Data → Bool
has_bad_url backend = option_map_or is_bad_url (get (codes "url") backend) false

-- not a text
abbrev pub is_no_text : Data → Bool
is_no_text value = is_none (as_str value)

-- a store whose texts stand in the settings
abbrev pub is_inline : Data → Bool
is_inline store = says (codes "format") (codes "inline-toml") store
    && option_map_or (λ texts. not (any_member is_no_text texts)) (option_and_then as_table (get (codes "contents") store)) false

-- a store whose texts stand in a file
abbrev pub is_json : Data → Bool
is_json store = says (codes "format") (codes "json") store && is_some (text_at (codes "file") store)

abbrev pub is_bad_store : Data → Bool
is_bad_store store = not (is_inline store || is_json store)

-- it has a text under the one name, and nothing under the other
abbrev pub has_alone : List ℕ → List ℕ → Data → Bool
has_alone name other entry = is_some (text_at name entry) && is_none (get other entry)

-- an entry of a list needs a key, and exactly one of data and a file
abbrev pub is_entry : Data → Bool
is_entry entry = is_some (text_at (codes "key") entry) && (has_alone (codes "data") (codes "file") entry || has_alone (codes "file") (codes "data") entry)

abbrev pub is_bad_entry : Data → Bool
is_bad_entry entry = not (is_entry entry)

-- a later entry has the key of this one
abbrev pub stands_again : Data → Items → Bool
stands_again entry later = option_map_or (λ key. any_item (says (codes "key") key) later) (text_at (codes "key") entry) false

abbrev pub repeats_key : Items → Bool
repeats_key no_items = false
repeats_key (item entry later) = stands_again entry later || repeats_key later

abbrev pub are_bad_entries : Items → Bool
are_bad_entries entries = any_item is_bad_entry entries || repeats_key entries

abbrev pub is_bad_list : Data → Bool
is_bad_list store = option_map_or are_bad_entries (as_array store) true

-- one of the tables is there and is no table
abbrev pub has_no_table : Members → Bool
has_no_table document = is_no_table (get_member (codes "local_server") document)
    || is_no_table (local (codes "backends") document)
    || is_no_table (local (codes "dictionaries") document)
    || is_no_table (local (codes "config_stores") document)
    || is_no_table (local (codes "secret_stores") document)
    || is_no_table (local (codes "kv_stores") document)

abbrev pub has_bad_store : Members → Bool
has_bad_store document = any_member is_bad_store (members_at (codes "dictionaries") document)
    || any_member is_bad_store (members_at (codes "config_stores") document)
    || any_member is_bad_list (members_at (codes "secret_stores") document)
    || any_member is_bad_list (members_at (codes "kv_stores") document)

-- the first kind that stands in a document
abbrev pub kind_of : Members → Option SettingsKind
kind_of document =
    if any_member lacks_url (members_at (codes "backends") document) then Some MissingUrl else
    if any_member has_bad_url (members_at (codes "backends") document) then Some BadUrl else
    if has_no_table document || has_bad_store document then Some BadStore else None

-- the document with none of these kinds, or the first that stands
abbrev pub judged_by : Members → Option SettingsKind → Result Members SettingsKind
judged_by document None = Ok document
judged_by document (Some kind) = Err kind

abbrev pub judged_as : Option Members → Result Members SettingsKind
judged_as None = Err NotToml
judged_as (Some document) = judged_by document (kind_of document)

abbrev pub judged : List ℕ → Result Members SettingsKind
judged bytes = judged_as (document_of bytes)
