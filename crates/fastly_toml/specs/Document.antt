-- What a document of settings has: its tables, and the texts in them.
use Rattle.std.specs.Prelude.{ℕ, Bool, false, ◌&&◌, ◌||◌, List, [], ◌∷◌, Option, None, Some, bytes_eq, codes, unwrap_or, option_and_then, is_none, is_some}
use Rattle.std.specs.Option.{option_map_or}
use Rattle.toml.specs.Data.{Data, Items, no_items, item, Members, no_members, member, get, get_member, as_str, as_table}
use Rattle.toml.specs.Parse.{parse_document}
use Rattle.fastly_toml.specs.Texts.{text_of}

-- the table that the bytes are, where they are UTF-8 and a TOML document
abbrev pub document_of : List ℕ → Option Members
document_of bytes = option_and_then parse_document (text_of bytes)

-- some member has a value that passes the test
abbrev pub any_member : (Data → Bool) → Members → Bool
any_member test no_members = false
any_member test (member name value rest) = test value || any_member test rest

-- some item passes the test
abbrev pub any_item : (Data → Bool) → Items → Bool
any_item test no_items = false
any_item test (item value rest) = test value || any_item test rest

-- what `local_server` has under a name
abbrev pub local : List ℕ → Members → Option Data
local name document = option_and_then (get name) (get_member (codes "local_server") document)

-- the members of a table of `local_server`, and none where there is no such table
abbrev pub members_at : List ℕ → Members → Members
members_at name document = unwrap_or (option_and_then as_table (local name document)) no_members

-- the text that a table has under a name
abbrev pub text_at : List ℕ → Data → Option (List ℕ)
text_at name value = option_and_then as_str (get name value)

-- and whether it is this one
abbrev pub says : List ℕ → List ℕ → Data → Bool
says name text value = option_map_or (λ found. bytes_eq found text) (text_at name value) false

-- it is there and is no table
abbrev pub is_no_table : Option Data → Bool
is_no_table found = is_some found && is_none (option_and_then as_table found)
