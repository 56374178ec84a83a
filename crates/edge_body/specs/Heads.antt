-- The heads of messages as guests see them, and the rules that each of them keeps (RFC 9110, sections 5 and 15).
use Rattle.std.specs.Prelude.{ℕ, Bool, not, ◌==◌, ◌&&◌, ◌||◌, List, length, nat_lt, nat_le}
use Rattle.std.specs.List.{list_all}
use Rattle.cache_types.specs.Limits.{is_from_to, has_name_bytes}
use Rattle.cache_types.specs.declared.calls.Field.{Field}

-- the head of a request; its version is 0 to 4 for HTTP/0.9, 1.0, 1.1, 2 and 3
pub record Request : Type 0 where
  pub method : List ℕ
  pub uri : List ℕ
  pub version : ℕ
  pub fields : List Field

-- the head of a response, with such a version
pub record Response : Type 0 where
  pub status : ℕ
  pub version : ℕ
  pub fields : List Field

-- a name: a token in lower case
abbrev pub is_field_name : List ℕ → Bool
is_field_name name = nat_lt 0 (length name) && has_name_bytes name

-- neither NUL nor CR nor LF
abbrev pub is_value_byte : ℕ → Bool
is_value_byte byte = not (byte == 0 || (byte == 10 || byte == 13))

abbrev pub is_field_value : List ℕ → Bool
is_field_value value = list_all is_value_byte value

abbrev pub is_field : Field → Bool
is_field field = is_field_name field.name && is_field_value field.value

-- the headers of one head
abbrev pub are_fields : List Field → Bool
are_fields fields = nat_le (length fields) 100 && list_all is_field fields

-- no NUL
abbrev pub is_uri_byte : ℕ → Bool
is_uri_byte byte = not (byte == 0)

abbrev pub is_uri : List ℕ → Bool
is_uri uri = list_all is_uri_byte uri

-- a status of a response that is no interim one
abbrev pub is_status : ℕ → Bool
is_status status = is_from_to 200 999 status
