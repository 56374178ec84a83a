-- A url of a backend as it is written: the scheme, a host, `:` and a port where one is told, a path where there is one.
use Rattle.std.specs.Prelude.{◌≡◌, ◌⊎◌, ◌≤◌, ℕ, Bool, true, false, IsTrue, List, [], ◌∷◌, ◌++◌, codes, decimal, Option, None, Some, IfSome}
use Rattle.std.specs.List.{list_all}
use Rattle.fastly_toml.specs.declared.settings.Backend.{Backend}
use Rattle.fastly_toml.specs.Urls.{is_shown, is_host_byte, is_inner_byte, is_made_of}

abbrev pub scheme : Bool → List ℕ
scheme true = codes "https://"
scheme false = codes "http://"

-- bytes of a host, or such bytes and `:` between `[` and `]`
abbrev pub IsHost : List ℕ → Type 0
IsHost host =
    IsTrue (is_made_of is_host_byte host)
    ⊎ ((inner : List ℕ) × IsTrue (is_made_of is_inner_byte inner) × (host ≡ codes "[" ++ (inner ++ codes "]")))

-- `:` and the port, where one is told
abbrev pub port_text : Option ℕ → List ℕ
port_text None = []
port_text (Some port) = codes ":" ++ decimal port

-- the same with the port 80 where none is told
abbrev pub port_or_80 : Option ℕ → List ℕ
port_or_80 None = codes ":80"
port_or_80 (Some port) = codes ":" ++ decimal port

-- a port is 1 to 65535
abbrev pub IsPort : Option ℕ → Type 0
IsPort port = IfSome port (λ n. (1 ≤ n) × (n ≤ 65535))

-- a path begins with `/`
abbrev pub IsPath : List ℕ → Type 0
IsPath [] = Unit {0}
IsPath (b ∷ bytes) = (b ≡ 47) × IsTrue (list_all is_shown bytes)

-- the parts of a url, and the backend that it tells: the port is 80 where none is told
pub record IsUrl (url : List ℕ) (backend : Backend) : Type 0 where
  pub host : List ℕ
  pub port : Option ℕ
  pub path : List ℕ
  pub is_host : IsHost host
  pub is_port : IsPort port
  pub is_path : IsPath path
  pub url_is : url ≡ scheme backend.https ++ (host ++ (port_text port ++ path))
  pub address_is : backend.address ≡ host ++ port_or_80 port
