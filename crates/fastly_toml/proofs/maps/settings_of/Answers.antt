use Rattle.fastly_toml.proofs.Loops.{four, no_kv}
use Rattle.fastly_toml.proofs.maps.settings_of.Goals as goal

pub returns-clause-stores : goal.returns-clause-stores
returns-clause-stores c =
    let dictionaries = rw c.in-Some.is at c.in_ok-dictionaries.ensures in
    let configs = rw c.in-Some-2.is at c.in_ok-configs.ensures in
    let secrets = rw c.in-Some-3.is at c.in_ok-secrets.ensures in
    let kv = rw c.in-Some-4.is at c.in_ok-kv.ensures in
    four _ _ _ _ _ _ _ _ dictionaries (rw c.behind-rest.ensures at configs) (rw (c.behind-rest-2.ensures, c.behind-rest.ensures) at secrets) (rw (c.behind-rest-3.ensures, c.behind-rest-2.ensures, c.behind-rest.ensures) at kv)

pub returns-in_default-4-clause-stores : goal.returns-in_default-4-clause-stores
returns-in_default-4-clause-stores c =
    let kv = rw c.in_default-4.is at c.in_ok-kv.ensures in
    no_kv _ _ _ _ (rw (c.behind-rest-3.ensures, c.behind-rest-2.ensures, c.behind-rest.ensures) at kv)
