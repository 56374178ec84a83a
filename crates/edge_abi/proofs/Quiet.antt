-- A status other than ok changes nothing: what follows for a row from its parts.
use Rattle.std.specs.Prelude.{ℕ, [], ◌∷◌, Result, Ok, Err, refl}
use Rattle.cache_types.specs.declared.outer.OuterCall.{OuterCall}
use Rattle.cache_types.specs.declared.outer.OuterReply.{OuterReply}
use Rattle.wasm_memory.specs.Linear.{Linear}
use Rattle.edge_abi.specs.declared.octets.AbiFault.{AbiFault}
use Rattle.edge_abi.specs.declared.octets.AbiFault.TheVariants.{Inval, BadAlign, BufLen, OutOfMemory}
use Rattle.edge_abi.specs.declared.status.Status.{Status}
use Rattle.edge_abi.specs.declared.status.Status.TheVariants as status
use Rattle.edge_abi.specs.declared.status.Refusal.{Refusal}
use Rattle.edge_abi.specs.declared.status.Refusal.TheVariants as refusal
use Rattle.edge_abi.specs.Buffers.{plainly}
use Rattle.edge_abi.specs.Told.{Row, ask, done, plain, judged}
use Rattle.edge_abi.specs.Quiet.{RowIsQuiet, RowIsQuietBut}

-- a row that is refused, whatever stands behind the refusals
pub judged-quiet : {T X : Type 0} (t : T) (m : Linear) (result : Result X Refusal) (next : X → Row T) → ((x : X) → RowIsQuiet t m (next x)) → RowIsQuiet t m (judged t m result next)
judged-quiet t m (Err (refusal.Told status)) next quiet replies = λ _. (refl, refl)
judged-quiet t m (Err refusal.OutOfMemory) next quiet replies = λ _. (refl, refl)
judged-quiet t m (Ok x) next quiet replies = quiet x replies

pub ask-quiet : {T : Type 0} (t : T) (m : Linear) (call : OuterCall) (next : OuterReply → Row T) → ((reply : OuterReply) → RowIsQuiet t m (next reply)) → RowIsQuiet t m (ask call next)
ask-quiet t m call next quiet [] = tt
ask-quiet t m call next quiet (reply ∷ replies) = quiet reply replies

pub ok-quiet : {T : Type 0} (t now : T) (m there : Linear) → RowIsQuiet t m (done status.Ok now there)
ok-quiet t now m there replies = λ bad. absurd (bad refl)

-- a status that leaves tables and memory as they are
pub same-quiet : {T : Type 0} (t : T) (m : Linear) (said : Status) → RowIsQuiet t m (done said t m)
same-quiet t m said replies = λ _. (refl, refl)

-- ---- but for a needed size

pub judged-quiet_but : {T X : Type 0} (t : T) (m : Linear) (result : Result X Refusal) (next : X → Row T) → ((x : X) → RowIsQuietBut t m (next x)) → RowIsQuietBut t m (judged t m result next)
judged-quiet_but t m (Err (refusal.Told status)) next quiet replies = λ _. (refl, λ _. refl)
judged-quiet_but t m (Err refusal.OutOfMemory) next quiet replies = λ _. (refl, λ _. refl)
judged-quiet_but t m (Ok x) next quiet replies = quiet x replies

-- a value or a list that is written into a buffer
pub plainly-quiet_but : {T : Type 0} (t : T) (m : Linear) (count : ℕ) (written : Result Linear AbiFault) → RowIsQuietBut t m (plain t (plainly count m written))
plainly-quiet_but t m count (Ok new) replies = λ bad. absurd (bad refl)
plainly-quiet_but t m count (Err Inval) replies = λ _. (refl, λ _. refl)
plainly-quiet_but t m count (Err BadAlign) replies = λ _. (refl, λ _. refl)
plainly-quiet_but t m count (Err (BufLen needed)) replies = λ _. (refl, λ bad. absurd (bad refl))
plainly-quiet_but t m count (Err OutOfMemory) replies = λ _. (refl, λ _. refl)
