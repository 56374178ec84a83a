-- What is refused first is the whole's refusal.
use Rattle.std.specs.Prelude.{◌≡◌, Bool, true, false, Result, Err, refl}
use Rattle.edge_abi.specs.declared.status.Status.{Status}
use Rattle.edge_abi.specs.declared.status.Refusal.{Refusal}
use Rattle.edge_abi.specs.declared.status.Refusal.TheVariants.{Told, OutOfMemory}
use Rattle.edge_abi.specs.Refusals.{and_then, unless, Judges}

judges_on : {X Y : Type 0} (meaning : Result X Refusal) (next : X → Result Y Refusal) (refusal : Refusal) → Judges meaning (Err refusal) → Judges (and_then meaning next) (Err refusal)
judges_on meaning next (Told said) e = rw e refl
judges_on meaning next OutOfMemory e = tt

-- behind a test that holds
pub judges_behind : {X Y : Type 0} (test : Bool) (status : Status) (meaning : Result X Refusal) (next : X → Result Y Refusal) (refusal : Refusal) → test ≡ true
    → Judges meaning (Err refusal) → Judges (and_then (unless test status) (λ _. and_then meaning next)) (Err refusal)
judges_behind true status meaning next refusal holds e = judges_on meaning next refusal e
judges_behind false status meaning next refusal holds e = cc
