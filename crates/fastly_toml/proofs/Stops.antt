-- Reads that stop before the first.
use Rattle.std.proofs.Common.{◌≡◌, ℕ, List, [], Err, refl}
use Rattle.edge_outside.specs.declared.fault.IoFault.{IoFault}
use Rattle.edge_outside.specs.declared.fault.IoFault.TheVariants.{OutOfMemory}
use Rattle.edge_outside.specs.Files.{Read}
use Rattle.edge_outside.specs.InOrder.{StopsAt}

pub stopped_first : (names : List (List ℕ)) → StopsAt {A = List ℕ} {V = List ℕ} {F = IoFault} (λ fault. fault ≡ OutOfMemory) names [] OutOfMemory
stopped_first names = record { earlier = []; left = names; asked_are = refl; before = []; last = []; calls_are = refl; values = []; answered = tt; ends = refl }
