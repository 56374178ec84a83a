-- The texts of faults.
use Rattle.std.specs.Prelude.{ℕ, List, codes}
use Rattle.vary_rules.specs.declared.fault.RuleFault.{RuleFault}
use Rattle.vary_rules.specs.declared.fault.RuleFault.TheVariants as fault

abbrev pub fault_text : RuleFault → List ℕ
fault_text fault.BadName = codes "rule: bad-name"
fault_text fault.TooMany = codes "rule: too-many-names"
fault_text fault.OutOfMemory = codes "rule: out-of-memory"
