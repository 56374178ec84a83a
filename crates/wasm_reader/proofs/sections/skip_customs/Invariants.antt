use Rattle.std.proofs.Common.{◌≡◌, ◌-◌, length}
use Rattle.wasm_reader.specs.Sections.{customs_from, customs_at}
use Rattle.wasm_reader.proofs.sections.skip_customs.Given as goal

abbrev pub invariant-loop : goal.invariant-loop
invariant-loop l = customs_from (length l.bytes - l.counter) l.scope l.rest ≡ customs_at l.scope l.bytes
