use Rattle.std.proofs.Common.{refl, ◌<◌, ◌≤◌, arith, [], ◌∷◌}
use Rattle.wasm_validate.specs.Rules.{Mono}
use Rattle.wasm_meaning.specs.Worked.{nothing, defined}
use Rattle.wasm_sound.specs.Small.{one_nop}
use Rattle.wasm_sound.proofs.laws.some_module_meets_the_premises.Goals as goal

pub returns-clause-valid : goal.returns-clause-valid
returns-clause-valid c =
    let below : 0 < 1 = omega arith in
    let one : 0 ≤ 1 = omega arith in
    let low : 0 ≤ 1024 = omega arith in (
      record {
        imports = tt;
        functions = (below, tt);
        tables = tt;
        one_table = one;
        memories = tt;
        one_memory = one;
        globals = tt;
        exports = tt;
        start = tt;
        elements = tt;
        code = ((0, nothing, refl, refl, (one_nop, refl, (([], (Mono [] [], refl, refl, ([], refl, refl)), refl), (low, tt)))), tt);
        data_segments = tt;
      },
      tt,
    )

pub returns-clause-starts : goal.returns-clause-starts
returns-clause-starts c = refl

pub returns-clause-program : goal.returns-clause-program
returns-clause-program c = record {
  imported = [];
  defined = defined [] one_nop ∷ [];
  functions = refl;
  imports = tt;
  code = (refl, (refl, (one_nop, refl, refl)), tt);
  types = refl;
  table = refl;
}
