-- A small module, for which the premises of the laws hold: one function, which is a nop.
use Rattle.std.specs.Prelude.{refl, None, [], ◌∷◌}
use Rattle.wasm_types.specs.declared.instructions.Instr.TheVariants.{Nop, End}
use Rattle.wasm_types.specs.declared.modules.Module.{Module}
use Rattle.wasm_types.specs.Nested.{Body, Goes, Done}
use Rattle.wasm_meaning.specs.Frames.{Program}
use Rattle.wasm_meaning.specs.Instance.{Instance}
use Rattle.wasm_meaning.specs.Worked.{nothing, defined}

abbrev pub one_nop : Body
one_nop = Goes Nop refl Done

abbrev pub small : Module
small = record {
  types = nothing ∷ [];
  imports = [];
  functions = 0 ∷ [];
  tables = [];
  memories = [];
  globals = [];
  exports = [];
  start = None;
  elements = [];
  code = record { locals = []; body = Nop ∷ End ∷ [] } ∷ [];
  segments = [];
}

abbrev pub small_instance : Instance
small_instance = record { table = []; world = record { globals = []; memory = None } }

abbrev pub small_program : Program
small_program = record { functions = defined [] one_nop ∷ []; types = nothing ∷ []; table = [] }
