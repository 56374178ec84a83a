use Rattle.std.proofs.Common.{ap}
use Rattle.std.specs.Prelude.{List, Some}
use Rattle.wasm_types.specs.declared.types.ValueType.{ValueType}
use Rattle.wasm_types.specs.declared.types.ValueType.TheVariants.{I32}
use Rattle.edge_imports.proofs.Words.{words-are}
use Rattle.edge_imports.proofs.table.asks.Goals as goal

pub returns : goal.returns
returns c =
    ap (λ (params : List ValueType). record { module_name = c.args.module_name.now; name = c.args.name.now; params = params; result = Some I32 })
    (words-are c.args.words 8 I32 c.requires)
