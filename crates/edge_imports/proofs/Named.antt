-- Each call is found by its own module and name.
use Rattle.std.specs.Prelude.{◌≡◌, Some, refl}
use Rattle.edge_imports.specs.declared.hostcall.Hostcall.{Hostcall}
use Rattle.edge_imports.specs.declared.hostcall.Hostcall.TheVariants.{AbiInit}
use Rattle.edge_imports.specs.Table.{row_of, call_named}

pub found : (call : Hostcall) → call_named (row_of call).module_name (row_of call).name ≡ Some call
unfolding call_named
found AbiInit = refl
found _ = refl
