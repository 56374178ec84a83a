-- The texts of refusals.
use Rattle.std.specs.Prelude.{List, ℕ, ◌++◌, codes, decimal}
use Rattle.edge_imports.specs.declared.links.LinkRefusal.{LinkRefusal}
use Rattle.edge_imports.specs.declared.links.LinkRefusal.TheVariants as refusal

abbrev pub refusal_text : LinkRefusal → List ℕ
refusal_text (refusal.UnknownImport index) = codes "module: unknown-import " ++ decimal index
refusal_text (refusal.WrongType index) = codes "module: wrong-type " ++ decimal index
refusal_text refusal.NoStart = codes "module: no-start"
refusal_text refusal.NoMemory = codes "module: no-memory"
refusal_text refusal.OutOfMemory = codes "module: out-of-memory"
