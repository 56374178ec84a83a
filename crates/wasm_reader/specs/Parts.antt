-- A part of the code's own, without where it lies in memory.
use Rattle.wasm_reader.specs.declared.sections.Part.{Part}
use Rattle.wasm_reader.specs.Sections.{Inside}

abbrev pub inside_of : Part → Inside
inside_of p = record { scope = p.scope; content = p.content.now; after = p.after.now; whole = p.whole }
