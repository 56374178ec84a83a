-- What follows for the call that reads a module from its being read exactly.
use Rattle.std.proofs.Common.{◌≡◌, ◌⊎◌, inl, inr, ℕ, List, Result, Ok, Err, subst}
use Rattle.std.specs.Prelude.{IfOk, IfErr}
use Rattle.wasm_types.specs.declared.modules.Module.{Module}
use Rattle.wasm_code.specs.declared.fault.ReadFault.{ReadFault}
use Rattle.wasm_code.specs.Reading.{Answers, no_memory}
use Rattle.wasm_reader.specs.Grammar.{IsModule}
use Rattle.wasm_reader.specs.Sections.{module_at}
use Rattle.wasm_reader.specs.FirstFault.{IsFirstFault}
use Rattle.wasm_reader.proofs.ExactModule.{module_sound, module_complete}
use Rattle.wasm_reader.proofs.FirstModule.{first_fault}

pub found_module : (bytes : List ℕ) (r : Result Module ReadFault) → Answers (λ m. m) r (module_at bytes) → IfOk r (λ m. IsModule bytes m)
found_module bytes (Ok m) e = module_sound bytes m e
found_module bytes (Err f) e = tt

pub only_module : (bytes : List ℕ) (r : Result Module ReadFault) → Answers (λ m. m) r (module_at bytes) → (m : Module) → IsModule bytes m → Answers (λ x. x) r (Ok m)
only_module bytes r e m h = subst (λ (q : Result Module ReadFault). Answers (λ x. x) r q) (module_complete bytes m h) e

pub first_module : (bytes : List ℕ) (r : Result Module ReadFault) → Answers (λ m. m) r (module_at bytes) → IfErr r (λ f. (f ≡ no_memory) ⊎ IsFirstFault bytes f)
first_module bytes (Ok m) e = tt
first_module bytes (Err f) (inl none) = inl none
first_module bytes (Err f) (inr e) = inr (first_fault bytes f e)
