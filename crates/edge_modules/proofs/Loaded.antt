-- Bytes have one answer.
use Rattle.std.specs.Prelude.{◌≡◌, ◌⊎◌, ℕ, List, Result, Ok, Err, refl}
use Rattle.std.proofs.Common.{ap, sym, ◌∙◌, subst, inl, inr}
use Rattle.wasm_types.specs.declared.modules.Module.{Module}
use Rattle.wasm_code.specs.declared.fault.ReadKind.{ReadKind}
use Rattle.wasm_code.specs.declared.fault.ReadKind.TheVariants as read_kinds
use Rattle.wasm_code.specs.declared.fault.ReadFault.{ReadFault}
use Rattle.wasm_code.specs.Reading as reading
use Rattle.wasm_reader.specs.Grammar.{IsModule}
use Rattle.wasm_reader.specs.Sections.{module_at}
use Rattle.wasm_reader.proofs.ExactModule.{module_complete}
use Rattle.wasm_validate.specs.declared.fault.ValidKind.{ValidKind}
use Rattle.wasm_validate.specs.declared.fault.ValidKind.TheVariants as valid_kinds
use Rattle.wasm_validate.specs.declared.fault.ValidFault.{ValidFault}
use Rattle.wasm_validate.specs.Faults as validation
use Rattle.wasm_validate.specs.Parts.{first_fault}
use Rattle.wasm_validate.specs.Valid.{IsValid}
use Rattle.wasm_accept.specs.declared.accepting.Refusal.{Refusal}
use Rattle.wasm_accept.specs.declared.accepting.Refusal.TheVariants as refusals
use Rattle.wasm_accept.specs.Accepting as accepting
use Rattle.edge_imports.specs.declared.links.LinkRefusal.{LinkRefusal}
use Rattle.edge_imports.specs.declared.links.LinkRefusal.TheVariants as link_refusals
use Rattle.edge_imports.specs.declared.links.Links.{Links}
use Rattle.edge_imports.specs.Links.{LinkedModule, linked}
use Rattle.edge_modules.specs.declared.fault.Stopped.{Stopped}
use Rattle.edge_modules.specs.declared.fault.Stopped.TheVariants as stopped
use Rattle.edge_modules.specs.Loading.{IsLoaded, IsCause, IsAnswered, read_stop, valid_stop, stop_of, link_stop}

-- a result is Ok with one value
ok-same : {X E : Type 0} (r : Result X E) (x y : X) → r ≡ Ok x → r ≡ Ok y → x ≡ y
ok-same (Ok z) x y is isn = cc (is, isn)
ok-same (Err e) x y is isn = cc is

-- bytes spell one module
same-module : (bytes : List ℕ) (m n : Module) → IsModule bytes m → IsModule bytes n → m ≡ n
same-module bytes m n is isn = ok-same (module_at bytes) m n (module_complete bytes m is) (module_complete bytes n isn)

-- ---- why nothing was accepted

read-cause : (bytes : List ℕ) (fault : ReadFault) (kind : ReadKind) → fault.kind ≡ kind → (fault ≡ reading.no_memory) ⊎ (module_at bytes ≡ Err fault) → IsCause bytes (read_stop kind fault)
read-cause bytes fault read_kinds.OutOfMemory is cause = tt
read-cause bytes fault _ is cause = elim cause [ inl none ↦ let kinds = ap (λ (f : ReadFault). f.kind) none in cc (is, kinds) | inr e ↦ e ]

valid-cause : (bytes : List ℕ) (fault : ValidFault) (kind : ValidKind) → fault.kind ≡ kind → (fault ≡ validation.memory_fault) ⊎ ((m : Module) × IsModule bytes m × (first_fault m ≡ Err fault)) → IsCause bytes (valid_stop kind fault)
valid-cause bytes fault valid_kinds.OutOfMemory is cause = tt
valid-cause bytes fault _ is cause = elim cause [ inl none ↦ let kinds = ap (λ (f : ValidFault). f.kind) none in cc (is, kinds) | inr e ↦ e ]

pub stop-cause : (bytes : List ℕ) (refusal : Refusal) → accepting.IsCause bytes refusal → IsCause bytes (stop_of refusal)
stop-cause bytes (refusals.Read fault) cause = read-cause bytes fault fault.kind refl cause
stop-cause bytes (refusals.Valid fault) cause = valid-cause bytes fault fault.kind refl cause

pub stop-answered : (l : LinkedModule) (refusal : Refusal) → accepting.ByMemory refusal → IsAnswered l (Err (stop_of refusal))
stop-answered l (refusals.Read fault) none = subst (λ (f : ReadFault). IsAnswered l (Err (read_stop f.kind f))) (sym none) tt
stop-answered l (refusals.Valid fault) none = subst (λ (f : ValidFault). IsAnswered l (Err (valid_stop f.kind f))) (sym none) tt

-- ---- why nothing was linked

pub link-cause : (bytes : List ℕ) (m : Module) (refusal : LinkRefusal) → IsModule bytes m → IsValid m → (refusal ≡ link_refusals.OutOfMemory) ⊎ (linked m ≡ Err refusal) → IsCause bytes (link_stop refusal)
link-cause bytes m link_refusals.OutOfMemory is valid cause = tt
link-cause bytes m _ is valid cause = elim cause [ inl none ↦ cc none | inr e ↦ (m, is, valid, e) ]

not-refused : (m : Module) (links : Links) (refusal : LinkRefusal) → linked m ≡ Ok links → linked m ≡ Err refusal → ⊥
not-refused m links refusal ok bad = cc (ok, bad)

pub link-answered : (bytes : List ℕ) (m : Module) (refusal : LinkRefusal) (l : LinkedModule) → IsModule bytes m → (refusal ≡ link_refusals.OutOfMemory) ⊎ (linked m ≡ Err refusal) → IsLoaded bytes l → IsAnswered l (Err (link_stop refusal))
link-answered bytes m link_refusals.OutOfMemory l is cause loaded = tt
link-answered bytes m refusal l is cause loaded =
    let same : m ≡ l.whole = same-module bytes m l.whole is loaded.spelled in
    elim cause [
      | inl none ↦ cc none
      | inr e ↦ absurd (not-refused l.whole l.links refusal loaded.links_are (ap linked (sym same) ∙ e))
    ]

-- what is loaded is one
pub one-loaded : (bytes : List ℕ) (answer l : LinkedModule) → IsLoaded bytes answer → IsLoaded bytes l → answer ≡ l
one-loaded bytes answer l is loaded =
    let same : answer.whole ≡ l.whole = same-module bytes answer.whole l.whole is.spelled loaded.spelled in
    let links : answer.links ≡ l.links = ok-same (linked l.whole) answer.links l.links (ap linked (sym same) ∙ is.links_are) loaded.links_are in
    ap (λ (m : Module). record { whole = m; links = answer.links }) same ∙ ap (λ (ls : Links). record { whole = l.whole; links = ls }) links
