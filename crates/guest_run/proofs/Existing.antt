-- A linked module has a beginning: its instance is a trap, or each function that begins is defined and takes nothing.
use Rattle.std.specs.Prelude.{◌≡◌, ℕ, ◌+◌, Bool, true, false, ◌&&◌, List, [], ◌∷◌, ◌++◌, codes, bytes_eq, slice_get, refl, Option, None, Some, is_some, option_map, if◌then◌else◌, Result, Ok, Err}
use Rattle.std.specs.List.{find, filter_map}
use Rattle.std.proofs.Common.{ap, sym, subst, ◌∙◌, zero, suc}
use Rattle.std.proofs.lemmas.Bool.{false≢true}
use Rattle.wasm_types.specs.declared.types.ValueType.{ValueType}
use Rattle.wasm_types.specs.declared.types.FuncType.{FuncType}
use Rattle.wasm_types.specs.declared.modules.Code.{Code as Body}
use Rattle.wasm_types.specs.declared.modules.Export.{Export}
use Rattle.wasm_types.specs.declared.modules.Import.{Import}
use Rattle.wasm_types.specs.declared.modules.ImportKind.{ImportKind}
use Rattle.wasm_types.specs.declared.modules.ImportKind.TheVariants as kinds
use Rattle.wasm_types.specs.declared.modules.Module.{Module}
use Rattle.wasm_types.specs.Nested.{Body as Nested}
use Rattle.wasm_types.specs.Types.{same_result, same_types}
use Rattle.wasm_validate.specs.Spaces.{functions_in}
use Rattle.wasm_validate.specs.Valid.{IsValid, IsStart}
use Rattle.wasm_meaning.specs.declared.off.Off.{Off}
use Rattle.wasm_meaning.specs.declared.off.Off.TheVariants.{Trap, Stuck}
use Rattle.wasm_meaning.specs.Frames.{Program as Code, Function}
use Rattle.wasm_meaning.specs.Instance.{Instance, IsProgram, IsFunctionImport, AllFunctions, AreImported, AreDefined, instance_of}
use Rattle.module_machine.proofs.Programs.{program_of}
use Rattle.edge_imports.specs.declared.hostcall.Hostcall.{Hostcall}
use Rattle.edge_imports.specs.declared.hostcall.Hostcall.TheVariants.{AbiInit}
use Rattle.edge_imports.specs.declared.links.Links.{Links}
use Rattle.edge_imports.specs.declared.links.LinkRefusal.TheVariants.{NoMemory}
use Rattle.edge_imports.specs.Table.{row_of}
use Rattle.edge_imports.specs.Links.{LinkedModule, call_of, imported_type, type_at, function_types, is_plain, is_start, is_function, is_wrong, is_unknown, first_from, start_of, has_memory, links_of, with_start, with_types, with_calls, linked}
use Rattle.edge_imports.proofs.Indexes.{all-known}
use Rattle.guest_run.specs.declared.service.Service.{Service}
use Rattle.guest_run.specs.Next.{Entry}
use Rattle.guest_run.specs.Origins.{Origin, Begins, Faults, IsOrigin, IsEntry, AreEntries, starts_from}
use Rattle.guest_run.specs.Services.{IsServiceOf}
use Rattle.guest_run.proofs.Linking.{and_true, not_false, first_passes, all_typed, known_function, IsHead, head_of, one_of_call}

-- ---- the start function, as linking finds it

find_holds : (test : Export → Bool) (es : List Export) (e : Export) → find test es ≡ Some e → test e ≡ true
find_holds test [] e at = cc at
find_holds test (x ∷ es) e at =
    let with : (b : Bool) → test x ≡ b → (if b then Some x else find test es) ≡ Some e → test e ≡ true =
    elim [ true ↦ λ is here. let same : x ≡ e = cc in subst (λ y. test y ≡ true) same is | false ↦ λ _ later. find_holds test es e later ]
    in with (test x) refl at

start_plain : (m : Module) (n : ℕ) → start_of m ≡ Some n → is_plain (type_at m.types (slice_get (function_types m) n)) ≡ true
start_plain m n is =
    let with : (found : Option Export) → find (is_start m) m.exports ≡ found → option_map (λ (e : Export). e.index) found ≡ Some n → is_plain (type_at m.types (slice_get (function_types m) n)) ≡ true =
    elim [
      | None ↦ λ _ none. cc none
      | Some e ↦ λ at index.
          let same : e.index ≡ n = cc in
          let passes = find_holds (is_start m) m.exports e at in
          subst (λ (k : ℕ). is_plain (type_at m.types (slice_get (function_types m) k)) ≡ true) same (and_true (is_function e.kind && bytes_eq e.name (codes "_start")) (is_plain (type_at m.types (slice_get (function_types m) e.index))) passes).1
    ]
    in with (find (is_start m) m.exports) refl is

starts_at : (m : Module) (links : Links) → linked m ≡ Ok links → start_of m ≡ Some links.start
starts_at m links is =
    let known = all-known m links is in
    let right = all_typed m links is in
    let typed : with_types m (first_from (is_wrong m.types) 0 m.imports) ≡ Ok links = subst (λ found. with_calls m found ≡ Ok links) known is in
    let started : with_start m (start_of m) ≡ Ok links = subst (λ found. with_types m found ≡ Ok links) right typed in
    let last : (n : ℕ) (b : Bool) → (if b then Ok (links_of m n) else Err NoMemory) ≡ Ok links → Some n ≡ Some links.start =
    λ n. elim [ true ↦ λ e. cc e | false ↦ λ e. cc e ]
    in
    let with : (found : Option ℕ) → with_start m found ≡ Ok links → found ≡ Some links.start =
    elim [ None ↦ λ bad. cc bad | Some n ↦ λ e. last n (has_memory m) e ]
    in with (start_of m) started

-- ---- a function without parameters and result is none of the imports

no_plain_call : (call : Hostcall) → same_types [] (row_of call).params ≡ true → ⊥
no_plain_call AbiInit h = false≢true h
no_plain_call _ h = false≢true h

record IsDefinedFunction (fs : List Function) (n : ℕ) : Type 0 where
  pub function : Function
  pub at : slice_get fs n ≡ Some function
  pub takes_nothing : function.kind.params ≡ []
  pub body : Nested
  pub has : function.body ≡ Some body

no_types : (ts : List ValueType) → same_types ts [] ≡ true → ts ≡ []
no_types [] h = refl
no_types (t ∷ ts) h = cc h

plain_nothing : (kind : FuncType) → is_plain (Some kind) ≡ true → kind.params ≡ []
plain_nothing kind h = no_types kind.params (and_true (same_types kind.params []) (same_result kind.result None) h).0

plain_head : (found : Option FuncType) (kind : FuncType) → found ≡ Some kind → is_plain found ≡ true → kind.params ≡ []
plain_head found kind is h = plain_nothing kind (subst (λ (o : Option FuncType). is_plain o ≡ true) is h)

plain_defined : (ts : List FuncType) (us : List ℕ) (cs : List Body) (fs : List Function) → AreDefined ts us cs fs → (n : ℕ) → is_plain (type_at ts (slice_get us n)) ≡ true → IsDefinedFunction fs n
plain_defined ts [] [] [] h n plain = cc plain
plain_defined ts [] [] (f ∷ fs) h n plain = absurd h
plain_defined ts [] (c ∷ cs) fs h n plain = absurd h
plain_defined ts (t ∷ us) [] fs h n plain = absurd h
plain_defined ts (t ∷ us) (c ∷ cs) [] h n plain = absurd h
plain_defined ts (t ∷ us) (c ∷ cs) (f ∷ fs) (kind, code, more) zero plain = record {
  function = f;
  at = refl;
  takes_nothing = plain_head (slice_get ts t) f.kind kind plain;
  body = code.1.0;
  has = code.1.1;
}
plain_defined ts (t ∷ us) (c ∷ cs) (f ∷ fs) (kind, code, more) (suc n) plain =
    let w = plain_defined ts us cs fs more n plain in
    record { function = w.function; at = w.at; takes_nothing = w.takes_nothing; body = w.body; has = w.has }

-- an import is of a type with parameters
not_plain : (kind : FuncType) (call : Hostcall) → kind.params ≡ [] → same_types kind.params (row_of call).params ≡ true → ⊥
not_plain kind call none same = no_plain_call call (subst (λ (ps : List ValueType). same_types ps (row_of call).params ≡ true) none same)

imported_list : (i : Import) (imports : List Import) (us : List ℕ) → IsFunctionImport i.kind → (t : ℕ) × (imported_type i.kind ≡ Some t) × (filter_map (λ (j : Import). imported_type j.kind) (i ∷ imports) ++ us ≡ t ∷ (filter_map (λ (j : Import). imported_type j.kind) imports ++ us))
imported_list i imports us is = with i.kind refl is
  where
    with : (kind : ImportKind) → i.kind ≡ kind → IsFunctionImport kind → (t : ℕ) × (imported_type i.kind ≡ Some t) × (filter_map (λ (j : Import). imported_type j.kind) (i ∷ imports) ++ us ≡ t ∷ (filter_map (λ (j : Import). imported_type j.kind) imports ++ us))
    with (kinds.Function t) kind h = (t, ap imported_type kind, rw kind refl)
    with (kinds.Table l) kind h = absurd h
    with (kinds.Memory l) kind h = absurd h
    with (kinds.Global g) kind h = absurd h

same_function : (f g : Function) → Some f ≡ Some g → f ≡ g
same_function f g e = cc

-- the one at a place, where the first is an import
by_place : (ts : List FuncType) (i : Import) (us : List ℕ) (fs gs : List Function) (call : Hostcall) (rest : List ℕ) → is_wrong ts i ≡ false → call_of i ≡ Some call → (h : IsHead ts i.kind rest fs) → (t : ℕ) → imported_type i.kind ≡ Some t
    → ((x : ℕ) → is_plain (type_at ts (slice_get us x)) ≡ true → IsDefinedFunction (h.others ++ gs) x)
    → (x : ℕ) → is_plain (type_at ts (slice_get (t ∷ us) x)) ≡ true → IsDefinedFunction (fs ++ gs) x
by_place ts i us fs gs call rest right is h t at more zero plain =
    let of = one_of_call ts i call rest fs right is h in
    let one : slice_get ts t ≡ Some h.function.kind = ap (type_at ts) (sym at) ∙ h.type_is in
    let none = plain_head (slice_get ts t) h.function.kind one plain in
    let found : slice_get fs zero ≡ Some h.function = ap (λ (l : List Function). slice_get l zero) h.are in
    let same : of.function ≡ h.function = same_function of.function h.function (sym of.at ∙ found) in
    let params = (and_true (same_types of.function.kind.params (row_of call).params) (same_result of.function.kind.result (row_of call).result) of.typed).0 in
    absurd (not_plain of.function.kind call (ap (λ (f : Function). f.kind.params) same ∙ none) params)
by_place ts i us fs gs call rest right is h t at more (suc x) plain =
    let w = more x plain in
    record { function = w.function; at = ap (λ (l : List Function). slice_get (l ++ gs) (suc x)) h.are ∙ w.at; takes_nothing = w.takes_nothing; body = w.body; has = w.has }

some_call : (i : Import) → is_unknown i ≡ false → (call : Hostcall) × (call_of i ≡ Some call)
some_call i known =
    let some : is_some (call_of i) ≡ true = not_false (is_some (call_of i)) known in
    let with : (found : Option Hostcall) → call_of i ≡ found → (call : Hostcall) × (call_of i ≡ Some call) =
    elim [ None ↦ λ is. cc (some, is) | Some call ↦ λ is. (call, is) ]
    in with (call_of i) refl

plain_function : (ts : List FuncType) (n k : ℕ) (imports : List Import) (us : List ℕ) (cs : List Body) (fs gs : List Function) → first_from is_unknown n imports ≡ None → first_from (is_wrong ts) k imports ≡ None → AreImported ts (functions_in imports) fs → AreDefined ts us cs gs
    → (x : ℕ) → is_plain (type_at ts (slice_get (filter_map (λ (j : Import). imported_type j.kind) imports ++ us) x)) ≡ true → IsDefinedFunction (fs ++ gs) x
plain_function ts n k [] us cs [] gs known right are defined x plain = plain_defined ts us cs gs defined x plain
plain_function ts n k [] us cs (f ∷ fs) gs known right are defined x plain = absurd are
plain_function ts n k (i ∷ imports) us cs fs gs known right are defined x plain =
    let first = first_passes is_unknown n i imports known in
    let passes = first_passes (is_wrong ts) k i imports right in
    let is = known_function i first.0 in
    let h = head_of ts i.kind (functions_in imports) fs is are in
    let list = imported_list i imports us is in
    let call = some_call i first.0 in
    let at : is_plain (type_at ts (slice_get (list.0 ∷ (filter_map (λ (j : Import). imported_type j.kind) imports ++ us)) x)) ≡ true = subst (λ (l : List ℕ). is_plain (type_at ts (slice_get l x)) ≡ true) list.2 plain in
    by_place ts i (filter_map (λ (j : Import). imported_type j.kind) imports ++ us) fs gs call.0 (functions_in imports) passes.0 call.1 h list.0 list.1
    (λ y later. plain_function ts (n + 1) (k + 1) imports us cs h.others gs first.1 passes.1 h.imported defined y later) x at

-- ---- the origin

-- indices name the same functions in validation and in linking
abbrev imported_types : List Import → List ℕ
imported_types imports = filter_map (λ (i : Import). imported_type i.kind) imports

same_with : (kind : ImportKind) (i : Import) (imports : List Import) → i.kind ≡ kind → functions_in imports ≡ imported_types imports → functions_in (i ∷ imports) ≡ imported_types (i ∷ imports)
same_with (kinds.Function t) i imports is same = rw is (ap (λ (us : List ℕ). t ∷ us) same)
same_with (kinds.Table l) i imports is same = rw is same
same_with (kinds.Memory l) i imports is same = rw is same
same_with (kinds.Global g) i imports is same = rw is same

same_spaces : (imports : List Import) → functions_in imports ≡ imported_types imports
same_spaces [] = refl
same_spaces (i ∷ imports) = same_with i.kind i imports refl (same_spaces imports)

-- the start function of a valid module is plain
plain_kind : (kind : FuncType) → kind.params ≡ [] → kind.result ≡ None → is_plain (Some kind) ≡ true
plain_kind kind none nothing = rw (none, nothing) refl

valid_plain : (m : Module) (f : ℕ) → IsStart m (Some f) → is_plain (type_at m.types (slice_get (function_types m) f)) ≡ true
valid_plain m f (t, kind, of, is, none, nothing) =
    let there : slice_get (function_types m) f ≡ Some t = subst (λ (us : List ℕ). slice_get (us ++ m.functions) f ≡ Some t) (same_spaces m.imports) of in
    subst (λ (o : Option ℕ). is_plain (type_at m.types o) ≡ true) (sym there) (subst (λ (o : Option FuncType). is_plain o ≡ true) (sym is) (plain_kind kind none nothing))

module _ (l : LinkedModule) (service : Service) (is : IsServiceOf l service) (i : Instance) (code : Code) (program : IsProgram l.whole i code) where
  -- a function without parameters and result begins
  entry_of : (x : ℕ) → is_plain (type_at l.whole.types (slice_get (function_types l.whole) x)) ≡ true → (e : Entry) × IsEntry code x e
  entry_of x plain =
      let m = l.whole in
      let f = plain_function m.types 0 0 m.imports m.functions m.code program.imported program.defined (all-known m l.links is.linked_is) (all_typed m l.links is.linked_is) program.imports program.code x plain in (
        record { function = f.function; body = f.body },
        record { found = ap (λ (fs : List Function). slice_get fs x) program.functions ∙ f.at; takes_nothing = f.takes_nothing; defined = f.has },
      )

  last_entry : (e : Entry) × IsEntry code l.links.start e
  last_entry = entry_of l.links.start (start_plain l.whole l.links.start (starts_at l.whole l.links is.linked_is))

  entries_of : (start : Option ℕ) → IsStart l.whole start → (entries : List Entry) × AreEntries code (starts_from start l.links.start) entries
  entries_of None valid = (last_entry.0 ∷ [], (last_entry.1, tt))
  entries_of (Some f) valid = let e = entry_of f (valid_plain l.whole f valid) in (e.0 ∷ last_entry.0 ∷ [], (e.1, (last_entry.1, tt)))

begins_of : (l : LinkedModule) (service : Service) → IsServiceOf l service → (i : Instance) → instance_of l.whole ≡ Ok i → (origin : Origin) × IsOrigin l.whole l.links.start origin
begins_of l service is i started =
    let m = l.whole in
    let w = program_of m i is.image.ready.one_count is.image.valid is.image.imports in
    let entries = entries_of l service is i w.0 w.1 m.start is.image.valid.start in
    (Begins w.0 entries.0 i.world, record { begun = i; instance_is = started; program = w.1; entries_are = entries.1; world_is = refl })

-- the instance of a valid module is one, or a trap
abbrev pub NeverStuck : Type 0
NeverStuck = (m : Module) → IsValid m → AllFunctions m.imports → instance_of m ≡ Err Stuck → ⊥

faults_of : NeverStuck → (l : LinkedModule) (service : Service) → IsServiceOf l service → (off : Off) → instance_of l.whole ≡ Err off → (origin : Origin) × IsOrigin l.whole l.links.start origin
faults_of unstuck l service is (Trap kind) fault = (Faults kind, fault)
faults_of unstuck l service is Stuck fault = absurd (unstuck l.whole is.image.valid is.image.imports fault)

pub origin_of : NeverStuck → (l : LinkedModule) (service : Service) → IsServiceOf l service → (origin : Origin) × IsOrigin l.whole l.links.start origin
origin_of unstuck l service is =
    let with : (made : Result Instance Off) → instance_of l.whole ≡ made → (origin : Origin) × IsOrigin l.whole l.links.start origin =
    elim [
      | Ok i ↦ λ started. begins_of l service is i started
      | Err off ↦ λ fault. faults_of unstuck l service is off fault
    ]
    in with (instance_of l.whole) refl
