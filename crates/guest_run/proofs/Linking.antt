-- Of a linked module whose calls stand: its imports are functions, and those that answer a number are of that type.
use Rattle.std.specs.Prelude.{◌≡◌, ℕ, ◌+◌, Bool, true, false, not, ◌&&◌, List, [], ◌∷◌, ◌++◌, slice_get, refl, Option, None, Some, is_some, if◌then◌else◌, Ok}
use Rattle.std.specs.List.{filter_map}
use Rattle.std.proofs.Common.{ap, sym, subst, ◌∙◌, zero, suc, inl, inr}
use Rattle.wasm_types.specs.declared.types.ValueType.{ValueType}
use Rattle.wasm_types.specs.declared.types.ValueType.TheVariants as types
use Rattle.wasm_types.specs.declared.types.FuncType.{FuncType}
use Rattle.wasm_types.specs.declared.values.Value.TheVariants as value
use Rattle.wasm_types.specs.declared.modules.Import.{Import}
use Rattle.wasm_types.specs.declared.modules.ImportKind.{ImportKind}
use Rattle.wasm_types.specs.declared.modules.ImportKind.TheVariants as kinds
use Rattle.wasm_types.specs.declared.modules.Module.{Module}
use Rattle.wasm_types.specs.Types.{same_result, same_types}
use Rattle.wasm_types.proofs.Groups.{same_is}
use Rattle.wasm_validate.specs.Spaces.{functions_in, function_in}
use Rattle.wasm_meaning.specs.Frames.{Program as Code, Function}
use Rattle.wasm_meaning.specs.Instance.{Instance, IsProgram, IsFunctionImport, AllFunctions, AreImported}
use Rattle.edge_imports.specs.declared.hostcall.Hostcall.{Hostcall}
use Rattle.edge_imports.specs.declared.hostcall.Hostcall.TheVariants.{WasiProcExit}
use Rattle.edge_imports.specs.declared.links.Links.{Links}
use Rattle.edge_imports.specs.Table.{row_of, call_named}
use Rattle.edge_imports.specs.Links.{call_of, imported_type, type_at, is_of, is_of_row, is_typed, is_unknown, is_wrong, first_from, with_calls, with_types, linked, IsLinkedAs}
use Rattle.edge_imports.proofs.Indexes.{all-known, the-calls}
use Rattle.guest_calls.specs.declared.call.Call.{Call}
use Rattle.guest_calls.specs.declared.call.Call.TheVariants as calls
use Rattle.guest_calls.specs.declared.call.RowCall.{RowCall}
use Rattle.guest_calls.specs.Calls.{standing}
use Rattle.wasm_sound.specs.Typed.{Fits}
use Rattle.module_machine.specs.Standing.{FitsImport}
use Rattle.guest_run.specs.Services.{calls_of, with_call}
use Rattle.guest_run.specs.Lives.{AreAnswered}

-- ---- tests that were passed by all

pub first_passes : (test : Import → Bool) (n : ℕ) (i : Import) (imports : List Import) → first_from test n (i ∷ imports) ≡ None → (test i ≡ false) × (first_from test (n + 1) imports ≡ None)
first_passes test n i imports all =
    let with : (b : Bool) → test i ≡ b → (if b then Some n else first_from test (n + 1) imports) ≡ None → (test i ≡ false) × (first_from test (n + 1) imports ≡ None) =
    elim [ true ↦ λ _ none. cc none | false ↦ λ is rest. (is, rest) ]
    in with (test i) refl all

pub not_false : (b : Bool) → not b ≡ false → b ≡ true
not_false true h = refl
not_false false h = cc h

pub and_true : (a b : Bool) → (a && b) ≡ true → (a ≡ true) × (b ≡ true)
and_true true b h = (refl, h)
and_true false b h = cc h

pub all_typed : (m : Module) (links : Links) → linked m ≡ Ok links → first_from (is_wrong m.types) 0 m.imports ≡ None
all_typed m links is =
    let known = all-known m links is in
    let typed : with_types m (first_from (is_wrong m.types) 0 m.imports) ≡ Ok links = subst (λ found. with_calls m found ≡ Ok links) known is in
    let with : (found : Option ℕ) → with_types m found ≡ Ok links → found ≡ None =
    elim [ None ↦ λ _. refl | Some n ↦ λ bad. cc bad ]
    in with (first_from (is_wrong m.types) 0 m.imports) typed

-- ---- imports are functions

known_kind : (kind : ImportKind) (found : Option Hostcall) → not (is_some (if is_some (imported_type kind) then found else None)) ≡ false → IsFunctionImport kind
known_kind (kinds.Function t) found h = tt
known_kind (kinds.Table l) found h = cc h
known_kind (kinds.Memory l) found h = cc h
known_kind (kinds.Global g) found h = cc h

pub known_function : (i : Import) → is_unknown i ≡ false → IsFunctionImport i.kind
known_function i known = known_kind i.kind (call_named i.«module» i.name) known

pub all_functions : (n : ℕ) (imports : List Import) → first_from is_unknown n imports ≡ None → AllFunctions imports
all_functions n [] all = tt
all_functions n (i ∷ imports) all = let first = first_passes is_unknown n i imports all in (known_function i first.0, all_functions (n + 1) imports first.1)

-- ---- the functions of imports are of the types of their calls

-- the first function, which is the import's
pub record IsHead (ts : List FuncType) (kind : ImportKind) (rest : List ℕ) (fs : List Function) : Type 0 where
  pub function : Function
  pub others : List Function
  pub are : fs ≡ function ∷ others
  pub type_is : type_at ts (imported_type kind) ≡ Some function.kind
  pub no_body : function.body ≡ None
  pub imported : AreImported ts rest others

pub head_of : (ts : List FuncType) (kind : ImportKind) (rest : List ℕ) (fs : List Function) → IsFunctionImport kind → AreImported ts (function_in kind ++ rest) fs → IsHead ts kind rest fs
head_of ts (kinds.Function t) rest [] is h = absurd h
head_of ts (kinds.Function t) rest (f ∷ fs) is (kind, locals, body, more) = record { function = f; others = fs; are = refl; type_is = kind; no_body = body; imported = more }
head_of ts (kinds.Table l) rest fs is h = absurd is
head_of ts (kinds.Memory l) rest fs is h = absurd is
head_of ts (kinds.Global g) rest fs is h = absurd is

-- a function of the type of a call, which has no body
pub record IsOfCall (call : Hostcall) (fs : List Function) (x : ℕ) : Type 0 where
  pub function : Function
  pub at : slice_get fs x ≡ Some function
  pub typed : is_of_row (row_of call) function.kind ≡ true
  pub no_body : function.body ≡ None

same_call : (a b : Hostcall) → Some a ≡ Some b → a ≡ b
same_call a b e = cc

pub one_of_call : (ts : List FuncType) (i : Import) (call : Hostcall) (rest : List ℕ) (fs : List Function) → is_wrong ts i ≡ false → call_of i ≡ Some call → IsHead ts i.kind rest fs → IsOfCall call fs zero
one_of_call ts i call rest fs right is h =
    let typed : is_of (row_of call) (type_at ts (imported_type i.kind)) ≡ true = subst (λ (found : Option Hostcall). is_typed ts i found ≡ true) is (not_false (is_typed ts i (call_of i)) right) in
    record {
      function = h.function;
      at = ap (λ (l : List Function). slice_get l zero) h.are;
      typed = subst (λ (found : Option FuncType). is_of (row_of call) found ≡ true) h.type_is typed;
      no_body = h.no_body;
    }

further : (call : Hostcall) (f : Function) (fs all : List Function) (x : ℕ) → all ≡ f ∷ fs → IsOfCall call fs x → IsOfCall call all (suc x)
further call f fs all x are h = record { function = h.function; at = ap (λ (l : List Function). slice_get l (suc x)) are ∙ h.at; typed = h.typed; no_body = h.no_body }

behind_first : (ts : List FuncType) (i : Import) (first call : Hostcall) (later : List Hostcall) (rest : List ℕ) (fs : List Function) → is_wrong ts i ≡ false → call_of i ≡ Some first → (h : IsHead ts i.kind rest fs)
    → ((x : ℕ) → slice_get later x ≡ Some call → IsOfCall call h.others x) → (x : ℕ) → slice_get (first ∷ later) x ≡ Some call → IsOfCall call fs x
behind_first ts i first call later rest fs right is h more zero at = subst (λ (c : Hostcall). IsOfCall c fs zero) (same_call first call at) (one_of_call ts i first rest fs right is h)
behind_first ts i first call later rest fs right is h more (suc x) at = further call h.function h.others fs x h.are (more x at)

pub typed_at : (ts : List FuncType) (n k : ℕ) (imports : List Import) (fs : List Function) → first_from is_unknown n imports ≡ None → first_from (is_wrong ts) k imports ≡ None → AreImported ts (functions_in imports) fs
    → (x : ℕ) (call : Hostcall) → slice_get (filter_map call_of imports) x ≡ Some call → IsOfCall call fs x
typed_at ts n k [] fs known right are x call at = cc at
typed_at ts n k (i ∷ imports) fs known right are x call at =
    let first = first_passes is_unknown n i imports known in
    let passes = first_passes (is_wrong ts) k i imports right in
    let h = head_of ts i.kind (functions_in imports) fs (known_function i first.0) are in
    let some : is_some (call_of i) ≡ true = not_false (is_some (call_of i)) first.0 in
    let with : (found : Option Hostcall) → call_of i ≡ found → slice_get (filter_map call_of (i ∷ imports)) x ≡ Some call → IsOfCall call fs x =
    elim [
      | None ↦ λ is _. cc (some, is)
      | Some own ↦ λ is here. behind_first ts i own call (filter_map call_of imports) (functions_in imports) fs passes.0 is h (λ y later. typed_at ts (n + 1) (k + 1) imports h.others first.1 passes.1 h.imported y call later) x (rw is at here)
    ]
    in with (call_of i) refl at

-- ---- calls that stand

pub record IsStanding (hostcalls : List Hostcall) (x : ℕ) (c : Call) : Type 0 where
  pub hostcall : Hostcall
  pub at : slice_get hostcalls x ≡ Some hostcall
  pub stands : standing hostcall ≡ Some c

none_there : (cs : List Call) (x : ℕ) (c : Call) → Some [] ≡ Some cs → slice_get cs x ≡ Some c → ⊥
none_there [] x c e at = cc at
none_there (d ∷ cs) x c e at = cc e

one_there : (h : Hostcall) (hs : List Hostcall) (own : Call) (others cs : List Call) → standing h ≡ Some own → Some (own ∷ others) ≡ Some cs → ((x : ℕ) (c : Call) → slice_get others x ≡ Some c → IsStanding hs x c) → (x : ℕ) (c : Call) → slice_get cs x ≡ Some c → IsStanding (h ∷ hs) x c
one_there h hs own others [] is e more x c at = cc e
one_there h hs own others (d ∷ cs) is e more zero c at = let same : own ≡ c = cc in record { hostcall = h; at = refl; stands = subst (λ (k : Call). standing h ≡ Some k) same is }
one_there h hs own others (d ∷ cs) is e more (suc x) c at =
    let same : others ≡ cs = cc in
    let w = more x c (subst (λ (l : List Call). slice_get l x ≡ Some c) (sym same) at) in
    record { hostcall = w.hostcall; at = w.at; stands = w.stands }

pub standing_at : (hs : List Hostcall) (cs : List Call) → calls_of hs ≡ Some cs → (x : ℕ) (c : Call) → slice_get cs x ≡ Some c → IsStanding hs x c
standing_at [] cs e x c at = absurd (none_there cs x c e at)
standing_at (h ∷ hs) cs e x c at =
    let with : (own : Option Call) (others : Option (List Call)) → standing h ≡ own → calls_of hs ≡ others → with_call own others ≡ Some cs → IsStanding (h ∷ hs) x c =
    elim [
      | None ↦ λ others is are bad. cc bad
      | Some own ↦ elim [
        | None ↦ λ is are bad. cc bad
        | Some others ↦ λ is are e. one_there h hs own others cs is e (λ y d later. standing_at hs others are y d later) x c at
      ]
    ]
    in with (standing h) (calls_of hs) refl refl e

-- a call that has a row answers a number
number_result : (hostcall : Hostcall) (call : RowCall) → standing hostcall ≡ Some (calls.Row call) → (row_of hostcall).result ≡ Some types.I32
number_result WasiProcExit call is = cc is
number_result _ call is = refl

same_result_is : (a b : Option ValueType) → same_result a b ≡ true → a ≡ b
same_result_is None None h = refl
same_result_is None (Some b) h = cc h
same_result_is (Some a) None h = cc h
same_result_is (Some a) (Some b) h = ap (λ (t : ValueType). Some t) (same_is a b h)

at_front : (fs gs : List Function) (x : ℕ) (f : Function) → slice_get fs x ≡ Some f → slice_get (fs ++ gs) x ≡ Some f
at_front [] gs x f at = cc at
at_front (g ∷ fs) gs zero f at = at
at_front (g ∷ fs) gs (suc x) f at = at_front fs gs x f at

fits_number : (found : Option Function) (f : Function) (n : ℕ) → found ≡ Some f → f.kind.result ≡ Some types.I32 → FitsImport found (Some (value.I32 n))
fits_number found f n is result = subst (λ (g : Option Function). FitsImport g (Some (value.I32 n))) (sym is) (subst (λ (r : Option ValueType). Fits r (Some (value.I32 n))) (sym result) refl)

pub answered_calls : (m : Module) (links : Links) (cs : List Call) (i : Instance) (code : Code) → linked m ≡ Ok links → calls_of links.calls ≡ Some cs → IsProgram m i code → AreAnswered code cs
answered_calls m links cs i code is are program x call at number =
    let w = standing_at links.calls cs are x (calls.Row call) at in
    let there : slice_get (filter_map call_of m.imports) x ≡ Some w.hostcall = subst (λ (l : List Hostcall). slice_get l x ≡ Some w.hostcall) (the-calls m links is) w.at in
    let f = typed_at m.types 0 0 m.imports program.imported (all-known m links is) (all_typed m links is) program.imports x w.hostcall there in
    let both = and_true (same_types f.function.kind.params (row_of w.hostcall).params) (same_result f.function.kind.result (row_of w.hostcall).result) f.typed in
    let result : f.function.kind.result ≡ Some types.I32 = same_result_is f.function.kind.result (row_of w.hostcall).result both.1 ∙ number_result w.hostcall call w.stands in
    let found : slice_get code.functions x ≡ Some f.function = ap (λ (l : List Function). slice_get l x) program.functions ∙ at_front program.imported program.defined x f.function f.at in
    fits_number (slice_get code.functions x) f.function number found result

-- what linking told is what the module is linked to
pub agreed : (m n : Module) (links found : Links) → m ≡ n → linked n ≡ Ok links → IsLinkedAs (linked m) (Ok found) → found ≡ links
agreed m n links found is wanted (inl e) = cc
agreed m n links found is wanted (inr e) = cc e
