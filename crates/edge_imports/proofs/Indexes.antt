-- The calls of imports that are all known stand at the imports' indexes.
use Rattle.std.specs.Prelude.{◌≡◌, ℕ, ◌+◌, Bool, true, false, not, List, [], ◌∷◌, length, slice_get, refl, Option, None, Some, is_some, if◌then◌else◌, Result, Ok, Err}
use Rattle.std.specs.List.{filter_map}
use Rattle.std.proofs.Common.{ap, ◌∙◌, zero, suc}
use Rattle.wasm_types.specs.declared.modules.Import.{Import}
use Rattle.wasm_types.specs.declared.modules.Module.{Module}
use Rattle.edge_imports.specs.declared.hostcall.Hostcall.{Hostcall}
use Rattle.edge_imports.specs.declared.links.Links.{Links}
use Rattle.edge_imports.specs.declared.links.LinkRefusal.TheVariants.{NoMemory}
use Rattle.edge_imports.specs.Links.{call_of, call_of_some, hostcall_at, is_unknown, is_wrong, first_from, with_calls, with_types, with_start, start_of, links_of, linked, has_memory}

-- the first import is known, and so are the others
known : (n : ℕ) (i : Import) (imports : List Import) → first_from is_unknown n (i ∷ imports) ≡ None → (is_some (call_of i) ≡ true) × (first_from is_unknown (n + 1) imports ≡ None)
known n i imports all =
    let with : (b : Bool) → is_some (call_of i) ≡ b → (if not b then Some n else first_from is_unknown (n + 1) imports) ≡ None → (is_some (call_of i) ≡ true) × (first_from is_unknown (n + 1) imports ≡ None) =
    elim [ true ↦ λ is rest. (is, rest) | false ↦ λ _ none. cc none ]
    in with (is_some (call_of i)) refl all

pub lengths : (n : ℕ) (imports : List Import) → first_from is_unknown n imports ≡ None → length (filter_map call_of imports) ≡ length imports
lengths n [] all = refl
lengths n (i ∷ imports) all =
    let first = known n i imports all in
    let with : (found : Option Hostcall) → call_of i ≡ found → length (filter_map call_of (i ∷ imports)) ≡ length (i ∷ imports) =
    elim [ None ↦ λ is. cc (first.0, is) | Some call ↦ λ is. rw is (ap suc (lengths (n + 1) imports first.1)) ]
    in with (call_of i) refl

call-at : (i : Import) (imports : List Import) (call : Hostcall) → call_of i ≡ Some call → ((k : ℕ) → slice_get (filter_map call_of imports) k ≡ hostcall_at imports k) → (k : ℕ) → slice_get (call ∷ filter_map call_of imports) k ≡ hostcall_at (i ∷ imports) k
call-at i imports call is later zero = cc is
call-at i imports call is later (suc k) = later k

pub calls-at : (n : ℕ) (imports : List Import) → first_from is_unknown n imports ≡ None → (index : ℕ) → slice_get (filter_map call_of imports) index ≡ hostcall_at imports index
calls-at n [] all index = refl
calls-at n (i ∷ imports) all index =
    let first = known n i imports all in
    let later = calls-at (n + 1) imports first.1 in
    let with : (found : Option Hostcall) → call_of i ≡ found → slice_get (filter_map call_of (i ∷ imports)) index ≡ hostcall_at (i ∷ imports) index =
    elim [ None ↦ λ is. cc (first.0, is) | Some call ↦ λ is. rw is (call-at i imports call is later index) ]
    in with (call_of i) refl

-- linked modules have known imports
pub all-known : (m : Module) (links : Links) → linked m ≡ Ok links → first_from is_unknown 0 m.imports ≡ None
all-known m links is =
    let with : (found : Option ℕ) → first_from is_unknown 0 m.imports ≡ found → with_calls m found ≡ Ok links → first_from is_unknown 0 m.imports ≡ None =
    elim [ None ↦ λ none _. none | Some n ↦ λ _ bad. cc bad ]
    in with (first_from is_unknown 0 m.imports) refl is

pub the-calls : (m : Module) (links : Links) → linked m ≡ Ok links → links.calls ≡ filter_map call_of m.imports
the-calls m links is =
    let last : (b : Bool) → (start : ℕ) → (if b then Ok (links_of m start) else Err NoMemory) ≡ Ok links → links.calls ≡ filter_map call_of m.imports =
    elim [ true ↦ λ start e. cc e | false ↦ λ start e. cc e ]
    in
    let started : (found : Option ℕ) → with_start m found ≡ Ok links → links.calls ≡ filter_map call_of m.imports =
    elim [ None ↦ λ e. cc e | Some start ↦ λ e. last (has_memory m) start e ]
    in
    let typed : (found : Option ℕ) → with_types m found ≡ Ok links → links.calls ≡ filter_map call_of m.imports =
    elim [ None ↦ λ e. started (start_of m) e | Some n ↦ λ e. cc e ]
    in
    let called : (found : Option ℕ) → with_calls m found ≡ Ok links → links.calls ≡ filter_map call_of m.imports =
    elim [ None ↦ λ e. typed (first_from (is_wrong m.types) 0 m.imports) e | Some n ↦ λ e. cc e ]
    in called (first_from is_unknown 0 m.imports) is
