-- The calls of imports, one after another.
use Rattle.std.proofs.Common.{◌≡◌, ◌∙◌, ℕ, ◌+◌, ◌<◌, ◌≤◌, List, [], ◌∷◌, ◌++◌, length, get_or, drop, Option, None, Some, refl, ap, sym, add-one, append-nil, append_assoc}
use Rattle.std.proofs.Math.Seq.{drop-cons}
use Rattle.std.proofs.Math.ListN.{drop_of_length-le}
use Rattle.edge_imports.specs.declared.hostcall.Hostcall.{Hostcall}
use Rattle.guest_calls.specs.declared.call.Call.{Call}
use Rattle.guest_calls.specs.Calls.{standing}
use Rattle.guest_run.specs.Services.{calls_of, with_call}

-- these calls in front of others
abbrev pub with_calls : List Call → Option (List Call) → Option (List Call)
with_calls cs None = None
with_calls cs (Some ds) = Some (cs ++ ds)

pub none_before : (o : Option (List Call)) → with_calls [] o ≡ o
none_before None = refl
none_before (Some ds) = refl

one_moves : (cs : List Call) (c : Call) (o : Option (List Call)) → with_calls cs (with_call (Some c) o) ≡ with_calls (cs ++ c ∷ []) o
one_moves cs c None = refl
one_moves cs c (Some ds) = ap (λ (l : List Call). Some l) (sym (append_assoc cs (c ∷ []) ds))

next_is : (hs : List Hostcall) (k : ℕ) (d : Hostcall) → k < length hs → drop k hs ≡ get_or hs k d ∷ drop (k + 1) hs
next_is hs k d lt = drop-cons hs k d lt ∙ rw add-one refl

pub one_more : (hs : List Hostcall) (cs : List Call) (k : ℕ) (d : Hostcall) (c : Call) → with_calls cs (calls_of (drop k hs)) ≡ calls_of hs → k < length hs → standing (get_or hs k d) ≡ Some c → with_calls (cs ++ c ∷ []) (calls_of (drop (k + 1) hs)) ≡ calls_of hs
one_more hs cs k d c are lt is =
    let says : calls_of (drop k hs) ≡ with_call (Some c) (calls_of (drop (k + 1) hs)) = ap calls_of (next_is hs k d lt) ∙ ap (λ (o : Option Call). with_call o (calls_of (drop (k + 1) hs))) is in
    sym (one_moves cs c (calls_of (drop (k + 1) hs))) ∙ (ap (with_calls cs) (sym says) ∙ are)

pub one_lacks : (hs : List Hostcall) (cs : List Call) (k : ℕ) (d : Hostcall) → with_calls cs (calls_of (drop k hs)) ≡ calls_of hs → k < length hs → standing (get_or hs k d) ≡ None → calls_of hs ≡ None
one_lacks hs cs k d are lt is =
    let says : calls_of (drop k hs) ≡ None = ap calls_of (next_is hs k d lt) ∙ ap (λ (o : Option Call). with_call o (calls_of (drop (k + 1) hs))) is in
    sym are ∙ ap (with_calls cs) says

pub none_left : (hs : List Hostcall) (cs : List Call) (k : ℕ) → with_calls cs (calls_of (drop k hs)) ≡ calls_of hs → length hs ≤ k → calls_of hs ≡ Some cs
none_left hs cs k are done = sym are ∙ (ap (λ (l : List Hostcall). with_calls cs (calls_of l)) (drop_of_length-le hs done) ∙ ap (λ (l : List Call). Some l) (simp append-nil))
