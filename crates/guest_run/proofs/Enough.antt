-- The bound of a program's definition is never reached.
use Rattle.std.proofs.Common.{◌≡◌, ℕ, zero, suc, ◌<◌, Bool, true, false, List, Option, None, Some, slice_get, refl, arith}
use Rattle.std.specs.Prelude.{Result, Ok, Err}
use Rattle.cache_types.specs.declared.outer.OuterReply.{OuterReply}
use Rattle.wasm_types.specs.declared.values.Value.{Value}
use Rattle.wasm_meaning.specs.declared.off.Off.{Off}
use Rattle.wasm_meaning.specs.declared.off.Off.TheVariants.{Trap, Stuck}
use Rattle.wasm_meaning.specs.Frames.{Program as Code, State}
use Rattle.wasm_meaning.specs.Meaning.{step}
use Rattle.wasm_meaning.specs.Runs.{Ending, Ended, Returned, Stopped, Called, OutOfFuel, runs, next, is_done, dry, fed, gone}
use Rattle.edge_abi.specs.Told.{Told, Wants, Gives, After, Answer, Number, Code as Exits}
use Rattle.guest_calls.specs.declared.call.Call.{Call}
use Rattle.guest_calls.specs.declared.tables.GuestTables.{GuestTables}
use Rattle.guest_calls.specs.Rows.{row_of}
use Rattle.guest_run.specs.Next.{Goes_on, live, after_ending, after_call, after_row, answered, memory_in}

-- a run that ended at a call took a unit for it
abbrev CallCosts : ℕ → Ended → Type 0
CallCosts fuel e = (x : ℕ) (arguments : List Value) → e.ending ≡ Called x arguments → e.left < fuel

dry_calls : (b : Bool) (s : State) → CallCosts zero (dry b s)
dry_calls true s = λ x arguments is. cc is
dry_calls false s = λ x arguments is. cc is

gone_calls : (code : Code) (n : ℕ) (s : State) (made : Result (Option ℕ × State) Off) → ((t : State) → CallCosts n (runs n code t)) → CallCosts (suc n) (gone code (runs n code) n s made)
gone_calls code n s (Ok (None, after)) more = λ x arguments is. let less = more after x arguments is in omega (arith, less)
gone_calls code n s (Ok (Some y, after)) more = λ x arguments is. omega arith
gone_calls code n s (Err e) more = λ x arguments is. cc is

fed_calls : (code : Code) (n : ℕ) (s : State) (b : Bool) → ((t : State) → CallCosts n (runs n code t)) → CallCosts (suc n) (fed code (runs n code) n b s)
fed_calls code n s true more = λ x arguments is. cc is
fed_calls code n s false more = gone_calls code n s (step code s.frame.body s.frame s) more

runs_calls : (n : ℕ) (code : Code) (s : State) → CallCosts n (runs n code s)
runs_calls zero code s = dry_calls (is_done (next s).frame.body) (next s)
runs_calls (suc n) code s = fed_calls code n (next s) (is_done (next s).frame.body) (λ t. runs_calls n code t)

-- two ways to go on that are the same with this fuel
abbrev SameOn : ℕ → Goes_on → Goes_on → Type 0
SameOn left one other = (s : State) (t : GuestTables) (replies : List OuterReply) → one left s t replies ≡ other left s t replies

same_told : (told : Told (After GuestTables)) (left : ℕ) (s : State) (one other : Goes_on) → SameOn left one other → after_row told left s one ≡ after_row told left s other
same_told (Wants call) left s one other same = refl
same_told (Gives after replies) left s one other same = with after.answer
  where
    with : (answer : Answer) → answered answer after.tables after.memory left s one replies ≡ answered answer after.tables after.memory left s other replies
    with (Number n) = same _ after.tables replies
    with (Exits n) = refl

same_call : (call : Option Call) (arguments : List Value) (left : ℕ) (s : State) (t : GuestTables) (one other : Goes_on) (replies : List OuterReply) → SameOn left one other → after_call call arguments left s t one replies ≡ after_call call arguments left s t other replies
same_call None arguments left s t one other replies same = refl
same_call (Some call) arguments left s t one other replies same = same_told (row_of call arguments t (memory_in s) replies) left s one other same

same_ending : (calls : List Call) (back : Goes_on) (ending : Ending) (left : ℕ) (s : State) (t : GuestTables) (one other : Goes_on) (replies : List OuterReply) → ((x : ℕ) (arguments : List Value) → ending ≡ Called x arguments → SameOn left one other)
    → after_ending calls back ending left s t one replies ≡ after_ending calls back ending left s t other replies
same_ending calls back Returned left s t one other replies same = refl
same_ending calls back OutOfFuel left s t one other replies same = refl
same_ending calls back (Stopped (Trap kind)) left s t one other replies same = refl
same_ending calls back (Stopped Stuck) left s t one other replies same = refl
same_ending calls back (Called x arguments) left s t one other replies same = same_call (slice_get calls x) arguments left s t one other replies (same x arguments refl)

pub same_live : (one other : ℕ) (code : Code) (calls : List Call) (back : Goes_on) (fuel : ℕ) (s : State) (t : GuestTables) (replies : List OuterReply) → fuel < one → fuel < other → live one code calls back fuel s t replies ≡ live other code calls back fuel s t replies
same_live zero other code calls back fuel s t replies low high = absurd (omega (arith, low))
same_live (suc one) zero code calls back fuel s t replies low high = absurd (omega (arith, high))
same_live (suc one) (suc other) code calls back fuel s t replies low high =
    let e = runs fuel code s in
    same_ending calls back e.ending e.left e.state t (live one code calls back) (live other code calls back) replies
    (λ x arguments is s' t' replies'. let less = runs_calls fuel code s x arguments is in same_live one other code calls back e.left s' t' replies' (omega (arith, low, less)) (omega (arith, high, less)))
