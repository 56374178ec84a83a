-- What one step of a cache means to the turnstile.
use Rattle.std.proofs.Common.{◌≡◌, ℕ, ◌+◌, ◌<◌, ◌^◌, Bool, true, false, true≢false, ◌||◌, not, List, [], ◌∷◌, ◌++◌, length, IsTrue, IfOk, OnOk, OnErr, IsOk, Option, None, Some, Result, Ok, Err, if◌then◌else◌, refl, sym, ap, ◌∙◌, subst, arith}
use Rattle.std.proofs.lemmas.List.{length-reverse, length-append}
use Rattle.turnstile.specs.Standing.{Adds, family_number, family_entries}
use Rattle.cache_types.specs.declared.calls.CacheCall.{CacheCall}
use Rattle.cache_types.specs.declared.calls.CacheCall.TheVariants.{Begin}
use Rattle.cache_types.specs.declared.entries.Entry.{Entry}
use Rattle.cache_types.specs.declared.entries.Stepped.{Stepped}
use Rattle.cache_types.specs.declared.entries.StepFault.{StepFault}
use Rattle.cache_types.specs.declared.entries.StepFault.TheVariants as step_fault
use Rattle.cache_types.specs.declared.replies.Reply.TheVariants.{NotYet}
use Rattle.cache_types.specs.Legal.{IsLegal}
use Rattle.turnstile.specs.Pass.{list_after}
use Rattle.cache_types.specs.Entries.{newest_first, is_end, is_not_yet, next_number}
use Rattle.cache_types.specs.Step.{MayCall, guest_of, told, kept, stepped, entry_after, history_after, is_full, WouldAppend}
use Rattle.cache_hub.specs.Calls.{joins, gained_by, is_entry_of, Gives, GivesLegal}
use Rattle.cache_hub.proofs.Guests.{may_among}

-- the guest of a new entry is its family
guest_family : (history : List Entry) (guest : ℕ) (call : CacheCall) → guest_of (newest_first history) guest call ≡ family_number (joins guest call) (1 + length history)
guest_family history guest Begin = let p = length-reverse history in omega arith
guest_family history guest call = refl

-- the list gained the entry, or nothing
adds : (h after : List Entry) (family : Option ℕ) (e : Entry) (t : Stepped) (added b : Bool) → is_not_yet e.reply ≡ b → t ≡ told e → after ≡ kept h e → added ≡ not (is_not_yet t.reply) → e.guest ≡ family_number family (1 + length h)
    → Adds (λ (x : Entry). x.guest) family (1 + length h) h (gained_by e) added after
adds h after family e t added true is tells keeps flag guest =
    let t' : t ≡ record { number = 0; reply = NotYet } = tells ∙ ap (λ (c : Bool). if c then record { number = 0; reply = NotYet } else record { number = e.number; reply = e.reply }) is in
    subst (λ (c : Bool). Adds (λ (x : Entry). x.guest) family (1 + length h) h (if c then None else Some e) added after) (sym is)
    (flag ∙ ap (λ (s : Stepped). not (is_not_yet s.reply)) t', keeps ∙ ap (λ (c : Bool). if c then h else h ++ e ∷ []) is)
adds h after family e t added false is tells keeps flag guest =
    let t' : t ≡ record { number = e.number; reply = e.reply } = tells ∙ ap (λ (c : Bool). if c then record { number = 0; reply = NotYet } else record { number = e.number; reply = e.reply }) is in
    subst (λ (c : Bool). Adds (λ (x : Entry). x.guest) family (1 + length h) h (if c then None else Some e) added after) (sym is)
    (flag ∙ (ap (λ (s : Stepped). not (is_not_yet s.reply)) t' ∙ ap not is), keeps ∙ ap (λ (c : Bool). if c then h else h ++ e ∷ []) is, guest)

not_end : (b : Bool) → (IsTrue b → ⊥) → b ≡ false
not_end true never = absurd (never refl)
not_end false never = refl

-- the list after a turn is the one before it with what was gained
pub list_gained : (family : Entry → ℕ) (joins : Option ℕ) (n : ℕ) (before after : List Entry) (gained : Option Entry) (added : Bool) → Adds family joins n before gained added after → after ≡ list_after before gained
list_gained family joins n before after None added a = a.1
list_gained family joins n before after (Some e) added a = a.1

-- what the turnstile asks of a served job
serves_gives : (most : ℕ) (h after : List Entry) (guest reading : ℕ) (call : CacheCall) (answer : Result Stepped StepFault) (added : Bool)
    → IfOk answer (λ t. t ≡ stepped h guest reading call) → OnOk answer (after ≡ history_after h guest reading call) → OnErr answer (after ≡ h)
    → IfOk answer (λ t. IsTrue (is_not_yet t.reply || not (is_full (newest_first h) most call)))
    → (answer ≡ Err step_fault.Full → IsTrue (is_full (newest_first h) most call)) → (answer ≡ Err step_fault.Full → WouldAppend h guest reading call)
    → (IsTrue (is_end call) → IsOk answer) → added ≡ is_entry_of answer
    → (x : Option Entry) × Gives most h guest reading call answer x × Adds (λ (e : Entry). e.guest) (joins guest call) (1 + length h) h x added after
serves_gives most h after guest reading call (Ok t) added tells keeps errs room full entry end flag =
    let e = entry_after (newest_first h) guest reading call in
    (gained_by e, record { reply = tells; entry = refl; room = room }, adds h after (joins guest call) e t added (is_not_yet e.reply) refl tells keeps flag (guest_family h guest call))
serves_gives most h after guest reading call (Err step_fault.Full) added tells keeps errs room full entry end flag =
    (None, record { full = full refl; would_append = entry refl; nothing = refl }, (flag, errs))
serves_gives most h after guest reading call (Err step_fault.OutOfMemory) added tells keeps errs room full entry end flag =
    (None, record { no_end = not_end (is_end call) (λ ends. true≢false (sym (end ends))); nothing = refl }, (flag, errs))

pub serves : (most : ℕ) (h after : List Entry) (guest reading : ℕ) (call : CacheCall) (answer : Result Stepped StepFault) (added : Bool)
    → IfOk answer (λ t. t ≡ stepped h guest reading call) → OnOk answer (after ≡ history_after h guest reading call) → OnErr answer (after ≡ h)
    → IfOk answer (λ t. IsTrue (is_not_yet t.reply || not (is_full (newest_first h) most call)))
    → (answer ≡ Err step_fault.Full → IsTrue (is_full (newest_first h) most call)) → (answer ≡ Err step_fault.Full → WouldAppend h guest reading call)
    → (IsTrue (is_end call) → IsOk answer) → added ≡ is_entry_of answer → IsLegal after
    → (x : Option Entry) × GivesLegal most h guest reading call answer x × Adds (λ (e : Entry). e.guest) (joins guest call) (1 + length h) h x added after
serves most h after guest reading call answer added tells keeps errs room full entry end flag legal =
    let s = serves_gives most h after guest reading call answer added tells keeps errs room full entry end flag in
    (s.0, record { gives = s.1; legal = subst IsLegal (list_gained (λ (e : Entry). e.guest) (joins guest call) (1 + length h) h after s.0 added s.2) legal }, s.2)

-- the list stays short of the greatest number
pub has_room : (h after : List Entry) (guest reading : ℕ) (call : CacheCall) (answer : Result Stepped StepFault) → length h < 2 ^ 64
    → IfOk answer (λ t. t ≡ stepped h guest reading call) → OnOk answer (after ≡ history_after h guest reading call) → OnErr answer (after ≡ h) → IfOk answer (λ t. t.number < 2 ^ 64) → length after < 2 ^ 64
has_room h after guest reading call (Ok t) room tells keeps errs fits = by (entry_after (newest_first h) guest reading call) (is_not_yet (entry_after (newest_first h) guest reading call).reply) refl refl tells keeps
  where
    by : (e : Entry) (b : Bool) → is_not_yet e.reply ≡ b → e.number ≡ next_number (newest_first h) → t ≡ told e → after ≡ kept h e → length after < 2 ^ 64
    by e true is number tells keeps = subst (λ (xs : List Entry). length xs < 2 ^ 64) (sym (keeps ∙ ap (λ (c : Bool). if c then h else h ++ e ∷ []) is)) room
    by e false is number tells keeps =
        let n : t.number ≡ e.number = ap (λ (s : Stepped). s.number) (tells ∙ ap (λ (c : Bool). if c then record { number = 0; reply = NotYet } else record { number = e.number; reply = e.reply }) is) in
        let l : length after ≡ length h + 1 = ap length (keeps ∙ ap (λ (c : Bool). if c then h else h ++ e ∷ []) is) ∙ length-append h (e ∷ []) in
        let r = length-reverse h in
        omega arith
has_room h after guest reading call (Err fault) room tells keeps errs fits = subst (λ (xs : List Entry). length xs < 2 ^ 64) (sym errs) room

-- a call that the family's entries allow is allowed
pub may : (history : List Entry) (guest : ℕ) (call : CacheCall) → MayCall (family_entries (λ (e : Entry). e.guest) (joins guest call) history) guest call → MayCall history guest call
may history guest Begin h = record { caller = h.caller; limits = h.limits }
may history guest call h = may_among history guest call h
