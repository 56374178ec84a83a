-- Which tickets are held behind a call, and which handles keep them.
use Rattle.std.proofs.Common.{◌≡◌, ◌∙◌, ◌⊎◌, inl, inr, ℕ, ◌+◌, ◌==◌, Bool, true, false, List, [], ◌∷◌, ◌++◌, length, refl, sym, ap, subst}
use Rattle.std.specs.Prelude.{◌||◌, not, filter, Option, None, Some, IsTrue, if◌then◌else◌}
use Rattle.std.proofs.lemmas.Bool.{eqb-true, eq-eqb, ne_eqb, or_cases, and_left, and_right}
use Rattle.cache_types.specs.declared.outer.OuterCall.{OuterCall}
use Rattle.cache_types.specs.declared.outer.OuterCall.TheVariants as call
use Rattle.cache_types.specs.declared.outer.OuterReply.{OuterReply}
use Rattle.cache_types.specs.declared.outer.OuterReply.TheVariants as reply
use Rattle.edge_abi.specs.Tables.{held, taken, changed}
use Rattle.edge_pending.specs.Tables.{in_state as with_state_in}
use Rattle.edge_pending.specs.declared.tables.Pending.{Pending}
use Rattle.edge_pending.specs.declared.tables.PendingState.{PendingState}
use Rattle.edge_pending.specs.declared.tables.PendingState.TheVariants.{Ticket}
use Rattle.player.specs.Tickets.{is_among, with_given, lets_go, takes, held_after}
use Rattle.pending_laws.specs.Tickets.{in_state, in_handle, ticket_at, Owns, answered}
use Rattle.pending_laws.proofs.Handles.{either, taken_is, changed_is, more_is}

-- ---- lists of tickets

or_left : (x y : Bool) → x ≡ true → x || y ≡ true
or_left x y e = rw e refl

or_right : (x y : Bool) → y ≡ true → x || y ≡ true
or_right true y e = refl
or_right false y e = e

among_filter : (test : ℕ → Bool) (has : List ℕ) (n : ℕ) → is_among has n ≡ true → test n ≡ true → is_among (filter test has) n ≡ true
among_filter test [] n among passes = absurd (cc among)
among_filter test (x ∷ has) n among passes = with (test x) refl (λ e. among_filter test has n e passes)
  where
    with : (b : Bool) → test x ≡ b → (is_among has n ≡ true → is_among (filter test has) n ≡ true) → is_among (if b then x ∷ filter test has else filter test has) n ≡ true
    with true is later =
        either (or_cases (x == n) (is_among has n) among) (λ here. or_left (x == n) (is_among (filter test has) n) here) (λ there. or_right (x == n) (is_among (filter test has) n) (later there))
    with false is later = either (or_cases (x == n) (is_among has n) among) (λ here. absurd (cc (is, passes, eqb-true x n here))) later

among_given : (r : OuterReply) (has : List ℕ) (n : ℕ) → is_among has n ≡ true → is_among (with_given r has) n ≡ true
among_given (reply.Started ticket) has n e = or_right (ticket == n) (is_among has n) e
among_given _ has n e = e

pub among_after : (has : List ℕ) (asked : OuterCall) (r : OuterReply) (n : ℕ) → IsTrue (is_among has n) → lets_go asked r n ≡ false → IsTrue (is_among (held_after has (answered asked r)) n)
among_after has asked r n among stays =
    among_given r (filter (λ ticket. not (lets_go asked r ticket)) has) n (among_filter (λ ticket. not (lets_go asked r ticket)) has n among (ap not stays))

-- a reply that takes nothing lets none go
pub stays_by : (asked : OuterCall) (r : OuterReply) (n : ℕ) → takes r ≡ false → lets_go asked r n ≡ false
stays_by asked r n e = and_right _ (takes r) e

-- ---- handles

pub ticket_is : (found : Option Pending) (n : ℕ) → in_handle found ≡ Some n → (p : Pending) × (found ≡ Some p) × (in_state p.state ≡ Some n)
ticket_is None n e = absurd (cc e)
ticket_is (Some p) n e = (p, refl, e)

-- handles that keep some of the tickets
pub owns_some : (has now : List ℕ) (old new : List (Option Pending)) → Owns has old
    → ((k n : ℕ) → ticket_at new k ≡ Some n → (ticket_at old k ≡ Some n) × IsTrue (is_among now n)) → Owns now new
owns_some has now old new owns some = record {
  each = λ k n e. (some k n e).1;
  apart = λ h k n a b. owns.apart h k n (some h n a).0 (some k n b).0;
}

pub owns_after : (has : List ℕ) (asked : OuterCall) (r : OuterReply) (table : List (Option Pending)) → Owns has table
    → ((k n : ℕ) → ticket_at table k ≡ Some n → lets_go asked r n ≡ false) → Owns (held_after has (answered asked r)) table
owns_after has asked r table owns stays =
    owns_some has (held_after has (answered asked r)) table table owns (λ k n e. (e, among_after has asked r n (owns.each k n e) (stays k n e)))

-- one without a handle, and one whose handle keeps no ticket
ticket_taken : (table : List (Option Pending)) (h k n : ℕ) → ticket_at (taken table h) k ≡ Some n → (ticket_at table k ≡ Some n) × (k ≡ h → ⊥)
ticket_taken table h k n e =
    let w = ticket_is (held (taken table h) k) n e in
    let x = taken_is table h k w.0 w.1 in
    (ap in_handle x.0 ∙ w.2, x.1)

pub owns_without : (has : List ℕ) (table : List (Option Pending)) (h : ℕ) → Owns has table → Owns has (taken table h)
owns_without has table h owns =
    owns_some has has table (taken table h) owns (λ k n e. let w = ticket_taken table h k n e in (w.0, owns.each k n w.0))

-- the call asks for one ticket alone
abbrev pub LetsOne : OuterCall → OuterReply → ℕ → Type 0
LetsOne asked r n = (other : ℕ) → (n ≡ other → ⊥) → lets_go asked r other ≡ false

pub lets_poll : (n : ℕ) (r : OuterReply) → LetsOne (call.Poll n) r n
lets_poll n r other apart = and_left (n == other) (takes r) (ne_eqb n other apart)

pub lets_wait : (n : ℕ) (r : OuterReply) → LetsOne (call.WaitFor n) r n
lets_wait n r other apart = and_left (n == other) (takes r) (ne_eqb n other apart)

other_ticket : (has : List ℕ) (table : List (Option Pending)) (h k n m : ℕ) → Owns has table → ticket_at table h ≡ Some n → ticket_at table k ≡ Some m → (k ≡ h → ⊥) → n ≡ m → ⊥
other_ticket has table h k n m owns at there apart same = apart (owns.apart k h m there (at ∙ ap Some same))

pub owns_taken : (has : List ℕ) (asked : OuterCall) (r : OuterReply) (table : List (Option Pending)) (h n : ℕ) → Owns has table → ticket_at table h ≡ Some n → LetsOne asked r n
    → Owns (held_after has (answered asked r)) (taken table h)
owns_taken has asked r table h n owns at one =
    owns_some has (held_after has (answered asked r)) table (taken table h) owns
    (λ k m e.
    let w = ticket_taken table h k m e in
    (w.0, among_after has asked r m (owns.each k m w.0) (one m (other_ticket has table h k n m owns at w.0 w.1))))

pub owns_kept : (has : List ℕ) (asked : OuterCall) (r : OuterReply) (table : List (Option Pending)) (h n : ℕ) (state : PendingState) → Owns has table → ticket_at table h ≡ Some n → LetsOne asked r n → in_state state ≡ None
    → Owns (held_after has (answered asked r)) (changed (with_state_in state) table h)
owns_kept has asked r table h n state owns at one none =
    owns_some has (held_after has (answered asked r)) table (changed (with_state_in state) table h) owns
    (λ k m e.
    let w = ticket_is (held (changed (with_state_in state) table h) k) m e in
    either (changed_is (with_state_in state) table h k w.0 w.1)
    (λ here. absurd (cc (none, w.2, ap (λ (p : Pending). in_state p.state) here.1.1)))
    (λ there.
    let old : ticket_at table k ≡ Some m = ap in_handle there.0 ∙ w.2 in
    (old, among_after has asked r m (owns.each k m old) (one m (other_ticket has table h k n m owns at old there.1)))))

-- ---- a new ticket

pub among_first : (n : ℕ) (has : List ℕ) → is_among (n ∷ has) n ≡ true
among_first n has = or_left (n == n) (is_among has n) (eq-eqb n n refl)

-- a start that gave it
pub owns_started : (has : List ℕ) (address request : List ℕ) (n : ℕ) (table : List (Option Pending)) → Owns has table → Owns (held_after has (answered (call.Start address request) (reply.Started n))) table
owns_started has address request n table owns = owns_after has (call.Start address request) (reply.Started n) table owns (λ k m e. refl)

pub among_started : (has : List ℕ) (address request : List ℕ) (n : ℕ) → IsTrue (is_among (held_after has (answered (call.Start address request) (reply.Started n))) n)
among_started has address request n = among_first n (filter (λ ticket. not (lets_go (call.Start address request) (reply.Started n) ticket)) has)

-- no handle keeps a ticket that wasn't held
pub not_kept : (has : List ℕ) (table : List (Option Pending)) (n : ℕ) → Owns has table → is_among has n ≡ false → (k : ℕ) → ticket_at table k ≡ Some n → ⊥
not_kept has table n owns fresh k e = cc (fresh, owns.each k n e)

-- a handle more, which keeps it
pub owns_more : (has : List ℕ) (address request : List ℕ) (n : ℕ) (method : List ℕ) (table : List (Option Pending)) → Owns has table → is_among has n ≡ false
    → Owns (held_after has (answered (call.Start address request) (reply.Started n))) (table ++ Some (record { method = method; state = Ticket n }) ∷ [])
owns_more has address request n method table owns fresh = record {
  each = λ k m e. either (which k m e) (λ last. subst (λ (x : ℕ). IsTrue (is_among now x)) (sym last.1) (among_started has address request n)) (λ old. kept.each k m old);
  apart = λ h k m a b.
      either (which h m a)
      (λ one. either (which k m b) (λ two. one.0 ∙ sym two.0) (λ old. absurd (not_kept has table n owns fresh k (old ∙ ap Some one.1))))
      (λ old. either (which k m b) (λ two. absurd (not_kept has table n owns fresh h (old ∙ ap Some two.1))) (λ other. owns.apart h k m old other));
}
  where
    new : Pending
    new = record { method = method; state = Ticket n }

    now : List ℕ
    now = held_after has (answered (call.Start address request) (reply.Started n))

    kept : Owns now table
    kept = owns_started has address request n table owns

    which : (k m : ℕ) → ticket_at (table ++ Some (record { method = method; state = Ticket n }) ∷ []) k ≡ Some m → ((k ≡ length table + 1) × (m ≡ n)) ⊎ (ticket_at table k ≡ Some m)
    which k m e =
        let w = ticket_is (held (table ++ Some (record { method = method; state = Ticket n }) ∷ []) k) m e in
        either (more_is table k (record { method = method; state = Ticket n }) w.0 w.1)
        (λ last. inl (last.0, cc (w.2, ap (λ (p : Pending). in_state p.state) last.1)))
        (λ old. inr (ap in_handle old ∙ w.2))
