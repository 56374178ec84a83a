-- Rows that keep to their tickets, put together from their parts.
use Rattle.std.proofs.Common.{◌≡◌, ℕ, true, List, [], ◌∷◌, ◌++◌, length, refl, sym, ap, subst}
use Rattle.std.specs.Prelude.{filter, IsTrue, Result, Ok, Err}
use Rattle.wasm_memory.specs.Linear.{Linear}
use Rattle.cache_types.specs.declared.calls.CacheCall.{CacheCall}
use Rattle.cache_types.specs.declared.calls.CacheCall.TheVariants.{Read}
use Rattle.cache_types.specs.declared.outer.OuterCall.{OuterCall}
use Rattle.cache_types.specs.declared.outer.OuterCall.TheVariants as call
use Rattle.cache_types.specs.declared.outer.OuterReply.{OuterReply}
use Rattle.cache_types.specs.declared.outer.OuterReply.TheVariants as reply
use Rattle.edge_abi.specs.declared.asked.Step.{Step}
use Rattle.edge_abi.specs.declared.asked.Step.TheVariants.{Done, Outer}
use Rattle.edge_abi.specs.declared.status.Status.{Status}
use Rattle.edge_abi.specs.declared.status.Status.TheVariants as status
use Rattle.edge_abi.specs.declared.status.Refusal.{Refusal}
use Rattle.edge_abi.specs.declared.status.Refusal.TheVariants as refusal
use Rattle.edge_abi.specs.Goes.{Goes}
use Rattle.edge_abi.specs.Told.{Told, Wants, Gives, After, Row, ask, done, judged, answers}
use Rattle.edge_body.specs.declared.body.Part.{Part}
use Rattle.edge_body.specs.declared.body.Part.TheVariants.{Own, Rest}
use Rattle.edge_http_calls.specs.Moves.{onward, heard}
use Rattle.edge_link.specs.Readings.{Reading}
use Rattle.edge_pending.specs.Gathers.{read_hit, gathered}
use Rattle.edge_pending.specs.Rows.{resumed}
use Rattle.edge_pending.specs.Tables.{HttpAndPending}
use Rattle.edge_pending.specs.declared.gathering.Heard.{Heard}
use Rattle.edge_pending.specs.declared.gathering.Heard.TheVariants.{Bytes, Ended, Failed}
use Rattle.edge_pending.specs.declared.under_way.UnderWay.{UnderWay}
use Rattle.edge_pending.proofs.Gathered.{apart, heard_apart}
use Rattle.player.specs.Runs.{is_answer}
use Rattle.player.specs.Tickets.{IsFresh, held_after}
use Rattle.pending_laws.specs.Tickets.{Owns, MayName, answered, Each, Leaves, Tame, IsTame, StepsTame}

-- ---- the same row, told otherwise

each_same : {A : Type 0} (told : Told A) (P Q : OuterCall → Type 0) (L : A → Type 0) → ((asked : OuterCall) → P asked → Q asked) → Each told P L → Each told Q L
each_same (Wants asked) P Q L f x = f asked x
each_same (Gives after rest) P Q L f x = x

pub tame_same : (has : List ℕ) (row other : Row HttpAndPending) → ((replies : List OuterReply) → row replies ≡ other replies) → (replies : List OuterReply) → Tame has other replies → Tame has row replies
tame_same has row other same [] x = subst (λ (told : Told (After HttpAndPending)). Each told (MayName has) (Leaves has)) (sym (same [])) x
tame_same has row other same (r ∷ replies) x =
    let Behind : Row HttpAndPending → OuterCall → Type 0 =
    λ w asked. MayName has asked × (IsTrue (is_answer asked r) → IsFresh has r → Tame (held_after has (answered asked r)) (λ more. w (r ∷ more)) replies) in
    subst (λ (told : Told (After HttpAndPending)). Each told (Behind row) (Leaves has)) (sym (same []))
    (each_same (other []) (Behind other) (Behind row) (Leaves has)
    (λ asked y. (y.0, λ is fresh. tame_same (held_after has (answered asked r)) (λ more. row (r ∷ more)) (λ more. other (r ∷ more)) (λ more. same (r ∷ more)) replies (y.1 is fresh))) x)

-- ---- ends, calls, refusals

pub tame_done : (has : List ℕ) (status : Status) (t : HttpAndPending) (m : Linear) → Owns has t.sent.pending → IsTame has (done status t m)
tame_done has status t m owns [] = owns
tame_done has status t m owns (r ∷ replies) = owns

pub tame_asks : (has : List ℕ) (asked : OuterCall) (next : OuterReply → Row HttpAndPending) → MayName has asked
    → ((r : OuterReply) → IsTrue (is_answer asked r) → IsFresh has r → IsTame (held_after has (answered asked r)) (next r)) → IsTame has (ask asked next)
tame_asks has asked next may after [] = may
tame_asks has asked next may after (r ∷ replies) = (may, λ is fresh. after r is fresh replies)

pub tame_judged : {X : Type 0} (has : List ℕ) (t : HttpAndPending) (m : Linear) (asked : Result X Refusal) (next : X → Row HttpAndPending) → Owns has t.sent.pending
    → ((x : X) → asked ≡ Ok x → IsTame has (next x)) → IsTame has (judged t m asked next)
tame_judged has t m (Err (refusal.Told status)) next owns after = tame_done has status t m owns
tame_judged has t m (Err refusal.OutOfMemory) next owns after = tame_done has status.Error t m owns
tame_judged has t m (Ok x) next owns after = after x refl

-- ---- bodies that are gathered: Reads change no ticket

kept_all : (has : List ℕ) → filter (λ (n : ℕ). true) has ≡ has
kept_all [] = refl
kept_all (n ∷ has) = ap (λ (l : List ℕ). n ∷ l) (kept_all has)

pub cache_same : (has : List ℕ) (c : CacheCall) (r : OuterReply) → IsTrue (is_answer (call.Cache c) r) → held_after has (answered (call.Cache c) r) ≡ has
cache_same has c (reply.Cache stepped) is = kept_all has
cache_same has c _ is = absurd (cc is)

module _ (has : List ℕ) (fails : Row HttpAndPending) (owns : IsTame has fails) where
  -- what follows what was heard
  told_tame : (told : Heard) (goes : List ℕ → Row HttpAndPending) (ends : Row HttpAndPending) (replies : List OuterReply) → ((bytes : List ℕ) → Tame has (goes bytes) replies) → Tame has ends replies
      → Tame has (λ more. apart told (λ bytes. goes bytes more) (ends more) (fails more)) replies
  told_tame (Bytes bytes) goes ends replies on end = on bytes
  told_tame Ended goes ends replies on end = end
  told_tame Failed goes ends replies on end = owns replies

  hit_tame : (hit place : ℕ) (had : List ℕ) (ends : List ℕ → Row HttpAndPending) → ((now : List ℕ) → IsTame has (ends now)) → (replies : List OuterReply) → Tame has (read_hit hit place had fails ends) replies
  hit_tame hit place had ends end [] = tt
  hit_tame hit place had ends end (r ∷ replies) = (
    tt,
    λ is fresh.
        subst (λ (now : List ℕ). Tame now (λ more. read_hit hit place had fails ends (r ∷ more)) replies) (sym (cache_same has (Read hit place 65536) r is))
        (tame_same has (λ more. read_hit hit place had fails ends (r ∷ more))
        (λ more. apart (heard 65536 r Bytes Ended Failed) (λ bytes. read_hit hit (onward place bytes) (had ++ bytes) fails ends more) (ends had more) (fails more))
        (λ more. heard_apart 65536 r (λ bytes. read_hit hit (onward place bytes) (had ++ bytes) fails ends more) (ends had more) (fails more)) replies
        (told_tame (heard 65536 r Bytes Ended Failed) (λ bytes more. read_hit hit (onward place bytes) (had ++ bytes) fails ends more) (ends had) replies
        (λ bytes. hit_tame hit (onward place bytes) (had ++ bytes) ends end replies)
        (end had replies))),
  )

  pub gathered_tame : (had : List ℕ) (parts : List Part) (ends : List ℕ → Row HttpAndPending) → ((now : List ℕ) → IsTame has (ends now)) → IsTame has (gathered had parts fails ends)
  gathered_tame had [] ends end = end had
  gathered_tame had (Own bytes ∷ parts) ends end = gathered_tame (had ++ bytes) parts ends end
  gathered_tame had (Rest hit place length ∷ parts) ends end = hit_tame hit place had (λ now. gathered now parts fails ends) (λ now. gathered_tame now parts ends end)

-- ---- steps

ends_tame : (has : List ℕ) (row : Row HttpAndPending) (n : ℕ) (t : HttpAndPending) (m : Linear) → Tame has row [] → row [] ≡ answers n t m [] → Owns has t.sent.pending
ends_tame has row n t m x e = subst (λ (told : Told (After HttpAndPending)). Each told (MayName has) (Leaves has)) e x

waits_tame : (has : List ℕ) (row : Row HttpAndPending) (asked : OuterCall) (r : OuterReply) (replies : List OuterReply) → row [] ≡ Wants asked → Tame has row (r ∷ replies)
    → MayName has asked × (IsTrue (is_answer asked r) → IsFresh has r → Tame (held_after has (answered asked r)) (λ more. row (r ∷ more)) replies)
waits_tame has row asked r replies e x =
    subst (λ (told : Told (After HttpAndPending)). Each told (λ c. MayName has c × (IsTrue (is_answer c r) → IsFresh has r → Tame (held_after has (answered c r)) (λ more. row (r ∷ more)) replies)) (Leaves has)) e x

pub step_tame : (reads : Reading) (row : Row HttpAndPending) (t : HttpAndPending) (m : Linear) (step : Step UnderWay) (has : List ℕ) → IsTame has row → Goes (resumed reads) row step t m → StepsTame (resumed reads) has step t m
step_tame reads row t m (Done n) has tame goes = ends_tame has row n t m (tame []) (goes [])
step_tame reads row t m (Outer asked under) has tame goes = (
  subst (λ (told : Told (After HttpAndPending)). Each told (MayName has) (Leaves has)) goes.1 (tame []),
  λ r is fresh replies.
      tame_same (held_after has (answered asked r)) (resumed reads under t m r) (λ more. row (r ∷ more)) (λ more. sym (goes.2 r more)) replies
      ((waits_tame has row asked r replies goes.1 (tame (r ∷ replies))).1 is fresh),
)
