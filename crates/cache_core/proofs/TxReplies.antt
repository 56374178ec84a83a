-- What a transactional lookup is told, by the object that it finds.
use Rattle.std.specs.Prelude.{◌≡◌, ℕ, ◌+◌, Bool, true, false, List, Option, Some, None, is_some, option_map, option_and_then, refl, if◌then◌else◌}
use Rattle.std.proofs.Common.{sym, ap, ◌∙◌, subst}
use Rattle.std.proofs.lemmas.Bool.{false≢true}
use Rattle.std.proofs.lemmas.Option.{same_Some, none-some}
use Rattle.cache_types.specs.declared.calls.Field.{Field}
use Rattle.cache_types.specs.declared.entries.Entry.{Entry}
use Rattle.cache_types.specs.declared.replies.Reply.{Reply}
use Rattle.cache_types.specs.declared.replies.Reply.TheVariants.{Got, NotYet}
use Rattle.cache_types.specs.Answer.{insert_bit, finding_for, got, tx_lookup_reply, tx_lookup_answer}
use Rattle.cache_types.specs.Entries.{entry_at}
use Rattle.cache_types.specs.Found.{found, age_at, bits_for, is_fresh, is_usable}
use Rattle.cache_types.specs.Legal.{IsLegalPast}
use Rattle.cache_types.specs.Objects.{Insertion, insertion_at, Renewal, last_renewal, is_softened}
use Rattle.cache_types.specs.Transactions.{goal_of, is_held}
use Rattle.cache_objects.specs.declared.standing.Standing.{Standing}
use Rattle.cache_objects.specs.Standings.{ObjectMap, standing_at}
use Rattle.cache_core.specs.Knows.{renewer, standing_of, IsHeld}
use Rattle.cache_core.specs.Terms.{renewal_in}
use Rattle.cache_core.specs.Object.{Object, fate_of, object_by, object_at, Holds, Each}
use Rattle.cache_core.specs.Hits.{got_by, tx_from, tx_by, tx_none}
use Rattle.cache_core.proofs.Inserted.{found_is}
use Rattle.cache_core.proofs.LastTerms.{terms_held}
use Rattle.cache_core.proofs.Lookups.{same_length}
use Rattle.cache_core.proofs.Renewing.{terms_stand}

-- what is told of the object of an insertion with these terms is what is told of the finding
got_same : (past : List Entry) (told : Bool) (moment : ℕ) (made : Insertion) (r : Renewal) → got_by told moment made.object (record { made = made; renewal = r; fate = fate_of past made.object }) ≡ got past told (finding_for past moment made r)
got_same past told moment made r =
    ap (λ l. Got (bits_for r.terms (age_at r moment) (is_softened past made.object) + insert_bit told) (Some (record { object = made.object; age = age_at r moment; max_age = r.terms.max_age; stale = r.terms.stale; length = l; metadata = r.terms.metadata }))) (same_length past made.object made.writing.length)

pick : (fresh held usable : Bool) (plain other told insert : Reply) → plain ≡ other → told ≡ insert → (if fresh then plain else (if held then (if usable then plain else NotYet) else told)) ≡ (if fresh then other else (if held then (if usable then other else NotYet) else insert))
pick true held usable plain other told insert same must = same
pick false true true plain other told insert same must = same
pick false true false plain other told insert same must = refl
pick false false usable plain other told insert same must = must

tx_same : (past : List Entry) (held : Bool) (moment : ℕ) (made m : Insertion) (r : Renewal) → m ≡ made → tx_by held moment made.object (record { made = m; renewal = r; fate = fate_of past made.object }) ≡ tx_lookup_reply past held (Some (finding_for past moment made r))
tx_same past held moment made m r is =
    ap (λ (k : Insertion). tx_by held moment made.object (record { made = k; renewal = r; fate = fate_of past made.object })) is
    ∙ pick (is_fresh r.terms (age_at r moment) (is_softened past made.object)) held (is_usable r.terms (age_at r moment)) _ (got past false (finding_for past moment made r)) _ (got past true (finding_for past moment made r))
    (got_same past false moment made r) (got_same past true moment made r)

told_step : (past : List Entry) (held : Bool) (moment : ℕ) (made : Insertion) (i : Option Insertion) (r : Option Renewal) (reply : Reply) → i ≡ Some made → is_some r ≡ true → Holds (λ (x : Object). reply ≡ tx_by held moment made.object x) (object_by i r (fate_of past made.object)) → reply ≡ tx_lookup_reply past held (option_map (finding_for past moment made) r)
told_step past held moment made None r reply is some h = absurd (none-some made is)
told_step past held moment made (Some m) None reply is some h = absurd (false≢true some)
told_step past held moment made (Some m) (Some r) reply is some h = h ∙ tx_same past held moment made m r (same_Some m made is)

-- what is told of the object that is found is the reply
pub tx_some : (past : List Entry) → IsLegalPast past → (moment : ℕ) (key : List ℕ) (headers : List Field) (object : ℕ) (reply : Reply) → Some object ≡ option_map (λ (made : Insertion). made.object) (found past key headers) → Holds (λ (x : Object). reply ≡ tx_by (is_held past (goal_of past key headers)) moment object x) (object_at past object) → reply ≡ tx_lookup_answer past moment key headers
tx_some past legal moment key headers object reply is h = by (found past key headers) refl is
  where
    by : (o : Option Insertion) → found past key headers ≡ o → Some object ≡ option_map (λ (made : Insertion). made.object) o → reply ≡ tx_lookup_reply past (is_held past (goal_of past key headers)) (option_and_then (λ (made : Insertion). option_map (finding_for past moment made) (last_renewal past made.object)) o)
    by None was e = absurd (none-some object (sym e))
    by (Some made) was e =
        let at = found_is past legal key headers made was in
        told_step past (is_held past (goal_of past key headers)) moment made (insertion_at past made.object) (last_renewal past made.object) reply at (terms_stand past made.object (ap is_some at))
        (subst (λ o. Holds (λ (x : Object). reply ≡ tx_by (is_held past (goal_of past key headers)) moment o x) (object_at past o)) (same_Some object made.object e) h)

pub tx_nothing : (past : List Entry) (moment : ℕ) (key : List ℕ) (headers : List Field) → None ≡ option_map (λ (made : Insertion). made.object) (found past key headers) → tx_none (is_held past (goal_of past key headers)) ≡ tx_lookup_answer past moment key headers
tx_nothing past moment key headers is = by (found past key headers) is
  where
    by : (o : Option Insertion) → None ≡ option_map (λ (made : Insertion). made.object) o → tx_none (is_held past (goal_of past key headers)) ≡ tx_lookup_reply past (is_held past (goal_of past key headers)) (option_and_then (λ (made : Insertion). option_map (finding_for past moment made) (last_renewal past made.object)) o)
    by None e = refl
    by (Some made) e = absurd (none-some made.object e)

-- for what is fresh it doesn't count whether the goal is held
fresh_case : (fresh held other usable : Bool) (plain told : Reply) → (fresh ≡ false → held ≡ other) → (if fresh then plain else (if held then (if usable then plain else NotYet) else told)) ≡ (if fresh then plain else (if other then (if usable then plain else NotYet) else told))
fresh_case true held other usable plain told same = refl
fresh_case false held other usable plain told same = rw (same refl) refl

-- what is told by what is held is what is told of the object
pub tx_held : (past : List Entry) → IsLegalPast past → (objects : ObjectMap) (o : ℕ) (s : Standing) (r : Renewal) (held other : Bool) (moment : ℕ) (reply : Reply) → standing_at objects o ≡ Some s → Some r ≡ renewal_in o (entry_at past s.renewed) → Each (IsHeld objects past) past
    → (is_fresh r.terms (age_at r moment) s.softened ≡ false → held ≡ other) → reply ≡ tx_from held moment o s r → Holds (λ (x : Object). reply ≡ tx_by other moment o x) (object_at past o)
tx_held past legal objects o s r held other moment reply at terms all same is = by (object_at past o) (all o) (terms_held past legal objects o s at all)
  where
    by : (x : Option Object) → Holds (IsHeld objects past o) x → Holds (λ (x : Object). renewal_in o (entry_at past s.renewed) ≡ Some x.renewal) x → Holds (λ (x : Object). reply ≡ tx_by other moment o x) x
    by None h t = tt
    by (Some x) h t =
        is ∙ fresh_case (is_fresh r.terms (age_at r moment) s.softened) held other (is_usable r.terms (age_at r moment)) _ _ same
        ∙ ap (λ (k : Standing). tx_from other moment o k r) (same_Some s (standing_of (renewer past o) x) (sym at ∙ h))
        ∙ ap (tx_from other moment o (standing_of (renewer past o) x)) (same_Some r x.renewal (terms ∙ t))
