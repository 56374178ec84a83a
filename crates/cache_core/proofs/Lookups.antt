-- What a lookup replies, by the object that it finds.
use Rattle.std.specs.Prelude.{◌≡◌, ℕ, ◌+◌, Bool, true, false, List, Option, Some, None, is_some, option_map, option_and_then, refl, Result, Ok, Err, IfOk}
use Rattle.std.proofs.Common.{sym, ap, ◌∙◌, subst}
use Rattle.std.proofs.lemmas.Bool.{false≢true}
use Rattle.std.proofs.lemmas.Option.{same_Some, none-some}
use Rattle.cache_types.specs.declared.calls.Field.{Field}
use Rattle.cache_types.specs.declared.entries.Entry.{Entry}
use Rattle.cache_types.specs.declared.replies.Reply.{Reply}
use Rattle.cache_types.specs.declared.replies.Reply.TheVariants.{Got}
use Rattle.cache_types.specs.Answer.{insert_bit, finding, finding_for, lookup_reply}
use Rattle.cache_types.specs.Found.{found, age_at, bits_for, length_by}
use Rattle.cache_types.specs.Legal.{IsLegalPast}
use Rattle.cache_types.specs.Objects.{Insertion, insertion_at, Renewal, last_renewal, is_finished, is_softened, written}
use Rattle.cache_types.specs.Entries.{entry_at}
use Rattle.cache_objects.specs.declared.standing.Standing.{Standing}
use Rattle.cache_objects.specs.Standings.{ObjectMap, standing_at}
use Rattle.cache_core.specs.Knows.{renewer, standing_of, IsHeld}
use Rattle.cache_core.specs.Terms.{renewal_in}
use Rattle.cache_core.specs.Object.{Object, fate_of, object_by, object_at, Holds, Each}
use Rattle.cache_core.specs.Hits.{length_held, got_from, got_by}
use Rattle.cache_core.proofs.LastTerms.{terms_held}
use Rattle.cache_core.proofs.Inserted.{found_is}
use Rattle.cache_core.proofs.Renewing.{terms_stand}

pub same_length : (past : List Entry) (o : ℕ) (declared : Option ℕ) → length_held declared (is_finished past o) (written past o) ≡ length_by past o declared
same_length past o (Some declared) = refl
same_length past o None = refl

got_same : (past : List Entry) (moment : ℕ) (made m : Insertion) (r : Renewal) → m ≡ made → got_by false moment made.object (record { made = m; renewal = r; fate = fate_of past made.object }) ≡ lookup_reply past (Some (finding_for past moment made r))
got_same past moment made m r is =
    ap (λ (k : Insertion). got_by false moment made.object (record { made = k; renewal = r; fate = fate_of past made.object })) is
    ∙ ap (λ l. Got (bits_for r.terms (age_at r moment) (is_softened past made.object) + insert_bit false) (Some (record { object = made.object; age = age_at r moment; max_age = r.terms.max_age; stale = r.terms.stale; length = l; metadata = r.terms.metadata }))) (same_length past made.object made.writing.length)

told_step : (past : List Entry) (moment : ℕ) (made : Insertion) (i : Option Insertion) (r : Option Renewal) (reply : Reply) → i ≡ Some made → is_some r ≡ true → Holds (λ (x : Object). reply ≡ got_by false moment made.object x) (object_by i r (fate_of past made.object)) → reply ≡ lookup_reply past (option_map (finding_for past moment made) r)
told_step past moment made None r reply is some h = absurd (none-some made is)
told_step past moment made (Some m) None reply is some h = absurd (false≢true some)
told_step past moment made (Some m) (Some r) reply is some h = h ∙ got_same past moment made m r (same_Some m made is)

-- what is told of the object that is found is the reply
pub lookup_some : (past : List Entry) → IsLegalPast past → (moment : ℕ) (key : List ℕ) (headers : List Field) (object : ℕ) (reply : Reply) → Some object ≡ option_map (λ (made : Insertion). made.object) (found past key headers) → Holds (λ (x : Object). reply ≡ got_by false moment object x) (object_at past object) → reply ≡ lookup_reply past (finding past moment key headers)
lookup_some past legal moment key headers object reply is h = by (found past key headers) refl is
  where
    by : (o : Option Insertion) → found past key headers ≡ o → Some object ≡ option_map (λ (made : Insertion). made.object) o → reply ≡ lookup_reply past (option_and_then (λ (made : Insertion). option_map (finding_for past moment made) (last_renewal past made.object)) o)
    by None was e = absurd (none-some object (sym e))
    by (Some made) was e =
        let at = found_is past legal key headers made was in
        told_step past moment made (insertion_at past made.object) (last_renewal past made.object) reply at (terms_stand past made.object (ap is_some at))
        (subst (λ o. Holds (λ (x : Object). reply ≡ got_by false moment o x) (object_at past o)) (same_Some object made.object e) h)

pub lookup_none : (past : List Entry) (moment : ℕ) (key : List ℕ) (headers : List Field) → None ≡ option_map (λ (made : Insertion). made.object) (found past key headers) → Got 0 None ≡ lookup_reply past (finding past moment key headers)
lookup_none past moment key headers is = by (found past key headers) is
  where
    by : (o : Option Insertion) → None ≡ option_map (λ (made : Insertion). made.object) o → Got 0 None ≡ lookup_reply past (option_and_then (λ (made : Insertion). option_map (finding_for past moment made) (last_renewal past made.object)) o)
    by None e = refl
    by (Some made) e = absurd (none-some made.object e)

pub if_ok : {A E : Type 0} (r : Result A E) {P Q : A → Type 0} → ((a : A) → P a → Q a) → IfOk r P → IfOk r Q
if_ok (Ok a) f h = f a h
if_ok (Err e) f h = tt

-- what is told by what is held is what is told of the object
pub got_held : (past : List Entry) → IsLegalPast past → (objects : ObjectMap) (o : ℕ) (s : Standing) (r : Renewal) (told : Bool) (moment : ℕ) (reply : Reply) → standing_at objects o ≡ Some s → Some r ≡ renewal_in o (entry_at past s.renewed) → Each (IsHeld objects past) past → reply ≡ got_from told moment o s r → Holds (λ (x : Object). reply ≡ got_by told moment o x) (object_at past o)
got_held past legal objects o s r told moment reply at terms held is = by (object_at past o) (held o) (terms_held past legal objects o s at held)
  where
    by : (x : Option Object) → Holds (IsHeld objects past o) x → Holds (λ (x : Object). renewal_in o (entry_at past s.renewed) ≡ Some x.renewal) x → Holds (λ (x : Object). reply ≡ got_by told moment o x) x
    by None h t = tt
    by (Some x) h t =
        is ∙ ap (λ (k : Standing). got_from told moment o k r) (same_Some s (standing_of (renewer past o) x) (sym at ∙ h))
        ∙ ap (got_from told moment o (standing_of (renewer past o) x)) (same_Some r x.renewal (terms ∙ t))
