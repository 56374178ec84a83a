-- The entry that renewed an object last has its terms.
use Rattle.std.specs.Prelude.{◌≡◌, ℕ, ◌≤◌, Bool, true, false, cond, ◌==◌, List, [], ◌∷◌, length, Option, Some, None, option_map, refl, if◌then◌else◌}
use Rattle.std.specs.List.{cons_option, find}
use Rattle.std.specs.Option.{option_map_or}
use Rattle.std.proofs.Common.{arith, sym, ap, ◌∙◌, eqb-true, eq-eqb, ne_eqb}
use Rattle.cache_types.specs.declared.calls.CacheCall.{CacheCall}
use Rattle.cache_types.specs.declared.calls.CacheCall.TheVariants.{Insert, TxInsert, TxUpdate}
use Rattle.cache_types.specs.declared.calls.Terms.{Terms}
use Rattle.cache_types.specs.declared.entries.Entry.{Entry}
use Rattle.cache_types.specs.declared.replies.Reply.{Reply}
use Rattle.cache_types.specs.Entries.{entry_at, is_made, is_done}
use Rattle.cache_types.specs.Objects.{Insertion, insertion_at, Renewal, renewal_for, renewal_of, renewals, last_renewal, renews, hit_at}
use Rattle.cache_types.specs.Legal.{IsLegalPast}
use Rattle.cache_types.proofs.Goals.{made_of}
use Rattle.std.proofs.lemmas.Option.{same_Some, none-some}
use Rattle.cache_objects.specs.declared.standing.Standing.{Standing}
use Rattle.cache_objects.specs.Standings.{ObjectMap, standing_at}
use Rattle.cache_core.specs.Object.{Fate, Object, fate_of, object_by, object_at, Holds, Each}
use Rattle.cache_core.specs.Knows.{renewer, standing_of, IsHeld}
use Rattle.cache_core.specs.Terms.{renewal_by, renewal_in}

renewer_below : (past : List Entry) → IsLegalPast past → (o : ℕ) → renewer past o ≤ length past
renewer_below [] h o = omega arith
renewer_below (e ∷ past) h o = by (renews past o e) (renewer_below past h.1 o)
  where
    by : (b : Bool) → renewer past o ≤ length past → (if b then e.number else renewer past o) ≤ length (e ∷ past)
    by true below = let number = h.0.number in omega (arith, number)
    by false below = omega (arith, below)

one_renewal : (b : Bool) (e : Entry) (terms : Terms) (k o : ℕ) (rs : List Renewal) → option_map_or (λ (r : Renewal). r.object == o) (if b then Some (renewal_for e terms k) else None) false ≡ true → Some (renewal_for e terms o) ≡ find (λ (r : Renewal). r.object == o) (cons_option (if b then Some (renewal_for e terms k) else None) rs)
one_renewal true e terms k o rs h = rw h (ap (λ n. Some (renewal_for e terms n)) (sym (eqb-true k o h)))
one_renewal false e terms k o rs h = cc

update_renewal : (b : Bool) (e : Entry) (terms : Terms) (hit : Option ℕ) (o : ℕ) (rs : List Renewal) → option_map_or (λ (r : Renewal). r.object == o) (if b then option_map (renewal_for e terms) hit else None) false ≡ true → Some (renewal_for e terms o) ≡ find (λ (r : Renewal). r.object == o) (cons_option (if b then option_map (renewal_for e terms) hit else None) rs)
update_renewal true e terms None o rs h = cc
update_renewal true e terms (Some k) o rs h = rw h (ap (λ n. Some (renewal_for e terms n)) (sym (eqb-true k o h)))
update_renewal false e terms hit o rs h = cc

newest_is : (past : List Entry) (n g m o : ℕ) (call : CacheCall) (reply : Reply) (rs : List Renewal) → renews past o (made_of n g m call reply) ≡ true → renewal_by o (made_of n g m call reply) ≡ find (λ (r : Renewal). r.object == o) (cons_option (renewal_of past (made_of n g m call reply)) rs)
newest_is past n g m o (Insert key headers writing) reply rs h = one_renewal (is_made reply) (made_of n g m (Insert key headers writing) reply) writing.terms n o rs h
newest_is past n g m o (TxInsert tx writing) reply rs h = one_renewal (is_made reply) (made_of n g m (TxInsert tx writing) reply) writing.terms n o rs h
newest_is past n g m o (TxUpdate tx terms) reply rs h = update_renewal (is_done reply) (made_of n g m (TxUpdate tx terms) reply) terms (hit_at past tx) o rs h
newest_is past n g m o call reply rs h = cc

older_is : (r : Option Renewal) (o : ℕ) (rs : List Renewal) → option_map_or (λ (r : Renewal). r.object == o) r false ≡ false → find (λ (r : Renewal). r.object == o) (cons_option r rs) ≡ find (λ (r : Renewal). r.object == o) rs
older_is None o rs h = refl
older_is (Some r) o rs h = rw h refl

-- what the entry of the last renewal says is the last renewal
pub renewal_is : (past : List Entry) → IsLegalPast past → (o : ℕ) → renewal_in o (entry_at past (renewer past o)) ≡ last_renewal past o
renewal_is [] h o = refl
renewal_is (e ∷ past) h o = by (renews past o e) refl (renewal_is past h.1 o)
  where
    by : (b : Bool) → renews past o e ≡ b → renewal_in o (entry_at past (renewer past o)) ≡ last_renewal past o → renewal_in o (entry_at (e ∷ past) (if b then e.number else renewer past o)) ≡ last_renewal (e ∷ past) o
    by true is older =
        ap (λ t. renewal_in o (cond t (Some e) (entry_at past e.number))) (eq-eqb e.number e.number refl)
        ∙ newest_is past e.number e.guest e.moment o e.call e.reply (renewals past) is
    by false is older =
        let below = renewer_below past h.1 o in
        ap (λ t. renewal_in o (cond t (Some e) (entry_at past (renewer past o)))) (ne_eqb e.number (renewer past o) (λ same. omega (arith, same, below, h.0.number)))
        ∙ older ∙ sym (older_is (renewal_of past e) o (renewals past) is)

last_of : (i : Option Insertion) (r : Option Renewal) (f : Fate) (x : Object) → object_by i r f ≡ Some x → r ≡ Some x.renewal
last_of None r f x is = absurd (none-some x is)
last_of (Some m) None f x is = absurd (none-some x is)
last_of (Some m) (Some y) f x is = ap (λ (o : Object). Some o.renewal) (same_Some (record { made = m; renewal = y; fate = f }) x is)

-- the terms of an object by what is held of it
pub terms_held : (past : List Entry) → IsLegalPast past → (objects : ObjectMap) (o : ℕ) (s : Standing) → standing_at objects o ≡ Some s → Each (IsHeld objects past) past → Holds (λ (x : Object). renewal_in o (entry_at past s.renewed) ≡ Some x.renewal) (object_at past o)
terms_held past legal objects o s at held = by (object_at past o) refl (held o)
  where
    by : (x : Option Object) → object_at past o ≡ x → Holds (IsHeld objects past o) x → Holds (λ (x : Object). renewal_in o (entry_at past s.renewed) ≡ Some x.renewal) x
    by None is h = tt
    by (Some x) is h =
        ap (λ (t : Standing). renewal_in o (entry_at past t.renewed)) (same_Some s (standing_of (renewer past o) x) (sym at ∙ h))
        ∙ renewal_is past legal o ∙ last_of (insertion_at past o) (last_renewal past o) (fate_of past o) x is

-- nothing is held of what isn't held
pub nothing_held : (past : List Entry) (objects : ObjectMap) (o : ℕ) (P : Object → Type 0) → standing_at objects o ≡ None → Each (IsHeld objects past) past → Holds P (object_at past o)
nothing_held past objects o P at held = by (object_at past o) (held o)
  where
    by : (x : Option Object) → Holds (IsHeld objects past o) x → Holds P x
    by None h = tt
    by (Some x) h = absurd (none-some _ (sym at ∙ h))
