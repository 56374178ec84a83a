-- One entry more that makes an object or renews one.
use Rattle.std.specs.Prelude.{◌≡◌, ℕ, ◌+◌, ◌<◌, Bool, true, false, cond, not, ◌&&◌, ◌||◌, ◌==◌, List, [], ◌∷◌, ◌++◌, length, Option, Some, None, is_some, option_map, refl, if◌then◌else◌}
use Rattle.std.specs.List.{find, cons_option}
use Rattle.std.specs.Option.{option_map_or}
use Rattle.std.proofs.Common.{arith, sym, ap, ◌∙◌, subst, eqb-true}
use Rattle.std.proofs.lemmas.Bool.{false≢true}
use Rattle.cache_types.specs.declared.calls.CacheCall.{CacheCall}
use Rattle.cache_types.specs.declared.calls.CacheCall.TheVariants.{Insert, TxInsert, TxUpdate}
use Rattle.cache_types.specs.declared.entries.Entry.{Entry}
use Rattle.cache_types.specs.declared.replies.Reply.{Reply}
use Rattle.cache_types.specs.Entries.{asked_at, is_made, is_done}
use Rattle.cache_types.specs.Objects.{Insertion, insertion_for, insertion_of, insertion_at, insertions, Renewal, renewal_for, renewal_of, renewals, last_renewal, is_softened, is_purged, is_finished, is_abandoned, written}
use Rattle.cache_types.specs.Legal.{IsLegalPast}
use Rattle.cache_types.proofs.Goals.{made_of}
use Rattle.cache_core.specs.Object.{Holds, Object, object_by, object_at}
use Rattle.cache_core.specs.News
use Rattle.cache_core.proofs.Born.{unborn, not_made, map_holds}
use Rattle.std.proofs.lemmas.Option.{same_Some}
use Rattle.cache_core.proofs.More.{fate_with, or_none, nothing_if, quiet_more, plain_more}

either_way : (t : Bool) (x : Insertion) (y : Renewal) (i : Option Insertion) (r : Option Renewal) → (is_some i ≡ true → is_some r ≡ true) → is_some (cond t (Some x) i) ≡ true → is_some (cond t (Some y) r) ≡ true
either_way true x y i r rest s = refl
either_way false x y i r rest s = rest s

renewed_too : (t : Bool) (y : Renewal) (r : Option Renewal) → is_some r ≡ true → is_some (cond t (Some y) r) ≡ true
renewed_too true y r rest = refl
renewed_too false y r rest = rest

-- what an entry makes has terms, and an entry takes no terms away
terms_step : (o : ℕ) (ins : Option Insertion) (ren : Option Renewal) (is : List Insertion) (rs : List Renewal) → (is_some ins ≡ true → is_some ren ≡ true) → ((a : Insertion) (b : Renewal) → ins ≡ Some a → ren ≡ Some b → a.object ≡ b.object) → (is_some (find (λ (m : Insertion). m.object == o) is) ≡ true → is_some (find (λ (r : Renewal). r.object == o) rs) ≡ true) → is_some (find (λ (m : Insertion). m.object == o) (cons_option ins is)) ≡ true → is_some (find (λ (r : Renewal). r.object == o) (cons_option ren rs)) ≡ true
terms_step o None None is rs both same rest s = rest s
terms_step o None (Some b) is rs both same rest s = renewed_too (b.object == o) b (find (λ (r : Renewal). r.object == o) rs) (rest s)
terms_step o (Some a) None is rs both same rest s = absurd (false≢true (both refl))
terms_step o (Some a) (Some b) is rs both same rest s =
    let test : (a.object == o) ≡ (b.object == o) = ap (λ k. k == o) (same a b refl refl) in
    either_way (b.object == o) a b (find (λ (m : Insertion). m.object == o) is) (find (λ (r : Renewal). r.object == o) rs) rest (subst (λ t. is_some (cond t (Some a) (find (λ (m : Insertion). m.object == o) is)) ≡ true) test s)

-- an insertion comes with its terms
pub record IsWhole (n : ℕ) (ins : Option Insertion) (ren : Option Renewal) : Type 0 where
  pub both : is_some ins ≡ true → is_some ren ≡ true
  pub made : Holds (λ (m : Insertion). m.object ≡ n) ins
  pub terms : is_some ins ≡ true → Holds (λ (r : Renewal). r.object ≡ n) ren

insert_whole : (n : ℕ) (b : Bool) (ins : Option Insertion) (ren : Renewal) → Holds (λ (m : Insertion). m.object ≡ n) ins → ren.object ≡ n → IsWhole n (if b then ins else None) (if b then Some ren else None)
insert_whole n true ins ren made terms = record { both = λ s. refl; made = made; terms = λ s. terms }
insert_whole n false ins ren made terms = record { both = λ s. s; made = tt; terms = λ s. tt }

nothing_whole : (n : ℕ) (b : Bool) (ren : Option Renewal) → IsWhole n (if b then None else None) ren
nothing_whole n true ren = record { both = λ s. absurd (false≢true s); made = tt; terms = λ s. absurd (false≢true s) }
nothing_whole n false ren = record { both = λ s. absurd (false≢true s); made = tt; terms = λ s. absurd (false≢true s) }

pub whole : (past : List Entry) (n g m : ℕ) (call : CacheCall) (reply : Reply) → IsWhole n (insertion_of past (made_of n g m call reply)) (renewal_of past (made_of n g m call reply))
whole past n g m (Insert key headers writing) reply =
    insert_whole n (is_made reply) (Some (insertion_for (made_of n g m (Insert key headers writing) reply) writing (record { key = key; headers = headers }))) (renewal_for (made_of n g m (Insert key headers writing) reply) writing.terms n) refl refl
whole past n g m (TxInsert tx writing) reply =
    insert_whole n (is_made reply) (option_map (insertion_for (made_of n g m (TxInsert tx writing) reply) writing) (asked_at past tx)) (renewal_for (made_of n g m (TxInsert tx writing) reply) writing.terms n)
    (map_holds _ (insertion_for (made_of n g m (TxInsert tx writing) reply) writing) (λ a. refl) (asked_at past tx)) refl
whole past n g m call reply = nothing_whole n (is_made reply) (renewal_of past (made_of n g m call reply))

same_object : (n : ℕ) (ins : Option Insertion) (ren : Option Renewal) → IsWhole n ins ren → (a : Insertion) (b : Renewal) → ins ≡ Some a → ren ≡ Some b → a.object ≡ b.object
same_object n None ren w a b i r = absurd (cc)
same_object n (Some x) None w a b i r = absurd (cc)
same_object n (Some x) (Some y) w a b i r = ap (λ (m : Insertion). m.object) (sym (same_Some x a i)) ∙ w.made ∙ sym (w.terms refl) ∙ ap (λ (m : Renewal). m.object) (same_Some y b r)

-- every object has terms
pub terms_stand : (past : List Entry) (o : ℕ) → is_some (insertion_at past o) ≡ true → is_some (last_renewal past o) ≡ true
terms_stand [] o s = s
terms_stand (e ∷ past) o s =
    let w = whole past e.number e.guest e.moment e.call e.reply in
    terms_step o (insertion_of past e) (renewal_of past e) (insertions past) (renewals past) w.both (same_object e.number (insertion_of past e) (renewal_of past e) w) (terms_stand past o) s

-- nothing is known of the object
pub record IsNew (i : Option Insertion) (p f a : Bool) (w : List ℕ) : Type 0 where
  pub none : i ≡ None
  pub purged : p ≡ false
  pub finished : f ≡ false
  pub abandoned : a ≡ false
  pub written : w ≡ []

made_case : (t : Bool) (ins : Insertion) (ren : Renewal) (i : Option Insertion) (r : Option Renewal) (s p f a done : Bool) (w : List ℕ) → (t ≡ true → IsNew i p f a w)
    → object_by (cond t (Some ins) i) (cond t (Some ren) r) (fate_with (not t && (s || false)) (p || false) f (a || false) (w ++ (if done then [] else []))) ≡ (if t then Some (record { made = ins; renewal = ren; fate = News.fresh_fate }) else object_by i r (fate_with s p f a w))
made_case true ins ren i r s p f a done w new =
    let is = new refl in
    let q = is.purged in
    let e = is.finished in
    let g = is.abandoned in
    let v = is.written in
    rw (nothing_if done w) (ap (λ x. Some (record { made = ins; renewal = ren; fate = fate_with false x f (a || false) w })) (or_none p ∙ q)
    ∙ ap (λ x. Some (record { made = ins; renewal = ren; fate = fate_with false false x (a || false) w })) e
    ∙ ap (λ x. Some (record { made = ins; renewal = ren; fate = fate_with false false false x w })) (or_none a ∙ g)
    ∙ ap (λ x. Some (record { made = ins; renewal = ren; fate = fate_with false false false false x })) v)
made_case false ins ren i r s p f a done w new = rw (or_none s, or_none p, or_none a, nothing_if done w) refl

-- terms with no object change nothing
stray_case : (t : Bool) (ren : Renewal) (i : Option Insertion) (r : Option Renewal) (s p f a done : Bool) (w : List ℕ) → (t ≡ true → i ≡ None)
    → object_by i (cond t (Some ren) r) (fate_with (not t && (s || false)) (p || false) f (a || false) (w ++ (if done then [] else []))) ≡ object_by i r (fate_with s p f a w)
stray_case true ren i r s p f a done w none = rw (none refl) refl
stray_case false ren i r s p f a done w none = rw (or_none s, or_none p, or_none a, nothing_if done w) refl

make_more : (past : List Entry) (n o : ℕ) (done : Bool) (ins : Option Insertion) (ren : Option Renewal) → IsWhole n ins ren → (is_some ren ≡ true → Holds (λ (r : Renewal). r.object ≡ n) ren) → (n ≡ o → IsNew (insertion_at past o) (is_purged past o) (is_finished past o) (is_abandoned past o) (written past o))
    → object_by (find (λ (m : Insertion). m.object == o) (cons_option ins (insertions past))) (find (λ (r : Renewal). r.object == o) (cons_option ren (renewals past)))
    (fate_with (not (option_map_or (λ (r : Renewal). r.object == o) ren false) && (is_softened past o || false)) (is_purged past o || false) (is_finished past o) (is_abandoned past o || false) (written past o ++ (if done then [] else [])))
    ≡ News.after (News.made_by ins ren) o (object_at past o)
make_more past n o done None None w named new =
    rw (or_none (is_softened past o), or_none (is_purged past o), or_none (is_abandoned past o), nothing_if done (written past o)) refl
make_more past n o done None (Some r) w named new =
    stray_case (r.object == o) r (insertion_at past o) (last_renewal past o) (is_softened past o) (is_purged past o) (is_finished past o) (is_abandoned past o) done (written past o)
    (λ t. (new (sym (named refl) ∙ eqb-true r.object o t)).none)
make_more past n o done (Some m) None w named new = absurd (false≢true (w.both refl))
make_more past n o done (Some m) (Some r) w named new =
    let same : (r.object == o) ≡ (m.object == o) = ap (λ k. k == o) (named refl ∙ sym w.made) in
    subst (λ t. object_by (cond (m.object == o) (Some m) (insertion_at past o)) (cond t (Some r) (last_renewal past o)) (fate_with (not t && (is_softened past o || false)) (is_purged past o || false) (is_finished past o) (is_abandoned past o || false) (written past o ++ (if done then [] else []))) ≡ (if m.object == o then Some (record { made = m; renewal = r; fate = News.fresh_fate }) else object_at past o))
    (sym same)
    (made_case (m.object == o) m r (insertion_at past o) (last_renewal past o) (is_softened past o) (is_purged past o) (is_finished past o) (is_abandoned past o) done (written past o)
    (λ t. new (sym w.made ∙ eqb-true m.object o t)))

renewed_case : (t : Bool) (ren : Renewal) (i : Option Insertion) (r : Option Renewal) (s p f a done : Bool) (w : List ℕ) → (is_some i ≡ true → is_some r ≡ true)
    → object_by i (cond t (Some ren) r) (fate_with (not t && (s || false)) (p || false) f (a || false) (w ++ (if done then [] else []))) ≡ (if t then option_map (λ (y : Object). record y { renewal = ren; fate = record y.fate { softened = false } }) (object_by i r (fate_with s p f a w)) else object_by i r (fate_with s p f a w))
renewed_case true ren None r s p f a done w stand = refl
renewed_case true ren (Some m) None s p f a done w stand = absurd (false≢true (stand refl))
renewed_case true ren (Some m) (Some r) s p f a done w stand = rw (or_none p, or_none a, nothing_if done w) refl
renewed_case false ren i r s p f a done w stand = rw (or_none s, or_none p, or_none a, nothing_if done w) refl

renew_more : (past : List Entry) (o : ℕ) (made done : Bool) (ren : Option Renewal)
    → object_by (find (λ (m : Insertion). m.object == o) (cons_option (if made then None else None) (insertions past))) (find (λ (r : Renewal). r.object == o) (cons_option ren (renewals past)))
    (fate_with (not (option_map_or (λ (r : Renewal). r.object == o) ren false) && (is_softened past o || false)) (is_purged past o || false) (is_finished past o) (is_abandoned past o || false) (written past o ++ (if done then [] else [])))
    ≡ News.after (News.renewed_by ren) o (object_at past o)
renew_more past o true done None = quiet_more past o true done
renew_more past o false done None = quiet_more past o false done
renew_more past o true done (Some r) =
    renewed_case (r.object == o) r (insertion_at past o) (last_renewal past o) (is_softened past o) (is_purged past o) (is_finished past o) (is_abandoned past o) done (written past o) (terms_stand past o)
renew_more past o false done (Some r) =
    renewed_case (r.object == o) r (insertion_at past o) (last_renewal past o) (is_softened past o) (is_purged past o) (is_finished past o) (is_abandoned past o) done (written past o) (terms_stand past o)

made_renewal_names : (n : ℕ) (b : Bool) (ren : Renewal) → ren.object ≡ n → Holds (λ (r : Renewal). r.object ≡ n) (if b then Some ren else None)
made_renewal_names n true ren e = e
made_renewal_names n false ren e = tt

new_at : (past : List Entry) → IsLegalPast past → (n o : ℕ) → n ≡ length past + 1 → n ≡ o → IsNew (insertion_at past o) (is_purged past o) (is_finished past o) (is_abandoned past o) (written past o)
new_at past h n o number same =
    let above : length past < o = omega (arith, number, same) in
    let b = unborn past h o above in
    record { none = not_made past h o above; purged = b.purged; finished = b.finished; abandoned = b.abandoned; written = b.written }

-- one entry more of a legal history is its news, for each object
object_step : (past : List Entry) → IsLegalPast past → (n g m o : ℕ) (call : CacheCall) (reply : Reply) → n ≡ length past + 1 → object_at (made_of n g m call reply ∷ past) o ≡ News.after (News.news_of past (made_of n g m call reply)) o (object_at past o)
object_step past h n g m o (Insert key headers writing) reply number =
    let e = made_of n g m (Insert key headers writing) reply in
    make_more past n o (is_done reply) (insertion_of past e) (renewal_of past e) (whole past n g m (Insert key headers writing) reply)
    (λ _. made_renewal_names n (is_made reply) (renewal_for e writing.terms n) refl) (new_at past h n o number)
object_step past h n g m o (TxInsert tx writing) reply number =
    let e = made_of n g m (TxInsert tx writing) reply in
    make_more past n o (is_done reply) (insertion_of past e) (renewal_of past e) (whole past n g m (TxInsert tx writing) reply)
    (λ _. made_renewal_names n (is_made reply) (renewal_for e writing.terms n) refl) (new_at past h n o number)
object_step past h n g m o (TxUpdate tx terms) reply number =
    renew_more past o (is_made reply) (is_done reply) (renewal_of past (made_of n g m (TxUpdate tx terms) reply))
object_step past h n g m o call reply number = plain_more past n g m o call reply refl

pub object_more : (past : List Entry) (e : Entry) → IsLegalPast (e ∷ past) → (o : ℕ) → object_at (e ∷ past) o ≡ News.after (News.news_of past e) o (object_at past o)
object_more past e h o = object_step past h.1 e.number e.guest e.moment o e.call e.reply h.0.number
