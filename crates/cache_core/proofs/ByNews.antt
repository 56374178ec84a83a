-- What the parts know of one entry more, by its news.
use Rattle.std.specs.Prelude.{◌≡◌, ℕ, ◌<◌, Bool, true, false, not, ◌&&◌, ◌||◌, ◌==◌, List, [], ◌∷◌, length, Option, Some, None, is_some, option_map, refl, if◌then◌else◌}
use Rattle.std.specs.List.{cons_option}
use Rattle.std.specs.Option.{option_map_or}
use Rattle.std.proofs.Common.{arith, sym, ap, ◌∙◌, subst, eqb-true}
use Rattle.std.proofs.lemmas.Bool.{false≢true}
use Rattle.cache_types.specs.declared.calls.CacheCall.{CacheCall}
use Rattle.cache_types.specs.declared.calls.CacheCall.TheVariants.{Insert, TxInsert, TxUpdate, Write, Finish, Abandon}
use Rattle.cache_types.specs.declared.entries.Entry.{Entry}
use Rattle.cache_types.specs.declared.replies.Reply.{Reply}
use Rattle.cache_types.specs.Entries.{asked_at, is_made, is_done, is_short, is_begin, is_end, is_live}
use Rattle.cache_types.specs.Objects.{Insertion, insertion_for, insertion_of, insertion_at, insertions, last_renewal, Renewal, renewal_for, renewal_of, renews, has_key}
use Rattle.cache_types.specs.Legal.{IsLegalPast}
use Rattle.cache_types.proofs.Lists.{by_test}
use Rattle.cache_types.proofs.Goals.{made_of}
use Rattle.cache_index.specs.Stands.{Stands}
use Rattle.cache_objects.specs.declared.standing.Standing.{Standing}
use Rattle.cache_objects.specs.Standings.{ObjectMap, standing_at, changed_at, purged, left, renewed}
use Rattle.cache_core.specs.declared.parts.Parts.{Parts}
use Rattle.cache_core.specs.Object.{Fate, Object, fate_of, object_by, object_at, Holds, Each}
use Rattle.cache_core.specs.News
use Rattle.cache_core.specs.Knows.{renewer, standing_of, IsHeld, is_named, is_guests, AreMadeBy, Knows}
use Rattle.cache_core.proofs.Born.{not_made}
use Rattle.cache_purge.specs.Keys.{KeyMap, IsMore}
use Rattle.cache_core.proofs.Naming.{NamesNew, named_more}
use Rattle.cache_core.proofs.Renewing.{object_more}

-- the insertion that an entry is stands in its news
made_if : (b : Bool) (i : Option Insertion) (r : Renewal) → (if b then i else None) ≡ News.made_in (News.made_by (if b then i else None) (if b then Some r else None))
made_if true None r = refl
made_if true (Some m) r = refl
made_if false i r = refl

none_if : (b c : Bool) (news : News.News) → News.made_in news ≡ None → (if b then None else None) ≡ News.made_in (News.news_if c news)
none_if true true news is = sym is
none_if true false news is = refl
none_if false true news is = sym is
none_if false false news is = refl

none_at_all : (b : Bool) (news : News.News) → News.made_in news ≡ None → (if b then None else None) ≡ News.made_in news
none_at_all true news is = sym is
none_at_all false news is = sym is

renewed_none : (r : Option Renewal) → News.made_in (News.renewed_by r) ≡ None
renewed_none None = refl
renewed_none (Some r) = refl

finish_none : (object : ℕ) (done short : Bool) → News.made_in (if done then News.Finished object else News.news_if short (News.GivenUp object)) ≡ None
finish_none object true short = refl
finish_none object false true = refl
finish_none object false false = refl

insertion_step : (past : List Entry) (n g m : ℕ) (call : CacheCall) (reply : Reply) → insertion_of past (made_of n g m call reply) ≡ News.made_in (News.news_of past (made_of n g m call reply))
insertion_step past n g m (Insert key headers writing) reply =
    let e = made_of n g m (Insert key headers writing) reply in
    made_if (is_made reply) (Some (insertion_for e writing (record { key = key; headers = headers }))) (renewal_for e writing.terms n)
insertion_step past n g m (TxInsert tx writing) reply =
    let e = made_of n g m (TxInsert tx writing) reply in
    made_if (is_made reply) (option_map (insertion_for e writing) (asked_at past tx)) (renewal_for e writing.terms n)
insertion_step past n g m (TxUpdate tx terms) reply = none_at_all (is_made reply) (News.news_of past (made_of n g m (TxUpdate tx terms) reply)) (renewed_none (renewal_of past (made_of n g m (TxUpdate tx terms) reply)))
insertion_step past n g m (Write object piece) reply = none_if (is_made reply) (is_done reply) (News.Piece object piece) refl
insertion_step past n g m (Finish object) reply = none_at_all (is_made reply) (News.news_of past (made_of n g m (Finish object) reply)) (finish_none object (is_done reply) (is_short reply))
insertion_step past n g m (Abandon object) reply = none_if (is_made reply) (is_done reply) (News.GivenUp object) refl
insertion_step past n g m call reply = none_at_all (is_made reply) (News.news_of past (made_of n g m call reply)) refl

pub insertion_is : (past : List Entry) (e : Entry) → insertion_of past e ≡ News.made_in (News.news_of past e)
insertion_is past e = insertion_step past e.number e.guest e.moment e.call e.reply

renews_if : (b : Bool) (i : Option Insertion) (r : Renewal) (o : ℕ) → (News.made_in (News.made_by (if b then i else None) (if b then Some r else None)) ≡ None → r.object == o ≡ false) → option_map_or (λ (x : Renewal). x.object == o) (if b then Some r else None) false ≡ News.renews_in (News.made_by (if b then i else None) (if b then Some r else None)) o
renews_if true None r o other = other refl
renews_if true (Some m) r o other = refl
renews_if false i r o other = refl

renewed_is : (r : Option Renewal) (o : ℕ) → option_map_or (λ (x : Renewal). x.object == o) r false ≡ News.renews_in (News.renewed_by r) o
renewed_is None o = refl
renewed_is (Some r) o = refl

quiet_if : (c : Bool) (news : News.News) (o : ℕ) → News.renews_in news o ≡ false → false ≡ News.renews_in (News.news_if c news) o
quiet_if true news o is = sym is
quiet_if false news o is = refl

finish_renews : (object o : ℕ) (done short : Bool) → false ≡ News.renews_in (if done then News.Finished object else News.news_if short (News.GivenUp object)) o
finish_renews object o true short = refl
finish_renews object o false true = refl
finish_renews object o false false = refl

renews_step : (past : List Entry) (n g m o : ℕ) (call : CacheCall) (reply : Reply) → (News.made_in (News.news_of past (made_of n g m call reply)) ≡ None → n == o ≡ false) → renews past o (made_of n g m call reply) ≡ News.renews_in (News.news_of past (made_of n g m call reply)) o
renews_step past n g m o (Insert key headers writing) reply other =
    let e = made_of n g m (Insert key headers writing) reply in
    renews_if (is_made reply) (Some (insertion_for e writing (record { key = key; headers = headers }))) (renewal_for e writing.terms n) o other
renews_step past n g m o (TxInsert tx writing) reply other =
    let e = made_of n g m (TxInsert tx writing) reply in
    renews_if (is_made reply) (option_map (insertion_for e writing) (asked_at past tx)) (renewal_for e writing.terms n) o other
renews_step past n g m o (TxUpdate tx terms) reply other = renewed_is (renewal_of past (made_of n g m (TxUpdate tx terms) reply)) o
renews_step past n g m o (Write object piece) reply other = quiet_if (is_done reply) (News.Piece object piece) o refl
renews_step past n g m o (Finish object) reply other = finish_renews object o (is_done reply) (is_short reply)
renews_step past n g m o (Abandon object) reply other = quiet_if (is_done reply) (News.GivenUp object) o refl
renews_step past n g m o call reply other = refl

-- what is no insertion makes nothing
after_none : (news : News.News) (o : ℕ) → News.made_in news ≡ None → News.after news o None ≡ None
after_none News.Quiet o is = refl
after_none (News.Made i r) o is = cc
after_none (News.Renewed r) o is = by_test (r.object == o) (λ h. rw h refl) (λ h. rw h refl)
after_none (News.Piece object bytes) o is = by_test (object == o) (λ h. rw h refl) (λ h. rw h refl)
after_none (News.Finished object) o is = by_test (object == o) (λ h. rw h refl) (λ h. rw h refl)
after_none (News.GivenUp object) o is = by_test (object == o) (λ h. rw h refl) (λ h. rw h refl)
after_none (News.Purged key soft) o is = refl
after_none (News.Ended g) o is = refl

no_object : (i : Option Insertion) (r : Option Renewal) (f : Fate) → i ≡ None → object_by i r f ≡ None
no_object None r f is = refl
no_object (Some m) r f is = cc

-- of an object that there is, the news say whether the entry renews it
renews_known : (past : List Entry) (e : Entry) → IsLegalPast (e ∷ past) → (o : ℕ) → is_some (object_at (e ∷ past) o) ≡ true → renews past o e ≡ News.renews_in (News.news_of past e) o
renews_known past e legal o some =
    renews_step past e.number e.guest e.moment o e.call e.reply
    (λ none. by_test (e.number == o)
    (λ same.
    let above : length past < o = omega (arith, legal.0.number, eqb-true e.number o same) in
    absurd (false≢true (sym (ap is_some (object_more past e legal o ∙ ap (News.after (News.news_of past e) o) (no_object (insertion_at past o) (last_renewal past o) (fate_of past o) (not_made past legal.1 o above)) ∙ after_none (News.news_of past e) o none)) ∙ some)))
    (λ other. other))

if_there : {X : Type 0} (P : X → Type 0) (o : Option X) → (is_some o ≡ true → Holds P o) → Holds P o
if_there P None h = tt
if_there P (Some x) h = h refl

-- the map of the objects was told these news
abbrev pub Tells : ObjectMap → ObjectMap → List Entry → ℕ → News.News → Type 0
Tells old new past number news = (o k : ℕ) (before : Option Object) → before ≡ object_at past o → Holds (λ (x : Object). standing_at old o ≡ Some (standing_of k x)) before → Holds (λ (x : Object). standing_at new o ≡ Some (standing_of (if News.renews_in news o then number else k) x)) (News.after news o before)

pub held_more : (old new : ObjectMap) (past : List Entry) (e : Entry) → IsLegalPast (e ∷ past) → Tells old new past e.number (News.news_of past e) → Each (IsHeld old past) past → Each (IsHeld new (e ∷ past)) (e ∷ past)
held_more old new past e legal tells held = λ o.
    if_there (IsHeld new (e ∷ past) o) (object_at (e ∷ past) o) (λ some.
    subst (λ b. Holds (λ (x : Object). standing_at new o ≡ Some (standing_of (if b then e.number else renewer past o) x)) (object_at (e ∷ past) o)) (sym (renews_known past e legal o some))
    (subst (Holds (λ (x : Object). standing_at new o ≡ Some (standing_of (if News.renews_in (News.news_of past e) o then e.number else renewer past o) x))) (sym (object_more past e legal o))
    (tells o (renewer past o) (object_at past o) refl (held o))))

same_maker : (g : ℕ) (b : Bool) (f : Object → Object) → ((x : Object) → (f x).made ≡ x.made) → (before : Option Object) → is_guests g (if b then option_map f before else before) ≡ is_guests g before
same_maker g true f same None = refl
same_maker g true f same (Some x) = ap (λ (i : Insertion). i.guest == g) (same x)
same_maker g false f same before = refl

-- what is no insertion leaves each object its maker
pub maker_stays : (news : News.News) (g o : ℕ) (before : Option Object) → News.made_in news ≡ None → is_guests g (News.after news o before) ≡ is_guests g before
maker_stays News.Quiet g o before is = refl
maker_stays (News.Made i r) g o before is = cc
maker_stays (News.Renewed r) g o before is = same_maker g (r.object == o) _ (λ x. refl) before
maker_stays (News.Piece object bytes) g o before is = same_maker g (object == o) _ (λ x. refl) before
maker_stays (News.Finished object) g o before is = same_maker g (object == o) _ (λ x. refl) before
maker_stays (News.GivenUp object) g o before is = same_maker g (object == o) _ (λ x. refl) before
maker_stays (News.Purged key soft) g o before is = same_maker g true (News.purged_object key soft) (λ x. by_test (has_key x.renewal.terms.surrogates key) (λ h. rw h refl) (λ h. rw h refl)) before
maker_stays (News.Ended guest) g o before is = same_maker g true (News.left_object guest) (λ x. by_test (x.made.guest == guest && not x.fate.finished) (λ h. rw h refl) (λ h. rw h refl)) before

pub still_made_by : (named : List ℕ) (past : List Entry) (e : Entry) (g : ℕ) → IsLegalPast (e ∷ past) → News.made_in (News.news_of past e) ≡ None → AreMadeBy named past g → AreMadeBy named (e ∷ past) g
still_made_by named past e g legal none made = λ o.
    made o ∙ sym (ap (is_guests g) (object_more past e legal o) ∙ maker_stays (News.news_of past e) g o (object_at past o) none)

pub same_told : (past : List Entry) (e : Entry) → News.made_in (News.news_of past e) ≡ None → insertions (e ∷ past) ≡ insertions past
same_told past e none = ap (λ o. cons_option o (insertions past)) (insertion_is past e ∙ none)

pub live_stays : (past : List Entry) (e : Entry) (g : ℕ) → is_begin e.call ≡ false → is_end e.call ≡ false → is_live (e ∷ past) g ≡ is_live past g
live_stays past e g begin end = rw (begin, end) refl

-- an entry that neither makes an object nor begins or ends a guest
pub knows_more : (old : Parts) (objects : ObjectMap) (keys : KeyMap) (past : List Entry) (e : Entry) → IsLegalPast (e ∷ past) → is_begin e.call ≡ false → is_end e.call ≡ false → News.made_in (News.news_of past e) ≡ None → Tells old.objects objects past e.number (News.news_of past e) → IsMore old.bearers keys → NamesNew keys (News.news_of past e) → Knows old past → Knows (record old { objects = objects; bearers = keys }) (e ∷ past)
knows_more old objects keys past e legal begin end none tells more names knows = record {
  told = subst (Stands old.index) (sym (same_told past e none)) knows.told;
  held = held_more old.objects objects past e legal tells knows.held;
  live = λ g. knows.live g ∙ sym (live_stays past e g begin end);
  owned = λ g is. still_made_by _ past e g legal none (knows.owned g (sym (live_stays past e g begin end) ∙ is));
  named = named_more old.bearers keys past e legal more names knows.named;
}

change_case : (b : Bool) (before : Option Object) (s t : Option Standing) (f : Standing → Standing) (g : Object → Object) (k l : ℕ) → ((x : Object) → standing_of l (g x) ≡ f (standing_of k x)) → t ≡ (if b || false then option_map f s else s) → Holds (λ (x : Object). s ≡ Some (standing_of k x)) before → Holds (λ (x : Object). t ≡ Some (standing_of (if b then l else k) x)) (if b then option_map g before else before)
change_case true None s t f g k l same is h = tt
change_case true (Some x) s t f g k l same is h = is ∙ ap (option_map f) h ∙ ap Some (sym (same x))
change_case false None s t f g k l same is h = tt
change_case false (Some x) s t f g k l same is h = is ∙ h

same_number : (b : Bool) (k : ℕ) → (if b then k else k) ≡ k
same_number true k = refl
same_number false k = refl

-- a change of the one object that the news name
pub tells_change : (object : ℕ) (f : Standing → Standing) (g : Object → Object) → ((k : ℕ) (x : Object) → standing_of k (g x) ≡ f (standing_of k x)) → (old new : ObjectMap) → ((q : ℕ) → standing_at new q ≡ changed_at f (object ∷ []) q (standing_at old q)) → (o k : ℕ) (before : Option Object) → Holds (λ (x : Object). standing_at old o ≡ Some (standing_of k x)) before → Holds (λ (x : Object). standing_at new o ≡ Some (standing_of k x)) (if object == o then option_map g before else before)
tells_change object f g same old new told o k before h =
    subst (λ j. Holds (λ (x : Object). standing_at new o ≡ Some (standing_of j x)) (if object == o then option_map g before else before)) (same_number (object == o) k)
    (change_case (object == o) before (standing_at old o) (standing_at new o) f g k k (same k) (told o) h)

-- an update
pub tells_renewed : (r : Renewal) (number : ℕ) (old new : ObjectMap) (past : List Entry) → ((q : ℕ) → standing_at new q ≡ changed_at (renewed number) (r.object ∷ []) q (standing_at old q)) → Tells old new past number (News.Renewed r)
tells_renewed r number old new past told o k before is h =
    change_case (r.object == o) before (standing_at old o) (standing_at new o) (renewed number) _ k number (λ x. refl) (told o) h

purge_case : (b soft : Bool) (x : Object) (key : List ℕ) (k : ℕ) → has_key x.renewal.terms.surrogates key ≡ b → (if b then option_map (purged soft) (Some (standing_of k x)) else Some (standing_of k x)) ≡ Some (standing_of k (News.purged_object key soft x))
purge_case true true x key k is = rw is refl
purge_case true false x key k is = rw is refl
purge_case false soft x key k is = rw is refl

-- a purge of what the list names
pub tells_purged : (key named_key : List ℕ) (soft : Bool) (number : ℕ) (named : List ℕ) (old new : ObjectMap) (past : List Entry) → Each (λ o x. is_named o named ≡ has_key x.renewal.terms.surrogates key) past → ((q : ℕ) → standing_at new q ≡ changed_at (purged soft) named q (standing_at old q)) → Tells old new past number (News.Purged key soft)
tells_purged key named_key soft number named old new past names told o k None is h = tt
tells_purged key named_key soft number named old new past names told o k (Some x) is h =
    let name : is_named o named ≡ has_key x.renewal.terms.surrogates key = subst (Holds (λ (y : Object). is_named o named ≡ has_key y.renewal.terms.surrogates key)) (sym is) (names o) in
    told o ∙ ap (λ s. if is_named o named then option_map (purged soft) s else s) h
    ∙ purge_case (is_named o named) soft x key k (sym name)

left_case : (b f : Bool) (x : Object) (guest k : ℕ) → (x.made.guest == guest) ≡ b → x.fate.finished ≡ f → (if b then option_map left (Some (standing_of k x)) else Some (standing_of k x)) ≡ Some (standing_of k (News.left_object guest x))
left_case true true x guest k is fin = rw (is, fin) refl
left_case true false x guest k is fin = rw (is, fin) refl
left_case false f x guest k is fin = rw is refl

-- the End of the guest of what the list names
pub tells_ended : (guest number : ℕ) (named : List ℕ) (old new : ObjectMap) (past : List Entry) → AreMadeBy named past guest → ((q : ℕ) → standing_at new q ≡ changed_at left named q (standing_at old q)) → Tells old new past number (News.Ended guest)
tells_ended guest number named old new past made told o k None is h = tt
tells_ended guest number named old new past made told o k (Some x) is h =
    let name : is_named o named ≡ (x.made.guest == guest) = made o ∙ ap (is_guests guest) (sym is) in
    told o ∙ ap (λ s. if is_named o named then option_map left s else s) h
    ∙ left_case (is_named o named) x.fate.finished x guest k (sym name) refl
