-- The lists of surrogate keys name every object that has the key, with one entry more.
use Rattle.std.specs.Prelude.{◌≡◌, ℕ, Bool, true, false, not, ◌&&◌, ◌==◌, List, ◌∷◌, Option, Some, None, option_map, refl, if◌then◌else◌}
use Rattle.std.proofs.Common.{sym, ap, ◌∙◌, subst, eqb-true}
use Rattle.cache_types.specs.declared.entries.Entry.{Entry}
use Rattle.cache_types.specs.Objects.{Renewal, has_key}
use Rattle.cache_types.specs.Legal.{IsLegalPast}
use Rattle.cache_types.proofs.Lists.{by_test}
use Rattle.cache_purge.specs.Keys.{KeyMap, named_at, IsMore}
use Rattle.cache_core.specs.Object.{Object, object_at, Holds, Each}
use Rattle.cache_core.specs.News
use Rattle.cache_core.specs.Knows.{is_named, IsNamed}
use Rattle.cache_core.proofs.Born.{holds_weaker}
use Rattle.cache_core.proofs.Renewing.{object_more}

-- the object whose terms the news give is named under each of their keys
abbrev pub NamesNew : KeyMap → News.News → Type 0
NamesNew keys (News.Made insertion renewal) = (key : List ℕ) → has_key renewal.terms.surrogates key ≡ true → is_named insertion.object (named_at keys key) ≡ true
NamesNew keys (News.Renewed renewal) = (key : List ℕ) → has_key renewal.terms.surrogates key ≡ true → is_named renewal.object (named_at keys key) ≡ true
NamesNew keys news = Unit {0}

still : (old new : KeyMap) (key : List ℕ) (o : ℕ) → IsMore old new → (b : Bool) (f : Object → Object) → ((x : Object) → (f x).renewal ≡ x.renewal) → (before : Option Object) → Holds (IsNamed old key o) before → Holds (IsNamed new key o) (if b then option_map f before else before)
still old new key o more true f same None h = tt
still old new key o more true f same (Some x) h = λ is. more key o (h (ap (λ (r : Renewal). has_key r.terms.surrogates key) (sym (same x)) ∙ is))
still old new key o more false f same before h = holds_weaker (IsNamed old key o) (IsNamed new key o) (λ x n is. more key o (n is)) before h

named_step : (old new : KeyMap) (key : List ℕ) (o : ℕ) → IsMore old new → (news : News.News) → NamesNew new news → (before : Option Object) → Holds (IsNamed old key o) before → Holds (IsNamed new key o) (News.after news o before)
named_step old new key o more News.Quiet names before h = holds_weaker (IsNamed old key o) (IsNamed new key o) (λ x n is. more key o (n is)) before h
named_step old new key o more (News.Made i r) names before h = by (i.object == o) refl
  where
    by : (b : Bool) → i.object == o ≡ b → Holds (IsNamed new key o) (if b then Some (record { made = i; renewal = r; fate = News.fresh_fate }) else before)
    by true at = λ is. subst (λ k. is_named k (named_at new key) ≡ true) (eqb-true i.object o at) (names key is)
    by false at = holds_weaker (IsNamed old key o) (IsNamed new key o) (λ x n is. more key o (n is)) before h
named_step old new key o more (News.Renewed r) names before h = by (r.object == o) refl before h
  where
    by : (b : Bool) → r.object == o ≡ b → (x : Option Object) → Holds (IsNamed old key o) x → Holds (IsNamed new key o) (if b then option_map (λ (y : Object). record y { renewal = r; fate = record y.fate { softened = false } }) x else x)
    by true at None g = tt
    by true at (Some x) g = λ is. subst (λ k. is_named k (named_at new key) ≡ true) (eqb-true r.object o at) (names key is)
    by false at x g = holds_weaker (IsNamed old key o) (IsNamed new key o) (λ x n is. more key o (n is)) x g
named_step old new key o more (News.Piece object bytes) names before h = still old new key o more (object == o) _ (λ x. refl) before h
named_step old new key o more (News.Finished object) names before h = still old new key o more (object == o) _ (λ x. refl) before h
named_step old new key o more (News.GivenUp object) names before h = still old new key o more (object == o) _ (λ x. refl) before h
named_step old new key o more (News.Purged k soft) names before h = still old new key o more true (News.purged_object k soft) (λ x. by_test (has_key x.renewal.terms.surrogates k) (λ h. rw h refl) (λ h. rw h refl)) before h
named_step old new key o more (News.Ended guest) names before h = still old new key o more true (News.left_object guest) (λ x. by_test (x.made.guest == guest && not x.fate.finished) (λ h. rw h refl) (λ h. rw h refl)) before h

pub named_more : (old new : KeyMap) (past : List Entry) (e : Entry) → IsLegalPast (e ∷ past) → IsMore old new → NamesNew new (News.news_of past e) → ((key : List ℕ) → Each (IsNamed old key) past) → (key : List ℕ) → Each (IsNamed new key) (e ∷ past)
named_more old new past e legal more names named key o =
    subst (Holds (IsNamed new key o)) (sym (object_more past e legal o)) (named_step old new key o more (News.news_of past e) names (object_at past o) (named key o))

pub no_more : (keys : KeyMap) → IsMore keys keys
no_more keys = λ key o is. is
