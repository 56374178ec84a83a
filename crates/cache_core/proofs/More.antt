-- One entry more: what becomes of an object.
use Rattle.std.specs.Prelude.{◌≡◌, ℕ, Bool, true, false, not, ◌&&◌, ◌||◌, ◌==◌, List, [], ◌∷◌, ◌++◌, Option, Some, None, option_map, refl, if◌then◌else◌}
use Rattle.std.specs.List.{find, cons_option}
use Rattle.std.specs.Option.{option_map_or}
use Rattle.std.proofs.Common.{ap, ◌∙◌, append-nil}
use Rattle.cache_types.specs.declared.calls.CacheCall.{CacheCall}
use Rattle.cache_types.specs.declared.calls.CacheCall.TheVariants.{Insert, TxInsert, TxUpdate, Write, Finish, Abandon, Purge, End}
use Rattle.cache_types.specs.declared.entries.Entry.{Entry}
use Rattle.cache_types.specs.declared.replies.Reply.{Reply}
use Rattle.cache_types.specs.declared.replies.Reply.TheVariants.{Done, Short}
use Rattle.cache_types.specs.Entries.{is_made, is_done}
use Rattle.cache_types.specs.Objects.{Insertion, insertion_at, insertions, Renewal, last_renewal, has_key, has_surrogate, is_made_by, is_softened, is_purged, is_finished, is_abandoned, written}
use Rattle.cache_types.proofs.Goals.{made_of}
use Rattle.cache_core.specs.Object.{Fate, Object, fate_of, object_by, object_at}
use Rattle.cache_core.specs.News

pub or_none : (b : Bool) → (b || false) ≡ b
or_none true = refl
or_none false = refl

pub or_all : (b : Bool) → (b || true) ≡ true
or_all true = refl
or_all false = refl

and_none : (b : Bool) → (b && false) ≡ false
and_none true = refl
and_none false = refl

-- the call may insert or update
abbrev pub is_renewing : CacheCall → Bool
is_renewing (Insert key headers writing) = true
is_renewing (TxInsert tx writing) = true
is_renewing (TxUpdate tx terms) = true
is_renewing _ = false

pub nothing_if : (b : Bool) (w : List ℕ) → w ++ (if b then [] else []) ≡ w
nothing_if true w = append-nil w
nothing_if false w = append-nil w

-- an entry that is no insertion leaves the insertions, and what it doesn't purge, end or write stays
abbrev pub fate_with : Bool → Bool → Bool → Bool → List ℕ → Fate
fate_with s p f a w = record { softened = s; purged = p; finished = f; abandoned = a; written = w }

abbrev pub known : List Entry → ℕ → Bool → Fate → Option Object
known past o made fate = object_by (find (λ (m : Insertion). m.object == o) (cons_option (if made then None else None) (insertions past))) (last_renewal past o) fate

pub no_insertion : (past : List Entry) (o : ℕ) (made : Bool) (fate : Fate) → known past o made fate ≡ object_by (insertion_at past o) (last_renewal past o) fate
no_insertion past o true fate = refl
no_insertion past o false fate = refl

-- a change of the fate alone, where the object is named
named : (b : Bool) (i : Option Insertion) (r : Option Renewal) (f g : Fate) (change : Fate → Fate) → (b ≡ true → g ≡ change f) → (b ≡ false → g ≡ f) → object_by i r g ≡ (if b then option_map (λ (y : Object). record y { fate = change y.fate }) (object_by i r f) else object_by i r f)
named true None r f g change here there = refl
named true (Some m) None f g change here there = refl
named true (Some m) (Some x) f g change here there = ap (object_by (Some m) (Some x)) (here refl)
named false i r f g change here there = ap (object_by i r) (there refl)

pub quiet_more : (past : List Entry) (o : ℕ) (made done : Bool) → known past o made (fate_with (is_softened past o || false) (is_purged past o || false) (is_finished past o) (is_abandoned past o || false) (written past o ++ (if done then [] else []))) ≡ object_at past o
quiet_more past o made done =
    no_insertion past o made _
    ∙ (rw (or_none (is_softened past o), or_none (is_purged past o), or_none (is_abandoned past o), nothing_if done (written past o)) refl)

write_more : (past : List Entry) (o named_object : ℕ) (bytes : List ℕ) (made done : Bool) → known past o made (fate_with (is_softened past o || false) (is_purged past o || false) (is_finished past o) (is_abandoned past o || false) (written past o ++ (if done then (if named_object == o then bytes else []) else []))) ≡ News.after (News.news_if done (News.Piece named_object bytes)) o (object_at past o)
write_more past o object bytes made true =
    no_insertion past o made _
    ∙ (rw (or_none (is_softened past o), or_none (is_purged past o), or_none (is_abandoned past o))
    (named (object == o) (insertion_at past o) (last_renewal past o) (fate_of past o) _ (λ f. record f { written = f.written ++ bytes })
    (λ h. rw h refl) (λ h. rw h (ap (λ w. record (fate_of past o) { written = w }) (append-nil (written past o))))))
write_more past o object bytes made false = quiet_more past o made false

-- a Finish or an Abandon: `gone` says that it gave the object up, `whole` that it finished it
ended_more : (past : List Entry) (o object : ℕ) (made done : Bool) (finished abandoned : Bool) (change : Fate → Fate) → (object == o ≡ true → fate_with (is_softened past o) (is_purged past o) finished abandoned (written past o) ≡ change (fate_of past o)) → (object == o ≡ false → fate_with (is_softened past o) (is_purged past o) finished abandoned (written past o) ≡ fate_of past o)
    → known past o made (fate_with (is_softened past o || false) (is_purged past o || false) finished abandoned (written past o ++ (if done then [] else []))) ≡ (if object == o then option_map (λ (y : Object). record y { fate = change y.fate }) (object_at past o) else object_at past o)
ended_more past o object made done finished abandoned change here there =
    no_insertion past o made _
    ∙ (rw (or_none (is_softened past o), or_none (is_purged past o), nothing_if done (written past o))
    (named (object == o) (insertion_at past o) (last_renewal past o) (fate_of past o) _ change here there))

whole_more : (past : List Entry) (o object : ℕ) (made done : Bool) → known past o made (fate_with (is_softened past o || false) (is_purged past o || false) ((object == o && true) || is_finished past o) (is_abandoned past o || (false || ((object == o && false) || false))) (written past o ++ (if done then [] else []))) ≡ News.after (News.Finished object) o (object_at past o)
whole_more past o object made done =
    ended_more past o object made done _ _ (λ f. record f { finished = true })
    (λ h. rw (h, or_none (is_abandoned past o)) refl) (λ h. rw (h, or_none (is_abandoned past o)) refl)

short_more : (past : List Entry) (o object : ℕ) (made done : Bool) → known past o made (fate_with (is_softened past o || false) (is_purged past o || false) ((object == o && false) || is_finished past o) (is_abandoned past o || (false || ((object == o && true) || false))) (written past o ++ (if done then [] else []))) ≡ News.after (News.GivenUp object) o (object_at past o)
short_more past o object made done =
    ended_more past o object made done _ _ (λ f. record f { abandoned = true })
    (λ h. rw (h, or_all (is_abandoned past o)) refl) (λ h. rw (h, or_none (is_abandoned past o)) refl)

give_more : (past : List Entry) (o object : ℕ) (made done : Bool) → known past o made (fate_with (is_softened past o || false) (is_purged past o || false) (is_finished past o) (is_abandoned past o || ((object == o && true) || false)) (written past o ++ (if done then [] else []))) ≡ News.after (News.GivenUp object) o (object_at past o)
give_more past o object made done =
    ended_more past o object made done _ _ (λ f. record f { abandoned = true })
    (λ h. rw (h, or_all (is_abandoned past o)) refl) (λ h. rw (h, or_none (is_abandoned past o)) refl)

refused_more : (past : List Entry) (o object : ℕ) (made done : Bool) → known past o made (fate_with (is_softened past o || false) (is_purged past o || false) ((object == o && false) || is_finished past o) (is_abandoned past o || (false || ((object == o && false) || false))) (written past o ++ (if done then [] else []))) ≡ object_at past o
refused_more past o object made done = rw (and_none (object == o)) (quiet_more past o made done)

kept_more : (past : List Entry) (o object : ℕ) (made done : Bool) → known past o made (fate_with (is_softened past o || false) (is_purged past o || false) (is_finished past o) (is_abandoned past o || ((object == o && false) || false)) (written past o ++ (if done then [] else []))) ≡ object_at past o
kept_more past o object made done = rw (and_none (object == o)) (quiet_more past o made done)

purge_case : (i : Option Insertion) (r : Option Renewal) (s p f a : Bool) (w key : List ℕ) (soft : Bool) → object_by i r (fate_with (s || (soft && option_map_or (λ (x : Renewal). has_key x.terms.surrogates key) r false)) (p || (not soft && option_map_or (λ (x : Renewal). has_key x.terms.surrogates key) r false)) f a w) ≡ option_map (News.purged_object key soft) (object_by i r (fate_with s p f a w))
purge_case None r s p f a w key soft = refl
purge_case (Some m) None s p f a w key soft = refl
purge_case (Some m) (Some x) s p f a w key soft =
    let with : (b : Bool) → object_by (Some m) (Some x) (fate_with (s || (soft && b)) (p || (not soft && b)) f a w) ≡ Some (if b then record { made = m; renewal = x; fate = News.purged_fate soft (fate_with s p f a w) } else record { made = m; renewal = x; fate = fate_with s p f a w }) =
    elim [ true ↦ here soft | false ↦ rw (and_none soft, and_none (not soft), or_none s, or_none p) refl ]
    in with (has_key x.terms.surrogates key)
  where
    here : (b : Bool) → object_by (Some m) (Some x) (fate_with (s || (b && true)) (p || (not b && true)) f a w) ≡ Some (record { made = m; renewal = x; fate = News.purged_fate b (fate_with s p f a w) })
    here true = rw (or_all s, or_none p) refl
    here false = rw (or_all p, or_none s) refl

purge_more : (past : List Entry) (o : ℕ) (key : List ℕ) (soft made done : Bool) → known past o made (fate_with (is_softened past o || (soft && has_surrogate past o key)) (is_purged past o || (not soft && has_surrogate past o key)) (is_finished past o) (is_abandoned past o || false) (written past o ++ (if done then [] else []))) ≡ News.after (News.Purged key soft) o (object_at past o)
purge_more past o key soft made done =
    no_insertion past o made _
    ∙ (rw (or_none (is_abandoned past o), nothing_if done (written past o))
    (purge_case (insertion_at past o) (last_renewal past o) (is_softened past o) (is_purged past o) (is_finished past o) (is_abandoned past o) (written past o) key soft))

end_case : (i : Option Insertion) (r : Option Renewal) (s p f a : Bool) (w : List ℕ) (guest : ℕ) → object_by i r (fate_with s p f (a || (option_map_or (λ (m : Insertion). m.guest == guest) i false && not f)) w) ≡ option_map (News.left_object guest) (object_by i r (fate_with s p f a w))
end_case None r s p f a w guest = refl
end_case (Some m) None s p f a w guest = refl
end_case (Some m) (Some x) s p f a w guest =
    let with : (b : Bool) → object_by (Some m) (Some x) (fate_with s p f (a || b) w) ≡ Some (if b then record { made = m; renewal = x; fate = fate_with s p f true w } else record { made = m; renewal = x; fate = fate_with s p f a w }) =
    elim [ true ↦ rw (or_all a) refl | false ↦ rw (or_none a) refl ]
    in with (m.guest == guest && not f)

end_more : (past : List Entry) (o guest : ℕ) (made done : Bool) → known past o made (fate_with (is_softened past o || false) (is_purged past o || false) (is_finished past o) (is_abandoned past o || (is_made_by past o guest && not (is_finished past o))) (written past o ++ (if done then [] else []))) ≡ News.after (News.Ended guest) o (object_at past o)
end_more past o guest made done =
    no_insertion past o made _
    ∙ (rw (or_none (is_softened past o), or_none (is_purged past o), nothing_if done (written past o))
    (end_case (insertion_at past o) (last_renewal past o) (is_softened past o) (is_purged past o) (is_finished past o) (is_abandoned past o) (written past o) guest))

-- the calls that make no object and renew none
pub plain_more : (past : List Entry) (n g m o : ℕ) (call : CacheCall) (reply : Reply) → is_renewing call ≡ false → object_at (made_of n g m call reply ∷ past) o ≡ News.after (News.news_of past (made_of n g m call reply)) o (object_at past o)
plain_more past n g m o (Insert key headers writing) reply h = cc
plain_more past n g m o (TxInsert tx writing) reply h = cc
plain_more past n g m o (TxUpdate tx terms) reply h = cc
plain_more past n g m o (Write object piece) reply h = write_more past o object piece (is_made reply) (is_done reply)
plain_more past n g m o (Finish object) Done h = whole_more past o object (is_made Done) (is_done Done)
plain_more past n g m o (Finish object) Short h = short_more past o object (is_made Short) (is_done Short)
plain_more past n g m o (Finish object) reply h = refused_more past o object (is_made reply) (is_done reply)
plain_more past n g m o (Abandon object) Done h = give_more past o object (is_made Done) (is_done Done)
plain_more past n g m o (Abandon object) reply h = kept_more past o object (is_made reply) (is_done reply)
plain_more past n g m o (Purge key soft) reply h = purge_more past o key soft (is_made reply) (is_done reply)
plain_more past n g m o End reply h = end_more past o g (is_made reply) (is_done reply)
plain_more past n g m o call reply h = quiet_more past o (is_made reply) (is_done reply)
