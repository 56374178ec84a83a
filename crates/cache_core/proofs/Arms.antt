-- The news of an entry whose call is known.
use Rattle.std.specs.Prelude.{◌≡◌, ℕ, Bool, true, false, List, ◌∷◌, Some, None, refl, if◌then◌else◌}
use Rattle.std.proofs.Common.{sym, ap, ◌∙◌, subst}
use Rattle.cache_types.specs.declared.calls.CacheCall.{CacheCall}
use Rattle.cache_types.specs.declared.calls.CacheCall.TheVariants.{Begin, Lookup, TxLookup, Insert, TxInsert, TxUpdate, TxCancel, Close, Write, Finish, Abandon, Read, Purge, End}
use Rattle.cache_types.specs.declared.calls.Field.{Field}
use Rattle.cache_types.specs.declared.calls.Terms.{Terms}
use Rattle.cache_types.specs.declared.calls.Writing.{Writing}
use Rattle.cache_types.specs.declared.entries.Entry.{Entry}
use Rattle.cache_types.specs.Entries.{Asked, asked_at, is_made, is_done, is_short, is_begin, is_end}
use Rattle.cache_types.specs.Objects.{insertion_for, renewal_for, hit_at}
use Rattle.cache_types.specs.Legal.{IsLegalPast}
use Rattle.std.proofs.lemmas.Bool.{false≢true}
use Rattle.cache_types.proofs.Goals.{made_of}
use Rattle.cache_core.specs.declared.parts.Parts.{Parts}
use Rattle.cache_core.specs.News
use Rattle.cache_core.specs.Knows.{Knows}
use Rattle.cache_core.proofs.Makers.{tells_same}
use Rattle.cache_core.proofs.Naming.{NamesNew, no_more}
use Rattle.cache_core.proofs.ByNews.{knows_more, Tells}

-- a fact of the entry with this call is one of the entry
pub by_call : (P : Entry → Type 0) (e : Entry) (call : CacheCall) → e.call ≡ call → P (made_of e.number e.guest e.moment call e.reply) → P e
by_call P e call is p = subst (λ (c : CacheCall). P (made_of e.number e.guest e.moment c e.reply)) (sym is) p

-- an entry without news
pub knows_quiet : (parts : Parts) (past : List Entry) (e : Entry) → IsLegalPast (e ∷ past) → is_begin e.call ≡ false → is_end e.call ≡ false → News.news_of past e ≡ News.Quiet → Knows parts past → Knows parts (e ∷ past)
knows_quiet parts past e legal begin end news knows =
    knows_more parts parts.objects parts.bearers past e legal begin end (ap News.made_in news)
    (subst (Tells parts.objects parts.objects past e.number) (sym news) (tells_same parts.objects past e.number))
    (no_more parts.bearers) (subst (NamesNew parts.bearers) (sym news) tt) knows

pub insert_news : (past : List Entry) (e : Entry) (key : List ℕ) (headers : List Field) (writing : Writing) → e.call ≡ Insert key headers writing → is_made e.reply ≡ true → News.news_of past e ≡ News.Made (insertion_for e writing (record { key = key; headers = headers })) (renewal_for e writing.terms e.number)
insert_news past e key headers writing is made =
    by_call (λ (e : Entry). is_made e.reply ≡ true → News.news_of past e ≡ News.Made (insertion_for e writing (record { key = key; headers = headers })) (renewal_for e writing.terms e.number)) e (Insert key headers writing) is (λ m. rw m refl) made

pub insert_quiet : (past : List Entry) (e : Entry) (key : List ℕ) (headers : List Field) (writing : Writing) → e.call ≡ Insert key headers writing → is_made e.reply ≡ false → News.news_of past e ≡ News.Quiet
insert_quiet past e key headers writing is made = by_call (λ (e : Entry). is_made e.reply ≡ false → News.news_of past e ≡ News.Quiet) e (Insert key headers writing) is (λ m. rw m refl) made

pub tx_insert_news : (past : List Entry) (e : Entry) (tx : ℕ) (asked : Asked) (writing : Writing) → e.call ≡ TxInsert tx writing → is_made e.reply ≡ true → asked_at past tx ≡ Some asked → News.news_of past e ≡ News.Made (insertion_for e writing asked) (renewal_for e writing.terms e.number)
tx_insert_news past e tx asked writing is made at =
    by_call (λ (e : Entry). is_made e.reply ≡ true → News.news_of past e ≡ News.Made (insertion_for e writing asked) (renewal_for e writing.terms e.number)) e (TxInsert tx writing) is (λ m. rw (m, at) refl) made

pub tx_insert_none : (past : List Entry) (e : Entry) (tx : ℕ) (writing : Writing) → e.call ≡ TxInsert tx writing → is_made e.reply ≡ true → asked_at past tx ≡ None → News.news_of past e ≡ News.Quiet
tx_insert_none past e tx writing is made at = by_call (λ (e : Entry). is_made e.reply ≡ true → News.news_of past e ≡ News.Quiet) e (TxInsert tx writing) is (λ m. rw (m, at) refl) made

pub tx_insert_quiet : (past : List Entry) (e : Entry) (tx : ℕ) (writing : Writing) → e.call ≡ TxInsert tx writing → is_made e.reply ≡ false → News.news_of past e ≡ News.Quiet
tx_insert_quiet past e tx writing is made = by_call (λ (e : Entry). is_made e.reply ≡ false → News.news_of past e ≡ News.Quiet) e (TxInsert tx writing) is (λ m. rw m refl) made

pub update_news : (past : List Entry) (e : Entry) (tx object : ℕ) (terms : Terms) → e.call ≡ TxUpdate tx terms → is_done e.reply ≡ true → hit_at past tx ≡ Some object → News.news_of past e ≡ News.Renewed (renewal_for e terms object)
update_news past e tx object terms is done at = by_call (λ (e : Entry). is_done e.reply ≡ true → News.news_of past e ≡ News.Renewed (renewal_for e terms object)) e (TxUpdate tx terms) is (λ d. rw (d, at) refl) done

pub update_none : (past : List Entry) (e : Entry) (tx : ℕ) (terms : Terms) → e.call ≡ TxUpdate tx terms → is_done e.reply ≡ true → hit_at past tx ≡ None → News.news_of past e ≡ News.Quiet
update_none past e tx terms is done at = by_call (λ (e : Entry). is_done e.reply ≡ true → News.news_of past e ≡ News.Quiet) e (TxUpdate tx terms) is (λ d. rw (d, at) refl) done

pub update_quiet : (past : List Entry) (e : Entry) (tx : ℕ) (terms : Terms) → e.call ≡ TxUpdate tx terms → is_done e.reply ≡ false → News.news_of past e ≡ News.Quiet
update_quiet past e tx terms is done = by_call (λ (e : Entry). is_done e.reply ≡ false → News.news_of past e ≡ News.Quiet) e (TxUpdate tx terms) is (λ d. rw d refl) done

pub write_news : (past : List Entry) (e : Entry) (object : ℕ) (piece : List ℕ) (done : Bool) → e.call ≡ Write object piece → is_done e.reply ≡ done → News.news_of past e ≡ News.news_if done (News.Piece object piece)
write_news past e object piece done is was = by_call (λ (e : Entry). is_done e.reply ≡ done → News.news_of past e ≡ News.news_if done (News.Piece object piece)) e (Write object piece) is (λ d. rw d refl) was

pub finish_news : (past : List Entry) (e : Entry) (object : ℕ) (done short : Bool) → e.call ≡ Finish object → is_done e.reply ≡ done → is_short e.reply ≡ short → News.news_of past e ≡ (if done then News.Finished object else News.news_if short (News.GivenUp object))
finish_news past e object done short is was fell =
    by_call (λ (e : Entry). is_done e.reply ≡ done → is_short e.reply ≡ short → News.news_of past e ≡ (if done then News.Finished object else News.news_if short (News.GivenUp object))) e (Finish object) is (λ d s. rw (d, s) refl) was fell

pub abandon_news : (past : List Entry) (e : Entry) (object : ℕ) (done : Bool) → e.call ≡ Abandon object → is_done e.reply ≡ done → News.news_of past e ≡ News.news_if done (News.GivenUp object)
abandon_news past e object done is was = by_call (λ (e : Entry). is_done e.reply ≡ done → News.news_of past e ≡ News.news_if done (News.GivenUp object)) e (Abandon object) is (λ d. rw d refl) was

pub no_begin : (e : Entry) (call : CacheCall) → e.call ≡ call → is_begin call ≡ false → is_begin e.call ≡ false
no_begin e call is none = ap is_begin is ∙ none

pub no_end : (e : Entry) (call : CacheCall) → e.call ≡ call → is_end call ≡ false → is_end e.call ≡ false
no_end e call is none = ap is_end is ∙ none

other_step : (parts : Parts) (past : List Entry) (e : Entry) (call : CacheCall) → e.call ≡ call → IsLegalPast (e ∷ past) → is_end e.call ≡ false
    → (e.call ≡ Begin → ⊥) → ((k : List ℕ) (h : List Field) (w : Writing) → e.call ≡ Insert k h w → ⊥) → ((t : ℕ) (w : Writing) → e.call ≡ TxInsert t w → ⊥) → ((t : ℕ) (w : Terms) → e.call ≡ TxUpdate t w → ⊥) → ((o : ℕ) (p : List ℕ) → e.call ≡ Write o p → ⊥) → ((o : ℕ) → e.call ≡ Finish o → ⊥) → ((o : ℕ) → e.call ≡ Abandon o → ⊥) → ((k : List ℕ) (s : Bool) → e.call ≡ Purge k s → ⊥)
    → Knows parts past → Knows parts (e ∷ past)
other_step parts past e Begin is legal end b i ti tu w f a p knows = absurd (b is)
other_step parts past e (Insert k h x) is legal end b i ti tu w f a p knows = absurd (i k h x is)
other_step parts past e (TxInsert t x) is legal end b i ti tu w f a p knows = absurd (ti t x is)
other_step parts past e (TxUpdate t x) is legal end b i ti tu w f a p knows = absurd (tu t x is)
other_step parts past e (Write o x) is legal end b i ti tu w f a p knows = absurd (w o x is)
other_step parts past e (Finish o) is legal end b i ti tu w f a p knows = absurd (f o is)
other_step parts past e (Abandon o) is legal end b i ti tu w f a p knows = absurd (a o is)
other_step parts past e (Purge k s) is legal end b i ti tu w f a p knows = absurd (p k s is)
other_step parts past e End is legal end b i ti tu w f a p knows = absurd (false≢true (sym end ∙ ap is_end is))
other_step parts past e (Lookup k h) is legal end b i ti tu w f a p knows = knows_quiet parts past e legal (ap is_begin is) end (ap (News.news_by past e) is) knows
other_step parts past e (TxLookup k h) is legal end b i ti tu w f a p knows = knows_quiet parts past e legal (ap is_begin is) end (ap (News.news_by past e) is) knows
other_step parts past e (TxCancel t) is legal end b i ti tu w f a p knows = knows_quiet parts past e legal (ap is_begin is) end (ap (News.news_by past e) is) knows
other_step parts past e (Close t) is legal end b i ti tu w f a p knows = knows_quiet parts past e legal (ap is_begin is) end (ap (News.news_by past e) is) knows
other_step parts past e (Read x y z) is legal end b i ti tu w f a p knows = knows_quiet parts past e legal (ap is_begin is) end (ap (News.news_by past e) is) knows

-- an entry of the calls that change nothing
pub default_quiet : (parts : Parts) (past : List Entry) (e : Entry) → IsLegalPast (e ∷ past) → is_end e.call ≡ false
    → (e.call ≡ Begin → ⊥) → ((k : List ℕ) (h : List Field) (w : Writing) → e.call ≡ Insert k h w → ⊥) → ((t : ℕ) (w : Writing) → e.call ≡ TxInsert t w → ⊥) → ((t : ℕ) (w : Terms) → e.call ≡ TxUpdate t w → ⊥) → ((o : ℕ) (p : List ℕ) → e.call ≡ Write o p → ⊥) → ((o : ℕ) → e.call ≡ Finish o → ⊥) → ((o : ℕ) → e.call ≡ Abandon o → ⊥) → ((k : List ℕ) (s : Bool) → e.call ≡ Purge k s → ⊥)
    → Knows parts past → Knows parts (e ∷ past)
default_quiet parts past e = other_step parts past e e.call refl
