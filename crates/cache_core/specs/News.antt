-- What an entry changes of the objects, and of no more than it names.
use Rattle.std.specs.Prelude.{ℕ, Bool, true, false, ◌&&◌, not, List, [], ◌++◌, ◌==◌, Option, None, Some, option_map, if◌then◌else◌}
use Rattle.cache_types.specs.declared.calls.CacheCall.{CacheCall}
use Rattle.cache_types.specs.declared.calls.CacheCall.TheVariants.{Insert, TxInsert, TxUpdate, Write, Finish, Abandon, Purge, End}
use Rattle.cache_types.specs.declared.entries.Entry.{Entry}
use Rattle.cache_types.specs.Entries.{is_done, is_short}
use Rattle.cache_types.specs.Objects.{Insertion, insertion_of, Renewal, renewal_of, has_key}
use Rattle.cache_core.specs.Object.{Fate, Object}

pub data News : Type 0 where
  Quiet : News
  Made : (insertion : Insertion) (renewal : Renewal) → News
  Renewed : (renewal : Renewal) → News
  Piece : (object : ℕ) (bytes : List ℕ) → News
  Finished : (object : ℕ) → News
  GivenUp : (object : ℕ) → News
  Purged : (key : List ℕ) (soft : Bool) → News
  Ended : (guest : ℕ) → News

abbrev pub made_by : Option Insertion → Option Renewal → News
made_by (Some insertion) (Some renewal) = Made insertion renewal
made_by _ _ = Quiet

abbrev pub renewed_by : Option Renewal → News
renewed_by (Some renewal) = Renewed renewal
renewed_by None = Quiet

abbrev pub news_if : Bool → News → News
news_if good news = if good then news else Quiet

abbrev pub news_by : List Entry → Entry → CacheCall → News
news_by past e (Insert key headers writing) = made_by (insertion_of past e) (renewal_of past e)
news_by past e (TxInsert tx writing) = made_by (insertion_of past e) (renewal_of past e)
news_by past e (TxUpdate tx terms) = renewed_by (renewal_of past e)
news_by past e (Write object piece) = news_if (is_done e.reply) (Piece object piece)
news_by past e (Finish object) = if is_done e.reply then Finished object else news_if (is_short e.reply) (GivenUp object)
news_by past e (Abandon object) = news_if (is_done e.reply) (GivenUp object)
news_by past e (Purge key soft) = Purged key soft
news_by past e End = Ended e.guest
news_by past e _ = Quiet

abbrev pub news_of : List Entry → Entry → News
news_of past e = news_by past e e.call

abbrev pub fresh_fate : Fate
fresh_fate = record { softened = false; purged = false; finished = false; abandoned = false; written = [] }

abbrev pub purged_fate : Bool → Fate → Fate
purged_fate soft fate = if soft then record fate { softened = true } else record fate { purged = true }

abbrev pub purged_object : List ℕ → Bool → Object → Object
purged_object key soft x = if has_key x.renewal.terms.surrogates key then record x { fate = purged_fate soft x.fate } else x

abbrev pub left_object : ℕ → Object → Object
left_object guest x = if x.made.guest == guest && not x.fate.finished then record x { fate = record x.fate { abandoned = true } } else x

-- the object after the news, where this was it before
abbrev pub after : News → ℕ → Option Object → Option Object
after Quiet object x = x
after (Made insertion renewal) object x = if insertion.object == object then Some (record { made = insertion; renewal = renewal; fate = fresh_fate }) else x
after (Renewed renewal) object x =
    if renewal.object == object then option_map (λ (y : Object). record y { renewal = renewal; fate = record y.fate { softened = false } }) x else x
after (Piece named bytes) object x = if named == object then option_map (λ (y : Object). record y { fate = record y.fate { written = y.fate.written ++ bytes } }) x else x
after (Finished named) object x = if named == object then option_map (λ (y : Object). record y { fate = record y.fate { finished = true } }) x else x
after (GivenUp named) object x = if named == object then option_map (λ (y : Object). record y { fate = record y.fate { abandoned = true } }) x else x
after (Purged key soft) object x = option_map (purged_object key soft) x
after (Ended guest) object x = option_map (left_object guest) x

-- the news renew the object
abbrev pub renews_in : News → ℕ → Bool
renews_in (Made insertion renewal) object = renewal.object == object
renews_in (Renewed renewal) object = renewal.object == object
renews_in _ object = false

-- the insertion in the news
abbrev pub made_in : News → Option Insertion
made_in (Made insertion renewal) = Some insertion
made_in _ = None
