-- A row on some of the tables, among all of them.
use Rattle.std.proofs.Common.{◌≡◌, ◌∙◌, ℕ, List, ◌∷◌, ap, refl}
use Rattle.cache_types.specs.declared.outer.OuterReply.{OuterReply}
use Rattle.wasm_memory.specs.Linear.{Linear}
use Rattle.edge_abi.specs.declared.asked.Step.{Step}
use Rattle.edge_abi.specs.declared.asked.Step.TheVariants.{Done, Outer}
use Rattle.edge_abi.specs.declared.status.Status.{Status}
use Rattle.edge_abi.specs.Statuses.{number_of}
use Rattle.edge_abi.specs.Told.{Told, Wants, Gives, After, Row}
use Rattle.edge_abi.specs.Goes.{Ends, Goes}
use Rattle.edge_http_calls.specs.declared.tables.HttpTables.{HttpTables}
use Rattle.body_calls.specs.declared.under_way.UnderWay.{UnderWay as PartsUnder}
use Rattle.body_calls.specs.UnderWays as parts
use Rattle.edge_stores.specs.declared.tables.StoreTables.{StoreTables}
use Rattle.edge_stores.specs.declared.under_way.UnderWay.{UnderWay as StoreUnder}
use Rattle.edge_stores.specs.UnderWays as stores
use Rattle.cache_calls.specs.declared.under_way.UnderWay.{UnderWay as CacheUnder}
use Rattle.cache_calls.specs.Replies as cache
use Rattle.cache_calls.specs.Tables.{HttpAndCache}
use Rattle.guest_calls.specs.declared.rows.Under.{Under}
use Rattle.guest_calls.specs.declared.rows.Under.TheVariants.{Parts, Store, Cache}
use Rattle.guest_calls.specs.declared.tables.GuestTables.{GuestTables}
use Rattle.guest_calls.specs.Rows.{among, with_http, with_stores, with_cache}
use Rattle.guest_calls.specs.Unders.{resumed, step_among}

-- one that makes no outer call
pub goes_done : {T : Type 0} (put : T → GuestTables) (row : Row T) (x : T) (m : Linear) (status : Status) (n : ℕ) → Ends row status x m → n ≡ number_of status → Goes resumed (λ replies. among put (row replies)) (Done n) (put x) m
goes_done put row x m status n ends is = λ replies. rw is (ap (among put) (ends replies))

-- one that makes outer calls, where all rows go on as those of its crate do
goes_among : {T U : Type 0} (put : T → GuestTables) (goes_on : U → T → Linear → OuterReply → Row T) (into : U → Under) → ((under : U) (x : T) (m : Linear) (reply : OuterReply) (replies : List OuterReply) → among put (goes_on under x m reply replies) ≡ resumed (into under) (put x) m reply replies) → (row : Row T) (x : T) (m : Linear) (step : Step U) → Goes goes_on row step x m → Goes resumed (λ replies. among put (row replies)) (step_among into step) (put x) m
goes_among put goes_on into same row x m (Done number) goes = λ replies. ap (among put) (goes replies)
goes_among put goes_on into same row x m (Outer call under) goes = (goes.0, ap (among put) goes.1, λ reply replies. ap (among put) (goes.2 reply replies) ∙ same under x m reply replies)

-- tables that are given twice are those given last
http_again : (t : GuestTables) (x : HttpTables) (told : Told (After HttpTables)) → among (with_http t) told ≡ among (with_http (with_http t x)) told
http_again t x (Wants call) = refl
http_again t x (Gives after replies) = refl

stores_again : (t : GuestTables) (x : StoreTables) (told : Told (After StoreTables)) → among (with_stores t) told ≡ among (with_stores (with_stores t x)) told
stores_again t x (Wants call) = refl
stores_again t x (Gives after replies) = refl

cache_again : (t : GuestTables) (x : HttpAndCache) (told : Told (After HttpAndCache)) → among (with_cache t) told ≡ among (with_cache (with_cache t x)) told
cache_again t x (Wants call) = refl
cache_again t x (Gives after replies) = refl

pub goes_parts : (t : GuestTables) (row : Row HttpTables) (x : HttpTables) (m : Linear) (step : Step PartsUnder) → Goes parts.resumed row step x m → Goes resumed (λ replies. among (with_http t) (row replies)) (step_among Parts step) (with_http t x) m
goes_parts t row x m step goes = goes_among (with_http t) parts.resumed Parts (λ under y n reply replies. http_again t y (parts.resumed under y n reply replies)) row x m step goes

pub goes_stores : (t : GuestTables) (row : Row StoreTables) (x : StoreTables) (m : Linear) (step : Step StoreUnder) → Goes stores.resumed row step x m → Goes resumed (λ replies. among (with_stores t) (row replies)) (step_among Store step) (with_stores t x) m
goes_stores t row x m step goes = goes_among (with_stores t) stores.resumed Store (λ under y n reply replies. stores_again t y (stores.resumed under y n reply replies)) row x m step goes

pub goes_cache : (t : GuestTables) (row : Row HttpAndCache) (x : HttpAndCache) (m : Linear) (step : Step CacheUnder) → Goes cache.resumed row step x m → Goes resumed (λ replies. among (with_cache t) (row replies)) (step_among Cache step) (with_cache t x) m
goes_cache t row x m step goes = goes_among (with_cache t) cache.resumed Cache (λ under y n reply replies. cache_again t y (cache.resumed under y n reply replies)) row x m step goes
