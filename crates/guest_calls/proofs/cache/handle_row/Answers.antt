use Rattle.guest_calls.proofs.cache.handle_row.Goals as goal

pub returns-in-TransactionLookupAsync : goal.returns-in-TransactionLookupAsync
returns-in-TransactionLookupAsync c = rw c.in-TransactionLookupAsync.is c.cache_transaction_lookup_async.ensures

pub returns-in-CloseBusy : goal.returns-in-CloseBusy
returns-in-CloseBusy c = rw c.in-CloseBusy.is c.cache_close_busy.ensures.row

pub returns-in-GetState : goal.returns-in-GetState
returns-in-GetState c = rw c.in-GetState.is c.cache_get_state.ensures.row

pub returns-in-GetUserMetadata : goal.returns-in-GetUserMetadata
returns-in-GetUserMetadata c = rw c.in-GetUserMetadata.is c.cache_get_user_metadata.ensures.row

pub returns-in-GetLength : goal.returns-in-GetLength
returns-in-GetLength c = rw c.in-GetLength.is c.cache_get_length.ensures.row

pub returns-in-GetMaxAgeNs : goal.returns-in-GetMaxAgeNs
returns-in-GetMaxAgeNs c = rw c.in-GetMaxAgeNs.is c.cache_get_max_age_ns.ensures.row

pub returns-in-GetStaleWhileRevalidateNs : goal.returns-in-GetStaleWhileRevalidateNs
returns-in-GetStaleWhileRevalidateNs c = rw c.in-GetStaleWhileRevalidateNs.is c.cache_get_stale_while_revalidate_ns.ensures.row

pub returns-in-GetAgeNs : goal.returns-in-GetAgeNs
returns-in-GetAgeNs c = rw c.in-GetAgeNs.is c.cache_get_age_ns.ensures.row

pub returns-in-GetBody : goal.returns-in-GetBody
returns-in-GetBody c = rw c.in-GetBody.is c.cache_get_body.ensures.row
