use Rattle.guest_calls.proofs.cache.asking_row.Goals as goal

pub returns-in-Lookup : goal.returns-in-Lookup
returns-in-Lookup c = rw c.in-Lookup.is c.cache_lookup.ensures

pub returns-in-Insert : goal.returns-in-Insert
returns-in-Insert c = rw c.in-Insert.is c.cache_insert.ensures

pub returns-in-TransactionLookup : goal.returns-in-TransactionLookup
returns-in-TransactionLookup c = rw c.in-TransactionLookup.is c.cache_transaction_lookup.ensures

pub returns-in-BusyHandleWait : goal.returns-in-BusyHandleWait
returns-in-BusyHandleWait c = rw c.in-BusyHandleWait.is c.cache_cache_busy_handle_wait.ensures.row

pub returns-in-TransactionInsert : goal.returns-in-TransactionInsert
returns-in-TransactionInsert c = rw c.in-TransactionInsert.is c.cache_transaction_insert.ensures.row

pub returns-in-TransactionInsertAndStreamBack : goal.returns-in-TransactionInsertAndStreamBack
returns-in-TransactionInsertAndStreamBack c = rw c.in-TransactionInsertAndStreamBack.is c.cache_transaction_insert_and_stream_back.ensures.row

pub returns-in-TransactionUpdate : goal.returns-in-TransactionUpdate
returns-in-TransactionUpdate c = rw c.in-TransactionUpdate.is c.cache_transaction_update.ensures.row

pub returns-in-TransactionCancel : goal.returns-in-TransactionCancel
returns-in-TransactionCancel c = rw c.in-TransactionCancel.is c.cache_transaction_cancel.ensures.row

pub returns-in-Close : goal.returns-in-Close
returns-in-Close c = rw c.in-Close.is c.cache_close.ensures.row

pub returns-in-PurgeSurrogateKey : goal.returns-in-PurgeSurrogateKey
returns-in-PurgeSurrogateKey c = rw c.in-PurgeSurrogateKey.is c.purge_purge_surrogate_key.ensures
