-- The entry that a call names.
use Rattle.std.specs.Prelude.{ℕ}
use Rattle.cache_types.specs.declared.calls.CacheCall.{CacheCall}
use Rattle.cache_types.specs.declared.calls.CacheCall.TheVariants.{TxInsert, TxUpdate, TxCancel, Close, Write, Finish, Abandon, Read}

-- the call with this number in the place of the entry that it names
abbrev pub with_name : ℕ → CacheCall → CacheCall
with_name name (TxInsert tx writing) = TxInsert name writing
with_name name (TxUpdate tx terms) = TxUpdate name terms
with_name name (TxCancel tx) = TxCancel name
with_name name (Close tx) = Close name
with_name name (Write object piece) = Write name piece
with_name name (Finish object) = Finish name
with_name name (Abandon object) = Abandon name
with_name name (Read hit place most) = Read name place most
with_name name call = call
