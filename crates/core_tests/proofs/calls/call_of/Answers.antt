use Rattle.std.specs.Prelude.{◌+◌}
use Rattle.std.proofs.lemmas.Result.{IfOk-weaker}
use Rattle.core_tests.specs.Rounds.{insert_of, lookup_of, tx_lookup_of, purge_of}
use Rattle.core_tests.proofs.Making.{also, may_insert, may_look, may_look_to_insert, may_purge}
use Rattle.core_tests.proofs.calls.call_of.Goals as goal

pub returns-in-Insert : goal.returns-in-Insert
returns-in-Insert c = IfOk-weaker c.insert.result _ _ (λ call is. also call (insert_of c.args.k) is (may_insert c.args.k)) c.insert.ensures

pub returns-in-Lookup : goal.returns-in-Lookup
returns-in-Lookup c = IfOk-weaker c.lookup.result _ _ (λ call is. also call (lookup_of c.args.k) is (may_look c.args.k)) c.lookup.ensures

pub returns-in-TxLookup : goal.returns-in-TxLookup
returns-in-TxLookup c = IfOk-weaker c.tx_lookup.result _ _ (λ call is. also call (tx_lookup_of (200000 + c.args.k)) is (may_look_to_insert (200000 + c.args.k))) c.tx_lookup.ensures

pub returns-in-Purge : goal.returns-in-Purge
returns-in-Purge c = IfOk-weaker c.purge.result _ _ (λ call is. also call (purge_of (200000 + c.args.k)) is (may_purge (200000 + c.args.k))) c.purge.ensures
