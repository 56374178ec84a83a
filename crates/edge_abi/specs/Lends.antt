-- What a table ends as, where one of its values is lent for writing.
use Rattle.std.specs.Prelude.{ℕ, List, Option}
use Rattle.std.specs.Borrow.{Lends, LendsIf, Fml, RattleType, MutBor}
use Rattle.edge_abi.specs.Tables.{with_value}
use Rattle.edge_abi.specs.contracts.table.Table.{the_row}

module _ (T : RattleType) (s : MutBor (List (Option T.Denot))) (number : ℕ) where
  -- the number names what was written last
  abbrev pub lends_value : MutBor T.Denot → Fml
  lends_value r = Lends (the_row T) T s r (with_value s.now number)

  -- the same where a value is lent, and else the table stays
  abbrev pub lends_get : Option (MutBor T.Denot) → Fml
  lends_get r = LendsIf (the_row T) T s r (with_value s.now number) s.now
