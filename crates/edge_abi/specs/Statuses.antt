-- The numbers of statuses in compute-at-edge.
use Rattle.std.specs.Prelude.{ℕ}
use Rattle.edge_abi.specs.declared.status.Status.{Status}
use Rattle.edge_abi.specs.declared.status.Status.TheVariants as status

abbrev pub number_of : Status → ℕ
number_of status.Ok = 0
number_of status.Error = 1
number_of status.Inval = 2
number_of status.Badf = 3
number_of status.Buflen = 4
number_of status.Unsupported = 5
number_of status.Badalign = 6
number_of status.Httpinvalid = 7
number_of status.Httpuser = 8
number_of status.Httpincomplete = 9
number_of status.None = 10
number_of status.Httpheadtoolarge = 11
number_of status.Httpinvalidstatus = 12
number_of status.Limitexceeded = 13
number_of status.Again = 14
