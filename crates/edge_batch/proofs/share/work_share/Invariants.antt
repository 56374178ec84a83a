use Rattle.std.proofs.Common.{◌≡◌, ◌+◌, ◌≤◌, length, take, vec_len}
use Rattle.std.specs.Prelude.{vec_capacity}
use Rattle.edge_outside.specs.Clock.{AreReadings}
use Rattle.edge_batch.specs.Shares.{WorkedShare}
use Rattle.edge_batch.proofs.share.work_share.Given as goal

-- the requests so far were worked off, and there is room for the blocks of the others
abbrev pub invariant-loop-request : goal.invariant-loop-request
invariant-loop-request g l =
    WorkedShare (AreReadings g.C.Clock.reads g.C.Clock.content) (g.M.GuestMaker.Began l.maker) (g.S.OneCache.most l.hub.start) l.limit l.first (take l.request-index l.requests) l.fn.pass l.pass l.fn.hand.clock l.hand.clock l.blocks.items
    × (l.index ≡ l.first + l.request-index)
    × (vec_len l.blocks ≡ l.request-index)
    × (length l.requests ≤ vec_capacity l.blocks)
