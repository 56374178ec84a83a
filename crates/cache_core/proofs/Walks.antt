-- The walks of the crate's loops: those over a list of entries.
use Rattle.std.proofs.lemmas.List.{reverse-append}
use Rattle.cache_log.proofs.Walks.{reverse-take_more}

pub ruleset walks = (reverse-take_more, reverse-append)
