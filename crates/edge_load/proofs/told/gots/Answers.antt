use Rattle.std.proofs.Common.{rules, tests}
use Rattle.std.proofs.lemmas.Iterator.{YieldsList-from_slice}
use Rattle.std.proofs.lemmas.Iterator.Consumers.{count_from_yields_List, YieldsList-from_filter}
use Rattle.cache_types.specs.declared.entries.Entry.{Entry}
use Rattle.edge_load.specs.Told.{is_got}
use Rattle.edge_load.proofs.told.gots.Goals as goal

pub returns : goal.returns
returns c =
    count_from_yields_List c.filter.result _ c.count.ensures.ran
    (YieldsList-from_filter _ (λ (e : Entry). is_got e.reply) (YieldsList-from_slice c.args.entries.now cc) c.filter.ensures.closure (λ x r q k. search (rules, tests)))
