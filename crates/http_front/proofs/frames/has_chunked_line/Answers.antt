use Rattle.std.proofs.Common.{rules, tests}
use Rattle.std.proofs.lemmas.Iterator.Search.{any_from_yields_List}
use Rattle.std.proofs.lemmas.Iterator.Splits.{YieldsList-from_slice_split}
use Rattle.http_text.specs.Lines.{is_line_feed}
use Rattle.http_front.specs.Frames.{is_chunked_line}
use Rattle.http_front.proofs.frames.has_chunked_line.Goals as goal

pub returns : goal.returns
returns c =
    any_from_yields_List is_chunked_line _ _ _ c.any.ensures.ran
    (YieldsList-from_slice_split _ is_line_feed c.args.head.now c.split.ensures.rest c.split.ensures.done c.split.ensures.closure (λ x b q k. search (rules, tests)))
    (λ x b q k. search (rules, tests))
