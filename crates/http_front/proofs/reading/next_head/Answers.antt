use Rattle.std.proofs.Common.{◌≡◌, false, drop, sym, ◌∙◌, arith}
use Rattle.std.specs.List.{list_any}
use Rattle.std.proofs.lemmas.Grind.{common_steps}
use Rattle.http_text.specs.Lines.{is_line_feed}
use Rattle.http_front.proofs.EmptyLines.{no_head}
use Rattle.http_front.proofs.HeadEnds.{none_from}
use Rattle.http_front.proofs.reading.next_head.Goals as goal

pub returns-then-not-has_line_feed-clause-partial : goal.returns-then-not-has_line_feed-clause-partial
returns-then-not-has_line_feed-clause-partial c =
    let quiet : list_any is_line_feed (drop c.args.seen c.args.bytes.now) ≡ false = grind (arith, common_steps) in
    λ e. none_from c.args.bytes.now c.args.seen c.requires.seen quiet

pub returns-then-empty-clause-partial : goal.returns-then-empty-clause-partial
returns-then-empty-clause-partial c =
    λ e. no_head c.args.bytes.now (sym c.requires.empty ∙ c.if-empty.true)
