use Rattle.std.proofs.Common.{ap, ◌∙◌}
use Rattle.cmwq_io.specs.FirstLine.{is_line_short}
use Rattle.cmwq_io.proofs.FirstLineLemmas.{short_by_near}
use Rattle.cmwq_io.proofs.lines.Lines.is_short.Goals as goal

pub returns-then-ahead-le-LINE_LIMIT : goal.returns-then-ahead-le-LINE_LIMIT
returns-then-ahead-le-LINE_LIMIT c =
    short_by_near _ c.feed_in.result c.is_none.result c.if-ahead-le-LINE_LIMIT.true c.feed_in.ensures.place
    c.is_none.ensures
    ∙ ap is_line_short c.ahead-ahead.ensures.value
