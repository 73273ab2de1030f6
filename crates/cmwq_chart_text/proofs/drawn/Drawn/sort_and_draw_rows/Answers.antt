use Rattle.std.proofs.Common.{◌∙◌}
use Rattle.cmwq_chart_text.proofs.Rows.{same_rows}
use Rattle.cmwq_chart_text.proofs.drawn.Drawn.sort_and_draw_rows.Goals as goal

pub returns : goal.returns
returns c =
    (rw (c.deref.ensures.value) at c.in_ok-draw_rows.ensures)
    ∙ same_rows c.args.page.now c.args.band _ _ c.sort_by_row.ensures.rows c.args.self.now
