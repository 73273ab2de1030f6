use Rattle.std.proofs.Common.{sym, ap, ◌∙◌, arith}
use Rattle.std.proofs.lemmas.List.{nil_from_length}
use Rattle.std.proofs.lemmas.List.Sorted.{IsNonDecreasingBy-drop}
use Rattle.cmwq_chart_text.specs.Drawings.{with_rows}
use Rattle.cmwq_chart_text.specs.Figures.{figure_number}
use Rattle.cmwq_chart_text.proofs.Rows.{no_rows, row_by_row}
use Rattle.cmwq_chart_text.proofs.drawn.Drawn.draw_rows.Goals as goal

pub loop-rest-preserved : goal.loop-rest-preserved
loop-rest-preserved c =
    let row = c.run_of.ensures in
    record {
      order = rw (c.split_at.ensures.back)
          (IsNonDecreasingBy-drop figure_number c.run_of.result c.loop-rest.rest.now
          c.loop-rest.invariant.order);
      drawn = rw (c.split_at.ensures.back)
          (row_by_row c.args.page.now c.args.band c.loop-rest.rest.now c.run_of.result c.loop-rest.invariant.order
          row.some
          row.within row.same row.other row.numbered c.loop-rest.self c.draw_row.new.self
          (rw (c.split_at.ensures.front) at c.in_ok-draw_row.ensures))
          ∙ c.loop-rest.invariant.drawn;
    }

pub returns : goal.returns
returns c =
    no_rows c.args.page.now c.args.band c.loop-rest.self
    ∙ ap (λ l. with_rows c.args.page.now c.args.band l c.loop-rest.self)
    (sym (nil_from_length c.loop-rest.rest.now (grind arith)))
    ∙ c.loop-rest.invariant.drawn
