use Rattle.std.proofs.Common.{ap, ap₂, ◌∙◌, arith}
use Rattle.std.proofs.lemmas.List.{get_or-set_other, length-set}
use Rattle.cmwq_chart_text.specs.Drawings.{with_band, with_band_of}
use Rattle.cmwq_chart_text.proofs.Ranges.{fold_more}
use Rattle.cmwq_chart_text.proofs.drawn.Drawn.new.Goals as goal

pub loop-band-preserved : goal.loop-band-preserved
loop-band-preserved c =
    let p = c.args.page.now in
    let band = c.loop-band.band in
    let lists = c.loop-band.bands.items in
    let long = length-set lists band c.draw_band.new.own in
    record {
      drawn = c.in_ok-draw_band.ensures
          ∙ ap₂ (λ l e. with_band p l e band)
          (ap (λ v. v.items) c.index_mut.ensures.value
          ∙ c.loop-band.invariant.own band c.index_mut.result.now (omega arith)
          (omega (arith, c.in_ok-bands.ensures.0))) c.loop-band.invariant.drawn
          ∙ fold_more (with_band_of p c.args.figures.now) _ band;
      long = long ∙ c.loop-band.invariant.long;
      own = λ k d since here. ap (λ v. v.items)
          (get_or-set_other lists band k c.draw_band.new.own d (λ same. omega arith))
          ∙ c.loop-band.invariant.own k d (omega arith) (rw long at here);
    }
