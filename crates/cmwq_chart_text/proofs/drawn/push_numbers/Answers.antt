use Rattle.std.proofs.Common.{arith}
use Rattle.cmwq_chart_text.specs.Drawings.{number_parts}
use Rattle.cmwq_chart_text.proofs.Ranges.{number_more, numbers_whole}
use Rattle.cmwq_chart_text.proofs.drawn.push_numbers.Goals as goal

pub loop-place-preserved : goal.loop-place-preserved
loop-place-preserved c = record {
  parts = number_more (number_parts c.args.page.now c.args.band c.args.top c.args.height) c.args.from c.loop-place.place
      _ _ _ (omega arith) c.loop-place.invariant.parts (rw (c.number_of.ensures) at c.in_ok-push_note.ensures);
  within = omega arith;
}

pub returns : goal.returns
returns c =
    numbers_whole (number_parts c.args.page.now c.args.band c.args.top c.args.height) c.args.from c.loop-place.place
    c.args.end _ _ (omega arith) c.loop-place.invariant.within (omega arith) c.loop-place.invariant.parts
