use Rattle.std.proofs.Common.{arith}
use Rattle.std.proofs.lemmas.Result.{err_from_is_err_and}
use Rattle.cmwq_base.proofs.Fronts.{front_at}
use Rattle.cmwq_chart_text.specs.PartText.{part_text}
use Rattle.cmwq_chart_text.proofs.picture.write_parts.Goals as goal

pub returns-in_err-write_part-clause-err : goal.returns-in_err-write_part-clause-err
returns-in_err-write_part-clause-err g c =
    let p = err_from_is_err_and c.from_residual.result c.from_residual.ensures.1 in
    rw (p.1) (front_at (part_text c.args.frame.now c.args.entries.now) c.args.parts.now c.loop-part.part-index _ _ _ _
    (omega arith) c.loop-part.invariant.text c.in_err-write_part.ensures.err)
