use Rattle.std.proofs.Common.{arith}
use Rattle.std.proofs.lemmas.Result.{err_from_is_err_and}
use Rattle.cmwq_base.proofs.Fronts.{front_at}
use Rattle.cmwq_model.specs.Prelude.{past_of}
use Rattle.cmwq_views.specs.Open.{section_text}
use Rattle.cmwq_views.specs.declared.standing.TheConstants.{SECTIONS}
use Rattle.cmwq_views.proofs.open.write_sections.Goals as goal

pub returns-in_err-write_rows-clause-err : goal.returns-in_err-write_rows-clause-err
returns-in_err-write_rows-clause-err g c =
    let p = err_from_is_err_and c.from_residual.result c.from_residual.ensures.1 in
    rw (p.1) (front_at (section_text c.args.standing.now.layout (past_of c.args.standing.now.entries)) SECTIONS
    c.loop-section.section-index _ _ _ _ (omega arith) c.loop-section.invariant.text c.in_err-write_rows.ensures.err)
