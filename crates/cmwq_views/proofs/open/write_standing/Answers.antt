use Rattle.std.specs.Prelude.{flat_map}
use Rattle.std.proofs.lemmas.Result.{err_from_is_err_and}
use Rattle.std.proofs.KnownBytes.{Appends-trans}
use Rattle.cmwq_base.proofs.Fronts.{front_before, front_after, front_whole}
use Rattle.cmwq_model.specs.Prelude.{past_of}
use Rattle.cmwq_views.specs.Open.{section_text}
use Rattle.cmwq_views.specs.declared.standing.TheConstants.{SECTIONS}
use Rattle.cmwq_views.proofs.open.write_standing.Goals as goal

pub returns-in_err-write_all-clause-err : goal.returns-in_err-write_all-clause-err
returns-in_err-write_all-clause-err g c =
    let p = err_from_is_err_and c.from_residual.result c.from_residual.ensures.1 in
    let sections = flat_map (section_text c.args.standing.now.layout (past_of c.args.standing.now.entries)) SECTIONS in
    let front = rw (c.as_bytes.ensures, c.first_row.ensures) at c.in_err-write_all.ensures.err in
    rw (p.1) (front_before _ _ _ sections front)

pub returns-in_err-write_sections-clause-err : goal.returns-in_err-write_sections-clause-err
returns-in_err-write_sections-clause-err g c =
    let p = err_from_is_err_and c.from_residual-in_err-write_sections.result
    c.from_residual-in_err-write_sections.ensures.1 in
    let head = rw (c.as_bytes.ensures, c.first_row.ensures) at c.in_ok-write_all.ensures.ok in
    rw (p.1) (front_after _ _ _ _ _ head c.in_err-write_sections.ensures.err)

pub returns-in_err-flush_all-clause-err : goal.returns-in_err-flush_all-clause-err
returns-in_err-flush_all-clause-err g c =
    let p = err_from_is_err_and c.from_residual-in_err-flush_all.result c.from_residual-in_err-flush_all.ensures.1 in
    let head = rw (c.as_bytes.ensures, c.first_row.ensures) at c.in_ok-write_all.ensures.ok in
    let whole = Appends-trans _ _ _ _ _ head c.in_ok-write_sections.ensures.ok in
    rw (p.1) (front_whole _ _ _ _ whole c.in_err-flush_all.ensures.bytes)
