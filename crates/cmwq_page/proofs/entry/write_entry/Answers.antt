use Rattle.std.proofs.lemmas.Result.{err_from_is_err_and}
use Rattle.cmwq_base.proofs.Fronts.{front_before, front_after}
use Rattle.cmwq_chart_text.specs.Filled.{filled_template}
use Rattle.cmwq_kinds.specs.Numbers.{numbers_of_reply}
use Rattle.cmwq_page.specs.Entries.{entry_text, reply_template}
use Rattle.cmwq_page.proofs.entry.write_entry.Goals as goal

pub returns-in_err-write_filled-clause-err : goal.returns-in_err-write_filled-clause-err
unfolding entry_text
returns-in_err-write_filled-clause-err g c =
    let p = err_from_is_err_and c.from_residual.result c.from_residual.ensures.1 in
    let reply = c.args.entry.now.reply in
    rw (p.1) (front_before _ _ _ (filled_template (reply_template reply) (numbers_of_reply reply))
    (rw (c.call_template.ensures, c.call_numbers-numbers.ensures) at c.in_err-write_filled.ensures.err))

pub returns-in_err-write_filled-2-clause-err : goal.returns-in_err-write_filled-2-clause-err
unfolding entry_text
returns-in_err-write_filled-2-clause-err g c =
    let p = err_from_is_err_and c.from_residual-in_err-write_filled-2.result
    c.from_residual-in_err-write_filled-2.ensures.1 in
    rw (p.1) (front_after _ _ _ _ _
    (rw (c.call_template.ensures, c.call_numbers-numbers.ensures) at c.in_ok-write_filled.ensures.ok)
    (rw (c.reply_template.ensures, c.numbers_of_reply.ensures) at c.in_err-write_filled-2.ensures.err))
