use Rattle.cmwq_page.proofs.page.write_first.Goals as goal

pub returns-clause-ok : goal.returns-clause-ok
returns-clause-ok g c = rw (c.first_template.ensures, c.first_numbers.ensures) at c.write_filled.ensures.ok

pub returns-clause-err : goal.returns-clause-err
returns-clause-err g c = rw (c.first_template.ensures, c.first_numbers.ensures) at c.write_filled.ensures.err
