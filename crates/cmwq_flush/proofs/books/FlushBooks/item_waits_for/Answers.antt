use Rattle.cmwq_flush.specs.Common.{ap, ◌∙◌, find}
use Rattle.cmwq_flush.specs.ItemNumbers.{is_up_to}
use Rattle.cmwq_flush.specs.Openings.{numbers_in}
use Rattle.cmwq_flush.proofs.ItemRows.{first_is_least}
use Rattle.cmwq_flush.proofs.books.FlushBooks.item_waits_for.Goals as goal

pub returns-clause-value : goal.returns-clause-value
returns-clause-value c =
    rw (← c.self.view_is) (c.first_up_to.ensures ∙ ap (find (is_up_to c.args.ticket)) c.of_item.ensures.numbers)

pub returns-clause-least : goal.returns-clause-least
returns-clause-least c =
    rw (← c.self.view_is, ← c.of_item.ensures.numbers)
    (first_is_least c.args.ticket (numbers_in c.of_item.result) c.first_up_to.result c.first_up_to.ensures
    c.of_item.ensures.rise)
