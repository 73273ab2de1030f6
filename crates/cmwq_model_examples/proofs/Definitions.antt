-- All definitions of the model that a history is computed by.
use Rattle.std.specs.Prelude.{ℕ}
use Rattle.cmwq_model.specs.Prelude.{now, booking, bookings, is_cancelled, last_start, is_asleep, item_start, queueings}
use Rattle.cmwq_model.specs.Prelude.{is_frozen, max_active, width, is_active, became_active}
use Rattle.cmwq_model.specs.Prelude.{worklist, next, is_enlisted, runnable, enlisted_by, may_retire, tickets, is_gone}
use Rattle.cmwq_model.specs.Prelude.{serving_from, queue_answer, modify_answer, wait_answer}
use Rattle.cmwq_model.specs.Prelude.{destroy_answer, set_max_answer, cancel_answer, first_due, flush_item_answer}
use Rattle.cmwq_model.specs.Prelude.{flush_delayed_answer, cancel_sync_answer, take_answer}
use Rattle.cmwq_model.specs.Prelude.{finish_answer, retire_answer, answer, owed}

unfoldable pub definitions : ℕ
unfolding is_gone wait_answer destroy_answer set_max_answer now booking bookings is_cancelled last_start is_asleep
    item_start queueings is_frozen max_active width is_active became_active worklist next is_enlisted runnable
    enlisted_by may_retire tickets serving_from queue_answer modify_answer cancel_answer first_due flush_item_answer
    flush_delayed_answer cancel_sync_answer take_answer finish_answer retire_answer answer owed
definitions = 0
