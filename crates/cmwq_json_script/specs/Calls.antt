-- Calls, after the word that each begins with.
use Rattle.cmwq_json_script.specs.Common.{ℕ, Option, None, Data, Items, Call, number_between}
use Rattle.cmwq_model.specs.declared.call.Call.TheVariants as call
use Rattle.cmwq_json_script.specs.declared.word.Word.{Word}
use Rattle.cmwq_json_script.specs.declared.word.Word.TheVariants as word
use Rattle.cmwq_json_script.specs.Lists.{items_none, items_one, items_two, items_three, items_four}
use Rattle.cmwq_json_script.specs.Known.{Known, item_known, queue_known, cpu_said}

-- a number of 32 bits, so great at least
abbrev pub number_from : ℕ → Data → Option ℕ
number_from least = number_between least 4294967295

abbrev pub ticks_said : Data → Option ℕ
ticks_said = number_between 0 4294967295

abbrev pub width_in_call : Data → Option ℕ
width_in_call = number_between 1 4294967295

-- the calls that items make too
unfoldable pub own_call_after : Known → Word → Items → Option (Call × Items)
own_call_after known word.Queue = items_three (item_known known) (queue_known known) (cpu_said known) call.Queue
own_call_after known word.Delay =
    items_four (item_known known) (queue_known known) (cpu_said known) ticks_said call.Delay
own_call_after known word.Modify =
    items_four (item_known known) (queue_known known) (cpu_said known) ticks_said call.Modify
own_call_after known word.Cancel = items_one (item_known known) call.Cancel
own_call_after known word.FlushItem = items_one (item_known known) call.FlushItem
own_call_after known word.FlushDelayed = items_one (item_known known) call.FlushDelayed
own_call_after known word.CancelSync = items_one (item_known known) call.CancelSync
own_call_after known word.Flush = items_one (queue_known known) call.Flush
own_call_after known word.Drain = items_one (queue_known known) call.Drain
own_call_after known w = λ ds. None

unfoldable pub call_with_members : Known → Word → Items → Option (Call × Items)
call_with_members known word.Tick = items_one ticks_said call.Tick
call_with_members known word.SetMax = items_two (queue_known known) width_in_call call.SetMax
call_with_members known word.Freeze = items_none call.Freeze
call_with_members known word.Thaw = items_none call.Thaw
call_with_members known word.Destroy = items_one (queue_known known) call.Destroy
call_with_members known w = own_call_after known w
