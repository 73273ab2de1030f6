-- The rows of entries: who made each, and the numbers of its call and of its reply.
use Rattle.std.specs.Prelude.{ℕ, List, ◌∷◌, ◌++◌, codes, flat_map}
use Rattle.cmwq_model.specs.declared.call.Call.{Call}
use Rattle.cmwq_model.specs.declared.call.Call.TheVariants as call
use Rattle.cmwq_model.specs.declared.entry.Entry.{Entry}
use Rattle.cmwq_model.specs.declared.reply.Reply.{Reply}
use Rattle.cmwq_model.specs.declared.reply.Reply.TheVariants as reply
use Rattle.cmwq_kinds.specs.Numbers.{numbers_of_call, numbers_of_reply}
use Rattle.cmwq_chart_text.specs.Filled.{filled_template}
use Rattle.cmwq_page.specs.Rows.{who_number}

-- the first part, with a hole for each number: who made it, the call's kind, and each number that stands in the call
abbrev pub call_template : Call → List ℕ
call_template (call.Queue i q c) = codes "$ $ $ $ $ "
call_template (call.Delay i q c ticks) = codes "$ $ $ $ $ $ "
call_template (call.Modify i q c ticks) = codes "$ $ $ $ $ $ "
call_template (call.SetMax q n) = codes "$ $ $ $ "
call_template call.Fire = codes "$ $ "
call_template call.Take = codes "$ $ "
call_template call.Finish = codes "$ $ "
call_template call.Sleep = codes "$ $ "
call_template call.Wake = codes "$ $ "
call_template call.Retire = codes "$ $ "
call_template call.Freeze = codes "$ $ "
call_template call.Thaw = codes "$ $ "
call_template c = codes "$ $ $ "

-- the last part: the reply's kind, and each number that stands in the reply
abbrev pub reply_template : Reply → List ℕ
reply_template (reply.Fired i k) = codes "$ $ $\n"
reply_template (reply.TicketCancelled k n) = codes "$ $ $\n"
reply_template (reply.StartedEnlist n x) = codes "$ $ $\n"
reply_template (reply.Yes k) = codes "$ $\n"
reply_template (reply.Booked due) = codes "$ $\n"
reply_template (reply.Again k) = codes "$ $\n"
reply_template (reply.Rebooked due) = codes "$ $\n"
reply_template (reply.Cancelled n) = codes "$ $\n"
reply_template (reply.Now t) = codes "$ $\n"
reply_template (reply.Ticket k) = codes "$ $\n"
reply_template (reply.TicketQueued k) = codes "$ $\n"
reply_template (reply.TicketUnbooked k) = codes "$ $\n"
reply_template (reply.TicketNo k) = codes "$ $\n"
reply_template (reply.Waiting n) = codes "$ $\n"
reply_template (reply.Started n) = codes "$ $\n"
reply_template (reply.Finished n) = codes "$ $\n"
reply_template (reply.Width n) = codes "$ $\n"
reply_template r = codes "$\n"

unfoldable pub entry_text : Entry → List ℕ
entry_text e = filled_template (call_template e.call) (who_number e.who ∷ numbers_of_call e.call)
    ++ filled_template (reply_template e.reply) (numbers_of_reply e.reply)

abbrev pub entries_text : List Entry → List ℕ
entries_text entries = flat_map entry_text entries
