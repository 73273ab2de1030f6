-- Signs: what callers and workers did that no bar, no sleep and no end of a wait shows.
use Rattle.std.specs.Prelude.{ℕ, List, [], ◌∷◌, ◌++◌, length, Option, Some, None, option_map, option_to_list}
use Rattle.cmwq_model.specs.declared.entry.Entry.{Entry}
use Rattle.cmwq_model.specs.declared.reply.Reply.{Reply}
use Rattle.cmwq_model.specs.declared.reply.Reply.TheVariants as reply
use Rattle.cmwq_model.specs.Prelude.{item_of}
use Rattle.cmwq_chart.specs.declared.signs.Sign.{Sign}
use Rattle.cmwq_chart.specs.declared.signs.SignKind.{SignKind}
use Rattle.cmwq_chart.specs.declared.signs.SignKind.TheVariants.{Queued, Delayed, Fired, Cancelled, Waits, Tick}
use Rattle.cmwq_chart.specs.declared.signs.SignKind.TheVariants.{Changed, Refused}

-- by the answer: what a bar shows are starts and finishes, and what a sleep shows is that a run slept and woke
abbrev pub sign_kind : Reply → Option SignKind
sign_kind (reply.Yes n) = Some Queued
sign_kind (reply.Again n) = Some Queued
sign_kind (reply.TicketQueued n) = Some Queued
sign_kind (reply.Booked t) = Some Delayed
sign_kind (reply.Rebooked t) = Some Delayed
sign_kind (reply.Fired i n) = Some Fired
sign_kind (reply.Cancelled n) = Some Cancelled
sign_kind reply.Unbooked = Some Cancelled
sign_kind (reply.TicketCancelled k n) = Some Cancelled
sign_kind (reply.TicketUnbooked k) = Some Cancelled
sign_kind (reply.Ticket k) = Some Waits
sign_kind (reply.TicketNo k) = Some Waits
sign_kind (reply.Now t) = Some Tick
sign_kind (reply.Width n) = Some Changed
sign_kind reply.Frozen = Some Changed
sign_kind reply.Thawed = Some Changed
sign_kind reply.Retired = Some Changed
sign_kind (reply.Started n) = None
sign_kind (reply.StartedEnlist n x) = None
sign_kind (reply.Finished n) = None
sign_kind reply.Slept = None
sign_kind reply.Woke = None
sign_kind reply.Done = None
sign_kind (reply.Waiting n) = None
sign_kind r = Some Refused

abbrev pub sign_at : Entry → ℕ → SignKind → Sign
sign_at e n kind = record { who = e.who; kind = kind; item = item_of e; at = n }

-- the sign of an entry after n others
abbrev pub sign_of : Entry → ℕ → Option Sign
sign_of e n = option_map (sign_at e n) (sign_kind e.reply)

unfoldable pub signs_of : List Entry → List Sign
signs_of [] = []
signs_of (e ∷ past) = signs_of past ++ option_to_list (sign_of e (length past))
