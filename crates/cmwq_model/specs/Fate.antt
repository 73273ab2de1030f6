-- What became of the queueing with a number: started, finished, cancelled, or still open.
use Rattle.std.specs.Prelude.{ℕ, Bool, true, false, ◌&&◌, ◌||◌, not, List, [], ◌∷◌, length, Option, Some, None, nat_lt}
use Rattle.std.specs.List.{list_any}
use Rattle.cmwq_model.specs.declared.reply.Reply.{Reply}
use Rattle.cmwq_model.specs.declared.reply.Reply.TheVariants as reply
use Rattle.cmwq_model.specs.declared.entry.Entry.{Entry}
use Rattle.cmwq_model.specs.Calls.{is_at, is_of_item}

abbrev pub number_started : Reply → Option ℕ
number_started (reply.Started n) = Some n
number_started (reply.StartedEnlist n x) = Some n
number_started r = None

abbrev pub number_finished : Reply → Option ℕ
number_finished (reply.Finished n) = Some n
number_finished r = None

abbrev pub number_cancelled : Reply → Option ℕ
number_cancelled (reply.Cancelled n) = Some n
number_cancelled (reply.TicketCancelled k n) = Some n
number_cancelled r = None

abbrev pub starts : ℕ → Entry → Bool
starts n e = is_at (number_started e.reply) n

abbrev pub finishes : ℕ → Entry → Bool
finishes n e = is_at (number_finished e.reply) n

abbrev pub takes_back : ℕ → Entry → Bool
takes_back n e = is_at (number_cancelled e.reply) n

-- an answer that puts something new in the place of what was pending
abbrev pub replaces : Reply → Bool
replaces (reply.Again k) = true
replaces (reply.Rebooked d) = true
replaces r = false

abbrev pub is_started : List Entry → ℕ → Bool
is_started past n = list_any (starts n) past

abbrev pub is_finished : List Entry → ℕ → Bool
is_finished past n = list_any (finishes n) past

-- of a queueing of item i: cancelled by its number, or replaced before it had started
unfoldable pub is_cancelled : List Entry → ℕ → ℕ → Bool
is_cancelled [] i n = false
is_cancelled (e ∷ past) i n = is_cancelled past i n || takes_back n e
    || (replaces e.reply && is_of_item i e && nat_lt n (length past) && not (is_started past n))

-- of a queueing of item i: neither finished nor cancelled
abbrev pub is_open : List Entry → ℕ → ℕ → Bool
is_open past i n = nat_lt n (length past) && not (is_finished past n) && not (is_cancelled past i n)
