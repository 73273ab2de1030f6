-- Where a reader stops: whether words are a line of a form, which keywords may stand where something is expected, and
-- the limits of numbers.
use Rattle.std.specs.Prelude.{if◌then◌else◌, is_some}
use Rattle.cmwq_text.specs.Common.{ℕ, Bool, not, List, Option, Some, None, codes, Call, Reply, nat_le, greatest}
use Rattle.cmwq_text.specs.Common.{greatest_long, most_active, most_callers, most_cpus, most_items, most_time}
use Rattle.cmwq_text.specs.Common.{most_workers}
use Rattle.cmwq_text.specs.declared.expected.Expected.{Expected}
use Rattle.cmwq_text.specs.declared.expected.Expected.TheVariants as expected
use Rattle.cmwq_text.specs.declared.expected.Form.{Form}
use Rattle.cmwq_text.specs.declared.expected.Form.TheVariants as line
use Rattle.cmwq_text.specs.declared.expected.NumberOf.{NumberOf}
use Rattle.cmwq_text.specs.declared.expected.NumberOf.TheVariants as number
use Rattle.cmwq_text.specs.declared.keyword.Keyword.{Keyword}
use Rattle.std.specs.Option.{option_map}
use Rattle.cmwq_text.specs.Words.{words_of}
use Rattle.cmwq_text.specs.CallText.{call_read_after, call_of_words}
use Rattle.cmwq_text.specs.ReplyText.{ticket_with, started_with, reply_after}
use Rattle.cmwq_text.specs.EntryText.{entry_of_words}
use Rattle.cmwq_text.specs.ShapeText.{counts_of_words, queue_line_of_words}
use Rattle.cmwq_text.specs.Formats.{of_version, is_old_call, is_old_reply, number_limit, room_limit, old_cpus}
use Rattle.cmwq_text.specs.Formats.{old_workers, old_callers, old_items}

-- whether words are a line of this form, as its reader reads it
abbrev pub are_of_form : Form → List (List ℕ) → Bool
are_of_form line.Shape words = is_some (counts_of_words words)
are_of_form line.CallsQueue words = is_some (queue_line_of_words words)
are_of_form line.Queue words = is_some (queue_line_of_words words)
are_of_form line.Call words = is_some (call_of_words words)
are_of_form line.Entry words = is_some (entry_of_words words)

-- the call after its keyword, where each number after that is 1
abbrev pub call_of_ones : Keyword → Option Call
call_of_ones keyword = option_map (λ c. c.0) (call_read_after keyword (words_of (codes "1 1 1 1")))

-- the reply after its keyword and words
abbrev pub reply_before : Keyword → List ℕ → Option Reply
reply_before keyword text = option_map (λ r. r.0) (reply_after keyword (words_of text))

abbrev pub or_else : Option Reply → Option Reply → Option Reply
or_else None other = other
or_else (Some r) other = Some r

-- so the reply, of which only one has two numbers
abbrev pub reply_of_ones : Keyword → Option Reply
reply_of_ones keyword = or_else (reply_before keyword (codes "1")) (reply_before keyword (codes "1 1"))

-- whether a keyword came with format 2, if it may stand where this is expected
abbrev pub is_new_at : Expected → Keyword → Option Bool
is_new_at expected.Call keyword = option_map (λ c. not (is_old_call c)) (call_of_ones keyword)
is_new_at expected.Reply keyword = option_map (λ r. not (is_old_reply r)) (reply_of_ones keyword)
is_new_at expected.AfterTicket keyword =
    option_map (λ r. not (is_old_reply r.0)) (ticket_with 1 keyword (words_of (codes "1")))
is_new_at expected.AfterStarted keyword =
    option_map (λ r. not (is_old_reply r.0)) (started_with 1 keyword (words_of (codes "1")))
is_new_at other keyword = None

-- the least and the greatest max_active: files of calls may have any, and histories have what it is taken as
abbrev pub least_active : Form → ℕ
least_active line.CallsQueue = 0
least_active other = 1

abbrev pub greatest_active : Form → ℕ
greatest_active line.Queue = most_active
greatest_active other = greatest

-- the least number that may stand in a line of this form
abbrev pub least_of : Form → NumberOf → ℕ
least_of form number.MaxActive = least_active form
least_of form number.Cpus = 1
least_of form number.Workers = 1
least_of form number.Callers = 1
least_of form number.Items = 1
least_of form other = 0

-- the greatest, in this format
abbrev pub most_of : Form → ℕ → NumberOf → ℕ
most_of form version number.MaxActive = greatest_active form
most_of form version number.Ticket = number_limit version
most_of form version number.Serial = number_limit version
most_of form version number.Entry = number_limit version
most_of form version number.Now = of_version greatest_long most_time version
most_of form version number.Time = greatest_long
most_of form version number.Cpus = of_version old_cpus most_cpus version
most_of form version number.Workers = of_version old_workers most_workers version
most_of form version number.Callers = of_version old_callers most_callers version
most_of form version number.Items = of_version old_items most_items version
most_of form version number.Room = room_limit version
most_of form version other = greatest
