-- The words that name calls and replies: the text of each, and which one a text is.
use Rattle.cmwq_text.specs.Common.{ℕ, Bool, List, find, Option, codes, bytes_eq}
use Rattle.cmwq_text.specs.declared.keyword.Keyword.{Keyword}
use Rattle.cmwq_text.specs.declared.keyword.Keyword.TheVariants as word
use Rattle.cmwq_text.specs.declared.keyword.TheConstants.{KEYWORDS}
use Rattle.cmwq_text.specs.Words.{word_read}

unfoldable pub keyword_text : Keyword → List ℕ
keyword_text word.Queue = codes "queue"
keyword_text word.Delay = codes "delay"
keyword_text word.Modify = codes "modify"
keyword_text word.Cancel = codes "cancel"
keyword_text word.Tick = codes "tick"
keyword_text word.Fire = codes "fire"
keyword_text word.Flush = codes "flush"
keyword_text word.Drain = codes "drain"
keyword_text word.FlushItem = codes "flush_item"
keyword_text word.FlushDelayed = codes "flush_delayed"
keyword_text word.CancelSync = codes "cancel_sync"
keyword_text word.End = codes "end"
keyword_text word.Take = codes "take"
keyword_text word.Finish = codes "finish"
keyword_text word.Sleep = codes "sleep"
keyword_text word.Wake = codes "wake"
keyword_text word.Retire = codes "retire"
keyword_text word.SetMax = codes "set_max"
keyword_text word.Freeze = codes "freeze"
keyword_text word.Thaw = codes "thaw"
keyword_text word.Destroy = codes "destroy"
keyword_text word.Yes = codes "yes"
keyword_text word.Booked = codes "booked"
keyword_text word.Again = codes "again"
keyword_text word.Rebooked = codes "rebooked"
keyword_text word.No = codes "no"
keyword_text word.Foreign = codes "foreign"
keyword_text word.Draining = codes "draining"
keyword_text word.Misuse = codes "misuse"
keyword_text word.Cancelled = codes "cancelled"
keyword_text word.Unbooked = codes "unbooked"
keyword_text word.Now = codes "now"
keyword_text word.Fired = codes "fired"
keyword_text word.Nothing = codes "nothing"
keyword_text word.Ticket = codes "ticket"
keyword_text word.Queued = codes "queued"
keyword_text word.Idle = codes "idle"
keyword_text word.Crowded = codes "crowded"
keyword_text word.Done = codes "done"
keyword_text word.Waiting = codes "waiting"
keyword_text word.Started = codes "started"
keyword_text word.Enlist = codes "enlist"
keyword_text word.Held = codes "held"
keyword_text word.Finished = codes "finished"
keyword_text word.Slept = codes "slept"
keyword_text word.Woke = codes "woke"
keyword_text word.Retired = codes "retired"
keyword_text word.Kept = codes "kept"
keyword_text word.Width = codes "width"
keyword_text word.Frozen = codes "frozen"
keyword_text word.Thawed = codes "thawed"
keyword_text word.Gone = codes "gone"
keyword_text word.Timers = codes "timers"

abbrev pub is_keyword_text : List ℕ → Keyword → Bool
is_keyword_text bytes keyword = bytes_eq (keyword_text keyword) bytes

unfoldable pub keyword_of : List ℕ → Option Keyword
keyword_of bytes = find (is_keyword_text bytes) KEYWORDS

abbrev pub keyword_in : List (List ℕ) → Option (Keyword × List (List ℕ))
keyword_in words = word_read keyword_of words
