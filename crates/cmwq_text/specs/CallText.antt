-- Calls in a text: how each is spelled, and how each is read.
use Rattle.std.specs.Prelude.{◌&&◌, if◌then◌else◌, ◌∷◌}
use Rattle.cmwq_text.specs.Common.{ℕ, Bool, true, false, nat_le, List, [], map, Option, Some, None, decimal, Who}
use Rattle.cmwq_text.specs.Common.{Caller, Worker, Call, is_callers, is_workers}
use Rattle.cmwq_model.specs.declared.call.Call.TheVariants as call
use Rattle.cmwq_text.specs.declared.keyword.Keyword.{Keyword}
use Rattle.cmwq_text.specs.declared.keyword.Keyword.TheVariants as word
use Rattle.cmwq_text.specs.Words.{◌>>=◌, words_of, line_text, has_no_word, number_in, wide_in, take_none, take_one}
use Rattle.cmwq_text.specs.Words.{take_two, take_three, take_four}
use Rattle.cmwq_text.specs.Keywords.{keyword_text, keyword_in}
use Rattle.cmwq_text.specs.IdText.{who_text, item_in, queue_in, cpu_in, who_in}

-- a keyword and the numbers after it
abbrev pub phrase : Keyword → List ℕ → List (List ℕ)
phrase keyword numbers = keyword_text keyword ∷ map decimal numbers

unfoldable pub call_words : Call → List (List ℕ)
call_words (call.Queue i q c) = phrase word.Queue (i.0 ∷ q.0 ∷ c.0 ∷ [])
call_words (call.Delay i q c ticks) = phrase word.Delay (i.0 ∷ q.0 ∷ c.0 ∷ ticks ∷ [])
call_words (call.Modify i q c ticks) = phrase word.Modify (i.0 ∷ q.0 ∷ c.0 ∷ ticks ∷ [])
call_words (call.Cancel i) = phrase word.Cancel (i.0 ∷ [])
call_words (call.Tick ticks) = phrase word.Tick (ticks ∷ [])
call_words call.Fire = phrase word.Fire []
call_words (call.Flush q) = phrase word.Flush (q.0 ∷ [])
call_words (call.Drain q) = phrase word.Drain (q.0 ∷ [])
call_words (call.FlushItem i) = phrase word.FlushItem (i.0 ∷ [])
call_words (call.FlushDelayed i) = phrase word.FlushDelayed (i.0 ∷ [])
call_words (call.CancelSync i) = phrase word.CancelSync (i.0 ∷ [])
call_words (call.End ticket) = phrase word.End (ticket ∷ [])
call_words call.Take = phrase word.Take []
call_words call.Finish = phrase word.Finish []
call_words call.Sleep = phrase word.Sleep []
call_words call.Wake = phrase word.Wake []
call_words call.Retire = phrase word.Retire []
call_words (call.SetMax q n) = phrase word.SetMax (q.0 ∷ n ∷ [])
call_words call.Freeze = phrase word.Freeze []
call_words call.Thaw = phrase word.Thaw []
call_words (call.Destroy q) = phrase word.Destroy (q.0 ∷ [])

-- the line of a who and its call, with its line feed
unfoldable pub call_text : Who → Call → List ℕ
call_text who call = line_text (who_text who ∷ call_words call)

-- the call after its keyword
unfoldable pub call_read_after : Keyword → List (List ℕ) → Option (Call × List (List ℕ))
call_read_after word.Queue = take_three item_in queue_in cpu_in call.Queue
call_read_after word.Delay = take_four item_in queue_in cpu_in number_in call.Delay
call_read_after word.Modify = take_four item_in queue_in cpu_in number_in call.Modify
call_read_after word.Cancel = take_one item_in call.Cancel
call_read_after word.Tick = take_one number_in call.Tick
call_read_after word.Fire = take_none call.Fire
call_read_after word.Flush = take_one queue_in call.Flush
call_read_after word.Drain = take_one queue_in call.Drain
call_read_after word.FlushItem = take_one item_in call.FlushItem
call_read_after word.FlushDelayed = take_one item_in call.FlushDelayed
call_read_after word.CancelSync = take_one item_in call.CancelSync
call_read_after word.End = take_one wide_in call.End
call_read_after word.Take = take_none call.Take
call_read_after word.Finish = take_none call.Finish
call_read_after word.Sleep = take_none call.Sleep
call_read_after word.Wake = take_none call.Wake
call_read_after word.Retire = take_none call.Retire
call_read_after word.SetMax = take_two queue_in number_in call.SetMax
call_read_after word.Freeze = take_none call.Freeze
call_read_after word.Thaw = take_none call.Thaw
call_read_after word.Destroy = take_one queue_in call.Destroy
call_read_after keyword = λ words. None

-- whether the call of a keyword queues an item
abbrev pub is_queueing : Keyword → Bool
is_queueing word.Queue = true
is_queueing word.Delay = true
is_queueing word.Modify = true
is_queueing keyword = false

-- whether it has an item and nothing else
abbrev pub has_item_alone : Keyword → Bool
has_item_alone word.Cancel = true
has_item_alone word.FlushItem = true
has_item_alone word.FlushDelayed = true
has_item_alone word.CancelSync = true
has_item_alone keyword = false

-- whether it has a queue first
abbrev pub has_queue : Keyword → Bool
has_queue word.Flush = true
has_queue word.Drain = true
has_queue word.SetMax = true
has_queue word.Destroy = true
has_queue keyword = false

abbrev pub call_in : List (List ℕ) → Option (Call × List (List ℕ))
call_in words = do
  keyword ← keyword_in words
  call_read_after keyword.0 keyword.1

-- whether such a who makes such calls
abbrev pub is_of_kind : Who → Call → Bool
is_of_kind (Caller c) call = is_callers call
is_of_kind (Worker w) call = is_workers call

-- what a line may say: a call that such a who makes, and no max_active of 0
abbrev pub sets_some : Call → Bool
sets_some (call.SetMax q n) = nat_le 1 n
sets_some call = true

abbrev pub may_say : Who → Call → Bool
may_say who call = is_of_kind who call && sets_some call

-- the call of a line of calls, by all its words
abbrev pub call_of_words : List (List ℕ) → Option (Who × Call)
call_of_words words = do
  who ← who_in words
  call ← call_in who.1
  if has_no_word call.1 && may_say who.0 call.0 then Some (who.0, call.0) else None

unfoldable pub call_read : List ℕ → Option (Who × Call)
call_read line = call_of_words (words_of line)
