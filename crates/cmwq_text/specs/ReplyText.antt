-- Replies in a text: how each is spelled, and how each is read.
use Rattle.std.specs.Prelude.{◌∷◌, ◌++◌}
use Rattle.cmwq_text.specs.Common.{ℕ, Bool, true, false, List, [], Option, Some, None, Reply}
use Rattle.cmwq_model.specs.declared.reply.Reply.TheVariants as reply
use Rattle.cmwq_text.specs.declared.keyword.Keyword.{Keyword}
use Rattle.cmwq_text.specs.declared.keyword.Keyword.TheVariants as word
use Rattle.cmwq_text.specs.Words.{◌>>=◌, byte_in, number_in, wide_in, long_in, take_none, take_one, take_two}
use Rattle.cmwq_text.specs.Keywords.{keyword_in}
use Rattle.cmwq_text.specs.IdText.{item_in}
use Rattle.cmwq_text.specs.CallText.{phrase}

unfoldable pub reply_words : Reply → List (List ℕ)
reply_words (reply.Yes k) = phrase word.Yes (k ∷ [])
reply_words (reply.Booked due) = phrase word.Booked (due ∷ [])
reply_words (reply.Again k) = phrase word.Again (k ∷ [])
reply_words (reply.Rebooked due) = phrase word.Rebooked (due ∷ [])
reply_words reply.No = phrase word.No []
reply_words reply.Foreign = phrase word.Foreign []
reply_words reply.Draining = phrase word.Draining []
reply_words reply.Misuse = phrase word.Misuse []
reply_words (reply.Cancelled n) = phrase word.Cancelled (n ∷ [])
reply_words reply.Unbooked = phrase word.Unbooked []
reply_words (reply.Now t) = phrase word.Now (t ∷ [])
reply_words (reply.Fired i k) = phrase word.Fired (i.0 ∷ k ∷ [])
reply_words reply.Nothing = phrase word.Nothing []
reply_words (reply.Ticket k) = phrase word.Ticket (k ∷ [])
reply_words (reply.TicketQueued k) = phrase word.Ticket (k ∷ []) ++ phrase word.Queued []
reply_words (reply.TicketCancelled k n) = phrase word.Ticket (k ∷ []) ++ phrase word.Cancelled (n ∷ [])
reply_words (reply.TicketUnbooked k) = phrase word.Ticket (k ∷ []) ++ phrase word.Unbooked []
reply_words (reply.TicketNo k) = phrase word.Ticket (k ∷ []) ++ phrase word.No []
reply_words reply.Idle = phrase word.Idle []
reply_words reply.Crowded = phrase word.Crowded []
reply_words reply.Done = phrase word.Done []
reply_words (reply.Waiting n) = phrase word.Waiting (n ∷ [])
reply_words (reply.Started n) = phrase word.Started (n ∷ [])
reply_words (reply.StartedEnlist n x) = phrase word.Started (n ∷ []) ++ phrase word.Enlist (x ∷ [])
reply_words reply.Held = phrase word.Held []
reply_words (reply.Finished n) = phrase word.Finished (n ∷ [])
reply_words reply.Slept = phrase word.Slept []
reply_words reply.Woke = phrase word.Woke []
reply_words reply.Retired = phrase word.Retired []
reply_words reply.Kept = phrase word.Kept []
reply_words (reply.Width n) = phrase word.Width (n ∷ [])
reply_words reply.Frozen = phrase word.Frozen []
reply_words reply.Thawed = phrase word.Thawed []
reply_words reply.Gone = phrase word.Gone []
reply_words reply.Timers = phrase word.Timers []

-- after `ticket <k>` comes nothing, or a second keyword
unfoldable pub ticket_with : ℕ → Keyword → List (List ℕ) → Option (Reply × List (List ℕ))
ticket_with k word.Queued = take_none (reply.TicketQueued k)
ticket_with k word.Cancelled = take_one wide_in (reply.TicketCancelled k)
ticket_with k word.Unbooked = take_none (reply.TicketUnbooked k)
ticket_with k word.No = take_none (reply.TicketNo k)
ticket_with k keyword = λ words. None

unfoldable pub ticket_after : ℕ → List (List ℕ) → Option (Reply × List (List ℕ))
ticket_after k [] = Some (reply.Ticket k, [])
ticket_after k (first ∷ words) = do
  keyword ← keyword_in (first ∷ words)
  ticket_with k keyword.0 keyword.1

-- and so after `started <n>`
unfoldable pub started_with : ℕ → Keyword → List (List ℕ) → Option (Reply × List (List ℕ))
started_with n word.Enlist = take_one byte_in (reply.StartedEnlist n)
started_with n keyword = λ words. None

unfoldable pub started_after : ℕ → List (List ℕ) → Option (Reply × List (List ℕ))
started_after n [] = Some (reply.Started n, [])
started_after n (first ∷ words) = do
  keyword ← keyword_in (first ∷ words)
  started_with n keyword.0 keyword.1

-- the reply after its keyword
unfoldable pub reply_after : Keyword → List (List ℕ) → Option (Reply × List (List ℕ))
reply_after word.Yes = take_one wide_in reply.Yes
reply_after word.Booked = take_one long_in reply.Booked
reply_after word.Again = take_one wide_in reply.Again
reply_after word.Rebooked = take_one long_in reply.Rebooked
reply_after word.No = take_none reply.No
reply_after word.Foreign = take_none reply.Foreign
reply_after word.Draining = take_none reply.Draining
reply_after word.Misuse = take_none reply.Misuse
reply_after word.Cancelled = take_one wide_in reply.Cancelled
reply_after word.Unbooked = take_none reply.Unbooked
reply_after word.Now = take_one long_in reply.Now
reply_after word.Fired = take_two item_in wide_in reply.Fired
reply_after word.Nothing = take_none reply.Nothing
reply_after word.Ticket = λ words. wide_in words >>= λ k. ticket_after k.0 k.1
reply_after word.Idle = take_none reply.Idle
reply_after word.Crowded = take_none reply.Crowded
reply_after word.Done = take_none reply.Done
reply_after word.Waiting = take_one wide_in reply.Waiting
reply_after word.Started = λ words. wide_in words >>= λ n. started_after n.0 n.1
reply_after word.Held = take_none reply.Held
reply_after word.Finished = take_one wide_in reply.Finished
reply_after word.Slept = take_none reply.Slept
reply_after word.Woke = take_none reply.Woke
reply_after word.Retired = take_none reply.Retired
reply_after word.Kept = take_none reply.Kept
reply_after word.Width = take_one number_in reply.Width
reply_after word.Frozen = take_none reply.Frozen
reply_after word.Thawed = take_none reply.Thawed
reply_after word.Gone = take_none reply.Gone
reply_after word.Timers = take_none reply.Timers
reply_after keyword = λ words. None

-- whether the reply of a keyword has a number first
abbrev pub keyword_has_number : Keyword → Bool
keyword_has_number word.Yes = true
keyword_has_number word.Again = true
keyword_has_number word.Cancelled = true
keyword_has_number word.Ticket = true
keyword_has_number word.Waiting = true
keyword_has_number word.Started = true
keyword_has_number word.Finished = true
keyword_has_number keyword = false

-- whether it has a time
abbrev pub keyword_has_time : Keyword → Bool
keyword_has_time word.Booked = true
keyword_has_time word.Rebooked = true
keyword_has_time word.Now = true
keyword_has_time keyword = false

abbrev pub reply_in : List (List ℕ) → Option (Reply × List (List ℕ))
reply_in words = do
  keyword ← keyword_in words
  reply_after keyword.0 keyword.1
