-- Two histories that are alike, with other numbers.
use Rattle.std.specs.Prelude.{◌≡◌, ◌∷◌, []}
use Rattle.cmwq_alike.specs.Common.{List, map, Entry, Layout, IsLegal, still_open}
use Rattle.cmwq_model.specs.Prelude.{past_of}
use Rattle.cmwq_model.specs.declared.reply.Reply.TheVariants as reply
use Rattle.cmwq_model_examples.specs.Words.{caller, cancel, entry, queue, system, tick, wqf}
use Rattle.cmwq_alike.specs.Alike.{IsAlike, number_of}

-- one CPU, one worker in each pool, one caller, one item and one queue
abbrev pub small : Layout
small = system 1 1 1 1 100 (wqf 1 ∷ [])

-- an item is queued, cancelled and queued again
abbrev pub queued_again : List Entry
queued_again =
    past_of (entry (caller 0) 0 (queue 0 0 0) (reply.Yes 0) ∷ entry (caller 0) 1 (cancel 0) (reply.Cancelled 0) ∷
    entry (caller 0) 2 (queue 0 0 0) (reply.Yes 2) ∷ [])

-- it is queued, and no time goes by
abbrev pub queued_once : List Entry
queued_once =
    past_of (entry (caller 0) 0 (queue 0 0 0) (reply.Yes 0) ∷ entry (caller 0) 1 (tick 0) (reply.Now 0) ∷
    entry (caller 0) 2 (tick 0) (reply.Now 0) ∷ [])

-- what is open has number 2 in the one and 0 in the other
pub record OthersAreAlike : Type 0 where
  pub legal : IsLegal small queued_again
  pub other_legal : IsLegal small queued_once
  pub numbers : map number_of (still_open queued_again) ≡ 2 ∷ []
  pub other_numbers : map number_of (still_open queued_once) ≡ 0 ∷ []
  pub alike : IsAlike small (λ n. 0) queued_again queued_once
