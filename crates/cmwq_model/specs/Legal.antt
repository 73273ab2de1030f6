-- Legal histories: each entry is the one that its call gets at that point.
use Rattle.std.specs.Prelude.{◌≡◌, ℕ, ◌+◌, List, [], ◌∷◌, if◌then◌else◌, IsTrue, reverse}
use Rattle.cmwq_model.specs.declared.id.Who.{Who}
use Rattle.cmwq_model.specs.declared.call.Call.{Call}
use Rattle.cmwq_model.specs.declared.entry.Entry.{Entry}
use Rattle.cmwq_model.specs.Layout.{Layout, fits}
use Rattle.cmwq_model.specs.Calls.{serial_of}
use Rattle.cmwq_model.specs.Runs.{item_runs}
use Rattle.cmwq_model.specs.Queueings.{is_pending}
use Rattle.cmwq_model.specs.Answer.{answer}

-- a history as it is kept, with the oldest entry first, seen with the newest first
abbrev pub past_of : List Entry → List Entry
past_of entries = reverse entries

abbrev pub entry_for : Layout → List Entry → Who → Call → Entry
entry_for s past who call =
    record { who = who; serial = serial_of past who; call = call; reply = answer s past who call }

unfoldable pub IsLegal : Layout → List Entry → Type 0
IsLegal s [] = Unit {0}
IsLegal s (e ∷ past) = IsTrue (fits s e.who e.call) × (e ≡ entry_for s past e.who e.call) × IsLegal s past

-- the bits of an item: 1 if it is pending, plus 2 if it runs
abbrev pub bits : List Entry → ℕ → ℕ
bits past i = (if is_pending past i then 1 else 0) + (if item_runs past i then 2 else 0)
