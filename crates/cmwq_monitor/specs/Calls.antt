-- What a call of one entry promises.
use Rattle.std.specs.Prelude.{◌≡◌, ◌∷◌, ◌++◌}
use Rattle.cmwq_monitor.specs.Common.{ℕ, List, [], length, map, range_with_len, IsPrefix, Call, Reply, Entry, Layout}
use Rattle.cmwq_monitor.specs.Common.{serial_of, IsLegal, past_of, entry_for}
use Rattle.cmwq_monitor.specs.Participants.{View, Gains}

abbrev pub own_entry : Layout → List Entry → View → Call → Entry
own_entry s before v call = entry_for s (past_of before) v.who call

-- What it sees now begins with what it had seen, is legal, and ends with the entry that the call gets there, under the
-- next serial; the answer is that entry's reply. It has as many entries there as its serial says.
pub record Extends (s : Layout) (v : View) (call : Call) (r : Reply) (w : View) : Type 0 where
  pub before : List Entry
  pub older : IsPrefix v.seen before
  pub ends : w.seen ≡ before ++ own_entry s before v call ∷ []
  pub reply : r ≡ (own_entry s before v call).reply
  pub serial : (own_entry s before v call).serial ≡ v.serial
  pub gains : Gains v (own_entry s before v call ∷ []) w
  pub counts : serial_of (past_of w.seen) w.who ≡ w.serial
  pub legal : IsLegal s (past_of w.seen)

-- the entries stand under the serials from this one on
abbrev pub StandFrom : ℕ → List Entry → Type 0
StandFrom first entries = map (λ (e : Entry). e.serial) entries ≡ range_with_len first (length entries)
