-- What callers see of a book that runs on: its whole history, how many of its entries were given away, and how many may
-- be kept.
use Rattle.std.specs.Prelude.{ℕ, ◌+◌, Bool, if◌then◌else◌, List, [], length, drop, slice_get, Option, None, Some}
use Rattle.std.specs.Prelude.{nat_lt}
use Rattle.cmwq_model.specs.declared.id.Who.{Who}
use Rattle.cmwq_model.specs.declared.call.Call.{Call}
use Rattle.cmwq_model.specs.declared.entry.Entry.{Entry}
use Rattle.cmwq_model.specs.Prelude.{Layout}
use Rattle.cmwq_core.specs.History.{History, takes, with_entry}
use Rattle.cmwq_core.specs.declared.tail_book.Unmade.{Unmade}
use Rattle.cmwq_core.specs.declared.tail_book.Unmade.TheVariants.{Crowded, Full}

pub record Lasting : Type 0 where
  pub history : History
  pub given : ℕ
  -- as many entries may be kept
  pub keep : ℕ

-- with no entries yet
abbrev pub lasting_at_first : Layout → ℕ → Lasting
lasting_at_first s keep =
    record { history = record { layout = s; room = s.room; entries = [] }; given = 0; keep = keep }

abbrev pub with_made : Lasting → Entry → Lasting
with_made l e = record l { history = with_entry l.history e }

-- the history without what was given away
abbrev pub lasting_kept : Lasting → List Entry
lasting_kept l = drop l.given l.history.entries

-- all that is kept is given away
abbrev pub with_none_kept : Lasting → Lasting
with_none_kept l = record l { given = length l.history.entries }

abbrev pub has_space : Lasting → Bool
has_space l = nat_lt (length l.history.entries) (l.keep + l.given)

-- the entry with number n, if it is kept
abbrev pub lasting_entry : Lasting → ℕ → Option Entry
lasting_entry l n = if nat_lt n l.given then None else slice_get l.history.entries n

-- why a call isn't made: no entry more can be kept, or else there is no room
abbrev pub unmade_by : Lasting → Who → Call → Option Unmade
unmade_by l who call = if has_space l then (if takes l.history who call then None else Some Full) else Some Crowded
