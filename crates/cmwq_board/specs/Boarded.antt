-- What contracts see of a board.
use Rattle.std.specs.Prelude.{◌≡◌, ◌≤◌, ◌+◌, ◌-◌, ◌*◌, ◌&&◌, if◌then◌else◌, ℕ, Bool, true, List, length}
use Rattle.std.specs.Prelude.{nat_le, nat_lt, max, replicate, drop, Option, Some, None}
use Rattle.cmwq_model.specs.Prelude.{Layout}
use Rattle.cmwq_model.specs.declared.entry.Entry.{Entry}
use Rattle.cmwq_model.specs.declared.id.Who.{Who}
use Rattle.cmwq_dispatch.specs.Asleep.{Asleep}
use Rattle.cmwq_dispatch.specs.Dispatched.{Dispatched, is_new, past_now}
use Rattle.cmwq_board.specs.Lent.{AreLent, RunsWaitOnce, first_lent, is_before, unended_drains}
use Rattle.cmwq_board.specs.NewsAfter.{quiet}
use Rattle.cmwq_board.specs.declared.lending.Lending.{Lending}
use Rattle.cmwq_board.specs.declared.lending.Lending.TheVariants.{Free}
use Rattle.cmwq_board.specs.declared.news.News.{News}

-- The history, and who sleeps. How many entries were handed out, and how many of the others are kept at most. What each
-- of the callers does that are lent to waits. What has changed since a shell asked.
pub record Boarded : Type 0 where
  pub dispatch : Dispatched
  pub given : ℕ
  pub keeps : ℕ
  pub lent : List Lending
  pub news : News

abbrev pub board_of : Dispatched → ℕ → ℕ → List Lending → News → Boarded
board_of d given keeps lent news =
    record { dispatch = d; given = given; keeps = keeps; lent = lent; news = news }

abbrev pub layout_of : Boarded → Layout
layout_of b = b.dispatch.history.layout

abbrev pub past_of_board : Boarded → List Entry
past_of_board b = past_now b.dispatch

-- as many entries can be kept
abbrev pub has_space : Boarded → ℕ → Bool
has_space b n = nat_le (length b.dispatch.history.entries + n) (b.keeps + b.given)

-- One call makes at most so many entries: the end of a drain ends it, fires each item, and wakes the run that waited.
abbrev pub most_made : Layout → ℕ
most_made s = s.items + 2

-- After the entries of one call there is still space for those of a ticket that was left and is ended then.
abbrev pub least_kept : Layout → ℕ
least_kept s = 2 * most_made s

-- A new one has no entries, and all its lent callers may be lent. Its dispatch lends none to runs: those of a board
-- serve threads outside the hub too, and a run may be asleep already when it begins to wait.
abbrev pub is_new_board : Layout → ℕ → ℕ → Asleep → Boarded
is_new_board s kept lent asleep =
    board_of (is_new s s.room s.callers asleep) 0 (max kept (least_kept s)) (replicate lent Free) quiet

-- Whoever may fire keeps it from being over: there is one while any drain is unended.
abbrev pub firing_for : ℕ → ℕ
firing_for n = if nat_lt 0 n then 1 else 0

-- a worker, or a caller of the user's own
abbrev pub is_own : Boarded → Who → Bool
is_own b who = is_before (first_lent (layout_of b) b.lent) who

-- What holds of each board: its lent callers have the tickets by which somebody waits, and no run waits by two of them.
-- Whoever drains may still fire.
pub record IsBoard (d : Dispatched) (kept : ℕ) (callers : List Lending) : Type 0 where
  pub room : d.history.room ≡ d.history.layout.room
  pub keeps : most_made d.history.layout ≤ kept
  pub lent : AreLent d.history.layout (past_now d) callers
  pub once : RunsWaitOnce callers
  pub firing : d.firing ≡ firing_for (unended_drains (past_now d))

-- only who sleeps changes
abbrev pub with_asleep : Boarded → Asleep → Boarded
with_asleep b asleep = record b { dispatch = record b.dispatch { asleep = asleep } }

-- what is kept, and the board once it is handed out
abbrev pub kept_in : Boarded → List Entry
kept_in b = drop b.given b.dispatch.history.entries

abbrev pub handed_out : Boarded → Boarded
handed_out b = record b { given = length b.dispatch.history.entries }

-- the board once a shell has asked for the news
abbrev pub asked : Boarded → Boarded
asked b = record b { news = quiet }

-- the board once it is stopped, and once it has failed
abbrev pub stopped : Boarded → Boarded
stopped b = record b { dispatch = record b.dispatch { closed = true } }

abbrev pub failed : Boarded → Boarded
failed b = record b { dispatch = record b.dispatch { failed = true } }

-- the place of a caller that is lent, if it is one
abbrev pub first_place : Layout → List Lending → ℕ → Option ℕ
first_place s lent c = if nat_le (first_lent s lent) c && nat_lt c s.callers then Some (c - first_lent s lent) else None
