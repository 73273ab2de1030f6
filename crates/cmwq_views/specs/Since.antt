-- Since when something stands: the last entry of a kind, by the worker, the item or the caller that it is of.
use Rattle.std.specs.Prelude.{◌≡◌, ◌<◌, ◌*◌, ℕ, Bool, true, false, not, if◌then◌else◌, List, [], ◌∷◌, length, Option}
use Rattle.std.specs.Prelude.{Some, None, is_some, slice_index_or, slice_set}
use Rattle.cmwq_model.specs.declared.call.Call.{Call}
use Rattle.cmwq_model.specs.declared.call.Call.TheVariants as call
use Rattle.cmwq_model.specs.declared.entry.Entry.{Entry}
use Rattle.cmwq_model.specs.declared.id.Who.{Who}
use Rattle.cmwq_model.specs.declared.id.Who.TheVariants.{Caller, Worker}
use Rattle.cmwq_model.specs.Prelude.{Layout, due_in, gives_ticket, is_at, item_of, most_workers, now, number_started}
use Rattle.cmwq_model.specs.Prelude.{opens}
use Rattle.cmwq_theory_steps.specs.RoomSteps.{is_slept}
use Rattle.cmwq_summary.specs.Figures.{caller_in, worker_number}
use Rattle.cmwq_views.specs.declared.since.Since.{Since}
use Rattle.cmwq_views.specs.declared.deed.Deed.{Deed}
use Rattle.cmwq_views.specs.declared.deed.Deed.TheVariants as deed
use Rattle.cmwq_views.specs.declared.beginnings.Lasts.{Lasts}
use Rattle.cmwq_views.specs.declared.beginnings.Beginnings.{Beginnings}

-- ---- whose an entry is, if it is of a kind: a worker's, an item's or a caller's, by number

abbrev pub row_of_who : Who → Option ℕ
row_of_who (Worker w) = Some (worker_number w)
row_of_who (Caller c) = None

-- a caller that is lent to waits makes these calls and no others
abbrev pub is_lent_call : Call → Bool
is_lent_call (call.Flush q) = true
is_lent_call (call.Drain q) = true
is_lent_call (call.Destroy q) = true
is_lent_call (call.FlushItem i) = true
is_lent_call (call.FlushDelayed i) = true
is_lent_call (call.CancelSync i) = true
is_lent_call (call.End n) = true
is_lent_call call.Fire = true
is_lent_call c = false

abbrev pub key_if : Bool → Option ℕ → Option ℕ
key_if holds key = if holds then key else None

abbrev pub key_of : Deed → Entry → Option ℕ
key_of deed.Start e = key_if (is_some (number_started e.reply)) (row_of_who e.who)
key_of deed.Sleep e = key_if (is_slept e.reply) (row_of_who e.who)
key_of deed.Queue e = key_if (opens e.reply) (item_of e)
key_of deed.Book e = key_if (is_some (due_in e.reply)) (item_of e)
key_of deed.Wait e = key_if (gives_ticket e.reply) (caller_in e.who)
key_of deed.Other e = key_if (not (is_lent_call e.call)) (caller_in e.who)

-- ---- the last such entry of this worker, item or caller, and the tick after it

abbrev pub since_entry : List Entry → Entry → Since
since_entry past e = record { entry = length past; tick = now (e ∷ past) }

unfoldable pub last : Deed → List Entry → ℕ → Option Since
last d [] k = None
last d (e ∷ past) k = if is_at (key_of d e) k then Some (since_entry past e) else last d past k

-- ---- tables of them

-- how many rows there are: as many as the pools of the CPUs may have workers, as there are items, or callers
abbrev pub rows_of : Layout → Deed → ℕ
rows_of s deed.Start = 2 * most_workers * s.cpus
rows_of s deed.Sleep = 2 * most_workers * s.cpus
rows_of s deed.Queue = s.items
rows_of s deed.Book = s.items
rows_of s deed.Wait = s.callers
rows_of s deed.Other = s.callers

abbrev pub last_at : List (Option Since) → ℕ → Option Since
last_at rows k = slice_index_or rows k None

pub record IsTable (d : Deed) (many : ℕ) (past : List Entry) (rows : List (Option Since)) : Type 0 where
  pub many_are : length rows ≡ many
  pub each : (k : ℕ) → k < many → last_at rows k ≡ last d past k

-- the table after an entry of this row
abbrev pub noted : List (Option Since) → Option ℕ → Since → List (Option Since)
noted rows None x = rows
noted rows (Some k) x = slice_set rows k (Some x)

-- two tables with as many rows
pub record AreLasts (first second : Deed) (many : ℕ) (past : List Entry) (l : Lasts) : Type 0 where
  pub firsts : IsTable first many past l.first.items
  pub seconds : IsTable second many past l.second.items

-- those of all that a shape has
pub record AreBeginnings (s : Layout) (past : List Entry) (b : Beginnings) : Type 0 where
  pub workers : AreLasts deed.Start deed.Sleep (rows_of s deed.Start) past b.workers
  pub items : AreLasts deed.Queue deed.Book (rows_of s deed.Queue) past b.items
  pub callers : AreLasts deed.Wait deed.Other (rows_of s deed.Wait) past b.callers

abbrev pub table_of : Beginnings → Deed → List (Option Since)
table_of b deed.Start = b.workers.first.items
table_of b deed.Sleep = b.workers.second.items
table_of b deed.Queue = b.items.first.items
table_of b deed.Book = b.items.second.items
table_of b deed.Wait = b.callers.first.items
table_of b deed.Other = b.callers.second.items
