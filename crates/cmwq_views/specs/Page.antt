-- The page of a summary: a line for its entries and ticks, and then the rows of each table, of which those without
-- anything to tell are left out.
use Rattle.cmwq_model.specs.Prelude.{most_cpus, most_workers}
use Rattle.std.specs.Prelude.{ℕ, zero, suc, ◌*◌, ◌/◌, ◌%◌, Bool, ◌==◌, ◌&&◌, if◌then◌else◌, List, [], ◌∷◌, ◌++◌, length}
use Rattle.std.specs.Prelude.{flat_map, codes, decimal}
use Rattle.cmwq_model.specs.declared.id.WorkerId.{WorkerId}
use Rattle.cmwq_model.specs.declared.entry.Entry.{Entry}
use Rattle.cmwq_model.specs.Prelude.{Layout, now, width}
use Rattle.cmwq_summary.specs.declared.counter.Counter.{Counter}
use Rattle.cmwq_summary.specs.declared.counter.Counter.TheVariants as counter
use Rattle.cmwq_summary.specs.Figures.{counted, keys_of}
use Rattle.cmwq_summary.specs.declared.span.Span.{Span}
use Rattle.cmwq_summary.specs.declared.waits.Total.{Total}
use Rattle.cmwq_summary.specs.declared.waits.Waited.{Waited}
use Rattle.cmwq_summary.specs.Openings.{start_waits_at}
use Rattle.cmwq_summary.specs.Spent.{spent_by}
use Rattle.cmwq_summary.specs.Peaks.{most_open_at, most_active_at}
use Rattle.cmwq_summary.specs.TicketWaits.{longest_wait}
use Rattle.cmwq_views.specs.Names.{call_name, reply_name}
use Rattle.cmwq_views.specs.declared.table.Table.{Table}
use Rattle.cmwq_views.specs.declared.table.Table.TheVariants as table

-- a name and a number after it
abbrev pub named_number : List ℕ → ℕ → List ℕ
named_number name n = name ++ decimal n

abbrev pub line_end : List ℕ
line_end = 10 ∷ []

-- ---- a row of each table

abbrev pub call_row : ℕ → ℕ → List ℕ
call_row k n = if n == 0 then [] else codes "call " ++ call_name k ++ named_number (codes ": ") n ++ line_end

abbrev pub reply_row : ℕ → ℕ → List ℕ
reply_row k n = if n == 0 then [] else codes "reply " ++ reply_name k ++ named_number (codes ": ") n ++ line_end

abbrev pub item_row : ℕ → ℕ → ℕ → List ℕ
item_row i runs cancels =
    if (runs == 0) && (cancels == 0) then []
    else named_number (codes "item ") i ++ named_number (codes ": runs ") runs
    ++ named_number (codes ", cancels ") cancels ++ line_end

-- a worker's name, as in a history
abbrev pub letter_of_pool : Bool → List ℕ
letter_of_pool high = if high then codes "h" else codes "n"

abbrev pub worker_of_row : ℕ → WorkerId
worker_of_row w =
    record {
      pool = record { cpu = record { 0 = w / (2 * most_workers) }; high = w / most_workers % 2 == 1 };
      index =
          w % most_workers;
    }

abbrev pub worker_name : WorkerId → List ℕ
worker_name w = named_number (codes "w") w.pool.cpu.0 ++ named_number (letter_of_pool w.pool.high) w.index

-- how long something went on
abbrev pub span_text : List ℕ → Span → List ℕ
span_text name x = named_number name x.entries ++ named_number (codes " entries and ") x.ticks ++ codes " ticks"

abbrev pub worker_row : List Entry → WorkerId → ℕ → List ℕ
worker_row past w runs =
    if runs == 0 then []
    else codes "worker " ++ worker_name w ++ named_number (codes ": runs ") runs
    ++ span_text (codes ", awake ") (spent_by past w).awake
    ++ span_text (codes ", asleep ") (spent_by past w).asleep ++ line_end

abbrev pub place_name : ℕ → List ℕ
place_name p = named_number (codes "queue ") (p / most_cpus) ++ named_number (codes " on CPU ") (p % most_cpus)

-- how long so many things waited, or a dash where there are none
abbrev pub waited_text : List ℕ → ℕ → Span → List ℕ
waited_text name many x = if many == 0 then name ++ codes "-" else span_text name x

abbrev pub longest_text : ℕ → Span → List ℕ
longest_text many x = waited_text (codes ", longest wait ") many x

-- the mean is rounded down
abbrev pub mean_text : ℕ → Total → List ℕ
mean_text many all = waited_text (codes ", mean wait ") many
    (record { entries = all.entries / many; ticks = all.ticks / many })

abbrev pub caller_row : List Entry → ℕ → ℕ → List ℕ
caller_row past c calls =
    if calls == 0 then []
    else named_number (codes "caller c") c ++ named_number (codes ": calls ") calls
    ++ named_number (codes ", tickets ") (counted counter.CallerTickets past c)
    ++ longest_text (counted counter.CallerTickets past c) (longest_wait past c) ++ line_end

-- how long so many starts waited: the longest wait, and the mean of all of them together
abbrev pub starts_text : ℕ → Waited → List ℕ
starts_text many w = longest_text many w.longest ++ mean_text many w.all

-- numbers, each after its heading
abbrev pub numbers_text : List (List ℕ × ℕ) → List ℕ
numbers_text numbers = flat_map (λ (n : List ℕ × ℕ). named_number n.0 n.1) numbers

-- how many queueings, starts and cancelled queueings there are of a queue on a CPU, its width, and how many were open and
-- active at once, at most
abbrev pub place_numbers : Layout → List Entry → ℕ → List (List ℕ × ℕ)
place_numbers s past p =
    (codes ": queueings ", counted counter.Queueings past p) ∷ (codes ", starts ", counted counter.Starts past p)
    ∷ (codes ", cancelled ", counted counter.Cancels past p) ∷ (codes ", width ", width s past (p / most_cpus))
    ∷ (codes ", most open ", most_open_at p past) ∷ (codes ", most active ", most_active_at s p past) ∷ []

abbrev pub place_waits : List Entry → ℕ → List ℕ
place_waits past p = starts_text (counted counter.Starts past p) (start_waits_at past p)

abbrev pub place_row : Layout → List Entry → ℕ → List ℕ
place_row s past p = if counted counter.Queueings past p == 0 then [] else place_name p ++ numbers_text (place_numbers s past p)
    ++ place_waits past p ++ line_end

abbrev pub row_text : Layout → List Entry → Table → ℕ → List ℕ
row_text s past table.Calls k = call_row k (counted counter.Calls past k)
row_text s past table.Replies k = reply_row k (counted counter.Replies past k)
row_text s past table.Places p = place_row s past p
row_text s past table.Workers w = worker_row past (worker_of_row w) (counted counter.WorkerRuns past w)
row_text s past table.Items i = item_row i (counted counter.ItemRuns past i) (counted counter.ItemCancels past i)
row_text s past table.Callers c = caller_row past c (counted counter.CallerCalls past c)

-- ---- the tables

-- what its rows are numbered by
abbrev pub counter_of : Table → Counter
counter_of table.Calls = counter.Calls
counter_of table.Replies = counter.Replies
counter_of table.Places = counter.Queueings
counter_of table.Workers = counter.WorkerRuns
counter_of table.Items = counter.ItemRuns
counter_of table.Callers = counter.CallerCalls

abbrev pub row_count : Layout → Table → ℕ
row_count s t = keys_of s (counter_of t)

-- the rows of the numbers below this one, in their order
unfoldable pub rows_text : (ℕ → List ℕ) → ℕ → List ℕ
rows_text row zero = []
rows_text row (suc n) = rows_text row n ++ row n

abbrev pub rows_of_table : Layout → List Entry → Table → List ℕ
rows_of_table s past t = rows_text (row_text s past t) (row_count s t)

-- ---- the page

abbrev pub line_of_entries : ℕ → ℕ → List ℕ
line_of_entries entries ticks = named_number (codes "entries ") entries ++ named_number (codes ", ticks ") ticks
    ++ line_end

-- the tables, in their order
abbrev pub tables : List Table
tables = table.Calls ∷ table.Replies ∷ table.Places ∷ table.Workers ∷ table.Items ∷ table.Callers ∷ []

abbrev pub page_text : Layout → List Entry → List ℕ
page_text s past = line_of_entries (length past) (now past) ++ flat_map (rows_of_table s past) tables
