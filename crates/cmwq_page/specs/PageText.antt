-- The text of a page: its head, the rows, and its tail.
use Rattle.std.specs.Prelude.{ℕ, List, [], ◌∷◌, ◌++◌, codes, length, min, max}
use Rattle.cmwq_model.specs.declared.entry.Entry.{Entry}
use Rattle.cmwq_model.specs.declared.shape.Counts.{Counts}
use Rattle.cmwq_model.specs.Prelude.{Layout}
use Rattle.cmwq_chart.specs.declared.bars.Bar.{Bar}
use Rattle.cmwq_chart.specs.declared.levels.Level.{Level}
use Rattle.cmwq_chart.specs.declared.sleeps.Sleep.{Sleep}
use Rattle.cmwq_chart.specs.declared.waits.CallerWait.{CallerWait}
use Rattle.cmwq_chart_text.specs.declared.page.Window.{Window}
use Rattle.cmwq_chart_text.specs.Filled.{filled_template}
use Rattle.cmwq_page.specs.declared.source.TheConstants.{HEAD, TAIL}
use Rattle.cmwq_page.specs.Entries.{entries_text}
use Rattle.cmwq_page.specs.Row.{rows_text}
use Rattle.cmwq_page.specs.Rows as rows

-- the first row: how much there is of everything, and from which entry and up to which are shown first
abbrev pub first_template : List ℕ
first_template = codes "$ $ $ $ $ $ $ $ $ $ $ $\n"

-- the first entry of those n that a window shows
abbrev pub first_shown : Window → ℕ → ℕ
first_shown w n = min w.from n

abbrev pub first_numbers : ℕ → ℕ → ℕ → ℕ → ℕ → ℕ → List CallerWait → List Bar → List Sleep → List Level → Window → List ℕ
first_numbers cpus workers callers items queues n waits runs sleeps levels w =
    cpus ∷ workers ∷ callers ∷ items ∷ queues ∷ n ∷ length waits ∷ length runs ∷ length sleeps ∷ length levels
    ∷ first_shown w n ∷ max (min w.to n) (first_shown w n) ∷ []

abbrev pub first_text : Layout → ℕ → List CallerWait → List Bar → List Sleep → List Level → Window → List ℕ
first_text s n waits runs sleeps levels w =
    filled_template first_template
    (first_numbers s.cpus s.workers s.callers s.items (length s.queues) n waits runs sleeps levels w)

abbrev pub queues_text : Layout → List ℕ
queues_text s = rows_text (λ queue. rows.four) rows.queue_numbers s.queues

abbrev pub waits_text : List CallerWait → List ℕ
waits_text waits = rows_text (λ wait. rows.four) rows.wait_numbers waits

abbrev pub runs_text : List Bar → List ℕ
runs_text runs = rows_text (λ run. rows.four) rows.run_numbers runs

abbrev pub sleeps_text : List Sleep → List ℕ
sleeps_text sleeps = rows_text (λ sleep. rows.three) rows.sleep_numbers sleeps

abbrev pub levels_text : List Level → List ℕ
levels_text levels = rows_text (λ level. rows.six) rows.level_numbers levels

abbrev pub shapes_text : List CallerWait → List Bar → List Sleep → List Level → List ℕ
shapes_text waits runs sleeps levels =
    waits_text waits ++ (runs_text runs ++ (sleeps_text sleeps ++ levels_text levels))

-- the rows of a history with these entries and shapes
unfoldable pub history_text : Layout → List Entry → List CallerWait → List Bar → List Sleep → List Level → Window
    → List ℕ
history_text s entries waits runs sleeps levels w =
    first_text s (length entries) waits runs sleeps levels w
    ++ (queues_text s ++ (entries_text entries ++ shapes_text waits runs sleeps levels))

unfoldable pub page_text : Layout → List Entry → List CallerWait → List Bar → List Sleep → List Level → Window → List ℕ
page_text s entries waits runs sleeps levels w =
    HEAD.now ++ (history_text s entries waits runs sleeps levels w ++ TAIL.now)
