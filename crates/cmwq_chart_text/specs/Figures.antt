-- What is drawn: shapes, one list of all, and the rows in which they stand.
use Rattle.std.specs.Prelude.{ℕ, ◌+◌, ◌*◌, ◌==◌, Bool, false, if◌then◌else◌, List, ◌++◌, map, min, Option, Some}
use Rattle.cmwq_model.specs.declared.id.Who.{Who}
use Rattle.cmwq_model.specs.declared.id.Who.TheVariants as who
use Rattle.cmwq_chart.specs.declared.bars.Bar.{Bar}
use Rattle.cmwq_chart.specs.declared.levels.Level.{Level}
use Rattle.cmwq_chart.specs.declared.signs.Sign.{Sign}
use Rattle.cmwq_chart.specs.declared.sleeps.Sleep.{Sleep}
use Rattle.cmwq_chart.specs.declared.waits.CallerWait.{CallerWait}
use Rattle.cmwq_chart.specs.declared.waits.WaitSign.{WaitSign}
use Rattle.cmwq_chart_text.specs.declared.figures.Figure.{Figure}
use Rattle.cmwq_chart_text.specs.declared.figures.Figure.TheVariants as figure
use Rattle.cmwq_chart_text.specs.declared.figures.Row.{Row}
use Rattle.cmwq_chart_text.specs.declared.figures.Row.TheVariants as row

-- ---- each row has a number of its own: callers first, then workers by CPU, pool and index, then places by queue and
-- CPU
abbrev pub row_number : Row → ℕ
row_number (row.Caller c) = c.0
row_number (row.Worker w) = 256 + 512 * w.pool.cpu.0 + (if w.pool.high then 256 else 0) + w.index
row_number (row.Place p) = 131328 + 256 * p.queue.0 + p.cpu.0

abbrev pub most_rows : ℕ
most_rows = 196864

-- that of a caller has those of its waits below it, and that of a worker its signs below its bars
abbrev pub row_height : Row → ℕ → ℕ
row_height (row.Caller c) waits = 18 * (1 + waits)
row_height (row.Worker w) waits = 28
row_height (row.Place p) waits = 36

-- ---- the row of a shape, and from which entry to which it stands there
abbrev pub who_row : Who → Row
who_row (who.Caller c) = row.Caller c
who_row (who.Worker w) = row.Worker w

abbrev pub figure_row : Figure → Row
figure_row (figure.Wait wait) = row.Caller wait.caller
figure_row (figure.WaitSign sign) = row.Caller sign.caller
figure_row (figure.Bar bar) = row.Worker bar.worker
figure_row (figure.Sleep sleep) = row.Worker sleep.worker
figure_row (figure.Sign sign) = who_row sign.who
figure_row (figure.Level level) = row.Place level.place

abbrev pub figure_number : Figure → ℕ
figure_number f = row_number (figure_row f)

abbrev pub figure_from : Figure → ℕ
figure_from (figure.Wait wait) = wait.from
figure_from (figure.WaitSign sign) = sign.at
figure_from (figure.Bar bar) = bar.from
figure_from (figure.Sleep sleep) = sleep.from
figure_from (figure.Sign sign) = sign.at
figure_from (figure.Level level) = level.from

abbrev pub figure_to : Figure → Option ℕ
figure_to (figure.Wait wait) = wait.to
figure_to (figure.WaitSign sign) = Some sign.at
figure_to (figure.Bar bar) = bar.to
figure_to (figure.Sleep sleep) = sleep.to
figure_to (figure.Sign sign) = Some sign.at
figure_to (figure.Level level) = level.to

-- up to which row of its caller's waits it stands, of which there are 64 at most
abbrev pub wait_rows : Figure → ℕ
wait_rows (figure.Wait wait) = min wait.row 63 + 1
wait_rows (figure.WaitSign sign) = min sign.row 63 + 1
wait_rows f = 0

-- how many are open, at a level, and whether it is one at which nothing is, which shows nothing
abbrev pub figure_open : Figure → ℕ
figure_open (figure.Level level) = level.height.open_count
figure_open f = 0

abbrev pub is_flat : Figure → Bool
is_flat (figure.Level level) = level.height.open_count == 0
is_flat f = false

-- all of them, in the order in which those of a row are drawn
abbrev pub figures_of : List CallerWait → List WaitSign → List Bar → List Sleep → List Sign → List Level → List Figure
figures_of waits wait_signs bars sleeps signs levels =
    map figure.Wait waits ++ map figure.WaitSign wait_signs ++ map figure.Bar bars ++ map figure.Sleep sleeps
    ++ map figure.Sign signs ++ map figure.Level levels
