-- The text of each part of a picture: a template, in which each hole stands for a number. A run, a sleep, a wait or a
-- level is a part in each band in which it stands.
use Rattle.std.specs.Prelude.{ℕ, ◌+◌, ◌-◌, ◌*◌, ◌/◌, ◌%◌, Bool, if◌then◌else◌, List, [], ◌∷◌, ◌++◌, Option}
use Rattle.std.specs.Prelude.{is_some, min, nat_lt, slice_get}
use Rattle.std.specs.Option.{option_map_or}
use Rattle.cmwq_model.specs.declared.entry.Entry.{Entry}
use Rattle.cmwq_model.specs.declared.id.Who.{Who}
use Rattle.cmwq_model.specs.declared.id.Who.TheVariants as who
pub use Rattle.cmwq_text.specs.EntryText.{entry_text}
use Rattle.cmwq_chart.specs.declared.bars.Bar.{Bar}
use Rattle.cmwq_chart.specs.declared.levels.Level.{Level}
use Rattle.cmwq_chart.specs.declared.signs.Sign.{Sign}
use Rattle.cmwq_chart.specs.declared.signs.SignKind.{SignKind}
use Rattle.cmwq_chart.specs.declared.signs.SignKind.TheVariants as kind
use Rattle.cmwq_chart.specs.declared.sleeps.Sleep.{Sleep}
use Rattle.cmwq_chart.specs.declared.waits.CallerWait.{CallerWait}
use Rattle.cmwq_chart.specs.declared.waits.WaitSign.{WaitSign}
use Rattle.cmwq_chart_text.specs.declared.figures.Figure.{Figure}
use Rattle.cmwq_chart_text.specs.declared.figures.Figure.TheVariants as figure
use Rattle.cmwq_chart_text.specs.declared.figures.Row.{Row}
use Rattle.cmwq_chart_text.specs.declared.figures.Row.TheVariants as row
use Rattle.cmwq_chart_text.specs.declared.page.Page.{Page}
use Rattle.cmwq_chart_text.specs.declared.part.Frame.{Frame}
use Rattle.cmwq_chart_text.specs.declared.part.Part.{Part}
use Rattle.cmwq_chart_text.specs.declared.part.What.{What}
use Rattle.cmwq_chart_text.specs.declared.part.What.TheVariants as what
use Rattle.cmwq_chart_text.specs.declared.templates.TheConstants as template
use Rattle.cmwq_chart_text.specs.Filled.{filled_template}
use Rattle.cmwq_chart_text.specs.Pages.{middle_of, worker_letter}
use Rattle.cmwq_chart_text.specs.Spans.{span_end, span_left, span_width}

-- ---- the name of a row, with a line through it, and of a queue on a CPU with what its edges stand for
abbrev pub name_text : ℕ → ℕ → Row → List ℕ
name_text scale top (row.Caller c) = filled_template template.CALLER.now ((top + 11) ∷ c.0 ∷ (top + 7) ∷ [])
name_text scale top (row.Worker w) = filled_template template.WORKER.now
    ((top + 11) ∷ w.pool.cpu.0 ∷ worker_letter w ∷ w.index ∷ (top + 7) ∷ [])
name_text scale top (row.Place p) = filled_template template.PLACE.now
    ((top + 16) ∷ p.queue.0 ∷ p.cpu.0 ∷ (top + 29) ∷ scale ∷ (top + 32) ∷ [])

-- ---- a rectangle for each run and sleep, and for each wait below its caller
abbrev pub bar_numbers : Page → ℕ → ℕ → Bar → List ℕ
bar_numbers p band top bar =
    (bar.item.0 % 10) ∷ bar.item.0 ∷ bar.number ∷ bar.worker.pool.cpu.0 ∷ worker_letter bar.worker ∷ bar.worker.index
    ∷ span_left p bar.from band ∷ top ∷ span_width p bar.from bar.to band
    ∷ bar.item.0 ∷ bar.number ∷ bar.from ∷ (span_end p bar.to - 1) ∷ []

abbrev pub sleep_numbers : Page → ℕ → ℕ → Sleep → List ℕ
sleep_numbers p band top sleep =
    span_left p sleep.from band ∷ top ∷ span_width p sleep.from sleep.to band ∷ sleep.from ∷ (span_end p sleep.to - 1)
    ∷ []

-- the upper edge of a row of its caller's waits
abbrev pub wait_top : ℕ → ℕ → ℕ
wait_top top row = top + 18 * (1 + min row 63)

abbrev pub wait_numbers : Page → ℕ → ℕ → CallerWait → List ℕ
wait_numbers p band top wait =
    wait.caller.0 ∷ wait.from ∷ span_left p wait.from band ∷ (wait_top top wait.row + 4)
    ∷ span_width p wait.from wait.to band
    ∷ wait.caller.0 ∷ wait.from ∷ wait.from ∷ (span_end p wait.to - 1) ∷ []

-- ---- levels: what is open and what is active as rectangles upwards from the base line of the row, and the width as a
-- dashed line; a width above the scale is a dotted line at the upper edge
abbrev pub level_height : ℕ → ℕ → ℕ
level_height scale n = 28 * min n scale / scale

abbrev pub level_template : ℕ → Level → List ℕ
level_template scale level = if nat_lt scale level.height.width then template.LEVEL_ABOVE.now else template.LEVEL.now

abbrev pub level_numbers : Frame → ℕ → ℕ → Level → List ℕ
level_numbers g band top level =
    level.place.queue.0 ∷ level.place.cpu.0 ∷ level.height.open_count ∷ level.height.active_count ∷ level.height.width
    ∷ level.from ∷ (span_end g.page level.to - 1)
    ∷ span_left g.page level.from band ∷ ((top + 32) - level_height g.scale level.height.open_count)
    ∷ span_width g.page level.from level.to band ∷ level_height g.scale level.height.open_count
    ∷ span_left g.page level.from band ∷ ((top + 32) - level_height g.scale level.height.active_count)
    ∷ span_width g.page level.from level.to band ∷ level_height g.scale level.height.active_count
    ∷ span_left g.page level.from band ∷ ((top + 32) - level_height g.scale level.height.width)
    ∷ span_width g.page level.from level.to band ∷ []

-- ---- marks: in the row of who did it, with the entry's line as its tooltip
abbrev pub line_at : List Entry → ℕ → List ℕ
line_at entries at = option_map_or entry_text (slice_get entries at) []

unfoldable pub mark_text : List Entry → List ℕ → List ℕ → ℕ → List ℕ
mark_text entries head numbers at = filled_template head numbers
    ++ (line_at entries at ++ template.MARK_END.now)

abbrev pub sign_template : SignKind → List ℕ
sign_template kind.Queued = template.QUEUED.now
sign_template kind.Delayed = template.DELAYED.now
sign_template kind.Fired = template.FIRED.now
sign_template kind.Cancelled = template.CANCELLED.now
sign_template kind.Waits = template.WAITS.now
sign_template kind.Tick = template.TICK.now
sign_template kind.Changed = template.CHANGED.now
sign_template kind.Refused = template.REFUSED.now

-- a shade for each item by its last digit, and one for what is of no item
abbrev pub item_shade : Option ℕ → ℕ
item_shade item = option_map_or (λ i. i % 10) item 10

-- those of a worker stand below its bars
abbrev pub sign_middle : Who → ℕ
sign_middle (who.Caller c) = 7
sign_middle (who.Worker w) = 21

abbrev pub sign_numbers : Page → ℕ → Sign → List ℕ
sign_numbers p top sign = item_shade sign.item ∷ middle_of p sign.at ∷ (top + sign_middle sign.who) ∷ []

-- where the end of a wait was asked for: a ring while it goes on, a dot where it is done
abbrev pub wait_sign_template : Bool → List ℕ
wait_sign_template is_done = if is_done then template.DONE.now else template.WAITING.now

abbrev pub wait_sign_numbers : Page → ℕ → WaitSign → List ℕ
wait_sign_numbers p top sign = middle_of p sign.at ∷ (wait_top top sign.row + 7) ∷ []

-- ---- a shape in a band
abbrev pub figure_text : Frame → List Entry → ℕ → ℕ → Figure → List ℕ
figure_text g entries band top (figure.Wait wait) =
    filled_template (if is_some wait.to then template.WAIT.now else template.WAIT_ON.now)
    (wait_numbers g.page band top wait)
figure_text g entries band top (figure.WaitSign sign) =
    mark_text entries (wait_sign_template sign.is_done) (wait_sign_numbers g.page top sign) sign.at
figure_text g entries band top (figure.Bar bar) =
    filled_template (if is_some bar.to then template.RUN.now else template.RUN_ON.now) (bar_numbers g.page band top bar)
figure_text g entries band top (figure.Sleep sleep) =
    filled_template template.SLEEP.now (sleep_numbers g.page band top sleep)
figure_text g entries band top (figure.Sign sign) =
    mark_text entries (sign_template sign.kind) (sign_numbers g.page top sign) sign.at
figure_text g entries band top (figure.Level level) =
    filled_template (level_template g.scale level) (level_numbers g band top level)

-- ---- numbers of entries, each over a line through rows of this height, and the items of bars and of signs
abbrev pub number_numbers : Page → ℕ → ℕ → ℕ → List ℕ
number_numbers p top entry height = middle_of p entry ∷ (top + 18) ∷ (4 + height) ∷ middle_of p entry ∷ (top + 14)
    ∷ entry ∷ []

abbrev pub caption_numbers : Page → ℕ → ℕ → Bar → List ℕ
caption_numbers p band top bar = (span_left p bar.from band + 2) ∷ (top + 11) ∷ bar.item.0 ∷ []

abbrev pub label_numbers : Page → ℕ → Sign → List ℕ
label_numbers p top sign =
    (middle_of p sign.at + 4) ∷ (top + sign_middle sign.who + 3) ∷ option_map_or (λ i. i) sign.item 0 ∷ []

abbrev pub what_text : Frame → List Entry → ℕ → ℕ → What → List ℕ
what_text g entries band top (what.Row r) = name_text g.scale top r
what_text g entries band top (what.Number n height) =
    filled_template template.NUMBER.now (number_numbers g.page top n height)
what_text g entries band top (what.Figure f) = figure_text g entries band top f
what_text g entries band top (what.Caption bar) =
    filled_template template.CAPTION.now (caption_numbers g.page band top bar)
what_text g entries band top (what.Label sign) = filled_template template.LABEL.now (label_numbers g.page top sign)

abbrev pub part_text : Frame → List Entry → Part → List ℕ
part_text g entries part = what_text g entries part.band part.top part.what
