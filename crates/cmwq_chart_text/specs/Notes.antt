-- Which entries have numbers, and which bars and signs their items.
use Rattle.std.specs.Prelude.{ℕ, ◌+◌, ◌*◌, ◌/◌, ◌%◌, ◌==◌, Bool, false, ◌&&◌, ◌||◌, if◌then◌else◌, Option, Some, None}
use Rattle.std.specs.Prelude.{nat_le, nat_lt}
use Rattle.std.specs.Option.{option_map_or}
use Rattle.cmwq_chart.specs.declared.bars.Bar.{Bar}
use Rattle.cmwq_chart.specs.declared.signs.Sign.{Sign}
use Rattle.cmwq_chart_text.specs.declared.figures.Figure.{Figure}
use Rattle.cmwq_chart_text.specs.declared.figures.Figure.TheVariants as figure
use Rattle.cmwq_chart_text.specs.declared.page.Page.{Page}
use Rattle.cmwq_chart_text.specs.declared.part.What.{What}
use Rattle.cmwq_chart_text.specs.declared.part.What.TheVariants as what
use Rattle.cmwq_chart_text.specs.Pages.{column_width, entries_shown}
use Rattle.cmwq_chart_text.specs.Spans.{span_width}

-- every fifth entry, or where columns are narrow every tenth; the first entry that is shown, where no fifth one is
abbrev pub has_number : Page → ℕ → Bool
has_number p place = (place % (if nat_le (entries_shown p) 90 then 5 else 10) == 0)
    || ((place == p.first) && nat_le p.end ((p.first + 4) / 5 * 5))

-- how wide a bar must be for the digits of its item
abbrev pub caption_width : ℕ → ℕ
caption_width item = if nat_lt item 10 then 10 else if nat_lt item 100 then 17 else if nat_lt item 1000 then 24
    else if nat_lt item 10000 then 31 else 37

abbrev pub has_caption : Page → ℕ → Bar → Bool
has_caption p band bar = nat_le (caption_width bar.item.0) (span_width p bar.from bar.to band)

-- how wide a column must be for the digits of an item beside its sign
abbrev pub label_width : ℕ → ℕ
label_width item = if nat_lt item 10 then 13 else if nat_lt item 100 then 18 else if nat_lt item 1000 then 24 else 29

abbrev pub has_label : Page → Sign → Bool
has_label p sign = option_map_or (λ i. nat_le (label_width i) (column_width p)) sign.item false

abbrev pub note_of : Page → ℕ → Figure → Option What
note_of p band (figure.Bar bar) = if has_caption p band bar then Some (what.Caption bar) else None
note_of p band (figure.Sign sign) = if has_label p sign then Some (what.Label sign) else None
note_of p band f = None
