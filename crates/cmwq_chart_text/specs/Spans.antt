-- Where a span of entries stands, as a bar or a sleep is one: from an entry up to and with another, or to the end of
-- what is shown.
use Rattle.std.specs.Prelude.{ℕ, ◌+◌, Option, max, min}
use Rattle.std.specs.Option.{option_map_or}
use Rattle.cmwq_chart_text.specs.declared.page.Page.{Page}
use Rattle.cmwq_chart_text.specs.Pages.{column_at, width_of, from_in, end_in, band_of, bands_end}

unfoldable pub span_end : Page → Option ℕ → ℕ
span_end p to = option_map_or (λ last. last + 1) to p.end

-- its edges in a band
unfoldable pub span_left : Page → ℕ → ℕ → ℕ
span_left p from band = column_at p band (from_in p band from)

unfoldable pub span_width : Page → ℕ → Option ℕ → ℕ → ℕ
span_width p from to band = width_of p (from_in p band from) (end_in p band (span_end p to))

-- the first entry of it that is shown, and the end of those; the bands from that of the first on, up to an end
unfoldable pub first_shown : Page → ℕ → ℕ
first_shown p from = max from p.first

unfoldable pub end_shown : Page → Option ℕ → ℕ
end_shown p to = min (span_end p to) p.end

unfoldable pub span_band : Page → ℕ → ℕ
span_band p from = band_of p (first_shown p from)

unfoldable pub span_bands_end : Page → ℕ → Option ℕ → ℕ
span_bands_end p from to = bands_end p (first_shown p from) (end_shown p to)
