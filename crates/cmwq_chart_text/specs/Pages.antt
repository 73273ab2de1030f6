-- Where on the page an entry stands. All lengths are in the units of the picture; a character of a text is some 6 wide.
use Rattle.std.specs.Prelude.{ℕ, ◌+◌, ◌-◌, ◌*◌, ◌/◌, if◌then◌else◌, min, max, nat_lt, nat_le}
use Rattle.cmwq_model.specs.declared.id.WorkerId.{WorkerId}
use Rattle.cmwq_chart_text.specs.declared.page.Page.{Page}
use Rattle.cmwq_chart_text.specs.declared.page.Window.{Window}

-- the page of what a window shows of n entries
unfoldable pub page_of : Window → ℕ → Page
page_of w n = record { first = min w.from n; end = max (min w.to n) (min w.from n) }

-- how many entries are shown, how wide the column of each is, and how many columns a band has: those of all entries
-- take up the width of a band, but are not wider than 24 and not narrower than 6
abbrev pub entries_shown : Page → ℕ
entries_shown p = p.end - p.first

unfoldable pub column_width : Page → ℕ
column_width p = max 6 (min 24 (1080 / max 1 (entries_shown p)))

unfoldable pub columns : Page → ℕ
columns p = 1080 / column_width p

-- the band of an entry, and the first entry of a band
unfoldable pub band_of : Page → ℕ → ℕ
band_of p place = (place - p.first) / columns p

unfoldable pub band_start : Page → ℕ → ℕ
band_start p band = p.first + band * columns p

-- the end of the bands in which the entries from one up to an end stand
unfoldable pub bands_end : Page → ℕ → ℕ → ℕ
bands_end p from end = if nat_lt from end then band_of p (end - 1) + 1 else 0

abbrev pub bands : Page → ℕ
bands p = bands_end p p.first p.end

-- where the column of an entry begins in its band, and how wide the columns from one up to another are
unfoldable pub column_at : Page → ℕ → ℕ → ℕ
column_at p band place = 100 + (place - band_start p band) * column_width p

unfoldable pub width_of : Page → ℕ → ℕ → ℕ
width_of p from end = (end - from) * column_width p

unfoldable pub middle_of : Page → ℕ → ℕ
middle_of p place = column_at p (band_of p place) place + column_width p / 2

-- from which entry on a span of entries stands in a band, and up to which
unfoldable pub from_in : Page → ℕ → ℕ → ℕ
from_in p band from = max from (band_start p band)

unfoldable pub end_in : Page → ℕ → ℕ → ℕ
end_in p band end = min (min end p.end) (band_start p band + columns p)

-- the letter of a worker's pool: h or n
unfoldable pub worker_letter : WorkerId → ℕ
worker_letter w = if w.pool.high then 104 else 110
