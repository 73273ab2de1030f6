-- Laws of bands: a figure stands in each band that shows one of its entries, and in no other.
use Rattle.std.specs.Prelude.{◌≡◌, ◌⊎◌, ◌↔◌, ℕ, ◌≤◌, true, false, IfSome}
use Rattle.cmwq_chart_text.specs.declared.figures.Figure.{Figure}
use Rattle.cmwq_chart_text.specs.declared.page.Page.{Page}
use Rattle.cmwq_chart_text.specs.Bands.{stands_in}
use Rattle.cmwq_chart_text.specs.Figures.{figure_from, figure_to, is_flat}
use Rattle.cmwq_chart_laws.specs.Drawn.{IsShownIn}

-- one of a figure's entries is shown in the band: it has those from its first to its last, or to the end
pub record HasEntryIn (p : Page) (f : Figure) (band : ℕ) : Type 0 where
  pub at : ℕ
  pub begun : figure_from f ≤ at
  pub not_over : IfSome (figure_to f) (λ last. at ≤ last)
  pub is_shown : IsShownIn p band at

abbrev pub FiguresStandWithEntries : Type 0
FiguresStandWithEntries = (p : Page) (f : Figure) (band : ℕ) → is_flat f ≡ false
    → (stands_in p band f ≡ true) ↔ HasEntryIn p f band

-- a level at which nothing is open stands in the first and the last of these bands alone
abbrev pub IsFirstOrLast : Page → Figure → ℕ → Type 0
IsFirstOrLast p f band = ((b : ℕ) → HasEntryIn p f b → band ≤ b) ⊎ ((b : ℕ) → HasEntryIn p f b → b ≤ band)

abbrev pub FlatLevelsStandAtTheirEnds : Type 0
FlatLevelsStandAtTheirEnds = (p : Page) (f : Figure) (band : ℕ) → is_flat f ≡ true
    → (stands_in p band f ≡ true) ↔ (HasEntryIn p f band × IsFirstOrLast p f band)
