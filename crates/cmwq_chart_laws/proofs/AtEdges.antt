-- Where the edges of a figure stand.
use Rattle.std.proofs.Common.{◌≡◌, ℕ, ◌+◌, ◌-◌, ◌*◌, ◌/◌, ◌<◌, ◌≤◌, Bool, true, false, Option, Some, None, max, min}
use Rattle.std.proofs.Common.{IfSome, add-mul, suc, refl, ap, ◌∙◌, subst, arith, suc-mul, add-one, nat_le}
use Rattle.std.proofs.Common.{mul-le-mul_right}
use Rattle.std.specs.Prelude.{if◌then◌else◌}
use Rattle.std.specs.List.{AllByRecursion}
use Rattle.cmwq_lemmas.proofs.Lists.{All_map}
use Rattle.cmwq_chart.specs.declared.bars.Bar.{Bar}
use Rattle.cmwq_chart.specs.Bars.{bars_of}
use Rattle.cmwq_chart_text.specs.declared.figures.Figure.TheVariants as figure
use Rattle.cmwq_chart_text.specs.declared.page.Page.{Page}
use Rattle.cmwq_chart_text.specs.Bands.{stands_in}
use Rattle.cmwq_chart_text.specs.Pages.{band_of, band_start, column_at, column_width, columns, end_in}
use Rattle.cmwq_chart_text.specs.Pages.{from_in, middle_of, width_of}
use Rattle.cmwq_chart_text.specs.Spans.{span_end, span_left, span_width}
use Rattle.cmwq_output_laws.specs.BarLaws.{AreApart, EndsBefore}
use Rattle.cmwq_output_laws.proofs.OneBar.{lanes_are_apart}
use Rattle.cmwq_chart_laws.specs.Drawn.{IsShownIn}
use Rattle.cmwq_chart_laws.specs.Edges.{AreBeside, BarsDoNotOverlap, ColumnsAreApart, FiguresHaveEdges, GoesOnBehind}
use Rattle.cmwq_chart_laws.specs.Edges.{MarksAreInside, span_right}
use Rattle.cmwq_chart_laws.specs.Standing.{HasEntryIn}
use Rattle.cmwq_chart_laws.proofs.StandIn.{band_parts, entry_of, width_bounds}

width_cases : (p : Page) → (1 < column_width p) × (column_width p / 2 < column_width p)
width_cases p = let b = width_bounds p in (omega arith, omega arith)

one_more : (b c : ℕ) → (b + 1) * c ≡ b * c + c
one_more b c = let e : b + 1 ≡ suc b = add-one b in ap (λ n. n * c) e ∙ suc-mul b c

pub next_column : (p : Page) (band at : ℕ) → band_start p band ≤ at
    → column_at p band (at + 1) ≡ column_at p band at + column_width p
unfolding column_at
next_column p band at low =
    let same : at + 1 - band_start p band ≡ (at - band_start p band) + 1 = omega arith in
    let one = one_more (at - band_start p band) (column_width p) in
    let both : (at + 1 - band_start p band) * column_width p
    ≡ ((at - band_start p band) + 1) * column_width p = ap (λ n. n * column_width p) same in
    omega arith

pub columns_are_apart : ColumnsAreApart
columns_are_apart p band at is = next_column p band at (band_parts p band at is.begun is.in_band).0

pub marks_are_inside : MarksAreInside
unfolding middle_of
marks_are_inside p band at is =
    let next = columns_are_apart p band at is in
    let w = width_cases p in
    let half = w.1 in
    let same : column_at p (band_of p at) at ≡ column_at p band at = ap (λ b. column_at p b at) is.in_band in
    record { since = omega arith; before = omega arith }

-- columns rise, and so many of them are so wide
pub columns_rise : (p : Page) (band a b : ℕ) → a ≤ b → column_at p band a ≤ column_at p band b
unfolding column_at
columns_rise p band a b less =
    let k : (a - band_start p band) * column_width p ≤ (b - band_start p band) * column_width p =
    mul-le-mul_right (column_width p) (let m : a - band_start p band ≤ b - band_start p band = omega arith in m) in
    omega arith

pub columns_between : (p : Page) (band a b : ℕ) → band_start p band ≤ a → a ≤ b
    → column_at p band a + (b - a) * column_width p ≡ column_at p band b
unfolding column_at
columns_between p band a b low less =
    let same : b - band_start p band ≡ (a - band_start p band) + (b - a) = omega arith in
    let both : (b - band_start p band) * column_width p
    ≡ (a - band_start p band) * column_width p + (b - a) * column_width p =
    ap (λ n. n * column_width p) same ∙ add-mul (a - band_start p band) (b - a) (column_width p) in
    omega arith

-- ---- the first and the last entry of a figure that a band shows

from_in_is : (p : Page) (band from : ℕ) → from_in p band from ≡ max from (band_start p band)
unfolding from_in
from_in_is p band from = refl

end_in_is : (p : Page) (band end : ℕ) → end_in p band end ≡ min (min end p.end) (band_start p band + columns p)
unfolding end_in
end_in_is p band end = refl

span_end_is : (p : Page) (last : ℕ) → span_end p (Some last) ≡ last + 1
unfolding span_end
span_end_is p last = refl

left_is : (p : Page) (band from : ℕ) → span_left p from band ≡ column_at p band (from_in p band from)
unfolding span_left
left_is p band from = refl

-- the right edge is where the column begins up to which it is shown
right_is : (p : Page) (from : ℕ) (to : Option ℕ) (band : ℕ)
    → from_in p band from ≤ end_in p band (span_end p to)
    → span_right p from to band ≡ column_at p band (end_in p band (span_end p to))
unfolding span_left span_width width_of
right_is p from to band less =
    columns_between p band (from_in p band from) (end_in p band (span_end p to))
    (let is = from_in_is p band from in omega arith) less

behind_is : (p : Page) (band : ℕ) (to : Option ℕ) → GoesOnBehind p band to
    → end_in p band (span_end p to) ≡ end_in p band p.end
unfolding span_end end_in
behind_is p band None h = refl
behind_is p band (Some last) h = let k : min (min p.end p.end) (band_start p band + columns p) ≤ last = h in omega arith

ended_is : (p : Page) (band last : ℕ) → IsShownIn p band last → end_in p band (span_end p (Some last)) ≡ last + 1
unfolding span_end end_in
ended_is p band last is =
    let k = (band_parts p band last is.begun is.in_band).1 in let m = is.not_over in omega arith

shown_before : (p : Page) (band at : ℕ) → IsShownIn p band at → (band_start p band ≤ at) × (at < end_in p band p.end)
shown_before p band at is =
    let k = band_parts p band at is.begun is.in_band in
    let low = k.0 in let high = k.1 in let m = is.not_over in let e = end_in_is p band p.end in
    (low, omega arith)

pub figures_have_edges : FiguresHaveEdges
figures_have_edges p from to band = record {
  begins = λ is.
      let k = (band_parts p band from is.begun is.in_band).0 in let m = from_in_is p band from in
      let same : from_in p band from ≡ from = omega arith in
      left_is p band from ∙ ap (column_at p band) same;
  began = λ early.
      let m = from_in_is p band from in
      let same : from_in p band from ≡ band_start p band = omega arith in
      left_is p band from ∙ ap (column_at p band) same;
  ends = λ last ends later is.
      let same : end_in p band (span_end p to) ≡ last + 1 =
      ap (λ (o : Option ℕ). end_in p band (span_end p o)) ends ∙ ended_is p band last is in
      let low = (band_parts p band last is.begun is.in_band).0 in
      let m = from_in_is p band from in
      right_is p from to band (omega arith) ∙ ap (column_at p band) same;
  goes_on = λ at later is behind.
      let same = behind_is p band to behind in
      let k = shown_before p band at is in let low = k.0 in let high = k.1 in
      let m = from_in_is p band from in
      right_is p from to band (omega arith) ∙ ap (column_at p band) same;
}

-- ---- bars of a worker

right_before : (p : Page) (b c : Bar) (band : ℕ) → EndsBefore b.to c.from → stands_in p band (figure.Bar b) ≡ true
    → span_right p b.from b.to band ≤ span_left p c.from band
right_before p b c band before stands = by b.to refl before
  where
    one : HasEntryIn p (figure.Bar b) band
    one = entry_of p (figure.Bar b) band stands

    by : (o : Option ℕ) → b.to ≡ o → EndsBefore o c.from → span_right p b.from b.to band ≤ span_left p c.from band
    by None is h = absurd h
    by (Some last) is h =
        let at : ℕ = one.at in
        let within : at ≤ last = subst (λ (o : Option ℕ). IfSome o (λ t. one.at ≤ t)) is one.not_over in
        let begun : b.from ≤ at = one.begun in
        let k = shown_before p band one.at one.is_shown in
        let low = k.0 in let high = k.1 in
        let whole = end_in_is p band p.end in
        let part = end_in_is p band (span_end p b.to) in
        let end = ap (span_end p) is ∙ span_end_is p last in
        let first = from_in_is p band b.from in
        let other = from_in_is p band c.from in
        let right = right_is p b.from b.to band (omega arith) in
        let left = left_is p band c.from in
        let rises = columns_rise p band (end_in p band (span_end p b.to)) (from_in p band c.from) (omega arith) in
        omega arith

pub bars_do_not_overlap : BarsDoNotOverlap
bars_do_not_overlap s past legal p band =
    All_map (λ b. AllByRecursion (AreApart b) (bars_of past))
    (λ b. AllByRecursion (AreBeside p band b) (bars_of past)) (bars_of past)
    (λ b all. All_map (AreApart b) (AreBeside p band b) (bars_of past)
    (λ c apart same less here there. right_before p b c band (apart same less) here) all)
    (lanes_are_apart s past legal)
