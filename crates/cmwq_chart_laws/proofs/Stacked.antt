-- Rows stand one below the other.
use Rattle.std.proofs.Common.{◌≡◌, ℕ, ◌+◌, ◌-◌, ◌<◌, ◌≤◌, true, false, List, [], ◌∷◌, ◌++◌}
use Rattle.std.proofs.Common.{map, filter, flat_map, fold, Some, refl, sym, ap, ◌∙◌, subst, arith}
use Rattle.std.proofs.Common.{⊎_elim}
use Rattle.std.specs.List.{AllByRecursion, range_with_len}
use Rattle.cmwq_lemmas.proofs.Lists.{All_each}
use Rattle.cmwq_chart_text.specs.declared.figures.Figure.{Figure}
use Rattle.cmwq_chart_text.specs.declared.page.Page.{Page}
use Rattle.cmwq_chart_text.specs.declared.part.Part.{Part}
use Rattle.cmwq_chart_text.specs.declared.part.What.{What}
use Rattle.cmwq_chart_text.specs.declared.part.What.TheVariants as what
use Rattle.cmwq_chart_text.specs.Bands.{stands_in}
use Rattle.cmwq_chart_text.specs.Drawings.{Drawing, below, figure_part, is_in_row, note_parts, numbers_of, page_drawn}
use Rattle.cmwq_chart_text.specs.Drawings.{waits_in, with_band_of, with_row_of, with_rows}
use Rattle.cmwq_chart_text.specs.Figures.{figure_number, figure_row, most_rows, row_height}
use Rattle.cmwq_chart_text.specs.Notes.{note_of}
use Rattle.cmwq_chart_text.specs.Pages.{bands}
use Rattle.cmwq_chart_laws.specs.Drawn.{AreOfRows, AreStacked, RowsAreStacked, edge_after, edge_behind, is_name}
use Rattle.cmwq_chart_laws.specs.Drawn.{parts_of, standing_in}
use Rattle.cmwq_chart_laws.proofs.Folded.{keeps_all}
use Rattle.cmwq_chart_laws.proofs.Meant.{note_named, of_numbers}
use Rattle.cmwq_chart_laws.proofs.Rows.{IsNamed, numbers_are, of_shapes, row_cases, row_parts}

module _ (p : Page) (figures : List Figure) (rows : AreOfRows figures) where
  last_edge : ℕ → List Part → ℕ
  last_edge edge [] = edge
  last_edge edge (x ∷ parts) = last_edge (edge_after p figures edge x) parts

  -- parts that stand one below the other, from an upper edge to a lower one
  abbrev IsStack : ℕ → ℕ → List Part → Type 0
  IsStack a b parts = (edge : ℕ) → edge ≤ a → AreStacked p figures edge parts × (last_edge edge parts ≤ b)

  no_part : (a b : ℕ) → a ≤ b → IsStack a b []
  unfolding AreStacked last_edge
  no_part a b less edge h = (tt, omega arith)

  both : (a b c : ℕ) (xs ys : List Part) → IsStack a b xs → IsStack b c ys → IsStack a c (xs ++ ys)
  unfolding AreStacked last_edge
  both a b c xs ys hx hy edge h = let k = hx edge h in by xs edge k.0 k.1
    where
      by : (xs : List Part) (edge : ℕ) → AreStacked p figures edge xs → last_edge edge xs ≤ b
          → AreStacked p figures edge (xs ++ ys) × (last_edge edge (xs ++ ys) ≤ c)
      by [] edge h k = hy edge k
      by (x ∷ xs) edge h k =
          let rest = by xs (edge_after p figures edge x) h.1 k in ((h.0, rest.0), rest.1)

  -- where none is a name
  no_names : (a : ℕ) (xs : List Part) → AllByRecursion (λ x. is_name x.what ≡ false) xs → IsStack a a xs
  unfolding AreStacked last_edge
  no_names a [] all edge h = (tt, h)
  no_names a (x ∷ xs) all edge h =
      let same : edge_after p figures edge x ≡ edge = by x.what all.0 in
      let rest = no_names a xs all.1 (edge_after p figures edge x) (omega arith) in
      (((λ name. let clash : true ≡ false = sym name ∙ all.0 in cc), rest.0), rest.1)
    where
      by : (w : What) → is_name w ≡ false → edge_behind p figures edge x.band x.top w ≡ edge
      by (what.Row r) h = cc
      by w h = refl

  -- ---- the row of these shapes

  named_row : (band n top : ℕ) (f : Figure) (fs : List Figure)
      → filter (is_in_row n) (filter (stands_in p band) figures) ≡ f ∷ fs
      → IsStack top (top + row_height (figure_row f) (waits_in (f ∷ fs))) (row_parts p band top (figure_row f) (f ∷ fs))
  unfolding AreStacked last_edge
  named_row band n top f fs are edge h =
      let numbers : AllByRecursion (λ g. figure_number g ≡ n) (f ∷ fs) =
      subst (AllByRecursion (λ g. figure_number g ≡ n)) are (numbers_are n (filter (stands_in p band) figures)) in
      let own : standing_in p figures band (figure_row f) ≡ f ∷ fs =
      ap (λ k. filter (is_in_row k) (filter (stands_in p band) figures)) numbers.0 ∙ are in
      let same : top + row_height (figure_row f) (waits_in (standing_in p figures band (figure_row f)))
      ≡ top + row_height (figure_row f) (waits_in (f ∷ fs)) =
      ap (λ l. top + row_height (figure_row f) (waits_in l)) own in
      let rest = no_names (top + row_height (figure_row f) (waits_in (f ∷ fs)))
      (map (figure_part band top) (f ∷ fs) ++ flat_map (note_parts p band top) (f ∷ fs))
      (of_shapes (λ x. is_name x.what ≡ false) p band top (f ∷ fs)
      (All_each (λ g. is_name (what.Figure g) ≡ false) (f ∷ fs) (λ g. refl))
      (All_each (λ g. (w : What) → note_of p band g ≡ Some w → is_name w ≡ false) (f ∷ fs)
      (note_named p figures rows band)))
      (top + row_height (figure_row f) (waits_in (standing_in p figures band (figure_row f)))) (omega arith) in
      (((λ name. h), rest.0), rest.1)

  -- ---- a drawing whose rows stand one below the other, where it is not too high

  abbrev most : ℕ
  most = 4294967295

  record IsGood (first : ℕ) (d : Drawing) : Type 0 where
    rises : first ≤ d.top
    stacked : d.top < most → IsStack first d.top d.parts

  low : (top n : ℕ) → below top n < most → (top + n < most) × (below top n ≡ top + n)
  low top n h = (omega arith, omega arith)

  row_good : (first band : ℕ) → first ≤ most → (d : Drawing) (n : ℕ) → IsGood first d
      → IsGood first (with_row_of p band (filter (stands_in p band) figures) d n)
  row_good first band within d n good =
      ⊎_elim (λ k. subst (IsGood first) (sym k.1) good) named
      (row_cases p band (filter (is_in_row n) (filter (stands_in p band) figures)) d)
    where
      named : IsNamed p band (filter (is_in_row n) (filter (stands_in p band) figures)) d
          → IsGood first (with_row_of p band (filter (stands_in p band) figures) d n)
      named k = record {
        rises = (let r = good.rises in let t = k.top in omega arith);
        stacked = λ few.
            let height : ℕ =
            row_height (figure_row k.first) (waits_in (filter (is_in_row n) (filter (stands_in p band) figures))) in
            let t = k.top in
            let m = low d.top height (subst (λ x. x < most) t few) in
            let under : d.top < most = let z = m.0 in omega arith in
            let row : IsStack d.top (d.top + height)
            (row_parts p band d.top (figure_row k.first) (filter (is_in_row n) (filter (stands_in p band) figures))) =
            subst (λ l. IsStack d.top (d.top + row_height (figure_row k.first) (waits_in l))
            (row_parts p band d.top (figure_row k.first) l)) (sym k.are)
            (named_row band n d.top k.first k.rest k.are) in
            subst (λ b. IsStack first b
            (with_row_of p band (filter (stands_in p band) figures) d n).parts) (sym (t ∙ m.1))
            (subst (IsStack first (d.top + height)) (sym k.parts)
            (both first d.top (d.top + height) d.parts
            (row_parts p band d.top (figure_row k.first) (filter (is_in_row n) (filter (stands_in p band) figures)))
            (good.stacked under) row));
      }

  some_rows : (first band many : ℕ) → first ≤ most → (d : Drawing) → IsGood first d
      → IsGood first (fold (with_row_of p band (filter (stands_in p band) figures)) d (range_with_len 0 many))
  some_rows first band many within d good =
      keeps_all (with_row_of p band (filter (stands_in p band) figures)) (IsGood first) (row_good first band within)
      (range_with_len 0 many) d good

  all_rows : (first band : ℕ) → first ≤ most → (d : Drawing) → IsGood first d
      → IsGood first (with_rows p band (filter (stands_in p band) figures) d)
  unfolding with_rows
  all_rows first band within d good = some_rows first band most_rows within d good

  band_good : (first : ℕ) → first ≤ most → (d : Drawing) (band : ℕ) → IsGood first d
      → IsGood first (with_band_of p figures d band)
  band_good first within d band good =
      let start : ℕ = below d.top 22 in
      let empty : Drawing = record { parts = []; top = start } in
      let made : Drawing = with_rows p band (filter (stands_in p band) figures) empty in
      let numbers : List Part = numbers_of p band d.top (made.top - below d.top 22) in
      let g : IsGood start made = all_rows start band (omega arith) empty
      (record { rises = omega arith; stacked = λ few. no_part start start (omega arith) }) in
      let up = g.rises in
      let up_d = good.rises in
      record {
        rises = omega arith;
        stacked = λ few.
            let m = low made.top 18 few in
            let z = m.0 in
            let under : made.top < most = omega arith in
            let first_low = low d.top 22 (let q : below d.top 22 < most = omega arith in q) in
            let zz = first_low.0 in
            let under_d : d.top < most = omega arith in
            let e = m.1 in
            both first d.top (below made.top 18) (d.parts ++ numbers) made.parts
            (both first d.top d.top d.parts numbers (good.stacked under_d)
            (no_names d.top numbers
            (of_numbers (λ x. is_name x.what ≡ false) p band d.top (made.top - below d.top 22) (λ at is k. refl))))
            (λ edge h. let k = g.stacked under edge (omega arith) in let l = k.1 in (k.0, omega arith));
      }

  some_bands : (many : ℕ) (d : Drawing) → IsGood 74 d
      → IsGood 74 (fold (with_band_of p figures) d (range_with_len 0 many))
  some_bands many d good =
      keeps_all (with_band_of p figures) (IsGood 74) (band_good 74 (omega arith)) (range_with_len 0 many) d good

  page_good : IsGood 74 (page_drawn p figures)
  unfolding page_drawn
  page_good = some_bands (bands p) (record { parts = []; top = 74 })
      (record { rises = omega arith; stacked = λ few. no_part 74 74 (omega arith) })

  pub all_stacked : (page_drawn p figures).top < most → AreStacked p figures 0 (parts_of p figures)
  all_stacked few = let g = page_good in (g.stacked few 0 (omega arith)).0

pub rows_are_stacked : RowsAreStacked
rows_are_stacked p figures rows few = all_stacked p figures rows few
