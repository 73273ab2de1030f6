-- Each row shows its name, the shapes that stand there, and their items.
use Rattle.std.proofs.Common.{◌≡◌, ℕ, ◌-◌, ◌<◌, ◌≤◌, ◌==◌, Bool, true, false, ◌&&◌, List, [], ◌∷◌, ◌++◌, map, filter}
use Rattle.std.proofs.Common.{filter_map, flat_map, fold, Option, Some, None, option_map, option_to_list, ⊎_elim}
use Rattle.std.proofs.Common.{nat_lt, ltb-true, ltb-false, refl, sym, ap, ap₂, ◌∙◌, subst, arith, append-nil, eqb-true}
use Rattle.std.specs.Prelude.{if◌then◌else◌}
use Rattle.std.specs.Option.{option_map_or}
use Rattle.std.specs.List.{AllByRecursion, range_with_len}
use Rattle.std.proofs.lemmas.Bool.{and_parts}
use Rattle.std.proofs.lemmas.List.{map-append}
use Rattle.std.proofs.lemmas.List.Elements.{filter-append, filter_map-append}
use Rattle.cmwq_lemmas.proofs.Filters.{filter_none}
use Rattle.cmwq_lemmas.proofs.Lists.{All_flat, All_map, All_each, filter_all}
use Rattle.cmwq_lemmas.proofs.Passing.{all_kept}
use Rattle.cmwq_lemmas.proofs.Truth.{and_false}
use Rattle.cmwq_chart_text.specs.declared.figures.Figure.{Figure}
use Rattle.cmwq_chart_text.specs.declared.figures.Figure.TheVariants as figure
use Rattle.cmwq_chart_text.specs.declared.figures.Row.{Row}
use Rattle.cmwq_chart_text.specs.declared.page.Page.{Page}
use Rattle.cmwq_chart_text.specs.declared.part.Part.{Part}
use Rattle.cmwq_chart_text.specs.declared.part.What.{What}
use Rattle.cmwq_chart_text.specs.declared.part.What.TheVariants as what
use Rattle.cmwq_chart_text.specs.Bands.{stands_in}
use Rattle.cmwq_chart_text.specs.Drawings.{Drawing, below, figure_part, is_in_row, note_parts, number_parts}
use Rattle.cmwq_chart_text.specs.Drawings.{numbers_of, page_drawn, part_at, shows, with_band_of, with_row, with_row_of}
use Rattle.cmwq_chart_text.specs.Drawings.{with_rows}
use Rattle.cmwq_chart_text.specs.Figures.{figure_number, figure_row, most_rows, row_number}
use Rattle.cmwq_chart_text.specs.Notes.{has_caption, has_label, has_number, note_of}
use Rattle.cmwq_chart_text.specs.Pages.{bands, band_start, end_in}
use Rattle.cmwq_chart_laws.specs.Drawn.{AreOfRows, FiguresAreDrawn, IsRow, RowsAreDrawn, figure_shown}
use Rattle.cmwq_chart_laws.specs.Drawn.{is_row, is_there, item_of_figure, parts_of, row_of, row_shown_of, shown}
use Rattle.cmwq_chart_laws.specs.Drawn.{shown_in}
use Rattle.cmwq_chart_laws.specs.Drawn.{standing_in}
use Rattle.cmwq_chart_laws.proofs.Folded.{none_below, only, picked, same_if, sees_all}
use Rattle.cmwq_chart_laws.proofs.RowNumbers.{row_within, rows_are_told_apart}
use Rattle.cmwq_chart_laws.proofs.Rows.{IsNamed, note_row, numbers_are, of_row, row_cases, row_parts}
use Rattle.cmwq_chart_laws.proofs.StandIn.{stands_within}

-- ---- what the parts of a row show

shown_figures : (band top : ℕ) (own : List Figure) → map shown (map (figure_part band top) own) ≡ map what.Figure own
shown_figures band top [] = refl
shown_figures band top (f ∷ own) = ap (λ l. what.Figure f ∷ l) (shown_figures band top own)

shown_notes : (p : Page) (band top : ℕ) (own : List Figure)
    → map shown (flat_map (note_parts p band top) own) ≡ flat_map (item_of_figure p band) own
shown_notes p band top [] = refl
shown_notes p band top (f ∷ own) =
    map-append shown (note_parts p band top f) (flat_map (note_parts p band top) own)
    ∙ ap₂ (λ k l. k ++ l) (one (note_of p band f)) (shown_notes p band top own)
  where
    one : (o : Option What) → map shown (option_to_list (option_map (part_at band top) o)) ≡ option_to_list o
    one None = refl
    one (Some w) = refl

shown_row : (p : Page) (band top : ℕ) (q : Row) (own : List Figure)
    → map shown (row_parts p band top q own)
    ≡ what.Row q ∷ map what.Figure own ++ flat_map (item_of_figure p band) own
shown_row p band top q own =
    ap (λ l. what.Row q ∷ l)
    (map-append shown (map (figure_part band top) own) (flat_map (note_parts p band top) own)
    ∙ ap₂ (λ k l. k ++ l) (shown_figures band top own) (shown_notes p band top own))

-- ---- in a band in a row

module _ (p : Page) (at : ℕ) (r : Row) (is : IsRow r) where
  abbrev seen : List Part → List What
  seen parts = shown_in at r parts

  seen_append : (xs ys : List Part) → seen (xs ++ ys) ≡ seen xs ++ seen ys
  seen_append xs ys =
      ap (map shown) (filter-append (is_there at r) xs ys)
      ∙ map-append shown (filter (is_there at r) xs) (filter (is_there at r) ys)

  -- whether it is this band and the row with this number
  abbrev here : ℕ → ℕ → Bool
  here band n = (band == at) && (n == row_number r)

  test_is : (band top n : ℕ) (w : What) (q : Row) → row_of w ≡ Some q → row_number q ≡ n
      → is_there at r (part_at band top w) ≡ here band n
  test_is band top n w q belongs numbered =
      ap (λ (o : Option Row). (band == at) && option_map_or (is_row r) o false) belongs
      ∙ ap (λ k. (band == at) && (k == row_number r)) numbered

  row_tests : (band top n : ℕ) (q : Row) (own : List Figure) (b : Bool) → here band n ≡ b → row_number q ≡ n
      → AllByRecursion (λ f. figure_number f ≡ n) own
      → AllByRecursion (λ x. is_there at r x ≡ b) (row_parts p band top q own)
  row_tests band top n q own b h numbered numbers =
      of_row (λ x. is_there at r x ≡ b) p band top q own
      (test_is band top n (what.Row q) q refl numbered ∙ h)
      (All_map (λ f. figure_number f ≡ n) (λ f. is_there at r (part_at band top (what.Figure f)) ≡ b) own
      (λ f k. test_is band top n (what.Figure f) (figure_row f) refl k ∙ h) numbers)
      (All_map (λ f. figure_number f ≡ n)
      (λ f. (w : What) → note_of p band f ≡ Some w → is_there at r (part_at band top w) ≡ b) own
      (λ f k w some. test_is band top n w (figure_row f) (note_row p band f w some) k ∙ h) numbers)

  abbrev own_shown : ℕ → ℕ → List Figure → List What
  own_shown band n own = if here band n then row_shown_of p band r own else []

  nothing_shown : (band n : ℕ) (own : List Figure) → shows own ≡ false → own_shown band n own ≡ []
  nothing_shown band n own h =
      ap (λ b. if here band n then (if b then what.Row r ∷ map what.Figure own ++ flat_map (item_of_figure p band) own
      else []) else []) h ∙ same_if (here band n) []

  named_shown : (band n top : ℕ) (f : Figure) (fs : List Figure) → shows (f ∷ fs) ≡ true
      → AllByRecursion (λ g. figure_number g ≡ n) (f ∷ fs) → AreOfRows (f ∷ fs)
      → seen (row_parts p band top (figure_row f) (f ∷ fs)) ≡ own_shown band n (f ∷ fs)
  named_shown band n top f fs some numbers rows = by (here band n) refl
    where
      by : (b : Bool) → here band n ≡ b
          → seen (row_parts p band top (figure_row f) (f ∷ fs))
          ≡ (if b then row_shown_of p band r (f ∷ fs) else [])
      by true h =
          let k = and_parts (band == at) (n == row_number r) h in
          let same : figure_row f ≡ r =
          rows_are_told_apart (figure_row f) r rows.0 is (numbers.0 ∙ eqb-true n (row_number r) k.1) in
          ap (map shown) (filter_all (is_there at r) (row_parts p band top (figure_row f) (f ∷ fs))
          (row_tests band top n (figure_row f) (f ∷ fs) true h numbers.0 numbers))
          ∙ shown_row p band top (figure_row f) (f ∷ fs)
          ∙ ap (λ q. what.Row q ∷ map what.Figure (f ∷ fs) ++ flat_map (item_of_figure p band) (f ∷ fs)) same
          ∙ sym (ap (λ b. if b then what.Row r ∷ map what.Figure (f ∷ fs)
          ++ flat_map (item_of_figure p band) (f ∷ fs) else []) some)
      by false h =
          ap (map shown) (filter_none (is_there at r) (row_parts p band top (figure_row f) (f ∷ fs))
          (row_tests band top n (figure_row f) (f ∷ fs) false h numbers.0 numbers))

  -- a row, of its own shapes
  row_seen : (band n : ℕ) (own : List Figure) (d : Drawing) → AllByRecursion (λ g. figure_number g ≡ n) own
      → AreOfRows own → seen (with_row p band own d).parts ≡ seen d.parts ++ own_shown band n own
  row_seen band n own d numbers rows =
      ⊎_elim
      (λ none. ap (λ (e : Drawing). seen e.parts) none.1
      ∙ sym (ap (λ l. seen d.parts ++ l) (nothing_shown band n own none.0) ∙ append-nil (seen d.parts)))
      (λ named. ap seen named.parts ∙ seen_append d.parts (row_parts p band d.top (figure_row named.first) own)
      ∙ ap (λ l. seen d.parts ++ l) (whole named))
      (row_cases p band own d)
    where
      whole : (named : IsNamed p band own d)
          → seen (row_parts p band d.top (figure_row named.first) own) ≡ own_shown band n own
      whole named =
          subst (λ l. seen (row_parts p band d.top (figure_row named.first) l) ≡ own_shown band n l) (sym named.are)
          (named_shown band n d.top named.first named.rest (subst (λ l. shows l ≡ true) named.are named.some)
          (subst (AllByRecursion (λ g. figure_number g ≡ n)) named.are numbers)
          (subst (λ l. AreOfRows l) named.are rows))

  module _ (figures : List Figure) (rows : AreOfRows figures) where
    abbrev in_band : ℕ → List Figure
    in_band band = filter (stands_in p band) figures

    abbrev in_row : ℕ → ℕ → List Figure
    in_row band n = filter (is_in_row n) (in_band band)

    of_rows : (band n : ℕ) → AreOfRows (in_row band n)
    of_rows band n =
        all_kept (λ f. IsRow (figure_row f)) (is_in_row n) (in_band band)
        (all_kept (λ f. IsRow (figure_row f)) (stands_in p band) figures rows)

    one_row : (band : ℕ) (d : Drawing) (n : ℕ)
        → seen (with_row_of p band (in_band band) d n).parts ≡ seen d.parts ++ own_shown band n (in_row band n)
    one_row band d n = row_seen band n (in_row band n) d (numbers_are n (in_band band)) (of_rows band n)

    -- of all rows one alone is this
    abbrev row_then : ℕ → ℕ → List What
    row_then band n = if band == at then row_shown_of p band r (in_row band n) else []

    own_is : (band n : ℕ) → own_shown band n (in_row band n) ≡ only (row_number r) (row_then band) n
    own_is band n = by (band == at) (n == row_number r)
      where
        by : (b c : Bool) → (if b && c then row_shown_of p band r (in_row band n) else [])
            ≡ (if c then (if b then row_shown_of p band r (in_row band n) else []) else [])
        by true true = refl
        by true false = refl
        by false true = refl
        by false false = refl

    some_rows : (band most : ℕ) → row_number r < most → (d : Drawing)
        → seen (fold (with_row_of p band (in_band band)) d (range_with_len 0 most)).parts
        ≡ seen d.parts ++ row_then band (row_number r)
    some_rows band most less d =
        sees_all (with_row_of p band (in_band band)) (λ (e : Drawing). seen e.parts)
        (only (row_number r) (row_then band)) (λ e n. one_row band e n ∙ ap (λ l. seen e.parts ++ l) (own_is band n))
        (range_with_len 0 most) d
        ∙ ap (λ l. seen d.parts ++ l) (picked (row_number r) (row_then band) 0 most (omega arith) (omega arith))

    all_rows : (band : ℕ) (d : Drawing)
        → seen (with_rows p band (in_band band) d).parts ≡ seen d.parts ++ row_then band (row_number r)
    unfolding with_rows
    all_rows band d = some_rows band most_rows (row_within r is) d

    numbers_unseen : (band top height : ℕ) → seen (numbers_of p band top height) ≡ []
    numbers_unseen band top height =
        ap (map shown) (filter_none (is_there at r) (numbers_of p band top height)
        (All_flat (λ x. is_there at r x ≡ false) (number_parts p band top height)
        (range_with_len (band_start p band) (end_in p band p.end - band_start p band))
        (λ place. by (has_number p place) place)))
      where
        by : (b : Bool) (place : ℕ) → AllByRecursion (λ x. is_there at r x ≡ false)
            (option_to_list (option_map (part_at band top) (if b then Some (what.Number place height) else None)))
        by true place = (and_false (band == at), tt)
        by false place = tt

    one_band : (d : Drawing) (band : ℕ)
        → seen (with_band_of p figures d band).parts ≡ seen d.parts ++ row_then band (row_number r)
    one_band d band =
        let empty : Drawing = record { parts = []; top = below d.top 22 } in
        let made : Drawing = with_rows p band (in_band band) empty in
        let numbers : List Part = numbers_of p band d.top (made.top - below d.top 22) in
        seen_append (d.parts ++ numbers) made.parts
        ∙ ap₂ (λ k l. k ++ l)
        (seen_append d.parts numbers
        ∙ ap (λ l. seen d.parts ++ l) (numbers_unseen band d.top (made.top - below d.top 22))
        ∙ append-nil (seen d.parts))
        (all_rows band empty)

    abbrev band_then : ℕ → List What
    band_then band = row_shown_of p band r (in_row band (row_number r))

    none_stand : (band : ℕ) → bands p ≤ band → in_band band ≡ []
    none_stand band over =
        filter_none (stands_in p band) figures
        (All_each (λ f. stands_in p band f ≡ false) figures (λ f. fails f (stands_in p band f) refl))
      where
        fails : (f : Figure) (b : Bool) → stands_in p band f ≡ b → b ≡ false
        fails f false h = refl
        fails f true h = let within = stands_within p f band h in absurd (omega arith)

    some_bands : (many : ℕ) → (many ≤ at → in_band at ≡ []) → (d : Drawing)
        → seen (fold (with_band_of p figures) d (range_with_len 0 many)).parts ≡ seen d.parts ++ band_then at
    some_bands many none d =
        sees_all (with_band_of p figures) (λ (e : Drawing). seen e.parts) (only at band_then) one_band
        (range_with_len 0 many) d
        ∙ ap (λ l. seen d.parts ++ l) (by (nat_lt at many) refl)
      where
        by : (b : Bool) → nat_lt at many ≡ b → flat_map (only at band_then) (range_with_len 0 many) ≡ band_then at
        by true h = picked at band_then 0 many (omega arith) (let less = ltb-true at many h in omega arith)
        by false h =
            let over : many ≤ at = ltb-false at many h in
            none_below at band_then 0 many (omega arith)
            ∙ sym (ap (λ l. row_shown_of p at r (filter (is_in_row (row_number r)) l)) (none over))

    pub rows_drawn : shown_in at r (parts_of p figures) ≡ row_shown_of p at r (standing_in p figures at r)
    unfolding page_drawn
    rows_drawn = some_bands (bands p) (none_stand at) (record { parts = []; top = 74 })

pub rows_are_drawn : RowsAreDrawn
rows_are_drawn p figures band r rows is = rows_drawn p band r is figures rows

-- ---- the figures of these

pub figures_of_row : (p : Page) (band : ℕ) (own : List Figure)
    → filter_map figure_shown (map what.Figure own ++ flat_map (item_of_figure p band) own) ≡ own
figures_of_row p band own =
    filter_map-append figure_shown (map what.Figure own) (flat_map (item_of_figure p band) own)
    ∙ ap₂ (λ k l. k ++ l) (all own) (none own) ∙ append-nil own
  where
    all : (own : List Figure) → filter_map figure_shown (map what.Figure own) ≡ own
    all [] = refl
    all (f ∷ own) = ap (λ l. f ∷ l) (all own)

    no_figure : (f : Figure) → filter_map figure_shown (item_of_figure p band f) ≡ []
    no_figure (figure.Bar bar) = by (has_caption p band bar)
      where
        by : (b : Bool)
            → filter_map figure_shown (option_to_list (if b then Some (what.Caption bar) else None)) ≡ []
        by true = refl
        by false = refl
    no_figure (figure.Sign sign) = by (has_label p sign)
      where
        by : (b : Bool) → filter_map figure_shown (option_to_list (if b then Some (what.Label sign) else None)) ≡ []
        by true = refl
        by false = refl
    no_figure (figure.Wait wait) = refl
    no_figure (figure.WaitSign sign) = refl
    no_figure (figure.Sleep sleep) = refl
    no_figure (figure.Level level) = refl

    none : (own : List Figure) → filter_map figure_shown (flat_map (item_of_figure p band) own) ≡ []
    none [] = refl
    none (f ∷ own) =
        filter_map-append figure_shown (item_of_figure p band f) (flat_map (item_of_figure p band) own)
        ∙ ap₂ (λ k l. k ++ l) (no_figure f) (none own)

pub figures_are_drawn : FiguresAreDrawn
figures_are_drawn p figures band r rows is =
    ap (filter_map figure_shown) (rows_are_drawn p figures band r rows is)
    ∙ by (shows (standing_in p figures band r))
  where
    by : (b : Bool) → filter_map figure_shown (if b then what.Row r ∷ map what.Figure (standing_in p figures band r)
        ++ flat_map (item_of_figure p band) (standing_in p figures band r) else [])
        ≡ (if b then standing_in p figures band r else [])
    by true = figures_of_row p band (standing_in p figures band r)
    by false = refl
