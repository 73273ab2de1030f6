-- Each part of a picture is a name, a number, a shape or an item; and what belongs to a row stands below its name.
use Rattle.std.proofs.Common.{zero, suc, ◌≡◌, ℕ, ◌+◌, ◌-◌, ◌<◌, ◌≤◌, Bool, true, false, not, List, [], ◌∷◌, ◌++◌, map}
use Rattle.std.proofs.Common.{filter, flat_map, Option, Some, None, option_map, option_to_list, IfSome, refl, sym, ap}
use Rattle.std.proofs.Common.{◌∙◌, subst, arith, eqb-true}
use Rattle.std.specs.Prelude.{if◌then◌else◌}
use Rattle.std.specs.List.{AllByRecursion, range_with_len}
use Rattle.std.proofs.lemmas.Option.{same_Some}
use Rattle.cmwq_lemmas.proofs.Lists.{All_append, All_map}
use Rattle.cmwq_lemmas.proofs.Members.{all_in, in_any, in_contained, in_filter, of_in}
use Rattle.cmwq_chart_text.specs.declared.figures.Figure.{Figure}
use Rattle.cmwq_chart_text.specs.declared.figures.Figure.TheVariants as figure
use Rattle.cmwq_chart_text.specs.declared.figures.Row.{Row}
use Rattle.cmwq_chart_text.specs.declared.page.Page.{Page}
use Rattle.cmwq_chart_text.specs.declared.part.Part.{Part}
use Rattle.cmwq_chart_text.specs.declared.part.What.{What}
use Rattle.cmwq_chart_text.specs.declared.part.What.TheVariants as what
use Rattle.cmwq_chart_text.specs.Bands.{stands_in}
use Rattle.cmwq_chart_text.specs.Drawings.{figure_part, is_in_row, note_parts, number_parts, numbers_of, part_at, shows}
use Rattle.cmwq_chart_text.specs.Figures.{figure_number, figure_row, is_flat}
use Rattle.cmwq_chart_text.specs.Notes.{has_caption, has_label, has_number, note_of}
use Rattle.cmwq_chart_text.specs.Pages.{band_start, end_in}
use Rattle.cmwq_chart_laws.specs.Drawn.{AreBelow, AreOfRows, FiguresAreBelowNames, IsBelow, IsMeant, IsRow, IsShownIn}
use Rattle.cmwq_chart_laws.specs.Drawn.{NothingElseIsDrawn, Stands, is_name, last_name, parts_of, row_of}
use Rattle.cmwq_chart_laws.proofs.RowNumbers.{rows_are_told_apart}
use Rattle.cmwq_chart_laws.proofs.Rows.{All_flat_map, note_row, of_row, of_shapes, page_good, row_parts}
use Rattle.cmwq_chart_laws.proofs.StandIn.{in_band}

-- ---- the numbers of a band

pub range_in_it : (a n : ℕ) → AllByRecursion (λ i. (a ≤ i) × (i < a + n)) (range_with_len a n)
range_in_it a zero = tt
range_in_it a (suc n) = (
  (omega arith, omega arith),
  All_map (λ i. (a + 1 ≤ i) × (i < a + 1 + n)) (λ i. (a ≤ i) × (i < a + suc n)) (range_with_len (a + 1) n)
      (λ i h. let k = h.0 in let m = h.1 in (omega arith, omega arith)) (range_in_it (a + 1) n),
)

start_after : (p : Page) (band : ℕ) → p.first ≤ band_start p band
unfolding band_start
start_after p band = omega arith

-- an entry of a band that is shown
pub shown_there : (p : Page) (band at : ℕ) → band_start p band ≤ at
    → at < band_start p band + (end_in p band p.end - band_start p band) → IsShownIn p band at
unfolding end_in
shown_there p band at low high =
    let begun : p.first ≤ at = let k = start_after p band in omega arith in
    record { begun = begun; not_over = omega arith; in_band = in_band p band at begun low (omega arith) }

-- what holds of each number that is shown in a band holds of each part that it makes
pub of_numbers : (P : Part → Type 0) (p : Page) (band top height : ℕ)
    → ((at : ℕ) → IsShownIn p band at → has_number p at ≡ true → P (part_at band top (what.Number at height)))
    → AllByRecursion P (numbers_of p band top height)
of_numbers P p band top height each =
    All_flat_map P (number_parts p band top height)
    (range_with_len (band_start p band) (end_in p band p.end - band_start p band))
    (All_map (λ i. (band_start p band ≤ i) × (i < band_start p band + (end_in p band p.end - band_start p band)))
    (λ i. AllByRecursion P (number_parts p band top height i))
    (range_with_len (band_start p band) (end_in p band p.end - band_start p band))
    (λ i h. by i (shown_there p band i h.0 h.1) (has_number p i) refl)
    (range_in_it (band_start p band) (end_in p band p.end - band_start p band)))
  where
    by : (at : ℕ) → IsShownIn p band at → (b : Bool) → has_number p at ≡ b
        → AllByRecursion P
        (option_to_list (option_map (part_at band top) (if b then Some (what.Number at height) else None)))
    by at is true h = (each at is h, tt)
    by at is false h = tt

-- ---- nothing else is drawn

module _ (p : Page) (figures : List Figure) (rows : AreOfRows figures) where
  abbrev in_row : ℕ → ℕ → List Figure
  in_row band n = filter (is_in_row n) (filter (stands_in p band) figures)

  -- the shapes of a row stand there, and have its number
  each_there : (band n : ℕ)
      → AllByRecursion (λ f. Stands p figures band f × (figure_number f ≡ n) × IsRow (figure_row f)) (in_row band n)
  each_there band n =
      all_in (λ f. Stands p figures band f × (figure_number f ≡ n) × IsRow (figure_row f)) (in_row band n)
      (λ f i.
      let a = in_filter (is_in_row n) (filter (stands_in p band) figures) f i in
      let b = in_filter (stands_in p band) figures f a.0 in (
        record { listed = in_contained figures f b.0; in_band = b.1 },
        eqb-true (figure_number f) n a.1,
        of_in (λ g. IsRow (figure_row g)) figures f rows b.0,
      ))

  -- an item is that of a shape that stands there
  note_meant : (band : ℕ) (f : Figure) (w : What) → Stands p figures band f → note_of p band f ≡ Some w
      → IsMeant p figures band w
  note_meant band (figure.Bar bar) w stands h = by (has_caption p band bar) refl h
    where
      by : (b : Bool) → has_caption p band bar ≡ b → (if b then Some (what.Caption bar) else None) ≡ Some w
          → IsMeant p figures band w
      by true is k = subst (IsMeant p figures band) (same_Some (what.Caption bar) w k) (stands, is)
      by false is k = cc
  note_meant band (figure.Sign sign) w stands h = by (has_label p sign) refl h
    where
      by : (b : Bool) → has_label p sign ≡ b → (if b then Some (what.Label sign) else None) ≡ Some w
          → IsMeant p figures band w
      by true is k = subst (IsMeant p figures band) (same_Some (what.Label sign) w k) (stands, is)
      by false is k = cc
  note_meant band (figure.Wait wait) w stands h = cc
  note_meant band (figure.WaitSign sign) w stands h = cc
  note_meant band (figure.Sleep sleep) w stands h = cc
  note_meant band (figure.Level level) w stands h = cc

  abbrev IsMeantPart : Part → Type 0
  IsMeantPart x = IsMeant p figures x.band x.what

  not_flat : (b : Bool) → not b ≡ true → b ≡ false
  not_flat true h = cc
  not_flat false h = refl

  -- the name of a row is that of a shape that shows something
  name_meant : (band n : ℕ) (f : Figure) (fs : List Figure) → in_row band n ≡ f ∷ fs → shows (f ∷ fs) ≡ true
      → IsMeant p figures band (what.Row (figure_row f))
  name_meant band n f fs are some =
      let all : AllByRecursion (λ g. Stands p figures band g × (figure_number g ≡ n) × IsRow (figure_row g)) (f ∷ fs) =
      subst (AllByRecursion (λ g. Stands p figures band g × (figure_number g ≡ n) × IsRow (figure_row g))) are
      (each_there band n) in
      let one = in_any (λ (g : Figure). not (is_flat g)) (f ∷ fs) some in
      let its = of_in (λ g. Stands p figures band g × (figure_number g ≡ n) × IsRow (figure_row g)) (f ∷ fs) one.0 all
      one.1 in (
        one.0,
        its.0,
        not_flat (is_flat one.0) one.2,
        rows_are_told_apart (figure_row one.0) (figure_row f) its.2 all.0.2 (its.1 ∙ sym all.0.1),
      )

  row_meant : (band n top : ℕ) (f : Figure) (fs : List Figure) → in_row band n ≡ f ∷ fs → shows (f ∷ fs) ≡ true
      → AllByRecursion IsMeantPart (row_parts p band top (figure_row f) (f ∷ fs))
  row_meant band n top f fs are some =
      let all : AllByRecursion (λ g. Stands p figures band g × (figure_number g ≡ n) × IsRow (figure_row g)) (f ∷ fs) =
      subst (AllByRecursion (λ g. Stands p figures band g × (figure_number g ≡ n) × IsRow (figure_row g))) are
      (each_there band n) in
      of_row IsMeantPart p band top (figure_row f) (f ∷ fs) (name_meant band n f fs are some)
      (All_map (λ g. Stands p figures band g × (figure_number g ≡ n) × IsRow (figure_row g))
      (λ g. Stands p figures band g) (f ∷ fs) (λ g h. h.0) all)
      (All_map (λ g. Stands p figures band g × (figure_number g ≡ n) × IsRow (figure_row g))
      (λ g. (w : What) → note_of p band g ≡ Some w → IsMeantPart (part_at band top w)) (f ∷ fs)
      (λ g h w is. note_meant band g w h.0 is) all)

  pub all_meant : AllByRecursion IsMeantPart (parts_of p figures)
  all_meant =
      page_good p figures (λ parts. AllByRecursion IsMeantPart parts) tt (All_append IsMeantPart) row_meant
      (λ band top height. of_numbers IsMeantPart p band top height (λ at is h. (is, h)))

  -- ---- below its name

  abbrev name_at : ℕ → ℕ → Row → Part
  name_at band top r = part_at band top (what.Row r)

  abbrev IsBlock : List Part → Type 0
  IsBlock parts = (name : Option Part) → AreBelow name parts

  no_parts : IsBlock []
  unfolding AreBelow
  no_parts name = tt

  both_below : (xs ys : List Part) → IsBlock xs → IsBlock ys → IsBlock (xs ++ ys)
  unfolding AreBelow
  both_below xs ys hx hy name = by xs name (hx name)
    where
      by : (xs : List Part) (name : Option Part) → AreBelow name xs → AreBelow name (xs ++ ys)
      by [] name h = hy name
      by (x ∷ xs) name h = (h.0, by xs (last_name name x) h.1)

  -- where each of these is no name, and stands below this one
  all_below : (name : Option Part) (parts : List Part)
      → AllByRecursion (λ x. (is_name x.what ≡ false) × IsBelow name x) parts → AreBelow name parts
  unfolding AreBelow
  all_below name [] h = tt
  all_below name (x ∷ parts) h =
      let same : last_name name x ≡ name = ap (λ b. if b then Some x else name) h.0.0 in (
        subst (λ n. IsBelow n x) (sym same) h.0.1,
        subst (λ n. AreBelow n parts) (sym same) (all_below name parts h.1),
      )

  numbers_below : (band top height : ℕ) → IsBlock (numbers_of p band top height)
  numbers_below band top height name =
      all_below name (numbers_of p band top height)
      (of_numbers (λ x. (is_name x.what ≡ false) × IsBelow name x) p band top height (λ at is h. (refl, tt)))

  pub note_named : (band : ℕ) (f : Figure) (w : What) → note_of p band f ≡ Some w → is_name w ≡ false
  note_named band f w h = by w (note_row p band f w h) h
    where
      by : (w : What) → row_of w ≡ Some (figure_row f) → note_of p band f ≡ Some w → is_name w ≡ false
      by (what.Row r) k h = absurd (no_name f h)
        where
          no_name : (f : Figure) → note_of p band f ≡ Some (what.Row r) → ⊥
          no_name (figure.Bar bar) h = from (has_caption p band bar) h
            where
              from : (b : Bool) → (if b then Some (what.Caption bar) else None) ≡ Some (what.Row r) → ⊥
              from true h = cc
              from false h = cc
          no_name (figure.Sign sign) h = from (has_label p sign) h
            where
              from : (b : Bool) → (if b then Some (what.Label sign) else None) ≡ Some (what.Row r) → ⊥
              from true h = cc
              from false h = cc
          no_name (figure.Wait wait) h = cc
          no_name (figure.WaitSign sign) h = cc
          no_name (figure.Sleep sleep) h = cc
          no_name (figure.Level level) h = cc
      by (what.Number n height) k h = refl
      by (what.Figure g) k h = refl
      by (what.Caption bar) k h = refl
      by (what.Label sign) k h = refl

  row_below : (band n top : ℕ) (f : Figure) (fs : List Figure) → in_row band n ≡ f ∷ fs → shows (f ∷ fs) ≡ true
      → IsBlock (row_parts p band top (figure_row f) (f ∷ fs))
  unfolding AreBelow
  row_below band n top f fs are some name =
      let all : AllByRecursion (λ g. Stands p figures band g × (figure_number g ≡ n) × IsRow (figure_row g)) (f ∷ fs) =
      subst (AllByRecursion (λ g. Stands p figures band g × (figure_number g ≡ n) × IsRow (figure_row g))) are
      (each_there band n) in
      let same : AllByRecursion (λ g. figure_row f ≡ figure_row g) (f ∷ fs) =
      All_map (λ g. Stands p figures band g × (figure_number g ≡ n) × IsRow (figure_row g))
      (λ g. figure_row f ≡ figure_row g) (f ∷ fs)
      (λ g h. rows_are_told_apart (figure_row f) (figure_row g) all.0.2 h.2 (all.0.1 ∙ sym h.1)) all in (
        refl,
        all_below (Some (name_at band top (figure_row f)))
            (map (figure_part band top) (f ∷ fs) ++ flat_map (note_parts p band top) (f ∷ fs))
            (of_shapes (λ x. (is_name x.what ≡ false) × IsBelow (Some (name_at band top (figure_row f))) x) p band top
            (f ∷ fs)
            (All_map (λ g. figure_row f ≡ figure_row g)
            (λ g. (is_name (what.Figure g) ≡ false)
            × IsBelow (Some (name_at band top (figure_row f))) (part_at band top (what.Figure g))) (f ∷ fs)
            (λ g k. (refl, ap (λ r. Some (name_at band top r)) k)) same)
            (All_map (λ g. figure_row f ≡ figure_row g)
            (λ g. (w : What) → note_of p band g ≡ Some w → (is_name w ≡ false)
            × IsBelow (Some (name_at band top (figure_row f))) (part_at band top w)) (f ∷ fs)
            (λ g k w h. (
              note_named band g w h,
              subst (λ (o : Option Row). IfSome o (λ r. Some (name_at band top (figure_row f))
                  ≡ Some (name_at band top r)))
                  (sym (note_row p band g w h)) (ap (λ r. Some (name_at band top r)) k),
            )) same)),
      )

  pub all_stand_below : AreBelow None (parts_of p figures)
  all_stand_below = page_good p figures IsBlock no_parts both_below row_below numbers_below None

pub nothing_else_is_drawn : NothingElseIsDrawn
nothing_else_is_drawn p figures rows = all_meant p figures rows

pub figures_are_below_names : FiguresAreBelowNames
figures_are_below_names p figures rows = all_stand_below p figures rows
