-- What is drawn of the shapes of one row, and that what holds of each of its parts holds of what a page draws.
use Rattle.std.proofs.Common.{◌⊎◌, inl, inr, ⊎_elim, ◌-◌, ◌≡◌, ℕ, Bool, true, false, List, [], ◌∷◌, ◌++◌, map, filter}
use Rattle.std.proofs.Common.{flat_map, fold, Option, Some, None, option_map, option_to_list, refl, sym, ap}
use Rattle.std.proofs.Common.{◌∙◌, subst, arith, eqb-true, append_assoc}
use Rattle.std.specs.Prelude.{if◌then◌else◌}
use Rattle.std.specs.List.{AllByRecursion, range_with_len}
use Rattle.std.proofs.lemmas.Option.{same_Some}
use Rattle.cmwq_lemmas.proofs.Lists.{All_append, All_map, all_mapped}
use Rattle.cmwq_chart_text.specs.declared.figures.Figure.{Figure}
use Rattle.cmwq_chart_text.specs.declared.figures.Figure.TheVariants as figure
use Rattle.cmwq_chart_text.specs.declared.figures.Row.{Row}
use Rattle.cmwq_chart_text.specs.declared.figures.Row.TheVariants as row
use Rattle.cmwq_chart_text.specs.declared.page.Page.{Page}
use Rattle.cmwq_chart_text.specs.declared.part.Part.{Part}
use Rattle.cmwq_chart_text.specs.declared.part.What.{What}
use Rattle.cmwq_chart_text.specs.declared.part.What.TheVariants as what
use Rattle.cmwq_chart_text.specs.Bands.{stands_in}
use Rattle.cmwq_chart_text.specs.Drawings.{waits_in, Drawing, below, figure_part, is_in_row, note_parts, numbers_of}
use Rattle.cmwq_chart_text.specs.Drawings.{part_at, row_drawn}
use Rattle.cmwq_chart_text.specs.Drawings.{shows, with_band_of, with_row, with_row_of, with_rows, page_drawn}
use Rattle.cmwq_chart_text.specs.Figures.{row_height, figure_number, figure_row, most_rows}
use Rattle.cmwq_chart_text.specs.Notes.{has_caption, has_label, note_of}
use Rattle.cmwq_chart_text.specs.Pages.{bands}
use Rattle.cmwq_chart_laws.specs.Drawn.{row_of, parts_of}
use Rattle.cmwq_chart_laws.proofs.Folded.{keeps_all}

-- ---- the parts of a row, with this name

abbrev pub row_parts : Page → ℕ → ℕ → Row → List Figure → List Part
row_parts p band top q own =
    part_at band top (what.Row q) ∷ map (figure_part band top) own ++ flat_map (note_parts p band top) own

-- an item is of the row of its shape
pub note_row : (p : Page) (band : ℕ) (f : Figure) (w : What) → note_of p band f ≡ Some w
    → row_of w ≡ Some (figure_row f)
note_row p band (figure.Bar bar) w h = by (has_caption p band bar) h
  where
    by : (b : Bool) → (if b then Some (what.Caption bar) else None) ≡ Some w → row_of w ≡ Some (row.Worker bar.worker)
    by true k = ap row_of (sym (same_Some (what.Caption bar) w k))
    by false k = cc
note_row p band (figure.Sign sign) w h = by (has_label p sign) h
  where
    by : (b : Bool) → (if b then Some (what.Label sign) else None) ≡ Some w
        → row_of w ≡ Some (figure_row (figure.Sign sign))
    by true k = ap row_of (sym (same_Some (what.Label sign) w k))
    by false k = cc
note_row p band (figure.Wait wait) w h = cc
note_row p band (figure.WaitSign sign) w h = cc
note_row p band (figure.Sleep sleep) w h = cc
note_row p band (figure.Level level) w h = cc

pub All_flat_map : {X Y : Type 0} (P : Y → Type 0) (f : X → List Y) (xs : List X)
    → AllByRecursion (λ x. AllByRecursion P (f x)) xs → AllByRecursion P (flat_map f xs)
All_flat_map P f [] h = tt
All_flat_map P f (x ∷ xs) h = All_append P (f x) (flat_map f xs) h.0 (All_flat_map P f xs h.1)

-- what holds of each item of a shape holds of each part that it makes
pub of_notes : (P : Part → Type 0) (p : Page) (band top : ℕ) (f : Figure)
    → ((w : What) → note_of p band f ≡ Some w → P (part_at band top w))
    → AllByRecursion P (note_parts p band top f)
of_notes P p band top f each = by (note_of p band f) each
  where
    by : (o : Option What) → ((w : What) → o ≡ Some w → P (part_at band top w))
        → AllByRecursion P (option_to_list (option_map (part_at band top) o))
    by None k = tt
    by (Some w) k = (k w refl, tt)

pub of_shapes : (P : Part → Type 0) (p : Page) (band top : ℕ) (own : List Figure)
    → AllByRecursion (λ f. P (part_at band top (what.Figure f))) own
    → AllByRecursion (λ f. (w : What) → note_of p band f ≡ Some w → P (part_at band top w)) own
    → AllByRecursion P (map (figure_part band top) own ++ flat_map (note_parts p band top) own)
of_shapes P p band top own figures notes =
    All_append P (map (figure_part band top) own) (flat_map (note_parts p band top) own)
    (all_mapped (figure_part band top) P own figures)
    (All_flat_map P (note_parts p band top) own
    (All_map (λ f. (w : What) → note_of p band f ≡ Some w → P (part_at band top w))
    (λ f. AllByRecursion P (note_parts p band top f)) own (λ f k. of_notes P p band top f k) notes))

pub of_row : (P : Part → Type 0) (p : Page) (band top : ℕ) (q : Row) (own : List Figure)
    → P (part_at band top (what.Row q)) → AllByRecursion (λ f. P (part_at band top (what.Figure f))) own
    → AllByRecursion (λ f. (w : What) → note_of p band f ≡ Some w → P (part_at band top w)) own
    → AllByRecursion P (row_parts p band top q own)
of_row P p band top q own name figures notes = (name, of_shapes P p band top own figures notes)

-- ---- a row that shows something has such parts

pub record IsNamed (p : Page) (band : ℕ) (own : List Figure) (d : Drawing) : Type 0 where
  pub first : Figure
  pub rest : List Figure
  pub are : own ≡ first ∷ rest
  pub some : shows own ≡ true
  pub parts : (with_row p band own d).parts ≡ d.parts ++ row_parts p band d.top (figure_row first) own
  pub top : (with_row p band own d).top ≡ below d.top (row_height (figure_row first) (waits_in own))

abbrev drawn_if : Page → ℕ → Figure → List Figure → Drawing → Bool → Drawing
drawn_if p band f fs d b = row_drawn p band (f ∷ fs) d (if b then Some (figure_row f) else None)

pub row_cases : (p : Page) (band : ℕ) (own : List Figure) (d : Drawing)
    → ((shows own ≡ false) × (with_row p band own d ≡ d)) ⊎ IsNamed p band own d
row_cases p band [] d = inl (refl, refl)
row_cases p band (f ∷ fs) d = by (shows (f ∷ fs)) refl
  where
    by : (b : Bool) → shows (f ∷ fs) ≡ b
        → ((shows (f ∷ fs) ≡ false) × (with_row p band (f ∷ fs) d ≡ d)) ⊎ IsNamed p band (f ∷ fs) d
    by true is = inr (record {
      first = f;
      rest = fs;
      are = refl;
      some = is;
      parts = ap (λ b. (drawn_if p band f fs d b).parts) is
          ∙ ap (λ l. l ++ flat_map (note_parts p band d.top) (f ∷ fs))
          (append_assoc d.parts (part_at band d.top (what.Row (figure_row f)) ∷ [])
          (map (figure_part band d.top) (f ∷ fs)))
          ∙ append_assoc d.parts
          (part_at band d.top (what.Row (figure_row f)) ∷ map (figure_part band d.top) (f ∷ fs))
          (flat_map (note_parts p band d.top) (f ∷ fs));
      top = ap (λ b. (drawn_if p band f fs d b).top) is;
    })
    by false is = inl (is, ap (drawn_if p band f fs d) is)

-- the shapes of the row with a number
pub numbers_are : (n : ℕ) (figures : List Figure)
    → AllByRecursion (λ f. figure_number f ≡ n) (filter (is_in_row n) figures)
numbers_are n [] = tt
numbers_are n (f ∷ figures) = grind (arith, eqb-true (figure_number f) n, numbers_are n figures)

-- ---- what holds of the parts of each row that shows something, and of such parts one after the other, holds of all
-- rows of a band, and if it holds of the numbers of each band, it holds of all parts of a page
module _ (p : Page) (figures : List Figure) (Q : List Part → Type 0) (none : Q [])
    (both : (xs ys : List Part) → Q xs → Q ys → Q (xs ++ ys))
    (row : (band n top : ℕ) (f : Figure) (fs : List Figure)
    → filter (is_in_row n) (filter (stands_in p band) figures) ≡ f ∷ fs → shows (f ∷ fs) ≡ true
    → Q (row_parts p band top (figure_row f) (f ∷ fs))) where
  abbrev IsGood : Drawing → Type 0
  IsGood d = Q d.parts

  with_row_good : (band : ℕ) (d : Drawing) (n : ℕ) → IsGood d
      → IsGood (with_row_of p band (filter (stands_in p band) figures) d n)
  with_row_good band d n h =
      let own : List Figure = filter (is_in_row n) (filter (stands_in p band) figures) in
      ⊎_elim (λ k. subst IsGood (sym k.1) h)
      (λ named. subst Q (sym named.parts)
      (both d.parts (row_parts p band d.top (figure_row named.first) own) h
      (subst (λ l. Q (row_parts p band d.top (figure_row named.first) l)) (sym named.are)
      (row band n d.top named.first named.rest named.are (subst (λ l. shows l ≡ true) named.are named.some)))))
      (row_cases p band own d)

  with_rows_good : (band most : ℕ) (d : Drawing) → IsGood d
      → IsGood (fold (with_row_of p band (filter (stands_in p band) figures)) d (range_with_len 0 most))
  with_rows_good band most d h =
      keeps_all (with_row_of p band (filter (stands_in p band) figures)) IsGood (with_row_good band)
      (range_with_len 0 most) d h

  pub rows_good : (band : ℕ) (d : Drawing) → Q d.parts
      → Q (with_rows p band (filter (stands_in p band) figures) d).parts
  unfolding with_rows
  rows_good band d h = with_rows_good band most_rows d h

  module _ (numbers : (band top height : ℕ) → Q (numbers_of p band top height)) where
    band_good : (d : Drawing) (band : ℕ) → IsGood d → IsGood (with_band_of p figures d band)
    band_good d band h =
        let rows : Drawing = with_rows p band (filter (stands_in p band) figures)
        (record { parts = []; top = below d.top 22 }) in
        both (d.parts ++ numbers_of p band d.top (rows.top - below d.top 22)) rows.parts
        (both d.parts (numbers_of p band d.top (rows.top - below d.top 22)) h
        (numbers band d.top (rows.top - below d.top 22)))
        (rows_good band (record { parts = []; top = below d.top 22 }) none)

    bands_good : (many : ℕ) (d : Drawing) → IsGood d
        → IsGood (fold (with_band_of p figures) d (range_with_len 0 many))
    bands_good many d h = keeps_all (with_band_of p figures) IsGood band_good (range_with_len 0 many) d h

    pub page_good : Q (parts_of p figures)
    unfolding page_drawn
    page_good = bands_good (bands p) (record { parts = []; top = 74 }) none
