-- In which bands a figure stands.
use Rattle.std.proofs.Common.{suc, ◌≡◌, ℕ, ◌+◌, ◌-◌, ◌*◌, ◌/◌, ◌<◌, ◌≤◌, ◌==◌, Bool, true, false, ◌&&◌, ◌||◌, Option}
use Rattle.std.proofs.Common.{Some, None}
use Rattle.std.proofs.Common.{◌⊎◌, inl, inr, ⊎_elim, max, nat_le, nat_lt, IfSome, refl, sym, ap, ap₂, ◌∙◌}
use Rattle.std.proofs.Common.{arith, suc-mul, add-one, le-leb, lt-ltb, leb-true, ltb-true, leb-false, ltb-false}
use Rattle.std.proofs.Common.{eqb-true}
use Rattle.std.proofs.Common.{eq-eqb}
use Rattle.std.specs.Prelude.{if◌then◌else◌}
use Rattle.std.proofs.lemmas.Bool.{and_parts, cases_eq, or_cases}
use Rattle.std.proofs.lemmas.Nat.{le-div}
use Rattle.cmwq_lemmas.proofs.Truth.{or_true}
use Rattle.std.proofs.Math.Nat.{div-mul-le_self, lt-div-mul-add, div-eq_of_lt-le, le-div_iff_mul-le}
use Rattle.cmwq_chart_text.specs.declared.figures.Figure.{Figure}
use Rattle.cmwq_chart_text.specs.declared.page.Page.{Page}
use Rattle.cmwq_chart_text.specs.Bands.{bands_behind, first_band, stands_in}
use Rattle.cmwq_chart_text.specs.Figures.{figure_from, figure_to, is_flat}
use Rattle.cmwq_chart_text.specs.Pages.{band_of, band_start, bands, bands_end, column_width, columns}
use Rattle.cmwq_chart_text.specs.Spans.{end_shown, first_shown, span_band, span_bands_end, span_end}
use Rattle.cmwq_chart_laws.specs.Drawn.{IsShownIn}
use Rattle.cmwq_chart_laws.specs.Standing.{HasEntryIn, IsFirstOrLast, FiguresStandWithEntries}
use Rattle.cmwq_chart_laws.specs.Standing.{FlatLevelsStandAtTheirEnds}

-- ---- bands and their entries

pub width_bounds : (p : Page) → (6 ≤ column_width p) × (column_width p ≤ 24)
unfolding column_width
width_bounds p = (omega arith, omega arith)

pub columns_some : (p : Page) → 0 < columns p
unfolding columns
columns_some p = let b = width_bounds p in le-div 1 1080 (column_width p) (omega arith) (omega arith)

one_more : (b c : ℕ) → (b + 1) * c ≡ b * c + c
one_more b c = let e : b + 1 ≡ suc b = add-one b in ap (λ n. n * c) e ∙ suc-mul b c

pub in_band : (p : Page) (band at : ℕ) → p.first ≤ at → band_start p band ≤ at → at < band_start p band + columns p
    → band_of p at ≡ band
unfolding band_of band_start
in_band p band at begun low high =
    let one = one_more band (columns p) in
    div-eq_of_lt-le (columns p) (omega arith) (omega (arith, one))

pub band_parts : (p : Page) (band at : ℕ) → p.first ≤ at → band_of p at ≡ band
    → (band_start p band ≤ at) × (at < band_start p band + columns p)
unfolding band_of band_start
band_parts p band at begun is =
    let q : ℕ = (at - p.first) / columns p in
    let low : q * columns p ≤ at - p.first = div-mul-le_self (at - p.first) (columns p) in
    let high : at - p.first < q * columns p + columns p = lt-div-mul-add (columns_some p) in
    let same : q * columns p ≡ band * columns p = ap (λ n. n * columns p) is in
    (omega arith, omega arith)

pub start_within : (p : Page) (band at : ℕ) → p.first ≤ at → band ≤ band_of p at → band_start p band ≤ at
unfolding band_of band_start
start_within p band at begun is =
    let below : band * columns p ≤ at - p.first =
    (le-div_iff_mul-le {k = columns p} {x = band} {y = at - p.first} (columns_some p)).0 is in
    omega arith

pub band_reached : (p : Page) (band at : ℕ) → band_start p band ≤ at → band ≤ band_of p at
unfolding band_of band_start
band_reached p band at low = le-div band (at - p.first) (columns p) (columns_some p) (omega arith)

pub band_rises : (p : Page) (a b : ℕ) → a ≤ b → band_of p a ≤ band_of p b
unfolding band_of
band_rises p a b less =
    let low : (a - p.first) / columns p * columns p ≤ a - p.first = div-mul-le_self (a - p.first) (columns p) in
    le-div ((a - p.first) / columns p) (b - p.first) (columns p) (columns_some p) (omega arith)

-- ---- the bands from that of an entry up to that of another

pub bands_end_is : (p : Page) (a e : ℕ) → a < e → bands_end p a e ≡ band_of p (e - 1) + 1
unfolding bands_end
bands_end_is p a e less = ap (λ b. if b then band_of p (e - 1) + 1 else 0) (lt-ltb a e less)

pub bands_end_some : (p : Page) (a e : ℕ) → 0 < bands_end p a e → a < e
unfolding bands_end
bands_end_some p a e some = by (nat_lt a e) refl some
  where
    by : (b : Bool) → nat_lt a e ≡ b → 0 < (if b then band_of p (e - 1) + 1 else 0) → a < e
    by true is k = ltb-true a e is
    by false is k = absurd (omega arith)

record IsMet (p : Page) (a e band : ℕ) : Type 0 where
  at : ℕ
  since : a ≤ at
  before : at < e
  in_band : band_of p at ≡ band

met : (p : Page) (a e band : ℕ) → p.first ≤ a → band_of p a ≤ band → band < bands_end p a e → IsMet p a e band
met p a e band begun low high =
    let less : a < e = bands_end_some p a e (omega arith) in
    let most : band ≤ band_of p (e - 1) = let is = bands_end_is p a e less in omega arith in
    by less most (nat_le (band_start p band) a) refl
  where
    by : a < e → band ≤ band_of p (e - 1) → (b : Bool) → nat_le (band_start p band) a ≡ b → IsMet p a e band
    by less most true is =
        let reached = band_reached p band a (leb-true (band_start p band) a is) in
        record { at = a; since = omega arith; before = less; in_band = omega arith }
    by less most false is =
        let later : a < band_start p band = leb-false (band_start p band) a is in
        let within : band_start p band ≤ e - 1 = start_within p band (e - 1) (omega arith) most in
        let some = columns_some p in
        record {
          at = band_start p band;
          since = omega arith;
          before = omega arith;
          in_band = in_band p band (band_start p band) (omega arith) (omega arith) (omega arith);
        }

between : (p : Page) (a e at : ℕ) → a ≤ at → at < e → (band_of p a ≤ band_of p at) × (band_of p at < bands_end p a e)
between p a e at since before =
    let low = band_rises p a at since in
    let high = band_rises p at (e - 1) (omega arith) in
    let is = bands_end_is p a e (omega arith) in
    (low, omega arith)

-- ---- the entries of a figure that are shown

pub shown_end : (p : Page) (to : Option ℕ) (at : ℕ) → at < end_shown p to → (at < p.end) × IfSome to (λ last. at ≤ last)
unfolding end_shown span_end
shown_end p None at less = (omega arith, tt)
shown_end p (Some last) at less = (omega arith, (let k : at ≤ last = omega arith in k))

pub end_reached : (p : Page) (to : Option ℕ) (at : ℕ) → at < p.end → IfSome to (λ last. at ≤ last) → at < end_shown p to
unfolding end_shown span_end
end_reached p None at less is = omega arith
end_reached p (Some last) at less is = let k : at ≤ last = is in omega arith

pub first_is : (p : Page) (from : ℕ) → first_shown p from ≡ max from p.first
unfolding first_shown
first_is p from = refl

module _ (p : Page) (f : Figure) where
  abbrev a : ℕ
  a = first_shown p (figure_from f)

  abbrev e : ℕ
  e = end_shown p (figure_to f)

  first_band_is : first_band p f ≡ band_of p a
  unfolding span_band
  first_band_is = refl

  behind_is : bands_behind p f ≡ bands_end p a e
  unfolding span_bands_end
  behind_is = refl

  abbrev is_between_bands : ℕ → Bool
  is_between_bands band = nat_le (first_band p f) band && nat_lt band (bands_behind p f)

  has_entry : (band : ℕ) → first_band p f ≤ band → band < bands_behind p f → HasEntryIn p f band
  has_entry band low high =
      let first = first_is p (figure_from f) in
      let m : IsMet p a e band = met p a e band (omega arith) (omega (arith, first_band_is)) (omega (arith, behind_is))
      in
      let ends = shown_end p (figure_to f) m.at m.before in
      let since = m.since in
      record {
        at = m.at;
        begun = omega arith;
        not_over = ends.1;
        is_shown = record { begun = omega arith; not_over = ends.0; in_band = m.in_band };
      }

  pub entry_between : (band : ℕ) → HasEntryIn p f band → (first_band p f ≤ band) × (band < bands_behind p f)
  entry_between band h =
      let first = first_is p (figure_from f) in
      let begun : figure_from f ≤ h.at = h.begun in
      let shown : p.first ≤ h.at = h.is_shown.begun in
      let same : band_of p h.at ≡ band = h.is_shown.in_band in
      let k = between p a e h.at (omega arith) (end_reached p (figure_to f) h.at h.is_shown.not_over h.not_over) in
      (omega (arith, k.0, first_band_is), omega (arith, k.1, behind_is))

  stood : (band : ℕ) (flat : Bool) → is_flat f ≡ flat → stands_in p band f
      ≡ (nat_lt (first_band p f) (bands_behind p f)
      && (if flat then (band == first_band p f) || (band + 1 == bands_behind p f) else is_between_bands band))
  stood band flat is = ap (λ b. nat_lt (first_band p f) (bands_behind p f)
      && (if b then (band == first_band p f) || (band + 1 == bands_behind p f) else is_between_bands band)) is

  pub stands_between : (band : ℕ) → stands_in p band f ≡ true → (first_band p f ≤ band) × (band < bands_behind p f)
  stands_between band h = by (is_flat f) refl
    where
      by : (flat : Bool) → is_flat f ≡ flat → (first_band p f ≤ band) × (band < bands_behind p f)
      by true is =
          let k = and_parts (nat_lt (first_band p f) (bands_behind p f)) ((band == first_band p f)
          || (band + 1 == bands_behind p f)) (sym (stood band true is) ∙ h) in
          let less = ltb-true (first_band p f) (bands_behind p f) k.0 in
          ⊎_elim (λ x. let same = eqb-true band (first_band p f) x in (omega arith, omega arith))
          (λ y. let same = eqb-true (band + 1) (bands_behind p f) y in (omega arith, omega arith))
          (or_cases (band == first_band p f) (band + 1 == bands_behind p f) k.1)
      by false is =
          let k = and_parts (nat_lt (first_band p f) (bands_behind p f)) (is_between_bands band)
          (sym (stood band false is) ∙ h) in
          let m = and_parts (nat_le (first_band p f) band) (nat_lt band (bands_behind p f)) k.1 in
          (leb-true (first_band p f) band m.0, ltb-true band (bands_behind p f) m.1)

  pub stands_there : (band : ℕ) → is_flat f ≡ false → first_band p f ≤ band → band < bands_behind p f
      → stands_in p band f ≡ true
  stands_there band is low high =
      stood band false is
      ∙ ap₂ (λ x y. x && y) (lt-ltb (first_band p f) (bands_behind p f) (omega arith))
      (ap₂ (λ x y. x && y) (le-leb (first_band p f) band low) (lt-ltb band (bands_behind p f) high))

  -- a flat one stands at both ends
  pub flat_stands : (band : ℕ) → is_flat f ≡ true → first_band p f ≤ band → band < bands_behind p f
      → (band ≡ first_band p f) ⊎ (band + 1 ≡ bands_behind p f) → stands_in p band f ≡ true
  flat_stands band is low high ends =
      stood band true is
      ∙ ap₂ (λ x y. x && y) (lt-ltb (first_band p f) (bands_behind p f) (omega arith)) (either ends)
    where
      either : (band ≡ first_band p f) ⊎ (band + 1 ≡ bands_behind p f)
          → ((band == first_band p f) || (band + 1 == bands_behind p f)) ≡ true
      either (inl same) = ap (λ b. b || (band + 1 == bands_behind p f)) (eq-eqb band (first_band p f) same)
      either (inr same) =
          ap (λ b. (band == first_band p f) || b) (eq-eqb (band + 1) (bands_behind p f) same)
          ∙ or_true (band == first_band p f)

  pub flat_at_end : (band : ℕ) → is_flat f ≡ true → stands_in p band f ≡ true
      → (band ≡ first_band p f) ⊎ (band + 1 ≡ bands_behind p f)
  flat_at_end band is h =
      let k = and_parts (nat_lt (first_band p f) (bands_behind p f)) ((band == first_band p f)
      || (band + 1 == bands_behind p f)) (sym (stood band true is) ∙ h) in
      ⊎_elim (λ x. inl (eqb-true band (first_band p f) x)) (λ y. inr (eqb-true (band + 1) (bands_behind p f) y))
      (or_cases (band == first_band p f) (band + 1 == bands_behind p f) k.1)

  pub entry_of : (band : ℕ) → stands_in p band f ≡ true → HasEntryIn p f band
  entry_of band h = let k = stands_between band h in has_entry band k.0 k.1

  to_end : (band : ℕ) → (band ≡ first_band p f) ⊎ (band + 1 ≡ bands_behind p f) → IsFirstOrLast p f band
  to_end band (inl same) = inl (λ b h. let k = (entry_between b h).0 in omega arith)
  to_end band (inr same) = inr (λ b h. let k = (entry_between b h).1 in omega arith)

  from_end : (band : ℕ) → first_band p f ≤ band → band < bands_behind p f → IsFirstOrLast p f band
      → (band ≡ first_band p f) ⊎ (band + 1 ≡ bands_behind p f)
  from_end band low high (inl first) =
      let h = has_entry (first_band p f) (omega arith) (omega arith) in
      let k = first (first_band p f) h in
      inl (omega arith)
  from_end band low high (inr last) =
      let h = has_entry (bands_behind p f - 1) (omega arith) (omega arith) in
      let k = last (bands_behind p f - 1) h in
      inr (omega arith)

  -- where it is flat and stands in a band between others, it has all entries of the band
  pub between_ends : (band at : ℕ) → is_flat f ≡ true → stands_in p band f ≡ false → HasEntryIn p f band
      → IsShownIn p band at → (figure_from f ≤ at) × IfSome (figure_to f) (λ last. at ≤ last)
  between_ends band at flat none h is =
      let k = entry_between band h in
      let later : first_band p f < band = by_order (first_band p f) band k.0
      (λ same. clash (flat_stands band flat k.0 k.1 (inl (sym same)))) in
      let earlier : band + 1 < bands_behind p f = by_order (band + 1) (bands_behind p f) (let m = k.1 in omega arith)
      (λ same. clash (flat_stands band flat k.0 k.1 (inr same))) in
      let here : band_of p at ≡ band = is.in_band in
      let first = first_is p (figure_from f) in
      let before : at < end_shown p (figure_to f) = within (nat_lt at e) refl earlier here in
      (begun (nat_le (figure_from f) at) refl later here, (shown_end p (figure_to f) at before).1)
    where
      clash : stands_in p band f ≡ true → ⊥
      clash there = let both : true ≡ false = sym there ∙ none in cc

      by_order : (x y : ℕ) → x ≤ y → (x ≡ y → ⊥) → x < y
      by_order x y less differs = ⊎_elim (λ same. absurd (differs same)) (λ other. omega arith) (cases_eq x y)

      begun : (b : Bool) → nat_le (figure_from f) at ≡ b → first_band p f < band → band_of p at ≡ band
          → figure_from f ≤ at
      begun true k later here = leb-true (figure_from f) at k
      begun false k later here =
          let less : at < figure_from f = leb-false (figure_from f) at k in
          let first = first_is p (figure_from f) in
          let rises = band_rises p at a (omega arith) in
          let same = first_band_is in
          absurd (omega arith)

      within : (b : Bool) → nat_lt at e ≡ b → band + 1 < bands_behind p f → band_of p at ≡ band → at < e
      within true k earlier here = ltb-true at e k
      within false k earlier here =
          let over : e ≤ at = ltb-false at e k in
          let same = behind_is in
          let some : a < e = bands_end_some p a e (omega arith) in
          let last = bands_end_is p a e some in
          let rises = band_rises p (e - 1) at (omega arith) in
          absurd (omega arith)

pub figures_stand_with_entries : FiguresStandWithEntries
figures_stand_with_entries p f band is =
    (entry_of p f band, (λ h. let k = entry_between p f band h in stands_there p f band is k.0 k.1))

pub flat_levels_stand : FlatLevelsStandAtTheirEnds
flat_levels_stand p f band is = (
  (λ h. (entry_of p f band h, to_end p f band (flat_at_end p f band is h))),
  (λ h. let k = entry_between p f band h.0 in flat_stands p f band is k.0 k.1 (from_end p f band k.0 k.1 h.1)),
)

-- each of these bands is one of the page
pub bands_within : (p : Page) (at : ℕ) → p.first ≤ at → at < p.end → band_of p at < bands p
bands_within p at begun before =
    let k = band_rises p at (p.end - 1) (omega arith) in
    let is = bands_end_is p p.first p.end (omega arith) in
    omega arith

pub stands_within : (p : Page) (f : Figure) (band : ℕ) → stands_in p band f ≡ true → band < bands p
stands_within p f band h =
    let one : HasEntryIn p f band = entry_of p f band h in
    let is : band_of p one.at ≡ band = one.is_shown.in_band in
    let k = bands_within p one.at one.is_shown.begun one.is_shown.not_over in
    omega arith
