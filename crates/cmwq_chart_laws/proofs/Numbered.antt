-- Each entry that is shown and is to have a number has it once.
use Rattle.std.proofs.Common.{cond, ◌≡◌, ℕ, ◌+◌, ◌-◌, ◌<◌, ◌≤◌, ◌==◌, Bool, true, false, ◌&&◌, List, [], ◌∷◌, ◌++◌, map}
use Rattle.std.proofs.Common.{count_by, filter, flat_map, fold, length, Some, None, option_map, option_to_list}
use Rattle.std.proofs.Common.{refl, sym, ap, ap₂, ◌∙◌, arith, append-nil, eq-eqb, eqb-true, ne_eqb, nat_le, nat_lt}
use Rattle.std.proofs.Common.{le-leb, lt-ltb, leb-true, ltb-true, leb-false, ltb-false, ⊎_elim}
use Rattle.std.specs.Prelude.{if◌then◌else◌}
use Rattle.std.specs.List.{AllByRecursion, range_with_len}
use Rattle.std.proofs.lemmas.Bool.{and_parts, cases_eq}
use Rattle.std.proofs.lemmas.List.Elements.{filter-append}
use Rattle.std.proofs.lemmas.List.{map-append}
use Rattle.std.proofs.lemmas.Option.{same_Some}
use Rattle.cmwq_lemmas.proofs.Filters.{filter_none}
use Rattle.cmwq_lemmas.proofs.Lists.{All_each, count_by-cons}
use Rattle.cmwq_lemmas.proofs.Truth.{and_false}
use Rattle.cmwq_chart_text.specs.declared.figures.Figure.{Figure}
use Rattle.cmwq_chart_text.specs.declared.figures.Figure.TheVariants as figure
use Rattle.cmwq_chart_text.specs.declared.page.Page.{Page}
use Rattle.cmwq_chart_text.specs.declared.part.Part.{Part}
use Rattle.cmwq_chart_text.specs.declared.part.What.{What}
use Rattle.cmwq_chart_text.specs.declared.part.What.TheVariants as what
use Rattle.cmwq_chart_text.specs.Bands.{stands_in}
use Rattle.cmwq_chart_text.specs.Drawings.{Drawing, below, number_parts, numbers_of, page_drawn, part_at, with_band_of}
use Rattle.cmwq_chart_text.specs.Drawings.{with_rows}
use Rattle.cmwq_chart_text.specs.Notes.{has_caption, has_label, has_number, note_of}
use Rattle.cmwq_chart_text.specs.Figures.{figure_row}
use Rattle.cmwq_chart_text.specs.Pages.{band_of, band_start, bands, end_in}
use Rattle.cmwq_chart_laws.specs.Drawn.{IsShownIn, NumbersAreDrawn, is_number, is_number_in, is_shown_in, parts_of}
use Rattle.cmwq_chart_laws.proofs.Folded.{none_below, none_picked, only, picked, sees_all}
use Rattle.cmwq_chart_laws.proofs.Meant.{of_numbers, shown_there}
use Rattle.cmwq_chart_laws.proofs.Rows.{of_row, row_parts, rows_good}
use Rattle.cmwq_chart_laws.proofs.StandIn.{bands_within, band_parts}

-- ---- what belongs to a row is no number

note_no_number : (p : Page) (band at : ℕ) (f : Figure) (w : What) → note_of p band f ≡ Some w → is_number at w ≡ false
note_no_number p band at (figure.Bar bar) w h = by (has_caption p band bar) h
  where
    by : (b : Bool) → (if b then Some (what.Caption bar) else None) ≡ Some w → is_number at w ≡ false
    by true k = ap (is_number at) (sym (same_Some (what.Caption bar) w k))
    by false k = cc
note_no_number p band at (figure.Sign sign) w h = by (has_label p sign) h
  where
    by : (b : Bool) → (if b then Some (what.Label sign) else None) ≡ Some w → is_number at w ≡ false
    by true k = ap (is_number at) (sym (same_Some (what.Label sign) w k))
    by false k = cc
note_no_number p band at (figure.Wait wait) w h = cc
note_no_number p band at (figure.WaitSign sign) w h = cc
note_no_number p band at (figure.Sleep sleep) w h = cc
note_no_number p band at (figure.Level level) w h = cc

module _ (p : Page) (figures : List Figure) (band at : ℕ) where
  abbrev seen : List Part → List ℕ
  seen parts = map (λ x. at) (filter (is_number_in band at) parts)

  seen_append : (xs ys : List Part) → seen (xs ++ ys) ≡ seen xs ++ seen ys
  seen_append xs ys =
      ap (map (λ x. at)) (filter-append (is_number_in band at) xs ys)
      ∙ map-append (λ x. at) (filter (is_number_in band at) xs) (filter (is_number_in band at) ys)

  none_seen : (parts : List Part) → AllByRecursion (λ x. is_number_in band at x ≡ false) parts → seen parts ≡ []
  none_seen parts h = ap (map (λ x. at)) (filter_none (is_number_in band at) parts h)

  rows_unseen : (b : ℕ) (d : Drawing) → seen d.parts ≡ []
      → seen (with_rows p b (filter (stands_in p b) figures) d).parts ≡ []
  rows_unseen b d h =
      rows_good p figures (λ parts. seen parts ≡ []) refl
      (λ xs ys hx hy. seen_append xs ys ∙ ap₂ (λ k l. k ++ l) hx hy)
      (λ c n top f fs are some. none_seen (row_parts p c top (figure_row f) (f ∷ fs))
      (of_row (λ x. is_number_in band at x ≡ false) p c top (figure_row f) (f ∷ fs) (and_false (c == band))
      (All_each (λ g. is_number_in band at (part_at c top (what.Figure g)) ≡ false) (f ∷ fs)
      (λ g. and_false (c == band)))
      (All_each (λ g. (w : What) → note_of p c g ≡ Some w → is_number_in band at (part_at c top w) ≡ false) (f ∷ fs)
      (λ g w k. ap (λ x. (c == band) && x) (note_no_number p c at g w k) ∙ and_false (c == band)))))
      b d h

  -- ---- the numbers of a band

  abbrev one_if : Bool → List ℕ
  one_if b = if b then at ∷ [] else []

  seen_each : (f : ℕ → List Part) (is : List ℕ) → seen (flat_map f is) ≡ flat_map (λ i. seen (f i)) is
  seen_each f [] = refl
  seen_each f (i ∷ is) = seen_append (f i) (flat_map f is) ∙ ap (λ l. seen (f i) ++ l) (seen_each f is)

  same_flat : (f g : ℕ → List ℕ) (is : List ℕ) → ((i : ℕ) → f i ≡ g i) → flat_map f is ≡ flat_map g is
  same_flat f g [] same = refl
  same_flat f g (i ∷ is) same = ap₂ (λ k l. k ++ l) (same i) (same_flat f g is same)

  number_seen : (top height i : ℕ)
      → seen (number_parts p band top height i) ≡ only at (λ j. one_if (has_number p at)) i
  number_seen top height i = ⊎_elim here other (cases_eq i at)
    where
      here : i ≡ at → seen (number_parts p band top height i) ≡ only at (λ j. one_if (has_number p at)) i
      here same =
          ap (λ k. seen (number_parts p band top height k)) same ∙ itself (has_number p at)
          ∙ sym (ap (λ b. if b then one_if (has_number p at) else []) (eq-eqb i at same))
        where
          itself : (b : Bool) → seen (option_to_list (option_map (part_at band top)
              (if b then Some (what.Number at height) else None))) ≡ one_if b
          itself true =
              ap (λ b. map (λ (x : Part). at) (if b then part_at band top (what.Number at height) ∷ [] else []))
              (ap₂ (λ a c. a && c) (eq-eqb band band refl) (eq-eqb at at refl))
          itself false = refl

      other : (i ≡ at → ⊥) → seen (number_parts p band top height i) ≡ only at (λ j. one_if (has_number p at)) i
      other differs =
          none_of (has_number p i) ∙ sym (ap (λ b. if b then one_if (has_number p at) else []) (ne_eqb i at differs))
        where
          none_of : (b : Bool) → seen (option_to_list (option_map (part_at band top)
              (if b then Some (what.Number i height) else None))) ≡ []
          none_of true =
              ap (λ b. map (λ (x : Part). at) (if b then part_at band top (what.Number i height) ∷ [] else []))
              (ap (λ c. (band == band) && c) (ne_eqb i at differs) ∙ and_false (band == band))
          none_of false = refl

  -- the entry is in this range if it is shown there
  in_it : is_shown_in p band at ≡ true
      → (band_start p band ≤ at) × (at < band_start p band + (end_in p band p.end - band_start p band))
  unfolding end_in
  in_it h =
      let k = and_parts (nat_le p.first at && nat_lt at p.end) (band_of p at == band) h in
      let m = and_parts (nat_le p.first at) (nat_lt at p.end) k.0 in
      let begun = leb-true p.first at m.0 in
      let before = ltb-true at p.end m.1 in
      let within = band_parts p band at begun (eqb-true (band_of p at) band k.1) in
      let low = within.0 in let high = within.1 in
      (low, omega arith)

  from_it : band_start p band ≤ at → at < band_start p band + (end_in p band p.end - band_start p band)
      → is_shown_in p band at ≡ true
  from_it low high =
      let is : IsShownIn p band at = shown_there p band at low high in
      ap₂ (λ x y. x && y)
      (ap₂ (λ x y. x && y) (le-leb p.first at is.begun) (lt-ltb at p.end is.not_over))
      (eq-eqb (band_of p at) band is.in_band)

  numbers_seen : (top height : ℕ)
      → seen (numbers_of p band top height) ≡ one_if (is_shown_in p band at && has_number p at)
  numbers_seen top height =
      seen_each (number_parts p band top height) (range_with_len start many)
      ∙ same_flat (λ i. seen (number_parts p band top height i)) (only at (λ j. one_if (has_number p at)))
      (range_with_len start many) (number_seen top height)
      ∙ by (is_shown_in p band at) refl
    where
      start : ℕ
      start = band_start p band

      many : ℕ
      many = end_in p band p.end - band_start p band

      by : (b : Bool) → is_shown_in p band at ≡ b
          → flat_map (only at (λ j. one_if (has_number p at)))
          (range_with_len (band_start p band) (end_in p band p.end - band_start p band))
          ≡ one_if (b && has_number p at)
      by true h = let k = in_it h in picked at (λ j. one_if (has_number p at)) (band_start p band)
          (end_in p band p.end - band_start p band) k.0 k.1
      by false h = none (nat_le (band_start p band) at) refl
        where
          none : (b : Bool) → nat_le (band_start p band) at ≡ b
              → flat_map (only at (λ j. one_if (has_number p at)))
              (range_with_len (band_start p band) (end_in p band p.end - band_start p band)) ≡ []
          none false k =
              none_picked at (λ j. one_if (has_number p at)) (band_start p band)
              (end_in p band p.end - band_start p band) (leb-false (band_start p band) at k)
          none true k = far (nat_lt at (band_start p band + (end_in p band p.end - band_start p band))) refl
            where
              far : (b : Bool) → nat_lt at (band_start p band + (end_in p band p.end - band_start p band)) ≡ b
                  → flat_map (only at (λ j. one_if (has_number p at)))
                  (range_with_len (band_start p band) (end_in p band p.end - band_start p band)) ≡ []
              far true m =
                  let clash : true ≡ false = sym (from_it (leb-true (band_start p band) at k)
                  (ltb-true at (band_start p band + (end_in p band p.end - band_start p band)) m)) ∙ h in
                  cc
              far false m =
                  none_below at (λ j. one_if (has_number p at)) (band_start p band)
                  (end_in p band p.end - band_start p band)
                  (ltb-false at (band_start p band + (end_in p band p.end - band_start p band)) m)

  -- ---- all bands

  abbrev has_one : ℕ → List ℕ
  has_one b = one_if (is_shown_in p band at && has_number p at)

  band_numbers : (b top height : ℕ) → seen (numbers_of p b top height) ≡ only band has_one b
  band_numbers b top height = ⊎_elim here other (cases_eq b band)
    where
      here : b ≡ band → seen (numbers_of p b top height) ≡ only band has_one b
      here same =
          ap (λ c. seen (numbers_of p c top height)) same ∙ numbers_seen top height
          ∙ sym (ap (λ x. if x then has_one b else []) (eq-eqb b band same))

      other : (b ≡ band → ⊥) → seen (numbers_of p b top height) ≡ only band has_one b
      other differs =
          none_seen (numbers_of p b top height)
          (of_numbers (λ x. is_number_in band at x ≡ false) p b top height
          (λ i is k. ap (λ x. x && (i == at)) (ne_eqb b band differs)))
          ∙ sym (ap (λ x. if x then has_one b else []) (ne_eqb b band differs))

  one_band : (d : Drawing) (b : ℕ) → seen (with_band_of p figures d b).parts ≡ seen d.parts ++ only band has_one b
  one_band d b =
      let empty : Drawing = record { parts = []; top = below d.top 22 } in
      let made : Drawing = with_rows p b (filter (stands_in p b) figures) empty in
      let numbers : List Part = numbers_of p b d.top (made.top - below d.top 22) in
      seen_append (d.parts ++ numbers) made.parts
      ∙ ap₂ (λ k l. k ++ l)
      (seen_append d.parts numbers
      ∙ ap (λ l. seen d.parts ++ l) (band_numbers b d.top (made.top - below d.top 22)))
      (rows_unseen b empty refl)
      ∙ append-nil (seen d.parts ++ only band has_one b)

  some_bands : (many : ℕ) → (is_shown_in p band at ≡ true → band < many) → (d : Drawing)
      → seen (fold (with_band_of p figures) d (range_with_len 0 many)).parts ≡ seen d.parts ++ has_one 0
  some_bands many within d =
      sees_all (with_band_of p figures) (λ (e : Drawing). seen e.parts) (only band has_one) one_band
      (range_with_len 0 many) d
      ∙ ap (λ l. seen d.parts ++ l) (by (nat_lt band many) refl)
    where
      by : (b : Bool) → nat_lt band many ≡ b → flat_map (only band has_one) (range_with_len 0 many) ≡ has_one 0
      by true h = picked band has_one 0 many (omega arith) (let less = ltb-true band many h in omega arith)
      by false h =
          let over : many ≤ band = ltb-false band many h in
          none_below band has_one 0 many (omega arith) ∙ sym (unshown (is_shown_in p band at) refl)
        where
          unshown : (b : Bool) → is_shown_in p band at ≡ b → one_if (b && has_number p at) ≡ []
          unshown false k = refl
          unshown true k = let less = within k in let over : many ≤ band = ltb-false band many h in absurd (omega arith)

  band_there : is_shown_in p band at ≡ true → band < bands p
  band_there h =
      let k = and_parts (nat_le p.first at && nat_lt at p.end) (band_of p at == band) h in
      let m = and_parts (nat_le p.first at) (nat_lt at p.end) k.0 in
      let same = eqb-true (band_of p at) band k.1 in
      let less = bands_within p at (leb-true p.first at m.0) (ltb-true at p.end m.1) in
      omega arith

  pub all_numbers : seen (parts_of p figures) ≡ one_if (is_shown_in p band at && has_number p at)
  unfolding page_drawn
  all_numbers = some_bands (bands p) band_there (record { parts = []; top = 74 })

pub numbers_are_drawn : NumbersAreDrawn
numbers_are_drawn p figures band at =
    counted (is_number_in band at) (parts_of p figures)
    ∙ ap length (all_numbers p figures band at)
    ∙ by (is_shown_in p band at && has_number p at)
  where
    counted : (test : Part → Bool) (parts : List Part)
        → count_by test parts ≡ length (map (λ x. at) (filter test parts))
    counted test [] = refl
    counted test (x ∷ parts) =
        count_by-cons test x parts ∙ ap (λ n. cond (test x) 1 0 + n) (counted test parts) ∙ more (test x)
      where
        more : (b : Bool) → cond b 1 0 + length (map (λ x. at) (filter test parts))
            ≡ length (map (λ x. at) (cond b (x ∷ filter test parts) (filter test parts)))
        more true = omega arith
        more false = omega arith

    by : (b : Bool) → length (if b then at ∷ [] else []) ≡ (if b then 1 else 0)
    by true = refl
    by false = refl
