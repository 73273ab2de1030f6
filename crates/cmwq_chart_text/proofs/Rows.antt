-- Shapes that are ordered by their rows: the first row is drawn of those at the front, and the others of the rest.
use Rattle.std.proofs.Common.{◌≡◌, ◌≢◌, ℕ, suc, zero, ◌+◌, ◌-◌, ◌<◌, ◌≤◌, ◌==◌, Bool, true, false, List, [], ◌∷◌, ◌++◌}
use Rattle.std.proofs.Common.{◌&&◌, not, length, filter, fold, get_or, take, drop, refl, sym, ap, ap₂, ◌∙◌, append-nil}
use Rattle.std.proofs.Common.{eq-eqb, None, nat_lt, if◌then◌else◌, arith}
use Rattle.std.specs.declared.cmp.Ordering.TheVariants.{Equal, Greater}
use Rattle.std.specs.List.{All, range_with_len}
use Rattle.std.specs.List.Sorted.{IsNonDecreasingBy, ties}
use Rattle.std.specs.Ordering.{is_lt, nat_cmp}
use Rattle.std.proofs.lemmas.Bool.Decides.{nat_tests}
use Rattle.std.proofs.lemmas.List.{length-drop, get_or-drop, get_or-take, length-take, take-append-drop}
use Rattle.std.proofs.lemmas.List.Elements.{All-head, All-tail, filter-append, filter_agree}
use Rattle.std.proofs.lemmas.List.Sums.{fold-append}
use Rattle.cmwq_chart_text.specs.declared.figures.Figure.{Figure}
use Rattle.cmwq_chart_text.specs.declared.figures.Figure.TheVariants as figure
use Rattle.cmwq_chart_text.specs.declared.page.Page.{Page}
use Rattle.cmwq_chart_text.specs.Drawings.{Drawing, is_in_row, with_row, with_row_of, with_rows}
use Rattle.cmwq_chart_text.specs.Figures.{figure_number, most_rows}
use Rattle.cmwq_chart_text.proofs.Ranges.{range_parts}

module _ {X : Type 0} (p : X → Bool) where
  all_pass : (xs : List X) → All (λ x. p x ≡ true) xs → filter p xs ≡ xs
  all_pass [] h = refl
  all_pass (x ∷ xs) h = rw (All-head (λ x. p x ≡ true) x xs h, all_pass xs (All-tail (λ x. p x ≡ true) x xs h)) refl

  none_pass : (xs : List X) → All (λ x. p x ≡ false) xs → filter p xs ≡ []
  none_pass [] h = refl
  none_pass (x ∷ xs) h = rw (All-head (λ x. p x ≡ false) x xs h) (none_pass xs (All-tail (λ x. p x ≡ false) x xs h))

-- What is drawn for each row of a range, of the elements of that row. Of none, nothing is drawn.
module _ {X D : Type 0} (draw : List X → D → D) (nothing : (d : D) → draw [] d ≡ d) (row : X → ℕ) where
  abbrev of_row : ℕ → List X → List X
  of_row n xs = filter (λ x. row x == n) xs

  abbrev with_one : List X → D → ℕ → D
  with_one xs d n = draw (of_row n xs) d

  none_drawn : (xs : List X) (from n : ℕ) → ((k : ℕ) → from ≤ k → k < from + n → of_row k xs ≡ []) → (d : D)
      → fold (with_one xs) d (range_with_len from n) ≡ d
  none_drawn xs from zero none d = refl
  none_drawn xs from (suc n) none d =
      none_drawn xs (from + 1) n (λ k since until. none k (omega arith) (omega arith)) (with_one xs d from)
      ∙ ap (λ l. draw l d) (none from (omega arith) (omega arith)) ∙ nothing d

  same_drawn : (xs ys : List X) (from n : ℕ)
      → ((k : ℕ) → from ≤ k → k < from + n → of_row k xs ≡ of_row k ys) → (d : D)
      → fold (with_one xs) d (range_with_len from n) ≡ fold (with_one ys) d (range_with_len from n)
  same_drawn xs ys from zero same d = refl
  same_drawn xs ys from (suc n) same d =
      same_drawn xs ys (from + 1) n (λ k since until. same k (omega arith) (omega arith)) (with_one xs d from)
      ∙ ap (λ l. fold (with_one ys) (draw l d) (range_with_len (from + 1) n)) (same from (omega arith) (omega arith))

  from_row : (xs own : List X) (r most : ℕ) → r < most → ((k : ℕ) → k < r → of_row k xs ≡ []) → of_row r xs ≡ own
      → (d : D) → fold (with_one xs) d (range_with_len 0 most)
      ≡ fold (with_one xs) (draw own d) (range_with_len (r + 1) (most - (r + 1)))
  from_row xs own r most less none own_is d =
      let m : most ≡ r + (1 + (most - (r + 1))) = omega arith in
      let n : 0 + r ≡ r = omega arith in
      let one : range_with_len r (1 + (most - (r + 1))) ≡ r ∷ range_with_len (r + 1) (most - (r + 1)) =
      range_parts r 1 (most - (r + 1)) in
      let range : range_with_len 0 most ≡ range_with_len 0 r ++ r ∷ range_with_len (r + 1) (most - (r + 1)) =
      ap (range_with_len 0) m ∙ range_parts 0 r (1 + (most - (r + 1)))
      ∙ ap (λ k. range_with_len 0 r ++ range_with_len k (1 + (most - (r + 1)))) n
      ∙ ap (λ l. range_with_len 0 r ++ l) one in
      ap (fold (with_one xs) d) range
      ∙ fold-append (with_one xs) d (range_with_len 0 r) (r ∷ range_with_len (r + 1) (most - (r + 1)))
      ∙ ap (λ e. fold (with_one xs) (with_one xs e r) (range_with_len (r + 1) (most - (r + 1))))
      (none_drawn xs 0 r (λ k since until. none k (omega arith)) d)
      ∙ ap (λ l. fold (with_one xs) (draw l d) (range_with_len (r + 1) (most - (r + 1)))) own_is

  first_row : (own rest : List X) (r most : ℕ) → r < most → All (λ x. row x ≡ r) own → All (λ x. r < row x) rest
      → (d : D) → fold (with_one (own ++ rest)) d (range_with_len 0 most)
      ≡ fold (with_one rest) (draw own d) (range_with_len 0 most)
  first_row own rest r most less here later d =
      from_row (own ++ rest) own r most less
      (λ k under. both k ∙ ap₂ (λ a b. a ++ b) (not_own k (λ same. omega arith)) (not_rest k (omega arith)))
      (both r ∙ ap₂ (λ a b. a ++ b) all_own (not_rest r (omega arith)) ∙ append-nil own) d
      ∙ same_drawn (own ++ rest) rest (r + 1) (most - (r + 1))
      (λ k since until. both k ∙ ap (λ l. l ++ of_row k rest) (not_own k (λ same. omega arith))) (draw own d)
      ∙ sym (from_row rest [] r most less (λ k under. not_rest k (omega arith)) (not_rest r (omega arith)) (draw own d)
      ∙ ap (λ e. fold (with_one rest) e (range_with_len (r + 1) (most - (r + 1)))) (nothing (draw own d)))
    where
      both : (k : ℕ) → of_row k (own ++ rest) ≡ of_row k own ++ of_row k rest
      both k = filter-append (λ x. row x == k) own rest

      all_own : of_row r own ≡ own
      all_own = all_pass (λ x. row x == r) own (λ i d in_it. eq-eqb _ _ (here i d in_it))

      not_own : (k : ℕ) → k ≢ r → of_row k own ≡ []
      not_own k other = none_pass (λ x. row x == k) own (λ i d in_it. far (row (get_or own i d)) (here i d in_it))
        where
          far : (n : ℕ) → n ≡ r → (n == k) ≡ false
          far n is = grind (arith, nat_tests, other)

      not_rest : (k : ℕ) → k ≤ r → of_row k rest ≡ []
      not_rest k under = none_pass (λ x. row x == k) rest (λ i d in_it. far (row (get_or rest i d)) (later i d in_it))
        where
          far : (n : ℕ) → r < n → (n == k) ≡ false
          far n h = grind (arith, nat_tests)

  -- where the first n of them are those in the row of the first, and rows do not fall
  pub next_row : (xs : List X) (n most : ℕ) → IsNonDecreasingBy row xs → 0 < n → n ≤ length xs
      → ((k : ℕ) (d : X) → k < n → row (get_or xs k d) ≡ row (get_or xs 0 d))
      → ((d : X) → n < length xs → row (get_or xs n d) ≢ row (get_or xs 0 d))
      → ((d : X) → row (get_or xs 0 d) < most) → (d : D)
      → fold (with_one xs) d (range_with_len 0 most)
      ≡ fold (with_one (drop n xs)) (draw (take n xs) d) (range_with_len 0 most)
  next_row [] n most order some within same other less d = absurd (omega arith)
  next_row (x ∷ ys) n most order some within same other less d =
      let xs = x ∷ ys in
      ap (λ l. fold (with_one l) d (range_with_len 0 most)) (sym (take-append-drop n xs))
      ∙ first_row (take n xs) (drop n xs) (row x) most (less x)
      (λ k e lt. ap row (get_or-take n xs k e (omega (arith, length-take n xs, lt)))
      ∙ same k e (omega (arith, length-take n xs, lt)))
      (λ k e lt. omega (
        arith,
        ap row (get_or-drop n xs k e),
        length-drop n xs,
        lt,
        order 0 n e (omega arith) (omega (arith, length-drop n xs, lt)),
        order n (n + k) e (omega arith) (omega (arith, length-drop n xs, lt)),
        other e (omega (arith, length-drop n xs, lt)),
      )) d

-- ---- rows of a band
module _ (p : Page) (band : ℕ) where
  nothing_drawn : (d : Drawing) → with_row p band [] d ≡ d
  nothing_drawn d = refl

  pub no_rows : (d : Drawing) → d ≡ with_rows p band [] d
  unfolding with_rows
  no_rows d =
      sym (none_drawn (with_row p band) nothing_drawn figure_number [] 0 most_rows (λ k a b. refl) d)

  pub same_rows : (xs ys : List Figure) → ((n : ℕ) → filter (is_in_row n) xs ≡ filter (is_in_row n) ys)
      → (d : Drawing) → with_rows p band xs d ≡ with_rows p band ys d
  unfolding with_rows
  same_rows xs ys same d =
      same_drawn (with_row p band) nothing_drawn figure_number xs ys 0 most_rows (λ k a b. same k) d

  pub row_by_row : (xs : List Figure) (n : ℕ) → IsNonDecreasingBy figure_number xs → 0 < n
      → n ≤ length xs
      → ((k : ℕ) (d : Figure) → k < n
      → figure_number (get_or xs k d) ≡ figure_number (get_or xs 0 d))
      → ((d : Figure) → n < length xs
      → figure_number (get_or xs n d) ≢ figure_number (get_or xs 0 d))
      → ((d : Figure) → figure_number (get_or xs 0 d) < most_rows) → (d e : Drawing)
      → e ≡ with_row p band (take n xs) d → with_rows p band (drop n xs) e ≡ with_rows p band xs d
  unfolding with_rows
  row_by_row xs n order some within same other less d e is =
      ap (λ e. fold (with_row_of p band (drop n xs)) e (range_with_len 0 most_rows)) is
      ∙ sym (next_row (with_row p band) nothing_drawn figure_number xs n most_rows order some within
      same other less d)

-- a stable sort by rows leaves the shapes of each row, since there is a shape in each
compares : (n m : ℕ) → (m == n) ≡ (not (is_lt (nat_cmp n m)) && not (is_lt (nat_cmp m n)))
compares n m = at (nat_lt n m) (nat_lt m n) (m == n) (n == m) refl refl refl refl
  where
    at : (a b c e : Bool) → nat_lt n m ≡ a → nat_lt m n ≡ b → (m == n) ≡ c → (n == m) ≡ e
        → (m == n) ≡ (not (is_lt (nat_cmp n m)) && not (is_lt (nat_cmp m n)))
    at true b c e i j k l = let no : (m == n) ≡ false = grind (arith, nat_tests) in rw (no, i) refl
    at false true c e i j k l = let no : (m == n) ≡ false = grind (arith, nat_tests) in rw (no, i, j, l) (last e)
      where
        last : (e : Bool) → false ≡ (not (is_lt (if e then Equal else Greater)) && false)
        last true = refl
        last false = refl
    at false false c e i j k l =
        let yes : (m == n) ≡ true = grind (arith, nat_tests) in
        let also : (n == m) ≡ true = grind (arith, nat_tests) in rw (yes, i, j, also) refl

pub rows_stay : (xs ys : List Figure)
    → ((f : Figure)
    → filter (ties (λ a b. is_lt (nat_cmp (figure_number a) (figure_number b))) f) ys
    ≡ filter (ties (λ a b. is_lt (nat_cmp (figure_number a) (figure_number b))) f) xs)
    → (n : ℕ) → filter (is_in_row n) ys ≡ filter (is_in_row n) xs
rows_stay xs ys stable n =
    let f : Figure = figure.Wait (record { caller = record { 0 = n }; row = 0; from = 0; to = None }) in
    let same : (g : Figure) → is_in_row n g
    ≡ ties (λ a b. is_lt (nat_cmp (figure_number a) (figure_number b))) f g =
    λ g. compares n (figure_number g) in
    filter_agree _ _ same ys ∙ stable f ∙ sym (filter_agree _ _ same xs)
