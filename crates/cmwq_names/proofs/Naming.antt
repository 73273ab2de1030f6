-- A text that is named number by number, and a number that is read digit by digit.
use Rattle.std.proofs.Common.{◌≡◌, ◌∙◌, ℕ, zero, suc, ◌+◌, ◌-◌, ◌<◌, ◌≤◌, Bool, true, false, List, [], ◌∷◌, ◌++◌, length}
use Rattle.std.proofs.Common.{add-one, ap, append-nil, append_assoc, arith, drop, drop-cons, get_or, refl, sym}
use Rattle.std.proofs.Common.{take-append-drop}
use Rattle.std.proofs.lemmas.List.{drop_all, length-drop}
use Rattle.std.specs.Prelude.{◌==◌}
use Rattle.serde_json.specs.Data.{Data}
use Rattle.cmwq_names.specs.Named.{after_digits, digits_at, digits_end, first_digit, from_digits, named, shown}
use Rattle.cmwq_names.specs.Named.{with_digit, words_before}
unfoldable use Rattle.cmwq_names.specs.Named.{named_first, value_from}
use Rattle.cmwq_names.specs.declared.form.Form.{Form}

-- ---- numbers

pub value_goes_on : (n i whole : ℕ) (ds : List ℕ) → i < length ds → value_from n (drop i ds) ≡ whole
    → value_from (with_digit n (get_or ds i 0)) (drop (i + 1) ds) ≡ whole
unfolding value_from
value_goes_on n i whole ds lt so_far =
    let split : drop i ds ≡ get_or ds i 0 ∷ drop (i + 1) ds = rw add-one (drop-cons ds i 0 lt) in
    sym (ap (value_from n) split) ∙ so_far

pub value_ends : (n i whole : ℕ) (ds : List ℕ) → length ds ≤ i → value_from n (drop i ds) ≡ whole → n ≡ whole
unfolding value_from
value_ends n i whole ds le so_far = grind (arith, drop, drop_all)

-- ---- what is left after a number is shorter

empty_of : (xs : List ℕ) → length xs ≡ 0 → xs ≡ []
empty_of [] none = refl
empty_of (x ∷ xs) none = absurd (omega (arith, none))

left_shorter : (text : List ℕ) (n : ℕ) → length text ≤ n + 1 → length (after_digits (from_digits text)) ≤ n
left_shorter text n few =
    let end = digits_end (from_digits text) in
    let outer : length (after_digits (from_digits text)) ≡ length (from_digits text) - end =
    length-drop end (from_digits text) in
    let inner : length (from_digits text) ≡ length text - first_digit text = length-drop (first_digit text) text in
    omega (arith, outer, inner, few)

module _ (d : Data) (f : Form) where
  abbrev next_of : List ℕ → List ℕ → List ℕ
  next_of text rest = words_before text ++ shown d f (words_before text) (digits_at (from_digits text)) ++ rest

  -- it is enough to look at as many numbers as there are bytes
  pub same_named : (n m : ℕ) (text : List ℕ) → length text ≤ n → length text ≤ m
      → named_first n d f text ≡ named_first m d f text
  unfolding named_first
  same_named zero zero text less more = refl
  same_named zero (suc m) [] less more = refl
  same_named zero (suc m) (b ∷ bs) less more = absurd (omega (arith, less))
  same_named (suc n) zero [] less more = refl
  same_named (suc n) zero (b ∷ bs) less more = absurd (omega (arith, more))
  same_named (suc n) (suc m) text less more =
      by
      (same_named n m (after_digits (from_digits text)) (left_shorter text n (omega (arith, less)))
      (left_shorter text m (omega (arith, more)))) (length (from_digits text) == 0) refl
    where
      by : named_first n d f (after_digits (from_digits text)) ≡ named_first m d f (after_digits (from_digits text))
          → (b : Bool) → (length (from_digits text) == 0) ≡ b
          → named_first (suc n) d f text ≡ named_first (suc m) d f text
      by left true is = rw is refl
      by left false is = rw is (ap (next_of text) left)

  pub named_none : (text : List ℕ) → length (from_digits text) ≡ 0 → named d f text ≡ text
  unfolding named_first
  named_none text none = at (length text)
    where
      at : (n : ℕ) → named_first n d f text ≡ text
      at zero = refl
      at (suc n) = rw none refl

  pub named_next : (text : List ℕ) → 0 < length (from_digits text)
      → named d f text ≡ next_of text (named d f (after_digits (from_digits text)))
  unfolding named_first
  named_next [] some = absurd (omega (arith, some))
  named_next (b ∷ bs) some =
      let text = b ∷ bs in
      let not : (length (from_digits text) == 0) ≡ false = grind (arith, some) in
      rw not
      (ap (next_of text)
      (same_named (length bs) (length (after_digits (from_digits text))) (after_digits (from_digits text))
      (left_shorter text (length bs) (omega arith)) (omega arith)))

  pub left_less : (text : List ℕ) → 0 < length text → length (after_digits (from_digits text)) < length text
  left_less [] some = absurd (omega (arith, some))
  left_less (b ∷ bs) some = let less = left_shorter (b ∷ bs) (length bs) (omega arith) in omega (arith, less)

  -- ---- what is named so far, and what is left

  pub none_left : (old text : List ℕ) → length (from_digits text) ≡ 0
      → (old ++ words_before text) ++ named d f (from_digits text) ≡ old ++ named d f text
  unfolding named_first
  none_left old text none =
      let empty : from_digits text ≡ [] = empty_of (from_digits text) none in
      let words = words_before text in
      let whole : words ≡ text =
      sym (append-nil words) ∙ ap (λ l. words ++ l) (sym empty)
      ∙ take-append-drop (first_digit text) text in
      ap (λ l. (old ++ words) ++ named d f l) empty ∙ append-nil (old ++ words) ∙ ap (λ l. old ++ l) whole
      ∙ ap (λ l. old ++ l) (sym (named_none text none))

  pub some_left : (old text : List ℕ) → 0 < length (from_digits text)
      → ((old ++ words_before text) ++ shown d f (words_before text) (digits_at (from_digits text)))
      ++ named d f (after_digits (from_digits text)) ≡ old ++ named d f text
  some_left old text some =
      let words = words_before text in
      let number = shown d f words (digits_at (from_digits text)) in
      let left = named d f (after_digits (from_digits text)) in
      ap (λ l. l ++ left) (append_assoc old words number) ∙ append_assoc old (words ++ number) left
      ∙ ap (λ l. old ++ l) (sym (named_next text some))

  -- nothing is left
  pub all_named : (out rest text : List ℕ) → length rest ≡ 0 → out ++ named d f rest ≡ named d f text
      → out ≡ named d f text
  unfolding named_first
  all_named out rest text none so_far =
      sym (append-nil out) ∙ ap (λ l. out ++ named d f l) (sym (empty_of rest none)) ∙ so_far
