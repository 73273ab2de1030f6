-- An entry puts nothing ahead of an older queueing.
use Rattle.cmwq_theory_steps.specs.Common.{◌≡◌, ◌<◌, ◌≤◌, ◌+◌, ℕ, Bool, true, false, cond, ◌&&◌, List, [], ◌∷◌, ◌++◌}
use Rattle.cmwq_theory_steps.specs.Common.{length, filter, count_by, Option, Some, None, option_to_list, refl, ap, ◌∙◌}
use Rattle.cmwq_theory_steps.specs.Common.{arith, AllByRecursion, nat_tests, Entry, Queueing, queueings, opening}
use Rattle.cmwq_theory_steps.specs.Common.{is_live, still_open, is_ahead}
use Rattle.cmwq_lemmas.proofs.Lists.{All_map, count_by-head}
use Rattle.cmwq_theory_steps.proofs.Rising.{IsBelow, queueings_below, opening_number}
use Rattle.cmwq_theory_steps.proofs.Opens.{open_before}

count_step : {X : Type 0} (p : X → Bool) (x : X) (m n : ℕ) (a b : Bool) → (a ≡ true → b ≡ true) → m ≤ n
    → cond (a && p x) 1 0 + m ≤ cond (b && p x) 1 0 + n
count_step p x m n true true h less = omega arith
count_step p x m n true false h less = let bad : false ≡ true = h refl in cc
count_step p x m n false b h less = omega arith

module _ {X : Type 0} where
  count_last : (p f : X → Bool) (o : Option X) → ((y : X) → o ≡ Some y → p y ≡ false)
      → count_by p (filter f (option_to_list o)) ≡ 0
  count_last p f None h = refl
  count_last p f (Some y) h = count_by-head p y [] (f y) ∙ ap (λ b. cond (f y && b) 1 0 + 0) (h y refl) ∙ none (f y)
    where
      none : (b : Bool) → cond (b && false) 1 0 + 0 ≡ 0
      none true = refl
      none false = refl

  -- of the elements that pass f, and one more that fails p, no more pass p than of those that pass a wider test
  count_narrower : (p f g : X → Bool) (xs : List X) (o : Option X) → AllByRecursion (λ x. f x ≡ true → g x ≡ true) xs
      → ((y : X) → o ≡ Some y → p y ≡ false)
      → count_by p (filter f (xs ++ option_to_list o)) ≤ count_by p (filter g xs)
  count_narrower p f g [] o h last = let none = count_last p f o last in omega arith
  count_narrower p f g (x ∷ xs) o h last =
      let rest = count_narrower p f g xs o h.1 last in
      let here =
      count_step p x (count_by p (filter f (xs ++ option_to_list o))) (count_by p (filter g xs)) (f x) (g x) h.0
      rest in
      let left = count_by-head p x (filter f (xs ++ option_to_list o)) (f x) in
      let right = count_by-head p x (filter g xs) (g x) in
      omega arith

pub fewer_ahead : (past : List Entry) (e : Entry) (x : Queueing) → x.number < length past
    → count_by (is_ahead x) (still_open (e ∷ past)) ≤ count_by (is_ahead x) (still_open past)
unfolding queueings
fewer_ahead past e x older =
    count_narrower (is_ahead x) (is_live (e ∷ past)) (is_live past) (queueings past) (opening past e)
    (All_map (IsBelow (length past)) (λ y. is_live (e ∷ past) y ≡ true → is_live past y ≡ true) (queueings past)
    (λ y less. open_before e past y.item.0 y.number less) (queueings_below past))
    (λ y opened. let number = opening_number past e y opened in grind (arith, nat_tests))
