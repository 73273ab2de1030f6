-- Lists of what has a number, where one is left out; with what the other files name of lists and truth values from
-- outside the crate, in one import.
use Rattle.cmwq_refinement.specs.Common.{◌≡◌, ◌==◌, ℕ, Bool, false, not, List, [], ◌∷◌, map, filter, refl, arith}
use Rattle.cmwq_refinement.specs.Common.{AllByRecursion, nat_tests, without}
pub use Rattle.cmwq_refinement.specs.ByNumber.{number_of_queueing, number_of_ticket, ticket_given}
pub use Rattle.cmwq_lemmas.proofs.Members.{In, all_in, all_more, any_in, contained_in, filter_in, found, in_any}
pub use Rattle.cmwq_lemmas.proofs.Members.{in_append, in_contained, in_filter, in_left, in_map, in_mapped, in_option}
pub use Rattle.cmwq_lemmas.proofs.Members.{in_range, in_right, in_some, none_in, of_in, option_in}
pub use Rattle.cmwq_lemmas.proofs.Rising.{RisesBy, find_is, rises_filter, rises_snoc, rises_unique}
pub use Rattle.cmwq_lemmas.proofs.Passing.{all_found, all_kept, all_split, all_unfound, fewer_kept, filter_mapped}
pub use Rattle.cmwq_lemmas.proofs.Passing.{find_mapped, none_pass, once_there}
pub use Rattle.cmwq_lemmas.proofs.Lists.{All_both, All_push, all_mapped, filter_all, filter_shorter, range_below}
pub use Rattle.cmwq_lemmas.proofs.Lists.{rows_alike}
pub use Rattle.cmwq_lemmas.proofs.Numbers.{all_before, count_numbers, counted_by_number, fewer_before, find_number}
pub use Rattle.cmwq_lemmas.proofs.Numbers.{first_number, is_less, itself, later_differ, numbers_rise, rises_apart}
pub use Rattle.cmwq_lemmas.proofs.Numbers.{rises_more}
pub use Rattle.cmwq_lemmas.proofs.Truth.{same_bools}
pub use Rattle.cmwq_lemmas.proofs.Filters.{count_by-same, find_same}
pub use Rattle.std.proofs.lemmas.Bool.{and_parts, cond_both, or_from, or_right, true_from_ne_false}
pub use Rattle.std.proofs.lemmas.List.Folds.{list_any-append, list_any_none}

pub without_none : (n : ℕ) (ns : List ℕ) → AllByRecursion (λ m. (m == n) ≡ false) ns → without n ns ≡ ns
without_none n [] h = refl
without_none n (m ∷ ms) h = grind (arith, without_none n ms)

module _ {X : Type 0} (number : X → ℕ) where
  -- the numbers of those that pass, where all but the one with number n go on
  pub numbers_without : (p g : X → Bool) (n : ℕ) (xs : List X) → AllByRecursion (λ x. g x ≡ not (number x == n)) xs
      → map number (filter p (filter g xs)) ≡ without n (map number (filter p xs))
  numbers_without p g n [] h = refl
  numbers_without p g n (x ∷ xs) h = grind (arith, numbers_without p g n xs)

  -- one that doesn't pass is not among those that do
  pub numbers_lack : (p : X → Bool) (x : X) (xs : List X) → RisesBy number xs → In x xs → p x ≡ false
      → without (number x) (map number (filter p xs)) ≡ map number (filter p xs)
  numbers_lack p x xs rise here fails =
      without_none (number x) (map number (filter p xs))
      (all_mapped number (λ m. (m == number x) ≡ false) (filter p xs)
      (all_in (λ y. (number y == number x) ≡ false) (filter p xs)
      (λ y there. let k = in_filter p xs y there in
      grind (arith, nat_tests, rises_unique number xs y x rise k.0 here))))
