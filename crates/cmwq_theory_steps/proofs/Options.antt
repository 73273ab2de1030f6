-- What an option holds, as a list.
use Rattle.cmwq_theory_steps.specs.Common.{◌≡◌, Bool, false, [], length, Option, Some, None, option_to_list, count_by}
use Rattle.cmwq_theory_steps.specs.Common.{refl, arith, option_map_or, is_some, count_by-cons}
use Rattle.cmwq_theory_steps.specs.Histories.{one}

module _ {X : Type 0} where
  pub count_option : (p : X → Bool) (o : Option X) → count_by p (option_to_list o) ≡ one (option_map_or p o false)
  count_option p None = refl
  count_option p (Some x) = grind (arith, count_by-cons p x [])

  pub length_option : (o : Option X) → length (option_to_list o) ≡ one (is_some o)
  length_option o = grind arith
