-- The example, by computation.
use Rattle.std.specs.Prelude.{◌==◌, if◌then◌else◌}
use Rattle.cmwq_alike.specs.Common.{◌≡◌, ℕ, Bool, true, false, None, refl, sym, option_map, arith, IsLegal, ⊎_elim}
use Rattle.cmwq_alike.specs.Alike.{IsAlike, Matters, unnumbered}
use Rattle.cmwq_alike.specs.Examples.{OthersAreAlike, queued_again, queued_once, small}
use Rattle.cmwq_model_examples.proofs.Definitions.{definitions}

only_two : (n : ℕ) → Matters queued_again n → n ≡ 2
unfolding definitions
only_two n m = ⊎_elim (λ h. ⊎_elim (λ is. sym is) (λ none. absurd none) h) (λ none. absurd none) m

none_booked : (b : Bool) → option_map unnumbered (if b then None else None)
    ≡ option_map unnumbered (if b then None else if b then None else None)
none_booked true = refl
none_booked false = refl

the_example : IsAlike small (λ n. 0) queued_again queued_once
unfolding definitions
the_example =
    record {
      order = λ a b ma mb. rw (only_two a ma, only_two b mb) refl;
      below = λ n m. omega arith;
      opened = refl;
      started = (refl, tt);
      active = (refl, tt);
      worklists = λ p. grind arith;
      runs = λ w. refl;
      sleepers = λ w. refl;
      enlisted = λ w. refl;
      item_runs = λ i. refl;
      tickets = refl;
      served = λ q. tt;
      gone = λ q. refl;
      bookings = λ i. none_booked (0 == i);
      standing = refl;
      time = refl;
      frozen = refl;
      widths = λ q. refl;
    }

pub others_are_alike : OthersAreAlike
unfolding definitions IsLegal
others_are_alike =
    record {
      legal = (refl, refl, (refl, refl, (refl, refl, tt)));
      other_legal = (refl, refl, (refl, refl, (refl, refl, tt)));
      numbers = refl;
      other_numbers = refl;
      alike = the_example;
    }
