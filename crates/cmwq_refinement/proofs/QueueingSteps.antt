-- The one open queueing that an entry ends, and those that it spares.
use Rattle.cmwq_refinement.specs.Common.{◌≡◌, ◌==◌, Bool, true, false, not, List, [], ◌∷◌, Option, Some, None, sym, ap}
use Rattle.cmwq_refinement.specs.Common.{◌∙◌, refl, AllByRecursion, eqb-true, eq-eqb, not-false, same_Some, Entry}
use Rattle.cmwq_refinement.specs.Common.{Queueing, Layout, still_open, IsLegal, survives, is_ended, ending, All_map}
use Rattle.cmwq_refinement.specs.Common.{find_none, open_rise, one_ends, arith}
use Rattle.cmwq_refinement.proofs.Numbers.{In, RisesBy, all_in, filter_in, found, in_option, number_of_queueing}
use Rattle.cmwq_refinement.proofs.Numbers.{rises_unique}
use Rattle.cmwq_theory_steps.specs.Rising.{IsRising}

rises_by_number : (xs : List Queueing) → IsRising xs → RisesBy number_of_queueing xs
rises_by_number [] h = tt
rises_by_number (x ∷ xs) h = (h.0, rises_by_number xs h.1)

pub open_numbers_rise : (past : List Entry) → RisesBy number_of_queueing (still_open past)
open_numbers_rise past = rises_by_number (still_open past) (open_rise past)

pub data QueueingStep (past : List Entry) (e : Entry) : Type 0 where
  ends_one : (x : Queueing) → ending past e ≡ Some x → In x (still_open past)
      → AllByRecursion (λ y. survives past e y ≡ not (y.number == x.number)) (still_open past) → QueueingStep past e
  ends_none : ending past e ≡ None → AllByRecursion (λ y. survives past e y ≡ true) (still_open past)
      → QueueingStep past e

same_flags : (a b : Bool) → (b ≡ true → not a ≡ true) → (not a ≡ true → b ≡ true) → a ≡ not b
same_flags a b f g = grind arith

pub queueing_step : (s : Layout) (past : List Entry) (e : Entry) → IsLegal s (e ∷ past) → QueueingStep past e
queueing_step s past e legal = which (ending past e) refl
  where
    only : (x : Queueing) → ending past e ≡ Some x → In x (still_open past) → is_ended past e x ≡ true → (y : Queueing)
        → In y (still_open past) → survives past e y ≡ not (y.number == x.number)
    only x is here it y there = same_flags (survives past e y) (y.number == x.number)
        (λ same. ap (is_ended past e)
        (rises_unique number_of_queueing (still_open past) y x (open_numbers_rise past) there here
        (eqb-true y.number x.number same)) ∙ it)
        (λ ended.
        eq-eqb y.number x.number
        (ap number_of_queueing
        (same_Some y x
        (sym (in_option (ending past e) y
        (rw (one_ends s past e legal) at (filter_in (is_ended past e) (still_open past) y there ended))) ∙ is))))

    which : (o : Option Queueing) → ending past e ≡ o → QueueingStep past e
    which None is =
        ends_none is
        (All_map (λ y. is_ended past e y ≡ false) (λ y. survives past e y ≡ true) (still_open past)
        (λ y h. not-false (survives past e y) h) (find_none (is_ended past e) (still_open past) is))
    which (Some x) is = let k = found (is_ended past e) (still_open past) x is in
        ends_one x is k.0
        (all_in (λ y. survives past e y ≡ not (y.number == x.number)) (still_open past) (only x is k.0 k.1))
