-- The calls that apply an entry of a legal history to the open numbers of items may be made.
use Rattle.cmwq_refinement.specs.Common.{◌≡◌, ℕ, List, [], ◌∷◌, length, filter, Option, Some, None, refl, ap, ◌∙◌}
use Rattle.cmwq_refinement.specs.Common.{arith, eq-eqb, length-append, length-map, length-filter, Entry, Queueing}
use Rattle.cmwq_refinement.specs.Common.{Layout, still_open, opening, is_of, IsLegal, numbers_open, ending}
use Rattle.cmwq_refinement.specs.Common.{two_of_an_item}
use Rattle.cmwq_refinement.proofs.Numbers.{filter_in, in_contained, in_mapped, number_of_queueing}
use Rattle.cmwq_refinement.specs.ItemNumbers.{numbers_of, numbers_after_end, MayEndInNumbers, MayOpenInNumbers}
use Rattle.cmwq_refinement.specs.ItemNumbers.{MayApplyToNumbers}
use Rattle.cmwq_refinement.proofs.QueueingSteps.{QueueingStep, queueing_step, ends_one, ends_none}
use Rattle.cmwq_refinement.proofs.PlacesFit.{open_there, opened_are_there}
use Rattle.cmwq_refinement.proofs.ItemNumberSteps.{item_row, ended_rows, opened_row}

may_end : (s : Layout) (past : List Entry) (e : Entry) → IsLegal s past → QueueingStep past e
    → MayEndInNumbers (ending past e) (numbers_of s past)
may_end s past e legal (ends_none is all) = rw is tt
may_end s past e legal (ends_one x is here all) =
    rw is (in_contained (numbers_open (numbers_of s past) x.item.0) x.number
    (rw (item_row s past x.item.0 (open_there s past x legal here).item)
    (in_mapped number_of_queueing (filter (is_of x.item.0) (still_open past)) x
    (filter_in (is_of x.item.0) (still_open past) x here (eq-eqb x.item.0 x.item.0 refl)))))

may_open : (s : Layout) (past : List Entry) (e : Entry) (o : Option Queueing) → IsLegal s (e ∷ past)
    → opening past e ≡ o → MayOpenInNumbers o (numbers_after_end (ending past e) (numbers_of s past))
may_open s past e None legal h = tt
may_open s past e (Some x) legal h =
    let left : List ℕ = numbers_open (numbers_after_end (ending past e) (numbers_of s past)) x.item.0 in
    let longer = ap length (opened_row s past e x legal h) ∙ length-append left (x.number ∷ []) in
    let its = filter (is_of x.item.0) (still_open (e ∷ past)) in (
      omega (arith, (opened_are_there s past e x legal h).item, ended_rows s past e legal),
      omega (
        arith,
        longer,
        length-map its number_of_queueing,
        length-filter (is_of x.item.0) (still_open (e ∷ past)),
        two_of_an_item s (e ∷ past) legal x.item.0,
      ),
    )

pub entries_apply_to_numbers : (s : Layout) (past : List Entry) (e : Entry) → IsLegal s (e ∷ past)
    → MayApplyToNumbers past e (numbers_of s past)
unfolding IsLegal
entries_apply_to_numbers s past e legal = record {
  ended = may_end s past e legal.2 (queueing_step s past e legal);
  opened = may_open s past e (opening past e) legal refl;
}
