-- What is owed: nothing at first, and what after one more entry.
use Rattle.cmwq_theory_steps.specs.Common.{◌≡◌, ◌+◌, List, [], ◌∷◌, refl, arith, range_with_len, Entry, Layout, booking}
use Rattle.cmwq_theory_steps.specs.Common.{is_booked, last_start, has_run, runs_asleep, queueings, tickets, is_frozen}
use Rattle.cmwq_theory_steps.specs.Common.{workers, owed, IsLegal, All_each, count_by-none}
use Rattle.cmwq_theory_steps.specs.RoomSteps.{room_paid, taken_on}
use Rattle.cmwq_theory_steps.proofs.OwedSteps.{runs_counted, sleepers_counted}
use Rattle.cmwq_theory_steps.proofs.OwedItems.{tickets_counted, booked_counted}
use Rattle.cmwq_theory_steps.proofs.OwedWaiting.{waiting_counted}
use Rattle.cmwq_theory_steps.proofs.OwedFrozen.{frozen_counted}

pub nothing_owed : (s : Layout) → owed s [] ≡ 0
unfolding owed queueings booking last_start tickets is_frozen
nothing_owed s =
    let runs = count_by-none (has_run []) (workers s) (All_each _ (workers s) (λ w. refl)) in
    let sleepers = count_by-none (runs_asleep []) (workers s) (All_each _ (workers s) (λ w. refl)) in
    omega (
      arith,
      count_by-none (is_booked []) (range_with_len 0 s.items) (All_each _ (range_with_len 0 s.items) (λ i. refl)),
    )

pub owed_goes_on : (s : Layout) (past : List Entry) (e : Entry) → IsLegal s (e ∷ past)
    → owed s (e ∷ past) + room_paid past e ≡ owed s past + taken_on past e
unfolding owed
owed_goes_on s past e legal =
    omega (
      arith,
      waiting_counted s past e legal,
      runs_counted s past e legal,
      sleepers_counted s past e legal,
      booked_counted s past e legal,
      tickets_counted s past e legal,
      frozen_counted s past e legal,
    )
