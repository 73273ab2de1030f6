-- No call of a replay is refused for want of room: a queueing needs three entries, a sleep two, and there are few of
-- both.
use Rattle.cmwq_sim.specs.Common.{◌≡◌, ◌<◌, ◌≤◌, ◌+◌, ℕ, not, List, [], ◌∷◌, length, filter, find, Some, refl, ap, ◌∙◌}
use Rattle.cmwq_sim.specs.Common.{arith, sum_by, eq-eqb, sum_by-cons, sum_by_push, Entry, Layout, booking, last_start}
use Rattle.cmwq_sim.specs.Common.{is_asleep, queueings, tickets, is_frozen, owed, room_needed, IsLegal, runs_counted}
use Rattle.cmwq_sim.specs.Common.{sleepers_counted}
use Rattle.cmwq_model.specs.declared.reply.Reply.TheVariants as reply
use Rattle.cmwq_theory_steps.proofs.OwedFrozen.{frozen_counted}
use Rattle.cmwq_theory_steps.proofs.OwedItems.{tickets_counted, booked_counted}
use Rattle.cmwq_theory_steps.proofs.OwedWaiting.{waiting_counted}
use Rattle.cmwq_sim.specs.declared.scenario.LineKind.TheVariants as kind
use Rattle.cmwq_sim.specs.Plan.{Plan}
use Rattle.cmwq_sim.specs.Rooms.{parts_at, parts_of_job, parts_of_sleeper, parts_left}
use Rattle.cmwq_sim.specs.Lines.{queue_item, Moment, Job, Sleeper, is_due, is_other_sleeper, tell, job_with}
use Rattle.cmwq_sim.specs.Shows.{layout_for}
use Rattle.cmwq_sim.specs.Limits.{IsWithinLimits}
use Rattle.cmwq_sim.proofs.Progress.{item_limits, found_apart, end_weighs}
use Rattle.cmwq_sim.proofs.Outset.{queue_weighs}
use Rattle.cmwq_sim.proofs.Steps.{served_as, woken_as}

-- ---- what an entry adds to what is needed

pub needs_three : (s : Layout) (past : List Entry) (e : Entry) (n : ℕ) → IsLegal s (e ∷ past) → e.reply ≡ reply.Yes n
    → room_needed s (e ∷ past) ≤ room_needed s past + 3
unfolding owed
needs_three s past e n legal is =
    grind (
      arith,
      waiting_counted s past e legal,
      runs_counted s past e legal,
      sleepers_counted s past e legal,
      booked_counted s past e legal,
      tickets_counted s past e legal,
      frozen_counted s past e legal,
    )

pub needs_two : (s : Layout) (past : List Entry) (e : Entry) → IsLegal s (e ∷ past) → e.reply ≡ reply.Slept
    → room_needed s (e ∷ past) ≤ room_needed s past + 2
unfolding owed
needs_two s past e legal is =
    grind (
      arith,
      waiting_counted s past e legal,
      runs_counted s past e legal,
      sleepers_counted s past e legal,
      booked_counted s past e legal,
      tickets_counted s past e legal,
      frozen_counted s past e legal,
    )

pub needs_nothing_at_first : (s : Plan) → room_needed (layout_for s) [] ≡ 0
unfolding owed queueings last_start is_asleep booking tickets is_frozen
needs_nothing_at_first s = refl

-- ---- how many parts are left: each sleep takes one

pub sleep_takes_one : (s : Plan) (t : ℕ) (m : Moment) (j : Job) (js : List Job) (pause : ℕ) (left : List ℕ)
    → m.cpu ≡ j ∷ js → j.left ≡ pause ∷ left
    → parts_left s (served_as s t m js j.item (pause ∷ left)) + 1 ≤ parts_left s m
sleep_takes_one s t m j js pause left is parts =
    let a = sum_by_push parts_of_sleeper m.sleeping (record { item = j.item; until = t + pause; left = left }) in
    omega (arith, ap (sum_by parts_of_job) is ∙ sum_by-cons parts_of_job j js, ap length parts)

pub end_takes_none : (s : Plan) (t : ℕ) (m : Moment) (j : Job) (js : List Job) → m.cpu ≡ j ∷ js
    → parts_left s (served_as s t m js j.item []) ≤ parts_left s m
end_takes_none s t m j js is =
    omega (
      arith,
      ap (sum_by parts_of_job) is ∙ sum_by-cons parts_of_job j js,
      end_weighs s j.item (tell t kind.Ends (j.item ∷ []) (record m { cpu = js })) (parts_at s) parts_of_job
          parts_of_sleeper,
    )

pub wake_takes_none : (s : Plan) (t i : ℕ) (m : Moment) (x : Sleeper) (left : List ℕ)
    → find (is_due t i) m.sleeping ≡ Some x → x.item ≡ i → x.left ≡ left
    → parts_left s (woken_as s t m i left) ≤ parts_left s m
wake_takes_none s t i m x left due its l = after left l
  where
    apart : sum_by parts_of_sleeper (filter (is_other_sleeper i) m.sleeping) + length x.left ≤ sum_by parts_of_sleeper
        m.sleeping
    apart = found_apart parts_of_sleeper (is_due t i) (is_other_sleeper i) m.sleeping x due
        (ap not (eq-eqb x.item i its))

    after : (ms : List ℕ) → x.left ≡ ms → parts_left s (woken_as s t m i ms) ≤ parts_left s m
    after [] k =
        omega (
          arith,
          apart,
          end_weighs s i (tell t kind.WakesEnds (i ∷ []) (record m { sleeping = filter (is_other_sleeper i) m.sleeping }))
              (parts_at s) parts_of_job parts_of_sleeper,
        )
    after (b ∷ ms) k =
        omega (arith, apart, sum_by_push parts_of_job m.cpu (record { item = i; burn = b; left = ms }), ap length k)

-- a start takes the first part off the list
pub start_parts : (i : ℕ) (ms : List ℕ) → length (job_with i ms).left ≤ length ms
start_parts i ms = grind arith

pub queued_parts : (s : Plan) (m : Moment) (i : ℕ) → IsWithinLimits s → i < length s.items
    → parts_left s (queue_item s m i) ≤ parts_left s m + 8
queued_parts s m i fine less =
    omega (arith, queue_weighs s m i (parts_at s) parts_of_job parts_of_sleeper, (item_limits s i fine less).parts.1)
