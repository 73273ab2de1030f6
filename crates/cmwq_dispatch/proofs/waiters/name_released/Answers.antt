use Rattle.std.proofs.Common.{◌∙◌, arith, sym}
use Rattle.std.proofs.lemmas.Option.{slice_get-get_or}
use Rattle.std.proofs.lemmas.Bool.{both_ways}
use Rattle.cmwq_dispatch.proofs.Flushed.{looked_all, named_one, skipped}
use Rattle.cmwq_dispatch.proofs.waiters.name_released.Goals as goal
use Rattle.cmwq_dispatch.proofs.waiters.name_released.Goals.{then-not-waiter+then-may_release+then-not-is_unready}
use Rattle.cmwq_dispatch.proofs.waiters.name_released.Goals.{else-not-waiter, else-not-waiter-via-else-not-waiter}
use Rattle.cmwq_dispatch.proofs.waiters.name_released.Goals.{else-not-waiter-via-then-not-waiter+else-may_release}

pub is_unready-requires-clause-caller : goal.is_unready-requires-clause-caller
is_unready-requires-clause-caller c =
    (c.loop-place.invariant.known c.loop-place.place _
    (slice_get-get_or c.loop-place.waiters c.loop-place.place _
    (omega (arith, c.loop-place.auto.waiters, c.loop-place-test.true))) c.if-not-waiter.true).caller

pub is_unready-requires-clause-call : goal.is_unready-requires-clause-call
is_unready-requires-clause-call c =
    (c.loop-place.invariant.known c.loop-place.place _
    (slice_get-get_or c.loop-place.waiters c.loop-place.place _
    (omega (arith, c.loop-place.auto.waiters, c.loop-place-test.true))) c.if-not-waiter.true).call

pub loop-place-preserved : goal.loop-place-preserved
loop-place-preserved c = elim c.if-not-waiter.branch [
  | then-not-waiter+then-may_release+then-not-is_unready w ↦ rw (w.waiters-is, w.wakes-is)
      (named_one c.loop-place.place c.loop-place.waiters c.loop-place.wakes _ _ c.loop-place.invariant
      (slice_get-get_or c.loop-place.waiters c.loop-place.place _
      (omega (arith, c.loop-place.auto.waiters, c.loop-place-test.true)))
      w.add_caller.ensures.named w.add_caller.ensures.more)
  | else-not-waiter w ↦ elim w.else-not-waiter.branch [
    | goal.else-not-waiter-via-then-not-waiter+then-may_release+else-not-is_unready v ↦ rw (w.waiters-is, w.wakes-is)
        (skipped c.loop-place.place c.loop-place.waiters c.loop-place.wakes _ c.loop-place.invariant
        (slice_get-get_or c.loop-place.waiters c.loop-place.place _
        (omega (arith, c.loop-place.auto.waiters, c.loop-place-test.true)))
        (λ quiet. v.is_unready.ensures v.if-not-is_unready.false))
    | else-not-waiter-via-then-not-waiter+else-may_release v ↦ rw (w.waiters-is, w.wakes-is)
        (skipped c.loop-place.place c.loop-place.waiters c.loop-place.wakes _ c.loop-place.invariant
        (slice_get-get_or c.loop-place.waiters c.loop-place.place _
        (omega (arith, c.loop-place.auto.waiters, c.loop-place-test.true)))
        (λ quiet. c.loop-place.invariant.others c.loop-place.place _
        (slice_get-get_or c.loop-place.waiters c.loop-place.place _
        (omega (arith, c.loop-place.auto.waiters, c.loop-place-test.true))) quiet
        (sym v.may_release.ensures ∙ v.if-may_release.false)))
    | else-not-waiter-via-else-not-waiter v ↦ rw (w.waiters-is, w.wakes-is)
        (skipped c.loop-place.place c.loop-place.waiters c.loop-place.wakes _ c.loop-place.invariant
        (slice_get-get_or c.loop-place.waiters c.loop-place.place _
        (omega (arith, c.loop-place.auto.waiters, c.loop-place-test.true)))
        (λ quiet. absurd (both_ways _ quiet v.if-not-waiter.false)))
  ]
]

pub returns-clause-waits : goal.returns-clause-waits
returns-clause-waits c =
    looked_all c.loop-place.place c.loop-place.waiters c.loop-place.wakes c.loop-place.invariant
    (omega (arith, c.loop-place.auto.waiters, c.loop-place-test.false))
