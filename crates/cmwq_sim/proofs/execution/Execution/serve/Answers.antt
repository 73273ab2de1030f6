use Rattle.cmwq_sim.specs.Common.{ℕ, ◌+◌, ◌++◌, [], ◌∷◌, refl, ap, sym, ◌∙◌, arith, remove, nat_tests}
use Rattle.cmwq_sim.specs.Plan.{plan_of}
use Rattle.cmwq_sim.proofs.Executions.{first_below, sleeps, ends, has_room_to_sleep, has_room_to_end}
use Rattle.cmwq_sim.proofs.execution.Execution.serve.Goals as goal

pub bounds-self-from : goal.bounds-self-from
bounds-self-from c =
    rw c.from.ensures
    (first_below (plan_of c.args.scenario.now) c.args.self.now c.in-Some.job _ c.requires.stands
    (sym c.deref.ensures.value ∙ c.in-Some.ensures))

pub call-requires-clause-room : goal.call-requires-clause-room
call-requires-clause-room c =
    rw (c.worker-slot.ensures, c.from.ensures)
    (has_room_to_sleep (plan_of c.args.scenario.now) c.args.at c.args.self.now c.in-Some.job _ c.requires.stands
    (sym c.deref.ensures.value ∙ c.in-Some.ensures) (grind (arith, nat_tests)) c.in-Some-part_at.pause _
    c.in-Some-part_at.ensures.part)

pub call-requires-in-None-clause-room : goal.call-requires-in-None-clause-room
call-requires-in-None-clause-room c =
    rw (c.worker-slot.ensures, c.from.ensures)
    (has_room_to_end (plan_of c.args.scenario.now) c.args.at c.args.self.now c.in-Some.job _ c.requires.stands
    (sym c.deref.ensures.value ∙ c.in-Some.ensures) (grind (arith, nat_tests)))

pub returns-in_ok-tell-in-Some-part_at : goal.returns-in_ok-tell-in-Some-part_at
returns-in_ok-tell-in-Some-part_at c =
    let booked = rw (c.worker-slot.ensures, c.from.ensures) at c.call.ensures in
    sleeps (plan_of c.args.scenario.now) c.args.at c.args.self.now c.in-Some.job _ c.requires.stands
    (sym c.deref.ensures.value ∙ c.in-Some.ensures) (grind (arith, nat_tests)) _ c.in-Some-part_at.pause
    c.in-Some-part_at.ensures.part booked refl
    (c.remove.ensures.items ∙ ap (λ xs. remove xs 0) (sym c.deref.ensures.value ∙ c.in-Some.ensures))
    (c.in_ok-push-in-Some-part_at.ensures.items
    ∙ ap (λ (n : ℕ). c.args.self.now.sleeping.items
    ++ record { item = c.in-Some.job.item; until = c.args.at + n; next = c.in-Some.job.next + 1 } ∷ [])
    c.from-in-Some-part_at.ensures) c.in_ok-tell-in-Some-part_at.ensures

pub returns-in_ok-tell-in-None : goal.returns-in_ok-tell-in-None
returns-in_ok-tell-in-None c =
    let booked = rw (c.worker-slot.ensures, c.from.ensures) at c.call-in-None.ensures in
    ends (plan_of c.args.scenario.now) c.args.at c.args.self.now c.in-Some.job _ c.requires.stands
    (sym c.deref.ensures.value ∙ c.in-Some.ensures) (grind (arith, nat_tests)) _ c.in-None.ensures.part booked refl
    (c.remove.ensures.items ∙ ap (λ xs. remove xs 0) (sym c.deref.ensures.value ∙ c.in-Some.ensures)) refl
    c.in_ok-tell-in-None.ensures
