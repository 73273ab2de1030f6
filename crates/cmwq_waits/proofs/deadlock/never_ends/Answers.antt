use Rattle.std.proofs.Common.{◌∙◌, ◌+◌, Global, Vec, ap, arith, length, refl, subst, sym, vec_capacity}
use Rattle.std.specs.List.{list_any}
use Rattle.cmwq_waits.specs.Narrowing.{IsNarrowed}
use Rattle.cmwq_waits.specs.Refused.{is_of_run}
use Rattle.cmwq_waits.specs.declared.run_wait.RunWait.{RunWait}
use Rattle.cmwq_waits.proofs.Narrowing.{found_last, found_stable, left_known, left_seen, narrowed_first, narrowed_more}
use Rattle.cmwq_waits.proofs.deadlock.never_ends.Goals as goal

pub loop-init : goal.loop-init
loop-init c = (narrowed_first c.args.look.now c.args.set.now.items, refl, refl)

pub narrow-requires-clause-seen : goal.narrow-requires-clause-seen
narrow-requires-clause-seen c =
    rw c.deref.ensures.value
    (left_seen c.args.look.now c.args.set.now.items c.loop.set.items c.loop.counter c.loop.invariant.0 c.requires.seen)

pub narrow-requires-clause-known : goal.narrow-requires-clause-known
narrow-requires-clause-known c =
    rw c.deref.ensures.value
    (left_known c.args.look.now c.args.set.now.items c.loop.set.items c.loop.counter c.loop.invariant.0 c.requires.known)

pub narrow-requires-clause-room : goal.narrow-requires-clause-room
narrow-requires-clause-room c =
    rw (c.deref.ensures.value, c.loop.invariant.2)
    (omega (arith, c.loop.invariant.0.fewer, c.requires.room))

pub returns-then-as_slice-before-clause-never : goal.returns-then-as_slice-before-clause-never
returns-then-as_slice-before-clause-never c =
    c.has_run.ensures
    ∙ (ap (list_any (is_of_run c.args.run)) c.deref-then-as_slice-before.ensures.value
    ∙ found_stable c.args.look.now c.args.set.now.items c.loop.set.items c.narrow.new.left.items c.loop.counter c.args.run
    c.loop.invariant.0 (rw c.deref.ensures.value at c.narrow.ensures.left)
    (sym (ap length c.as_slice.ensures.value)
    ∙ (c.if-as_slice-before.true ∙ ap length c.as_slice-before.ensures.value)))

pub loop-preserved : goal.loop-preserved
loop-preserved c =
    let same = c.requires.same in
    let i = c.loop.invariant in (
      subst (λ (v : Vec RunWait Global). IsNarrowed c.args.look.now c.args.set.now.items v.items (c.loop.counter + 1))
          (sym c.swap.ensures.x_after)
          (narrowed_more c.args.look.now c.args.set.now.items c.loop.set.items c.narrow.new.left.items c.loop.counter i.0
          (let many = c.as_slice-many.ensures.value in let less = c.loop-test.true in omega (arith, ap length many, less))
          (rw c.deref.ensures.value at c.narrow.ensures.left)),
      ap vec_capacity c.swap.ensures.x_after ∙ (c.narrow.ensures.capacity ∙ (i.2 ∙ same)),
      ap vec_capacity c.swap.ensures.y_after ∙ (i.1 ∙ sym same),
    )

pub returns-clause-never : goal.returns-clause-never
returns-clause-never c =
    c.has_run-2.ensures
    ∙ (ap (list_any (is_of_run c.args.run)) c.deref-2.ensures.value
    ∙ found_last c.args.look.now c.args.set.now.items c.loop.set.items c.loop.counter c.args.run c.loop.invariant.0
    (omega (arith, ap length c.as_slice-many.ensures.value, c.loop-test.false)))
