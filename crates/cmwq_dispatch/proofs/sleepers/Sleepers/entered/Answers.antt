use Rattle.std.proofs.Common.{◌≡◌, ◌∙◌, ◌++◌, ◌≤◌, arith, drop, length, subst, sym}
use Rattle.std.proofs.lemmas.List.{with_items_is}
use Rattle.std.specs.Vec.{with_items}
use Rattle.cmwq_core.specs.History.{past_in}
use Rattle.cmwq_theory_steps.specs.Common.{List}
use Rattle.cmwq_dispatch.specs.Asleep.{Asleep, IsLookedAfter, SleepOn}
use Rattle.cmwq_dispatch.specs.Pools.{LeavesNamed}
use Rattle.cmwq_dispatch.specs.Waiting.{AreFlushes, AreInOrder, AreKnown, MostWait, OnlyNamed, unnamed}
use Rattle.cmwq_dispatch.specs.declared.resting.RestingWorkers.{RestingWorkers}
use Rattle.cmwq_dispatch.specs.declared.waiters.Waiter.{Waiter}
use Rattle.cmwq_dispatch.proofs.Cared.{after_entry, at_lists, flushes_kept, known_flushes_now, known_kept, known_now}
use Rattle.cmwq_dispatch.proofs.Cared.{most_flushes_wait_now, most_wait_now, sleep_on}
use Rattle.cmwq_dispatch.proofs.Flushed.{order_kept}
use Rattle.cmwq_dispatch.proofs.sleepers.Sleepers.entered.Goals as goal

pub release-requires-clause-known : goal.release-requires-clause-known
release-requires-clause-known c =
    let s = c.args.execution.now.layout in
    let now = past_in c.args.execution.now in
    subst (AreKnown s now) (sym c.deref_mut.ensures.value)
    (known_now s now (drop 1 now) c.args.entry.now c.self.inside.waiters.items c.self.inside.flushes.items
    c.self.inside.pools.items c.requires.past
    (subst (IsLookedAfter s (drop 1 now)) (sym c.self.view_is) c.requires.before))

pub release-requires-clause-known_flushes : goal.release-requires-clause-known_flushes
release-requires-clause-known_flushes c =
    let s = c.args.execution.now.layout in
    let now = past_in c.args.execution.now in
    subst (AreKnown s now) (sym c.deref_mut-2.ensures.value)
    (known_flushes_now s now (drop 1 now) c.args.entry.now c.self.inside.waiters.items c.self.inside.flushes.items
    c.self.inside.pools.items c.requires.past
    (subst (IsLookedAfter s (drop 1 now)) (sym c.self.view_is) c.requires.before))

pub release-requires-clause-waiters : goal.release-requires-clause-waiters
release-requires-clause-waiters c =
    let s = c.args.execution.now.layout in
    let now = past_in c.args.execution.now in
    subst (MostWait now c.args.ended.now) (sym c.deref_mut.ensures.value)
    (most_wait_now s now (drop 1 now) c.args.entry.now c.self.inside.waiters.items c.self.inside.flushes.items
    c.self.inside.pools.items c.requires.past
    (subst (IsLookedAfter s (drop 1 now)) (sym c.self.view_is) c.requires.before) c.args.ended.now c.requires.ended
    c.requires.legal)

pub release-requires-clause-flushes : goal.release-requires-clause-flushes
release-requires-clause-flushes c =
    let s = c.args.execution.now.layout in
    let now = past_in c.args.execution.now in
    subst (MostWait now c.args.ended.now) (sym c.deref_mut-2.ensures.value)
    (most_flushes_wait_now s now (drop 1 now) c.args.entry.now c.self.inside.waiters.items
    c.self.inside.flushes.items c.self.inside.pools.items c.requires.past
    (subst (IsLookedAfter s (drop 1 now)) (sym c.self.view_is) c.requires.before) c.args.ended.now c.requires.ended
    c.requires.legal)

pub invariant_of-self : goal.invariant_of-self
invariant_of-self c =
    let ws = c.self.inside.waiters in
    let fs = c.self.inside.flushes in
    let xs = c.self.inside.pools in
    let w : OnlyNamed c.release.new.wakes ws.items c.release.new.waiters =
    subst (λ (l : List Waiter). OnlyNamed c.release.new.wakes l c.release.new.waiters) c.deref_mut.ensures.value
    c.release.ensures.named in
    let f : OnlyNamed c.release.new.wakes fs.items c.release.new.flushes =
    subst (λ (l : List Waiter). OnlyNamed c.release.new.wakes l c.release.new.flushes) c.deref_mut-2.ensures.value
    c.release.ensures.named_flushes in
    let x : LeavesNamed xs.items c.look_after.new.pools c.release.new.wakes c.look_after.new.wakes =
    subst (λ (l : List RestingWorkers). LeavesNamed l c.look_after.new.pools c.release.new.wakes
    c.look_after.new.wakes) c.deref_mut-3.ensures.value c.look_after.ensures.named in
    let same_w : (with_items ws c.release.new.waiters).items ≡ c.release.new.waiters =
    with_items_is ws c.release.new.waiters (w.count ∙ sym ws.ok.0) in
    let same_f : (with_items fs c.release.new.flushes).items ≡ c.release.new.flushes =
    with_items_is fs c.release.new.flushes (f.count ∙ sym fs.ok.0) in
    let same_x : (with_items xs c.look_after.new.pools).items ≡ c.look_after.new.pools =
    with_items_is xs c.look_after.new.pools (x.count ∙ sym xs.ok.0) in
    let few = c.self.invariant.3 in (
      subst AreInOrder (sym same_w)
          (order_kept c.release.new.wakes ws.items c.release.new.waiters w c.self.invariant.0),
      subst AreInOrder (sym same_f)
          (order_kept c.release.new.wakes fs.items c.release.new.flushes f c.self.invariant.1),
      subst AreFlushes (sym same_f)
          (flushes_kept c.release.new.wakes fs.items c.release.new.flushes f c.self.invariant.2),
      subst (λ (l : List RestingWorkers). length l ≤ 128) (sym same_x) (omega (arith, few, x.count)),
    )

pub returns-clause-after : goal.returns-clause-after
returns-clause-after c =
    let s = c.args.execution.now.layout in
    let now = past_in c.args.execution.now in
    let ws = c.self.inside.waiters in
    let fs = c.self.inside.flushes in
    let xs = c.self.inside.pools in
    let w : OnlyNamed c.release.new.wakes ws.items c.release.new.waiters =
    subst (λ (l : List Waiter). OnlyNamed c.release.new.wakes l c.release.new.waiters) c.deref_mut.ensures.value
    c.release.ensures.named in
    let f : OnlyNamed c.release.new.wakes fs.items c.release.new.flushes =
    subst (λ (l : List Waiter). OnlyNamed c.release.new.wakes l c.release.new.flushes) c.deref_mut-2.ensures.value
    c.release.ensures.named_flushes in
    let x : LeavesNamed xs.items c.look_after.new.pools c.release.new.wakes c.look_after.new.wakes =
    subst (λ (l : List RestingWorkers). LeavesNamed l c.look_after.new.pools c.release.new.wakes
    c.look_after.new.wakes) c.deref_mut-3.ensures.value c.look_after.ensures.named in
    let before : IsLookedAfter s (drop 1 now)
    (record { tickets = unnamed ws.items ++ unnamed fs.items; pools = xs.items }) =
    subst (IsLookedAfter s (drop 1 now)) (sym c.self.view_is) c.requires.before in
    at_lists (λ us gs ys. IsLookedAfter s now (record { tickets = unnamed us ++ unnamed gs; pools = ys }))
    c.release.new.waiters (with_items ws c.release.new.waiters).items c.release.new.flushes
    (with_items fs c.release.new.flushes).items c.look_after.new.pools (with_items xs c.look_after.new.pools).items
    (with_items_is ws c.release.new.waiters (w.count ∙ sym ws.ok.0))
    (with_items_is fs c.release.new.flushes (f.count ∙ sym fs.ok.0))
    (with_items_is xs c.look_after.new.pools (x.count ∙ sym xs.ok.0))
    (after_entry s now c.release.new.waiters c.release.new.flushes c.look_after.new.pools
    (known_kept s now c.release.new.wakes ws.items c.release.new.waiters w
    (known_now s now (drop 1 now) c.args.entry.now ws.items fs.items xs.items c.requires.past before))
    (known_kept s now c.release.new.wakes fs.items c.release.new.flushes f
    (known_flushes_now s now (drop 1 now) c.args.entry.now ws.items fs.items xs.items c.requires.past before))
    c.release.ensures.waiters c.release.ensures.flushes c.look_after.ensures.recorded c.look_after.ensures.attended
    (x.count ∙ before.places))

pub returns-clause-named : goal.returns-clause-named
returns-clause-named c =
    let ws = c.self.inside.waiters in
    let fs = c.self.inside.flushes in
    let xs = c.self.inside.pools in
    let w : OnlyNamed c.release.new.wakes ws.items c.release.new.waiters =
    subst (λ (l : List Waiter). OnlyNamed c.release.new.wakes l c.release.new.waiters) c.deref_mut.ensures.value
    c.release.ensures.named in
    let f : OnlyNamed c.release.new.wakes fs.items c.release.new.flushes =
    subst (λ (l : List Waiter). OnlyNamed c.release.new.wakes l c.release.new.flushes) c.deref_mut-2.ensures.value
    c.release.ensures.named_flushes in
    let x : LeavesNamed xs.items c.look_after.new.pools c.release.new.wakes c.look_after.new.wakes =
    subst (λ (l : List RestingWorkers). LeavesNamed l c.look_after.new.pools c.release.new.wakes
    c.look_after.new.wakes) c.deref_mut-3.ensures.value c.look_after.ensures.named in
    at_lists (λ us gs ys. SleepOn c.args.entry.now.who c.args.self.now
    (record { tickets = unnamed us ++ unnamed gs; pools = ys }) c.args.wakes.now c.look_after.new.wakes)
    c.release.new.waiters (with_items ws c.release.new.waiters).items c.release.new.flushes
    (with_items fs c.release.new.flushes).items c.look_after.new.pools (with_items xs c.look_after.new.pools).items
    (with_items_is ws c.release.new.waiters (w.count ∙ sym ws.ok.0))
    (with_items_is fs c.release.new.flushes (f.count ∙ sym fs.ok.0))
    (with_items_is xs c.look_after.new.pools (x.count ∙ sym xs.ok.0))
    (subst (λ (a : Asleep). SleepOn c.args.entry.now.who a (record {
      tickets = unnamed c.release.new.waiters ++ unnamed c.release.new.flushes;
      pools = c.look_after.new.pools;
    }) c.args.wakes.now c.look_after.new.wakes) c.self.view_is
    (sleep_on c.args.entry.now.who ws.items fs.items c.release.new.waiters c.release.new.flushes xs.items
    c.look_after.new.pools c.args.wakes.now c.release.new.wakes c.look_after.new.wakes w f c.release.ensures.more x))
