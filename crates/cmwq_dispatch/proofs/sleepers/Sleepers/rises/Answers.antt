use Rattle.std.proofs.Common.{◌≡◌, ◌++◌, ◌<◌, ap, arith, length, refl, slice_set, subst, sym}
use Rattle.std.proofs.lemmas.Option.{slice_get_read}
use Rattle.cmwq_dispatch.specs.Asleep.{Asleep, IsLookedAfter, NobodySleeps, Rises}
use Rattle.cmwq_dispatch.specs.Waiting.{unnamed}
use Rattle.cmwq_dispatch.proofs.Cared.{far_is_up, far_rises, own_is_up, set_kept, set_nobody, set_rises, up_is_less}
use Rattle.cmwq_dispatch.proofs.sleepers.Sleepers.rises.Goals as goal

pub returns-then-place-len-clause-rises : goal.returns-then-place-len-clause-rises
returns-then-place-len-clause-rises c =
    let xs = c.self.inside.pools.items in
    let n = c.place_of-place.result in
    let ts = unnamed c.self.inside.waiters.items ++ unnamed c.self.inside.flushes.items in
    let within : n < length xs = omega (arith, c.len.ensures, c.if-place-len.true, c.self.inside.pools.ok.0) in
    subst (λ (a : Asleep). Rises c.args.worker a (record { tickets = ts; pools = slice_set xs n c.rises.new.self }))
    c.self.view_is
    (set_rises ts xs c.args.worker n c.index.result.now c.rises.new.self c.place_of-place.ensures
    (slice_get_read xs (length xs) n c.index.result.now refl within c.index.ensures)
    (up_is_less c.index.result.now c.rises.new.self c.args.worker.index c.rises.ensures.up.0 c.rises.ensures.others))

pub returns-then-place-len-clause-up : goal.returns-then-place-len-clause-up
returns-then-place-len-clause-up c e who =
    own_is_up e c.args.worker c.self.inside.pools.items c.place_of-place.result c.rises.new.self
    c.place_of-place.ensures who c.rises.ensures.up

pub returns-then-place-len-clause-kept : goal.returns-then-place-len-clause-kept
returns-then-place-len-clause-kept c s past before =
    let xs = c.self.inside.pools.items in
    let n = c.place_of-place.result in
    let ts = unnamed c.self.inside.waiters.items ++ unnamed c.self.inside.flushes.items in
    let within : n < length xs = omega (arith, c.len.ensures, c.if-place-len.true, c.self.inside.pools.ok.0) in
    set_kept s past ts xs c.args.worker.pool n c.index.result.now c.rises.new.self c.place_of-place.ensures
    (slice_get_read xs (length xs) n c.index.result.now refl within c.index.ensures)
    (λ r a. c.rises.ensures.kept s past c.args.worker.pool r a)
    (subst (IsLookedAfter s past) (sym c.self.view_is) before)

pub returns-then-place-len-clause-nobody : goal.returns-then-place-len-clause-nobody
returns-then-place-len-clause-nobody c before =
    let xs = c.self.inside.pools.items in
    let n = c.place_of-place.result in
    let ts = unnamed c.self.inside.waiters.items ++ unnamed c.self.inside.flushes.items in
    let within : n < length xs = omega (arith, c.len.ensures, c.if-place-len.true, c.self.inside.pools.ok.0) in
    set_nobody ts xs c.args.worker n c.index.result.now c.rises.new.self c.place_of-place.ensures
    (slice_get_read xs (length xs) n c.index.result.now refl within c.index.ensures)
    (up_is_less c.index.result.now c.rises.new.self c.args.worker.index c.rises.ensures.up.0 c.rises.ensures.others)
    c.rises.ensures.kept (subst NobodySleeps (sym c.self.view_is) before)

pub returns-else-place-len-clause-rises : goal.returns-else-place-len-clause-rises
returns-else-place-len-clause-rises c =
    let same : length c.self.inside.pools.items ≡ length c.args.self.now.pools =
    ap (λ (a : Asleep). length a.pools) c.self.view_is in
    far_rises c.args.self.now c.args.worker
    (omega (arith, same, c.place_of-place.ensures, c.len.ensures, c.if-place-len.false, c.self.inside.pools.ok.0))

pub returns-else-place-len-clause-up : goal.returns-else-place-len-clause-up
returns-else-place-len-clause-up c e who =
    let same : length c.self.inside.pools.items ≡ length c.args.self.now.pools =
    ap (λ (a : Asleep). length a.pools) c.self.view_is in
    far_is_up e c.args.worker c.args.self.now.pools
    (omega (arith, same, c.place_of-place.ensures, c.len.ensures, c.if-place-len.false, c.self.inside.pools.ok.0)) who
