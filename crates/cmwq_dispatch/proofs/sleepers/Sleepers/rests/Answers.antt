use Rattle.std.proofs.Common.{◌≡◌, ◌++◌, ◌<◌, ap, arith, length, refl, slice_set, subst, sym}
use Rattle.std.proofs.lemmas.Option.{slice_get_read}
use Rattle.cmwq_dispatch.specs.Asleep.{Asleep, IsLookedAfter, Rests}
use Rattle.cmwq_dispatch.specs.Waiting.{unnamed}
use Rattle.cmwq_dispatch.proofs.Cared.{set_kept, set_rests, up_then_rests}
use Rattle.cmwq_dispatch.proofs.sleepers.Sleepers.rests.Goals as goal

pub returns-clause-rests : goal.returns-clause-rests
returns-clause-rests c =
    let xs = c.self.inside.pools.items in
    let n = c.place_of-place.result in
    let ts = unnamed c.self.inside.waiters.items ++ unnamed c.self.inside.flushes.items in
    let same : length xs ≡ length c.args.self.now.pools = ap (λ (a : Asleep). length a.pools) c.self.view_is in
    let within : n < length xs = omega (arith, same, c.place_of-place.ensures, c.requires.place) in
    subst (λ (a : Asleep). Rests c.args.worker a (record { tickets = ts; pools = slice_set xs n c.rests.new.self }))
    c.self.view_is
    (set_rests ts xs c.args.worker n c.index.result.now c.rests.new.self c.place_of-place.ensures
    (slice_get_read xs (length xs) n c.index.result.now refl within c.index.ensures)
    (up_then_rests c.index.result.now c.rises.new.self c.rests.new.self c.args.worker.index c.rises.ensures.up.0
    c.rises.ensures.others c.rests.ensures.rests))

pub returns-clause-kept : goal.returns-clause-kept
returns-clause-kept c s past right before =
    let xs = c.self.inside.pools.items in
    let n = c.place_of-place.result in
    let ts = unnamed c.self.inside.waiters.items ++ unnamed c.self.inside.flushes.items in
    let same : length xs ≡ length c.args.self.now.pools = ap (λ (a : Asleep). length a.pools) c.self.view_is in
    let within : n < length xs = omega (arith, same, c.place_of-place.ensures, c.requires.place) in
    set_kept s past ts xs c.args.worker.pool n c.index.result.now c.rests.new.self c.place_of-place.ensures
    (slice_get_read xs (length xs) n c.index.result.now refl within c.index.ensures)
    (λ r a. let k = c.rises.ensures.kept s past c.args.worker.pool r a in
    c.rests.ensures.kept s past c.args.worker.pool right k.0 k.1)
    (subst (IsLookedAfter s past) (sym c.self.view_is) before)
