use Rattle.std.proofs.Common.{arith}
use Rattle.std.proofs.lemmas.Option.{slice_get_within}
use Rattle.cmwq_dispatch.proofs.EachPool.{emptied}
use Rattle.cmwq_dispatch.proofs.pools.clear_all.Goals as goal

pub loop-place-preserved : goal.loop-place-preserved
loop-place-preserved c = emptied c.loop-place.pools c.loop-place.place c.loop-place.invariant

pub returns : goal.returns
returns c k z at =
    c.loop-place.invariant k z (let less = slice_get_within c.loop-place.pools k z at in
    omega (arith, c.loop-place.auto.pools, c.loop-place-test.false)) at
