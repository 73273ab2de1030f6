use Rattle.std.proofs.Common.{arith}
use Rattle.cmwq_dispatch.proofs.EachPool.{toured_all, toured_on}
use Rattle.cmwq_dispatch.proofs.pools.look_everywhere.Goals as goal

pub loop-place-preserved : goal.loop-place-preserved
loop-place-preserved c =
    toured_on _ _ c.loop-place.place c.args.pools.now c.loop-place.pools _ _ _ _ _ c.pool_at.ensures.number
    c.loop-place.invariant c.look_in.ensures.recorded c.look_in.ensures.attended
    c.look_in.ensures.others c.look_in.ensures.named

pub returns-clause-attended : goal.returns-clause-attended
returns-clause-attended c =
    toured_all _ _ c.loop-place.place c.args.pools.now c.loop-place.pools _ _
    (omega (arith, c.loop-place.invariant.named.count, c.loop-place-test.false)) c.loop-place.invariant
