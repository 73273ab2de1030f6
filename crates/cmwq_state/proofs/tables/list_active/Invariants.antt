use Rattle.cmwq_state.specs.Common.{take, drop, PoolId, MayAllBeAdded, pool_after_activation}
use Rattle.cmwq_state.specs.Tables.{only, those_in, pool_in, EachPool}
use Rattle.cmwq_state.proofs.tables.list_active.Given as goal

abbrev pub invariant-loop-queueing : goal.invariant-loop-queueing
invariant-loop-queueing l = record {
  may : (p : PoolId)
      → MayAllBeAdded (only l.queues) (those_in l.queues p (drop l.queueing-index l.activated)) (pool_in l.pools p);
  applied : EachPool
      (λ p. pool_after_activation (only l.queues) (those_in l.queues p (take l.queueing-index l.activated)))
      l.initial.pools l.pools;
}
