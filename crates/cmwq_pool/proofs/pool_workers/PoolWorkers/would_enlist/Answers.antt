use Rattle.std.proofs.Common.{◌∙◌, ap}
use Rattle.cmwq_pool.specs.declared.counts.WorkerCounts.{WorkerCounts}
use Rattle.cmwq_pool.specs.Common.{cond, find, ℕ}
use Rattle.cmwq_pool.specs.Slots.{is_reserve_at, slot_indices}
use Rattle.cmwq_pool.proofs.Workers.{bool_byte-cond, none_enlisted, reserve_enlisted}
use Rattle.cmwq_pool.proofs.pool_workers.PoolWorkers.would_enlist.Goals as goal

pub returns-then-self-from : goal.returns-then-self-from
returns-then-self-from c =
    let slots = c.self.inside.slots.items in
    rw (← c.self.view_is)
    (none_enlisted slots c.args.worker c.self.inside.counts.idle c.from.result
    (ap (λ (x : WorkerCounts). x.idle) c.self.invariant.counted)
    (rw (← c.self.view_is) at
    (c.from.ensures ∙ (bool_byte-cond c.is_idle.result ∙ ap (λ b. let n : ℕ = cond b 1 0 in n) c.is_idle.ensures)))
    c.if-self-from.true)

pub returns-else-self-from : goal.returns-else-self-from
returns-else-self-from c =
    let slots = c.self.inside.slots.items in
    rw (← c.self.view_is)
    (c.first_reserve.ensures ∙ (ap (λ xs. find (is_reserve_at xs) (slot_indices xs)) c.deref.ensures.value
    ∙ reserve_enlisted slots c.args.worker c.self.inside.counts.idle c.from.result
    (ap (λ (x : WorkerCounts). x.idle) c.self.invariant.counted)
    (rw (← c.self.view_is) at
    (c.from.ensures ∙ (bool_byte-cond c.is_idle.result ∙ ap (λ b. let n : ℕ = cond b 1 0 in n) c.is_idle.ensures)))
    c.if-self-from.false))
