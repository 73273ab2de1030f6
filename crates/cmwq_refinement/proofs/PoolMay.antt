-- What a worker is answered in a legal history may be applied to its pool.
use Rattle.cmwq_refinement.specs.Common.{◌≡◌, ◌<◌, ℕ, true, List, ◌∷◌, Some, refl, sym, ap, ◌∙◌, WorkerId, Worker}
use Rattle.cmwq_refinement.specs.Common.{Reply, Entry, Layout, number_started, number_finished, runs_awake, runs_asleep}
use Rattle.cmwq_refinement.specs.Common.{IsLegal, starts_next, finishes_run, cause_of, sleep_reason, wake_reason}
use Rattle.cmwq_refinement.specs.Common.{retire_reason, slot_at, by_itself, same_starter}
use Rattle.cmwq_model.specs.declared.reply.Reply.TheVariants as reply
use Rattle.cmwq_pool.specs.Slots.{slot_runs_awake as slot_awake_runs, slot_runs_asleep as slot_asleep_runs}
use Rattle.cmwq_refinement.specs.Pools.{pool_of, MayStartInPool, MayReplyInPool}
use Rattle.cmwq_refinement.proofs.PoolReads.{slot_is, some_run, runnables_are_runnable, idle_retire_alike}
use Rattle.cmwq_refinement.proofs.PoolNext.{worker_fits, nexts_are_next}

module _ (s : Layout) (past : List Entry) (e : Entry) (w : WorkerId) (legal : IsLegal s (e ∷ past))
    (who : e.who ≡ Worker w) where
  before : IsLegal s past
  unfolding IsLegal
  before = legal.2

  there : w.index < s.workers
  there = worker_fits s past e w legal (by_itself e w who)

  awake_slot : runs_awake past w ≡ true → slot_awake_runs (slot_at (pool_of s past w.pool).slots w.index) ≡ true
  awake_slot h = rw (slot_is s past w.pool w.index there, some_run s past w before) h

  asleep_slot : runs_asleep past w ≡ true → slot_asleep_runs (slot_at (pool_of s past w.pool).slots w.index) ≡ true
  asleep_slot h = rw (slot_is s past w.pool w.index there, some_run s past w before) h

  may_start : (n : ℕ) → number_started e.reply ≡ Some n → MayStartInPool (pool_of s past w.pool) w.index
  may_start n h =
      let st = starts_next s past e n legal h in
      let same = same_starter st.worker w (sym st.by_worker ∙ who) in
      record {
        idle = rw (
          slot_is s past w.pool w.index there,
          some_run s past w before,
          (rw same at st.enlisted),
          (rw same at st.idle),
        ) refl;
        next = rw (nexts_are_next s past w.pool before, (rw same at st.is_next)) refl;
        free = rw (runnables_are_runnable s past w.pool before) (rw same at st.is_clear);
      }

  may_reply : (r : Reply) → e.reply ≡ r → MayReplyInPool r (pool_of s past w.pool) w.index
  may_reply (reply.Started n) is = may_start n (ap number_started is)
  may_reply (reply.StartedEnlist n y) is = may_start n (ap number_started is)
  may_reply (reply.Finished n) is = let f = finishes_run s past e n legal (ap number_finished is) in
      awake_slot (rw (same_starter f.worker w (sym f.by_worker ∙ who)) at f.awake)
  may_reply reply.Slept is = let k = sleep_reason s past e.who e.call e.reply (cause_of s past e legal) is in
      awake_slot (rw (same_starter k.0 w (sym k.1 ∙ who)) at k.3)
  may_reply reply.Woke is = let k = wake_reason s past e.who e.call e.reply (cause_of s past e legal) is in
      asleep_slot (rw (same_starter k.0 w (sym k.1 ∙ who)) at k.3)
  may_reply reply.Retired is =
      let k = retire_reason s past e.who e.call e.reply (cause_of s past e legal) is in
      let same = same_starter k.0 w (sym k.1 ∙ who) in
      rw (idle_retire_alike s past w.pool w.index before there, (rw same at k.3), (rw same at k.4), (rw same at k.5))
      refl
  may_reply r is = tt

pub replies_apply_to_pools : (s : Layout) (past : List Entry) (e : Entry) (w : WorkerId) → IsLegal s (e ∷ past)
    → e.who ≡ Worker w → MayReplyInPool e.reply (pool_of s past w.pool) w.index
replies_apply_to_pools s past e w legal who = may_reply s past e w legal who e.reply refl
