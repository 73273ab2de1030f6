-- A book, one entry further on.
use Rattle.cmwq_state.specs.Common.{◌≡◌, true, List, ◌∷◌, length, refl, and_parts, ltb-true, Who, Caller, Worker, Call}
use Rattle.cmwq_state.specs.Common.{Entry, Layout, fits, IsLegal, entry_for, PoolState}
use Rattle.cmwq_refinement.proofs.PoolMay.{replies_apply_to_pools}
use Rattle.cmwq_state.specs.Tables.{IsThere, ArePools, MayReplyToWorker}
use Rattle.cmwq_state.proofs.Refine.{pool_place_inside}

pub fits_there : (s : Layout) (who : Who) (c : Call) → fits s who c ≡ true → IsThere s who
fits_there s (Caller d) c h = ltb-true d.0 s.callers (and_parts _ _ (and_parts _ _ h).0).0
fits_there s (Worker w) c h =
    let a = and_parts _ _ (and_parts _ _ (and_parts _ _ h).0).0 in
    (ltb-true w.pool.cpu.0 s.cpus a.0, ltb-true w.index s.workers a.1)

pub next_legal : (s : Layout) (past : List Entry) (who : Who) (c : Call) → IsLegal s past → fits s who c ≡ true
    → IsLegal s (entry_for s past who c ∷ past)
unfolding IsLegal
next_legal s past who c legal fit = (fit, refl, legal)

-- what a reply applies to the pools may be applied
pub may_apply : (s : Layout) (past : List Entry) (e : Entry) (pools : List PoolState) → IsLegal s (e ∷ past)
    → IsThere s e.who → ArePools s past pools → MayReplyToWorker e.who e.reply pools
may_apply s past e pools legal there are = by e.who refl there where
  by : (who : Who) → e.who ≡ who → IsThere s who → MayReplyToWorker who e.reply pools
  by (Caller c) is here = tt
  by (Worker w) is here = (
    pool_place_inside w.pool s.cpus (length pools) are.many here.0,
    rw (are.each w.pool here.0) (replies_apply_to_pools s past e w legal is),
  )
