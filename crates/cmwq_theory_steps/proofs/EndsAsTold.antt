-- The queueing that an entry ends, read off its reply, and an item's run as a queueing.
use Rattle.cmwq_theory_steps.specs.Common.{◌∷◌, item_of, ◌≡◌, ℕ, List, Some, Entry, Queueing, Start, Layout, item_run}
use Rattle.cmwq_theory_steps.specs.Common.{IsLegal}
use Rattle.cmwq_theory_steps.specs.ItemQueueings.{IsRunOf, ended_by}
use Rattle.cmwq_theory_steps.specs.Endings.{ending}
use Rattle.cmwq_theory_steps.proofs.StartsListed.{IsFound}
use Rattle.cmwq_theory_steps.proofs.RunsActive.{found_known, found_number}
use Rattle.cmwq_theory_steps.proofs.ItemSteps.{items_are_run}
use Rattle.cmwq_theory_steps.proofs.Pools.{runs_are_in_pools}
use Rattle.cmwq_theory_steps.proofs.Ended.{ends_of}

-- ---- an item's run

pub runs_are_queueings : (s : Layout) (past : List Entry) → IsLegal s past → (i : ℕ) (start : Start)
    → item_run past i ≡ Some start → IsRunOf s past i start
runs_are_queueings s past legal i start h =
    let is = items_are_run s past i start legal h in
    let r = runs_are_in_pools s past start.worker start.number legal is.0 in
    let known = found_known past start.number r.queueing r.found in
    let number = found_number past start.number r.queueing r.found in
    record {
      queueing = r.queueing;
      found = r.found;
      live = r.live;
      item = cc (known.item, number, is.1);
      pool =
          r.pool;
    }

pub same_by_number : (past : List Entry) (x y : Queueing) → IsFound past x → IsFound past y → x.number ≡ y.number
    → x ≡ y
same_by_number past x y hx hy same = cc

-- ---- the law

pub ends_as_told : (s : Layout) (past : List Entry) (e : Entry) → IsLegal s (e ∷ past)
    → ending past e ≡ ended_by past e.who (item_of e) e.reply
ends_as_told s past e legal = (ends_of s past e legal).told
