-- What a step must do so that nobody is forgotten.
use Rattle.std.specs.Prelude.{◌≡◌, ◌∷◌}
use Rattle.cmwq_theory_steps.specs.Common.{Bool, true, false, List, filter, Some, PoolId, WorkerId, Worker, Entry}
use Rattle.cmwq_theory_steps.specs.Common.{Ticket, Queueing, Layout}
use Rattle.cmwq_theory_steps.specs.Histories.{OfEntries}
use Rattle.cmwq_theory_steps.specs.Endings.{ending}
use Rattle.cmwq_theory_wakes.specs.Readiness.{may_release}
use Rattle.cmwq_theory_wakes.specs.Starting.{IsAttended, Touches}
use Rattle.cmwq_theory_wakes.specs.Rest.{IsUnready, NoneForgotten}

-- A step makes an entry and looks after those who wait and rest. The entry is not by a resting worker. If the entry
-- ends a queueing that may release a ticket, the ticket stays only if it is still not ready. The step looks at every
-- pool that the entry touches, and leaves each pool that it looks at attended. In the other pools, the same workers
-- rest as before.
pub record LooksAfter (s : Layout) (past : List Entry) (e : Entry) (stays : Ticket → Bool)
    (rested rests : WorkerId → Bool) (looks_at : PoolId → Bool) : Type 0 where
  pub own : (w : WorkerId) → e.who ≡ Worker w → rested w ≡ false
  pub unready : (t : Ticket) (x : Queueing) → stays t ≡ true → ending past e ≡ Some x → may_release t.call x ≡ true
      → IsUnready (e ∷ past) t
  pub touched : (p : PoolId) → Touches s past e p → looks_at p ≡ true
  pub attended : (p : PoolId) → looks_at p ≡ true → IsAttended s (e ∷ past) rests p
  pub others : (w : WorkerId) → looks_at w.pool ≡ false → rests w ≡ rested w

-- If nobody is forgotten before a step that looks after those who wait and rest, nobody is forgotten after it.
abbrev pub NoneIsForgotten : Type 0
NoneIsForgotten =
    OfEntries (λ s past e. (tickets : List Ticket) (stays : Ticket → Bool) (rested rests : WorkerId → Bool)
    (looks_at : PoolId → Bool) → LooksAfter s past e stays rested rests looks_at → NoneForgotten s past tickets rested
    → NoneForgotten s (e ∷ past) (filter stays tickets) rests)
