-- The timer that is found is that of the item which fires next.
use Rattle.cmwq_state.specs.Common.{◌≡◌, ℕ, List, Option, Some, None, sym, IfSome, IfNone, ItemId, Entry, Layout, now}
use Rattle.cmwq_state.specs.Common.{IsLegal, IsFirstToFire, NoneMayFire, HoldsDraining, item_due, timers_of}
use Rattle.cmwq_state.specs.Common.{first_timer_is_first_due, no_timer_is_none_due}

pub next_due : (s : Layout) (past : List Entry) (holds : List ℕ) (o : Option ItemId) → IsLegal s past
    → HoldsDraining s past holds
    → IfSome o (λ i. IsFirstToFire (now past) holds (timers_of s past) i.0)
    → IfNone o (NoneMayFire (now past) holds (timers_of s past)) → o ≡ item_due past
next_due s past holds None legal each found none = sym (no_timer_is_none_due s past holds legal each none)
next_due s past holds (Some i) legal each found none = sym (first_timer_is_first_due s past holds i legal each found)
