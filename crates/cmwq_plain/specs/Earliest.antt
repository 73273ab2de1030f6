-- The next queueing of a pool, told by when each became active.
use Rattle.std.specs.Prelude.{◌&&◌, if◌then◌else◌, ◌∷◌}
use Rattle.cmwq_plain.specs.Common.{ℕ, Bool, List, [], length, fold, Option, Some, None, nat_lt, option_or, PoolId}
use Rattle.cmwq_plain.specs.Common.{Entry, Queueing, Layout, queueings, is_active, is_listed, is_startable}
use Rattle.cmwq_plain.specs.Past.{upto}
use Rattle.cmwq_plain.specs.declared.active.Candidate.{Candidate}

-- on the pool's worklist, and its item has no run
abbrev pub may_start : Layout → List Entry → PoolId → Queueing → Bool
may_start s past p x = is_listed s past p x && is_startable past x

-- the number of the first entry after which the queueing is active
unfoldable pub earliest_since : Layout → List Entry → Queueing → Option ℕ
earliest_since s [] x = None
earliest_since s (e ∷ past) x =
    option_or (earliest_since s past x) (if is_active s (e ∷ past) x then Some (length past) else None)

-- the earlier one, and of two that one entry made active the one that stood first
abbrev pub earlier : Option Candidate → Queueing → Option ℕ → Option Candidate
earlier best x None = best
earlier None x (Some n) = Some (record { queueing = x; since = n })
earlier (Some b) x (Some n) = if nat_lt n b.since then Some (record { queueing = x; since = n }) else Some b

abbrev pub better : Layout → List Entry → (Queueing → Bool) → Option Candidate → Queueing → Option Candidate
better s past test best x = if test x then earlier best x (earliest_since s past x) else best

-- the best of what the first k entries opened
unfoldable pub best_upto : Layout → List Entry → PoolId → ℕ → Option Candidate
best_upto s past p k = fold (better s past (may_start s past p)) None (queueings (upto past k))

abbrev pub queueing_of : Candidate → Queueing
queueing_of b = b.queueing
