-- What callers that follow scripts leave in a history.
use Rattle.std.specs.Prelude.{◌≡◌, ◌+◌, ◌<◌, ◌∷◌}
use Rattle.cmwq_rt_scripts.specs.Common.{ℕ, suc, List, [], length, Call, Entry, Layout, past_of, IsLegal, made_by}
use Rattle.cmwq_rt_scripts.specs.Common.{Behavior, Follows, LeftOut, caller_numbered}
use Rattle.cmwq_monitor.specs.Held.{active_in}
use Rattle.cmwq_monitor.specs.declared.fault.RunFault.{RunFault}
use Rattle.cmwq_monitor.specs.declared.fault.RunFault.TheVariants.{Full, Unfinished, NoPlace}
use Rattle.cmwq_engine.specs.Ended.{AllWaited, AllWorked, AreSilent}

-- the entries of the caller of this place in a history follow the script
abbrev pub FollowsIn : Layout → ℕ → List Call → ℕ → List Entry → Type 0
FollowsIn s k script full history =
    Follows s (caller_numbered k) history [] script (made_by (caller_numbered k) history) full

-- each of these scripts was followed by the caller of its place, from this place on, and so many calls were left out in
-- all
abbrev pub AllFollow : Layout → ℕ → List (List Call) → ℕ → List Entry → Type 0
AllFollow s k [] full history = full ≡ 0
AllFollow s k (x ∷ xs) full history = (n m : ℕ) × FollowsIn s k x n history × AllFollow s (suc k) xs m history
    × (full ≡ n + m)

-- all callers followed their scripts, and yet an active queueing is open in the history
abbrev pub IsUnfinished : Layout → List (List Call) → List Entry → Type 0
IsUnfinished s scripts history = (full : ℕ) × AllFollow s 0 scripts full history × (0 < active_in s history)

-- what a fault tells of a run of which so many callers are lent: a legal history that is unfinished, or that there are
-- too few callers; calls without room are left out
abbrev pub FailsAs : Layout → List (List Call) → ℕ → RunFault → Type 0
FailsAs s scripts lent Unfinished = (history : List Entry) × IsLegal s (past_of history)
    × IsUnfinished s scripts history
FailsAs s scripts lent NoPlace = s.callers < length scripts + lent
FailsAs s scripts lent Full = ⊥
FailsAs s scripts lent f = Unit {0}

-- A history that these scripts leave, where the next so many callers are lent to runs that wait: it is legal, each
-- caller's entries follow its script but for so many calls in all that had no room, those of each caller that is lent
-- are of whole waits of runs, each worker's are runs of items, which left out so many waits in all, nobody else has
-- any, and nothing active is left.
pub record IsLeft (s : Layout) (does : Behavior) (scripts : List (List Call)) (lent full : ℕ) (l : LeftOut)
    (history : List Entry) : Type 0 where
  pub legal : IsLegal s (past_of history)
  pub follow : AllFollow s 0 scripts full history
  pub waited : AllWaited s (length scripts) lent history
  pub worked : AllWorked s does l history
  pub silent : AreSilent s (length scripts + lent) history
  pub finished : active_in s history ≡ 0
