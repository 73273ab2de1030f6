-- Of what is active, a pool starts first what stands first in its worklist, unless the item of that runs.
use Rattle.std.specs.Prelude.{◌≡◌, ◌≤◌, ◌&&◌, ◌∷◌, ◌++◌, ℕ, Bool, true, false, List, Contains, length, count_by}
use Rattle.std.specs.Prelude.{is_some}
use Rattle.std.specs.List.{AllByRecursion, list_any}
use Rattle.cmwq_model.specs.Prelude.{IsLegal, Layout, has_number, is_active, is_in_pool, is_live, is_started}
use Rattle.cmwq_model.specs.Prelude.{item_runs, number_started, pool_at, queueings, starts, worklist}
use Rattle.cmwq_model.specs.declared.entry.Entry.{Entry}
use Rattle.cmwq_model.specs.declared.id.PoolId.{PoolId}
use Rattle.cmwq_model.specs.declared.record.Queueing.{Queueing}
use Rattle.cmwq_theory_steps.specs.Histories.{OfEachEntry}

-- A queueing stands in the pool's worklist, which has the active queueings of the pool that have not started. These are
-- ahead of it there, and no others.
pub record StandsBehind (s : Layout) (past : List Entry) (p : PoolId) (ahead : List Queueing)
    (x : Queueing) : Type 0 where
  pub behind : List Queueing
  pub worklist_is : worklist s past p ≡ ahead ++ x ∷ behind

-- Each queueing that is active and has not started stands so, in the pool of its queue and its CPU.
abbrev pub ActiveStand : Type 0
ActiveStand = (s : Layout) (past : List Entry) (x : Queueing) → Contains (queueings past) x
    → is_active s past x ≡ true → is_started past x.number ≡ false
    → (ahead : List Queueing) × StandsBehind s past (pool_at s x.place) ahead x

-- ---- which queueing starts next

-- The queueing with this number stands in the worklist, and its item does not run. The items of all that are ahead of
-- it run.
pub record IsFirstFree (s : Layout) (past : List Entry) (p : PoolId) (n : ℕ) : Type 0 where
  pub queueing : Queueing
  pub ahead : List Queueing
  pub number : queueing.number ≡ n
  pub stands : StandsBehind s past p ahead queueing
  pub is_free : item_runs past queueing.item.0 ≡ false
  pub others_run : AllByRecursion (λ y. item_runs past y.item.0 ≡ true) ahead

-- Where a worker of a pool starts a queueing, it is that one.
abbrev pub StartsTakeFirst : Type 0
StartsTakeFirst = (s : Layout) (past : List Entry) (e : Entry) (p : PoolId) (n : ℕ) → IsLegal s (e ∷ past)
    → is_in_pool p e.who ≡ true → starts n e ≡ true → IsFirstFree s past p n

-- ---- what starts before a queueing

-- A history goes on, with the newest entry first, and through all of that a queueing waits to be started: at first
-- these are ahead of it in the pool's worklist, and in the end it is still open and has not started.
pub record WaitsThrough (s : Layout) (past later : List Entry) (p : PoolId) (ahead : List Queueing)
    (x : Queueing) : Type 0 where
  pub legal : IsLegal s (later ++ past)
  pub stands : StandsBehind s past p ahead x
  pub is_open : is_live (later ++ past) x ≡ true
  pub not_started : is_started (later ++ past) x.number ≡ false

-- Nothing comes between: in the end it stands behind some of those that were ahead of it, and behind no others.
pub record HasComeForward (s : Layout) (past later : List Entry) (p : PoolId) (ahead : List Queueing)
    (x : Queueing) : Type 0 where
  pub left : List Queueing
  pub stands : StandsBehind s (later ++ past) p left x
  pub were_ahead : (y : Queueing) → Contains left y → Contains ahead y
  pub no_more : length left ≤ length ahead

abbrev pub NothingComesBetween : Type 0
NothingComesBetween = (s : Layout) (past later : List Entry) (p : PoolId) (ahead : List Queueing) (x : Queueing)
    → WaitsThrough s past later p ahead x → HasComeForward s past later p ahead x

-- Whatever the pool starts meanwhile was ahead of it, unless the item of the one that waits runs at that time.
abbrev pub NoneOvertakes : Type 0
NoneOvertakes = (s : Layout) (past later : List Entry) (p : PoolId) (ahead : List Queueing) (x : Queueing)
    → WaitsThrough s past later p ahead x
    → OfEachEntry (λ before e. (n : ℕ) → is_in_pool p e.who ≡ true → starts n e ≡ true
    → item_runs (before ++ past) x.item.0 ≡ false → list_any (has_number n) ahead ≡ true) later

-- If that item does not run at first, it does not begin to.
abbrev pub ItemsStayFree : Type 0
ItemsStayFree = (s : Layout) (past later : List Entry) (p : PoolId) (ahead : List Queueing) (x : Queueing)
    → WaitsThrough s past later p ahead x → item_runs past x.item.0 ≡ false
    → item_runs (later ++ past) x.item.0 ≡ false

-- how many starts in the pool are among these entries
abbrev pub is_start_in : PoolId → Entry → Bool
is_start_in p e = is_in_pool p e.who && is_some (number_started e.reply)

abbrev pub starts_in : PoolId → List Entry → ℕ
starts_in p later = count_by (is_start_in p) later

-- And then the pool starts no more meanwhile than were ahead.
abbrev pub FewStartBefore : Type 0
FewStartBefore = (s : Layout) (past later : List Entry) (p : PoolId) (ahead : List Queueing) (x : Queueing)
    → WaitsThrough s past later p ahead x → item_runs past x.item.0 ≡ false → starts_in p later ≤ length ahead
