-- What the threads of callers and workers gave back, and what they leave in one history.
use Rattle.cmwq_rt.specs.Places.{shares}
use Rattle.std.specs.Prelude.{◌≡◌, ◌+◌, ◌<◌, ◌≤◌}
use Rattle.cmwq_engine.specs.Common.{ℕ, zero, suc, List, [], length, drop, slice_get, Some, None, Bool, true, false}
use Rattle.cmwq_engine.specs.Common.{Result, Ok, Err, IfOk, IfErr, Worker, WorkerId, Entry, Layout, serial_of, past_of}
use Rattle.cmwq_engine.specs.Common.{IsLegal, View, newcomer, made_by, worker_by_number, Behavior, HasWorked}
use Rattle.cmwq_engine.specs.Common.{RunsInTurn, breaks_off, IsPrefix, Conduct, Roster, caller_numbered, LeftOut, plus}
use Rattle.cmwq_engine.specs.Common.{no_waits}
use Rattle.cmwq_monitor.specs.Held.{active_in}
use Rattle.cmwq_rt.specs.Lent.{HasOnlyWaited}
use Rattle.cmwq_monitor.specs.declared.fault.RunFault.{RunFault}
use Rattle.cmwq_monitor.specs.declared.fault.RunFault.TheVariants.{Full, Unfinished, NoPlace}
use Rattle.cmwq_engine.specs.declared.ends.CallerEnd.{CallerEnd}
use Rattle.cmwq_engine.specs.declared.ends.WorkerEnd.{WorkerEnd}
use Rattle.cmwq_engine.specs.declared.gather.Ends.{Ends}

-- what a caller's thread has done
abbrev pub CalledAt : Layout → Conduct → ℕ → ℕ → View → Type 0
CalledAt s calls k full v = (v.who ≡ caller_numbered k) × calls s k full v

-- one end for each of the first so many callers, in order: who gave no fault has done what it should
pub record HaveCalled {N : Type 0} (s : Layout) (calls : Conduct) (many : ℕ) (ends : List (CallerEnd N)) : Type 0 where
  pub all : length ends ≡ many
  pub faults : (k : ℕ) (e : CallerEnd N) → slice_get ends k ≡ Some e → IfErr e.outcome (λ f. breaks_off f ≡ true)
  pub called : (k : ℕ) (e : CallerEnd N) → slice_get ends k ≡ Some e
      → IfOk e.outcome (λ full. CalledAt s calls k full e.caller)

-- a caller has done in a history what it should, has left out so many calls, and has no other entries there
pub record CalledIn (s : Layout) (calls : Conduct) (k full : ℕ) (history : List Entry) : Type 0 where
  pub last : View
  pub did : calls s k full last
  pub who : last.who ≡ caller_numbered k
  pub older : IsPrefix last.seen history
  pub own : serial_of (past_of history) (caller_numbered k) ≡ last.serial

-- so have this many callers, from this one on, and so many calls were left out in all
abbrev pub AllCalled : Layout → Conduct → ℕ → ℕ → ℕ → List Entry → Type 0
AllCalled s calls k zero full history = full ≡ 0
AllCalled s calls k (suc many) full history = (n m : ℕ) × CalledIn s calls k n history
    × AllCalled s calls (suc k) many m history × (full ≡ n + m)

-- the callers from this one on, up to the last of the shape, who have done nothing
pub record AreNewcomers (s : Layout) (first : ℕ) (callers : List View) : Type 0 where
  pub all : first + length callers ≡ s.callers
  pub each : (k : ℕ) (c : View) → slice_get callers k ≡ Some c → c ≡ newcomer (caller_numbered (first + k))

-- callers from this one on have no entry in a history
pub record AreSilent (s : Layout) (first : ℕ) (history : List Entry) : Type 0 where
  pub none : (k : ℕ) → first ≤ k → k < s.callers → made_by (caller_numbered k) history ≡ []

-- a caller that was lent has made the entries of whole waits of runs, and has no other entries in a history
pub record WaitedIn (s : Layout) (k : ℕ) (history : List Entry) : Type 0 where
  pub last : View
  pub waited : HasOnlyWaited s last
  pub who : last.who ≡ caller_numbered k
  pub older : IsPrefix last.seen history
  pub own : serial_of (past_of history) (caller_numbered k) ≡ last.serial

-- so have this many callers, from this one on
pub record AllWaited (s : Layout) (first many : ℕ) (history : List Entry) : Type 0 where
  pub each : (k : ℕ) → first ≤ k → k < first + many → WaitedIn s k history

-- what a worker's thread has done to its worker, whose runs left out so many waits
abbrev pub WorkedFrom : Layout → Behavior → LeftOut → View → View → Type 0
WorkedFrom s does l v w = (w.who ≡ v.who) × HasWorked s does l v w

-- one end for each worker of the shape, in order: who gave no fault has worked
pub record HaveWorked {N : Type 0} (s : Layout) (does : Behavior) (ends : List (WorkerEnd N)) : Type 0 where
  pub all : worker_by_number s (length ends) ≡ None
  pub faults : (k : ℕ) (e : WorkerEnd N) → slice_get ends k ≡ Some e → IfErr e.outcome (λ f. breaks_off f ≡ true)
  pub worked : (k : ℕ) (e : WorkerEnd N) → slice_get ends k ≡ Some e
      → (x : WorkerId) × (worker_by_number s k ≡ Some x)
      × IfOk e.outcome (λ t. WorkedFrom s does t.left_out (newcomer (Worker x)) e.worker)

-- a worker's runs in a history are so many, each does what its item does, all together left out so many waits, and it
-- has no other entries there
pub record WorkedIn (s : Layout) (does : Behavior) (x : WorkerId) (l : LeftOut) (history : List Entry) : Type 0 where
  pub runs : ℕ
  pub last : View
  pub in_turn : RunsInTurn s does runs l (newcomer (Worker x)) last
  pub older : IsPrefix last.seen history
  pub own : serial_of (past_of history) (Worker x) ≡ last.serial

-- so have this many workers, from this one on up to the last, and their runs left out so many waits in all
abbrev pub AllWorkedFrom : Layout → Behavior → ℕ → ℕ → LeftOut → List Entry → Type 0
AllWorkedFrom s does k zero l history = (worker_by_number s k ≡ None) × (l ≡ no_waits)
AllWorkedFrom s does k (suc many) l history = (x : WorkerId) × (one others : LeftOut)
    × (worker_by_number s k ≡ Some x) × WorkedIn s does x one history
    × AllWorkedFrom s does (suc k) many others history × (l ≡ plus one others)

-- so have all workers
abbrev pub AllWorked : Layout → Behavior → LeftOut → List Entry → Type 0
AllWorked s does l history = (many : ℕ) × AllWorkedFrom s does 0 many l history

-- all callers did what they should, and yet an active queueing is open in the history
abbrev pub IsUnfinished : Layout → Conduct → ℕ → List Entry → Type 0
IsUnfinished s calls many history = (full : ℕ) × AllCalled s calls 0 many full history × (0 < active_in s history)

-- how many callers are used: those that have a thread, and those that are lent to runs that wait
abbrev pub used : Roster → ℕ
used r = r.threads + r.lent

-- what a fault tells of a run: a legal history that is unfinished, or that more callers should be used than there are;
-- calls without room are left out
abbrev pub FailsAs : Layout → Conduct → Roster → RunFault → Type 0
FailsAs s calls r Unfinished = (history : List Entry) × IsLegal s (past_of history)
    × IsUnfinished s calls r.threads history
FailsAs s calls r NoPlace = s.callers < used r
FailsAs s calls r Full = ⊥
FailsAs s calls r f = Unit {0}

-- a fault that says nothing of what callers and workers did
abbrev pub is_silent : RunFault → Bool
is_silent Unfinished = false
is_silent NoPlace = false
is_silent Full = false
is_silent f = true

-- all threads have ended, but for the callers that were lent
pub record HaveEnded {N : Type 0} (s : Layout) (does : Behavior) (calls : Conduct) (r : Roster) (ends : Ends N) : Type 0
  where
    pub callers : HaveCalled s calls r.threads ends.callers.items
    pub workers : HaveWorked s does ends.workers.items
    pub idle : AreNewcomers s (used r) ends.idle.items
    pub parts : ends.rest.parts + (length ends.callers.items + length ends.workers.items + length
        ends.idle.items + r.lent) ≡ shares
    pub amount : ends.rest.amount ≡ 0

-- all have, and the callers that were lent are back
abbrev pub HaveRun : {N : Type 0} → Layout → Behavior → Conduct → Roster → Ends N → Type 0
HaveRun s does calls r ends = HaveEnded s does calls r ends × (length ends.lent.items ≡ r.lent)

abbrev pub EndsAll : {N : Type 0} → Layout → Behavior → Conduct → Roster → Result (Ends N) RunFault → Type 0
EndsAll s does calls r (Ok ends) = HaveRun s does calls r ends
EndsAll s does calls r (Err f) = FailsAs s calls r f

-- A history that a run leaves: it is legal, each caller that has a thread did what it should, but for so many calls in
-- all that had no room, the entries of each caller that is lent are those of whole waits of runs, each worker's entries
-- are runs of items, which left out so many waits in all, other callers have none, and nothing active is left.
pub record IsLeft (s : Layout) (does : Behavior) (calls : Conduct) (r : Roster) (full : ℕ) (l : LeftOut)
    (history : List Entry) : Type 0 where
  pub legal : IsLegal s (past_of history)
  pub called : AllCalled s calls 0 r.threads full history
  pub waited : AllWaited s r.threads r.lent history
  pub worked : AllWorked s does l history
  pub silent : AreSilent s (used r) history
  pub finished : active_in s history ≡ 0

-- what a hub kept of a legal history, after its first so many entries, and the same of one that a run leaves, of so
-- many entries
pub record IsRest (s : Layout) (first : ℕ) (rest : List Entry) : Type 0 where
  pub history : List Entry
  pub legal : IsLegal s (past_of history)
  pub rest_is : rest ≡ drop first history

pub record IsRestOfLeft (s : Layout) (does : Behavior) (calls : Conduct) (r : Roster) (entries full : ℕ) (l : LeftOut)
    (first : ℕ) (rest : List Entry) : Type 0 where
  pub history : List Entry
  pub left : IsLeft s does calls r full l history
  pub counted : entries ≡ length history
  pub rest_is : rest ≡ drop first history
