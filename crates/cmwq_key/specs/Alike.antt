-- Stands that are alike: those that differ in the numbers of their entries alone, and in what no longer matters.
use Rattle.std.specs.Prelude.{◌≡◌, ◌↔◌, ◌<◌, ℕ, suc, Bool, true, false, List, [], ◌∷◌, length, Contains, Option, Some}
use Rattle.std.specs.Prelude.{None, IfSome}
use Rattle.std.specs.List.{AllByRecursion, list_any}
use mathlib.Core.List.{IsPrefix}
use Rattle.cmwq_model.specs.Prelude.{IsLegal}
use Rattle.cmwq_model.specs.declared.call.Call.{Call}
use Rattle.cmwq_model.specs.declared.call.Call.TheVariants as call
use Rattle.cmwq_model.specs.declared.id.WorkerId.{WorkerId}
use Rattle.cmwq_json_script.specs.declared.action.Action.{Action}
use Rattle.cmwq_json_script.specs.declared.action.Action.TheVariants as action
use Rattle.cmwq_core.specs.History.{History, past_in}
use Rattle.cmwq_alike.specs.Alike.{IsAlike, IsWaitAlike}
use Rattle.cmwq_play.specs.declared.place.Ticketed.{Ticketed}
use Rattle.cmwq_play.specs.declared.place.CallerAt.{CallerAt}
use Rattle.cmwq_play.specs.declared.place.Doing.{Doing}
use Rattle.cmwq_play.specs.declared.place.Doing.TheVariants.{Acts, AtGate, AtLock, Waits}
use Rattle.cmwq_play.specs.declared.place.RunAt.{RunAt}
use Rattle.cmwq_play.specs.declared.place.WorkerAt.{WorkerAt}
use Rattle.cmwq_json_script.specs.Common.{Data, Ok}
use Rattle.cmwq_json_script.specs.Runs.{Run, run_said}
use Rattle.cmwq_play.specs.Starts.{first_stand}
use Rattle.cmwq_play.specs.Stands.{Stand, IsDone, may, moved}
use Rattle.cmwq_play.specs.Waiting.{is_refused}
use Rattle.cmwq_play.specs.Searches.{AllEnd, GetsStuck, IsSchedule, NoneStuck, after}

-- ---- lists and options that match part by part

abbrev pub ListsMatch : {X Y : Type 0} → (X → Y → Type 0) → List X → List Y → Type 0
ListsMatch R [] [] = Unit {0}
ListsMatch R (x ∷ xs) (y ∷ ys) = R x y × ListsMatch R xs ys
ListsMatch R xs ys = ⊥

abbrev pub OptionsMatch : {X Y : Type 0} → (X → Y → Type 0) → Option X → Option Y → Type 0
OptionsMatch R None None = Unit {0}
OptionsMatch R (Some x) (Some y) = R x y
OptionsMatch R o p = ⊥

-- ---- callers and workers, by which tickets are alike

-- the same call, and the tickets are alike
pub record AreWaitsAlike (R : ℕ → ℕ → Type 0) (w v : Ticketed) : Type 0 where
  pub call : v.call ≡ w.call
  pub ticket : R w.ticket v.ticket

pub record AreCallersAlike (R : ℕ → ℕ → Type 0) (at other : CallerAt) : Type 0 where
  pub id : other.id ≡ at.id
  pub next : other.next ≡ at.next
  pub wait : OptionsMatch (AreWaitsAlike R) at.wait other.wait

abbrev pub AreDoingsAlike : (ℕ → ℕ → Type 0) → Doing → Doing → Type 0
AreDoingsAlike R Acts Acts = Unit {0}
AreDoingsAlike R (AtGate gate slept) (AtGate other so) = (other ≡ gate) × (so ≡ slept)
AreDoingsAlike R (AtLock lock slept) (AtLock other so) = (other ≡ lock) × (so ≡ slept)
AreDoingsAlike R (Waits caller w) (Waits other v) = (other ≡ caller) × AreWaitsAlike R w v
AreDoingsAlike R d e = ⊥

pub record AreRunsAlike (R : ℕ → ℕ → Type 0) (run other : RunAt) : Type 0 where
  pub item : other.item ≡ run.item
  pub next : other.next ≡ run.next
  pub doing : AreDoingsAlike R run.doing other.doing

pub record AreWorkersAlike (R : ℕ → ℕ → Type 0) (at other : WorkerAt) : Type 0 where
  pub id : other.id ≡ at.id
  pub run : OptionsMatch (AreRunsAlike R) at.run other.run

-- ---- stands

-- legal histories that are equally long, and alike but for their numbers
pub record AreHistoriesAlike (f : ℕ → ℕ) (h g : History) : Type 0 where
  pub layout : g.layout ≡ h.layout
  pub room : g.room ≡ h.room
  pub long : length g.entries ≡ length h.entries
  pub legal : IsLegal h.layout (past_in h)
  pub other_legal : IsLegal h.layout (past_in g)
  pub alike : IsAlike h.layout f (past_in h) (past_in g)

-- an action names a ticket by its number, which stands for another ticket in a stand that is alike
abbrev pub names_ticket : Action → Bool
names_ticket (action.Call (call.End n)) = true
names_ticket a = false

abbrev pub NoneNames : List (List Action) → Type 0
NoneNames scripts = list_any (list_any names_ticket) scripts ≡ false

-- no script that is read has such an action
abbrev pub ReadRunsNameNone : Type 0
ReadRunsNameNone = (d : Data) (r : Run) → run_said d ≡ Ok r → NoneNames r.callers × NoneNames r.does

-- two callers wait with these tickets, one in each history
abbrev pub AreTicketsAlike : (ℕ → ℕ) → History → History → ℕ → ℕ → Type 0
AreTicketsAlike f h g n m = IsWaitAlike f (past_in h) (past_in g) n m

-- The numbers that matter in the one are those of the other, in the same order. All else is the same.
pub record AreStandsAlike (f : ℕ → ℕ) (p q : Stand) : Type 0 where
  pub scripts : q.scripts ≡ p.scripts
  pub does : q.does ≡ p.does
  pub scripts_name_none : NoneNames p.scripts
  pub does_name_none : NoneNames p.does
  pub histories : AreHistoriesAlike f p.history q.history
  pub callers : ListsMatch (AreCallersAlike (AreTicketsAlike f p.history q.history)) p.callers q.callers
  pub workers : ListsMatch (AreWorkersAlike (AreTicketsAlike f p.history q.history)) p.workers q.workers
  pub gates : q.gates ≡ p.gates
  pub locks : q.locks ≡ p.locks
  pub free : q.free ≡ p.free

abbrev pub AreAlike : Stand → Stand → Type 0
AreAlike p q = (f : ℕ → ℕ) × AreStandsAlike f p q

-- ---- stands to which a script leads

-- the ticket is that of an older entry
abbrev pub IsOlderWait : ℕ → Option Ticketed → Type 0
IsOlderWait count wait = IfSome wait (λ (w : Ticketed). w.ticket < count)

abbrev pub IsOlderDoing : ℕ → Doing → Type 0
IsOlderDoing count (Waits caller w) = w.ticket < count
IsOlderDoing count d = Unit {0}

abbrev pub IsOlderCaller : ℕ → CallerAt → Type 0
IsOlderCaller count at = IsOlderWait count at.wait

abbrev pub IsOlderWorker : ℕ → WorkerAt → Type 0
IsOlderWorker count at = IfSome at.run (λ (run : RunAt). IsOlderDoing count run.doing)

-- The history is legal, each wait is for the ticket of one of its entries, and no action names a ticket.
pub record IsStand (p : Stand) : Type 0 where
  pub scripts_name_none : NoneNames p.scripts
  pub does_name_none : NoneNames p.does
  pub legal : IsLegal p.history.layout (past_in p.history)
  pub callers : AllByRecursion (IsOlderCaller (length p.history.entries)) p.callers
  pub workers : AllByRecursion (IsOlderWorker (length p.history.entries)) p.workers

-- so it is before the first move, and after each schedule
abbrev pub FirstIsStand : Type 0
FirstIsStand = (r : Run) → NoneNames r.callers → NoneNames r.does → IsStand (first_stand r)

abbrev pub SchedulesLeadToStands : Type 0
SchedulesLeadToStands = (p : Stand) (schedule : List ℕ) → IsStand p → IsSchedule p schedule → IsStand (after p schedule)

-- no move changes what each party does, the layout and the room
pub record HasSameScripts (p q : Stand) : Type 0 where
  pub scripts : q.scripts ≡ p.scripts
  pub does : q.does ≡ p.does
  pub layout : q.history.layout ≡ p.history.layout
  pub room : q.history.room ≡ p.history.room

abbrev pub SchedulesKeepScripts : Type 0
SchedulesKeepScripts = (p : Stand) (schedule : List ℕ) → HasSameScripts p (after p schedule)

-- and each only adds entries to the history
abbrev pub SchedulesAddEntries : Type 0
SchedulesAddEntries = (p : Stand) (schedule : List ℕ) → IsPrefix p.history.entries (after p schedule).history.entries

-- A stand of this kind is alike to itself. If two are alike, both are of this kind.
abbrev pub EachIsAlikeToItself : Type 0
EachIsAlikeToItself = (p : Stand) → IsStand p → AreStandsAlike (λ n. n) p p

abbrev pub AlikeAreStands : Type 0
AlikeAreStands = (p q : Stand) → AreAlike p q → IsStand p × IsStand q

-- ---- what alike stands have in common

-- the same parties may move
abbrev pub MayAlike : Type 0
MayAlike = (p q : Stand) → AreAlike p q → (k : ℕ) → may q k ≡ may p k

-- both are done or neither is
abbrev pub DoneAlike : Type 0
DoneAlike = (p q : Stand) → AreAlike p q → IsDone p ↔ IsDone q

-- and the same waits are refused
abbrev pub RefusedAlike : Type 0
RefusedAlike = (p q : Stand) → AreAlike p q → (worker : WorkerId) (c : Call)
    → is_refused q.history q.workers worker c ≡ is_refused p.history p.workers worker c

-- after the same move they are alike again
abbrev pub MovesGoOnAlike : Type 0
MovesGoOnAlike = (p q : Stand) → AreAlike p q → (k : ℕ) → may p k ≡ true → AreAlike (moved p k) (moved q k)

-- ---- so a search need visit only one of them

abbrev pub EndsAlike : Type 0
EndsAlike = (n : ℕ) (p q : Stand) → AreAlike p q → AllEnd n p ↔ AllEnd n q

abbrev pub StuckAlike : Type 0
StuckAlike = (n : ℕ) (p q : Stand) → AreAlike p q → NoneStuck n p ↔ NoneStuck n q

-- a schedule gets stuck in both or in neither
abbrev pub GetsStuckAlike : Type 0
GetsStuckAlike = (p q : Stand) (schedule : List ℕ) → AreAlike p q → GetsStuck p schedule ↔ GetsStuck q schedule

-- ---- what a bound says of others

-- If every schedule ends within so many moves, it does within one more.
abbrev pub MoreMoves : Type 0
MoreMoves = (n : ℕ) (p : Stand) → AllEnd n p → AllEnd (suc n) p

-- And then none gets stuck, however many moves it has.
abbrev pub EndsLeaveNoneStuck : Type 0
EndsLeaveNoneStuck = (n m : ℕ) (p : Stand) → AllEnd n p → NoneStuck m p

-- of each stand of a list a move leads to one that is alike to one of the list
pub record GoesRound (stands : List Stand) (p : Stand) : Type 0 where
  pub party : ℕ
  pub may_move : may p party ≡ true
  pub next : Stand
  pub is_there : Contains stands next
  pub is_alike : AreAlike (moved p party) next

abbrev pub IsLoop : List Stand → Type 0
IsLoop stands = (p : Stand) → Contains stands p → GoesRound stands p

-- no number of moves is enough there
abbrev pub LoopsNeverEnd : Type 0
LoopsNeverEnd = (stands : List Stand) (p : Stand) (n : ℕ) → IsLoop stands → Contains stands p → AllEnd n p → ⊥
