-- What a worker's loop leaves: one run after another.
use Rattle.std.specs.Prelude.{◌≡◌, ◌⊎◌, ◌<◌}
use Rattle.cmwq_rt.specs.Common.{ℕ, zero, suc, Bool, true, false, Option, None, Some, Result, Ok, Err, MatchOption}
use Rattle.cmwq_rt.specs.Common.{ItemId}
use Rattle.cmwq_rt.specs.Common.{Call, Reply, Layout, View, active_in, Extends, Settles, StartsOne, RunFault, NoMemory}
use Rattle.cmwq_rt.specs.Common.{Full, Closed, Stranger}
use Rattle.cmwq_rt.specs.Sums.{no_waits, plus}
use Rattle.cmwq_rt.specs.declared.left_out.LeftOut.{LeftOut}
use Rattle.cmwq_model.specs.declared.call.Call.TheVariants as call
use Rattle.cmwq_model.specs.declared.reply.Reply.TheVariants as reply
use Rattle.cmwq_dispatch.specs.declared.dispatch.Sleep.TheVariants.{Over}
use Rattle.cmwq_monitor.specs.declared.monitor.Next.{Next}
use Rattle.cmwq_monitor.specs.declared.monitor.Next.TheVariants.{Runs, Nothing}

-- a worker that runs this item, the fault that one of its calls has answered since the run began, want of room aside,
-- and how many waits it has left out since then
pub record Running : Type 0 where
  pub item : ItemId
  pub participant : View
  pub fault : Option RunFault
  pub left_out : LeftOut

-- the fault of a run after a call has answered
abbrev pub fault_after : Result Reply RunFault → Option RunFault → Option RunFault
fault_after (Ok r) old = old
fault_after (Err Full) old = old
fault_after (Err f) old = Some f

-- whether a script or a worker's loop may break off with this fault: want of room leaves a call out, and the others are
-- those of who makes participants and threads
abbrev pub breaks_off : RunFault → Bool
breaks_off (NoMemory ticket) = true
breaks_off Closed = true
breaks_off (Stranger own book) = true
breaks_off f = false

-- one entry was made, by this call
abbrev pub MakesOne : Layout → View → Call → View → Type 0
MakesOne s v c w = (r : Reply) × Extends s v c r w

-- what one run of an item does, where it left out so many waits, as a relation of what its worker saw when it began and
-- when it had ended
abbrev pub Behavior : Type 1
Behavior = ItemId → LeftOut → View → View → Type 0

-- the work function ran, and a run that it left asleep woke
abbrev pub RunsItem : Layout → Behavior → ItemId → LeftOut → View → View → Type 0
RunsItem s does item l v w = (done : View) × does item l v done × ((w ≡ done) ⊎ MakesOne s done call.Wake w)

-- the run ended, and the worker may have been sent to the reserve
abbrev pub EndsRun : Layout → View → View → Type 0
EndsRun s v w = (ended : View) × MakesOne s v call.Finish ended
    × ((w ≡ ended) ⊎ Extends s ended call.Retire reply.Retired w)

-- so many runs, one after another: each starts a queueing, runs its item, and ends; all together left out so many
-- waits
abbrev pub RunsInTurn : Layout → Behavior → ℕ → LeftOut → View → View → Type 0
RunsInTurn s does zero l v w = (w ≡ v) × (l ≡ no_waits)
RunsInTurn s does (suc n) l v w = (before started ran : View) × (item : ItemId) × (others one : LeftOut)
    × RunsInTurn s does n others v before × StartsOne s before item started × RunsItem s does item one started ran
    × EndsRun s ran w × (l ≡ plus others one)

-- a worker has run what it started, has made no other entry in the history that it sees, and its runs have left out so
-- many waits
abbrev pub HasWorked : Layout → Behavior → LeftOut → View → View → Type 0
HasWorked s does l v w = (n : ℕ) × (last : View) × RunsInTurn s does n l v last × Settles w.seen last w

-- what a worker does next: it starts a queueing of this item, or it sees that nothing active is open
abbrev pub IsNextStart : Layout → View → Option ItemId → View → Type 0
IsNextStart s v next w =
    MatchOption next ((active_in s w.seen ≡ 0) × Settles w.seen v w) (λ item. (item.0 < s.items) × StartsOne s v item w)

-- the same, or it does nothing yet
abbrev pub IsNext : Layout → View → Next → View → Type 0
IsNext s v (Runs item) w = IsNextStart s v (Some item) w
IsNext s v (Nothing Over) w = IsNextStart s v None w
IsNext s v (Nothing instead) w = w ≡ v
