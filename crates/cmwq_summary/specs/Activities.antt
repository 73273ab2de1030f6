-- What is kept of a worker: what it does, since when, and how long its runs were awake and asleep until then.
use Rattle.cmwq_model.specs.Prelude.{most_workers}
use Rattle.std.specs.Prelude.{◌≡◌, ℕ, ◌*◌, ◌<◌, Bool, true, false, if◌then◌else◌, List, length}
use Rattle.std.specs.Prelude.{slice_index_or, slice_set}
use Rattle.cmwq_model.specs.declared.id.WorkerId.{WorkerId}
use Rattle.cmwq_model.specs.declared.id.Who.{Who}
use Rattle.cmwq_model.specs.declared.id.Who.TheVariants.{Caller, Worker}
use Rattle.cmwq_model.specs.declared.reply.Reply.{Reply}
use Rattle.cmwq_model.specs.declared.reply.Reply.TheVariants as reply
use Rattle.cmwq_model.specs.declared.entry.Entry.{Entry}
use Rattle.cmwq_model.specs.Prelude.{runs_awake, runs_asleep}
use Rattle.cmwq_summary.specs.declared.span.Span.{Span}
use Rattle.cmwq_summary.specs.declared.activity.Doing.{Doing}
use Rattle.cmwq_summary.specs.declared.activity.Doing.TheVariants as doing
use Rattle.cmwq_summary.specs.declared.activity.Activity.{Activity}
use Rattle.cmwq_summary.specs.declared.activity.TheConstants.{IDLE}
use Rattle.cmwq_summary.specs.Figures.{worker_number}
use Rattle.cmwq_summary.specs.declared.activity.Spent.{Spent}
use Rattle.cmwq_summary.specs.Spans.{behind, plus, stretch, IsSmall, IsWithin}
use Rattle.cmwq_summary.specs.Spent.{spent_by}

abbrev pub is_running : Doing → Bool
is_running doing.Nothing = false
is_running doing.Runs = true
is_running doing.Sleeps = false

abbrev pub is_sleeping : Doing → Bool
is_sleeping doing.Nothing = false
is_sleeping doing.Runs = false
is_sleeping doing.Sleeps = true

abbrev pub doing_after : Reply → Doing → Doing
doing_after (reply.Started n) d = doing.Runs
doing_after (reply.StartedEnlist n x) d = doing.Runs
doing_after reply.Woke d = doing.Runs
doing_after reply.Slept d = doing.Sleeps
doing_after (reply.Finished n) d = doing.Nothing
doing_after r d = d

-- the span, and where it goes on what went by from one moment to another
abbrev pub span_until : Bool → Span → Span → Span → Span
span_until goes_on span from to = if goes_on then plus span (stretch from to) else span

abbrev pub spent_until : Activity → Span → Spent
spent_until a to =
    record {
      awake = span_until (is_running a.doing) a.spent.awake a.since to;
      asleep = span_until (is_sleeping a.doing) a.spent.asleep a.since to;
    }

abbrev pub activity_from : Activity → Span → Doing → Activity
activity_from a to d = record { doing = d; since = to; spent = spent_until a to }

-- the sums stay small until this moment
pub record IsUpTo (a : Activity) (to : Span) : Type 0 where
  pub awake : IsSmall a.spent.awake
  pub asleep : IsSmall a.spent.asleep
  pub moment : IsSmall to

-- it is that of a worker after a past
pub record IsActivity (past : List Entry) (w : WorkerId) (a : Activity) : Type 0 where
  pub runs : runs_awake past w ≡ is_running a.doing
  pub sleeps : runs_asleep past w ≡ is_sleeping a.doing
  pub since : IsWithin a.since (behind past)
  pub spent : spent_until a (behind past) ≡ spent_by past w

abbrev pub activity_in : List Activity → WorkerId → Activity
activity_in activities w = slice_index_or activities (worker_number w) IDLE

-- there is one of each worker on so many CPUs
pub record AreActivities (cpus : ℕ) (past : List Entry) (activities : List Activity) : Type 0 where
  pub many_are : length activities ≡ 2 * most_workers * cpus
  pub each : (w : WorkerId) → w.pool.cpu.0 < cpus → w.index < most_workers
      → IsActivity past w (activity_in activities w)

-- that of the entry's own worker may begin anew
abbrev pub MayAct : Who → List Activity → Span → Type 0
MayAct (Caller c) activities to = Unit {0}
MayAct (Worker w) activities to = IsUpTo (activity_in activities w) to

-- the activities after an entry: that of its own worker begins anew
abbrev pub acted_by : Who → List Activity → Reply → Span → List Activity
acted_by (Caller c) activities r to = activities
acted_by (Worker w) activities r to =
    slice_set activities (worker_number w)
    (activity_from (activity_in activities w) to (doing_after r (activity_in activities w).doing))

abbrev pub activities_after : List Activity → Entry → Span → List Activity
activities_after activities e to = acted_by e.who activities e.reply to
