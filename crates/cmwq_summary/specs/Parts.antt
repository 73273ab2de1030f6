-- The parts of a summary are those of a past.
use Rattle.cmwq_model.specs.Prelude.{most_cpus}
use Rattle.std.specs.Prelude.{◌≡◌, ◌≤◌, ◌*◌, ℕ, List, length}
use Rattle.cmwq_model.specs.declared.entry.Entry.{Entry}
use Rattle.cmwq_model.specs.Prelude.{Layout, now, most_time}
use Rattle.cmwq_summary.specs.declared.activity.Activity.{Activity}
use Rattle.cmwq_summary.specs.declared.counter.Counter.TheVariants.{Starts}
use Rattle.cmwq_summary.specs.declared.start_waits.StartWaits.{StartWaits}
use Rattle.cmwq_summary.specs.declared.ticket_waits.TicketWaits.{TicketWaits}
use Rattle.cmwq_summary.specs.declared.peaks.Peaks.{Peaks}
use Rattle.cmwq_summary.specs.Counters.{AreCounted}
use Rattle.cmwq_summary.specs.Activities.{AreActivities}
use Rattle.cmwq_summary.specs.TicketWaits.{by_ticket_ended, ended_wait}
use Rattle.cmwq_summary.specs.Givings.{givings_of}
use Rattle.cmwq_summary.specs.Openings.{AreOpeningMoments, start_wait}
use Rattle.cmwq_summary.specs.Waits.{AreWaits}
use Rattle.cmwq_summary.specs.Peaks.{AreMeasured, open_count_at, most_open_at, most_active_at}
use Rattle.cmwq_summary.specs.Figures.{key_of}

pub record AreTicketWaits (s : Layout) (past : List Entry) (t : TicketWaits) : Type 0 where
  pub waits : AreWaits by_ticket_ended ended_wait s.callers past t.waits
  pub givings : t.givings ≡ givings_of s past

pub record AreStartWaits (s : Layout) (past : List Entry) (t : StartWaits) : Type 0 where
  pub waits : AreWaits (key_of Starts) start_wait (most_cpus * length s.queues) past t.waits
  pub openings : AreOpeningMoments s.items past t.openings

pub record ArePeaks (s : Layout) (past : List Entry) (p : Peaks) : Type 0 where
  pub open_ones : AreMeasured open_count_at (most_cpus * length s.queues) past p.open
  pub most_open : AreMeasured most_open_at (most_cpus * length s.queues) past p.most_open
  pub most_active : AreMeasured (most_active_at s) (most_cpus * length s.queues) past p.most_active

pub record IsSummary (s : Layout) (past : List Entry) (time : ℕ) (counters : List (List ℕ))
    (ticket_waits : TicketWaits) (start_waits : StartWaits) (activities : List Activity) (peaks : Peaks) : Type 0 where
  pub time_is : time ≡ now past
  pub soon : time ≤ most_time
  pub counters_are : AreCounted s past counters
  pub ticket_waits_are : AreTicketWaits s past ticket_waits
  pub start_waits_are : AreStartWaits s past start_waits
  pub activities_are : AreActivities s.cpus past activities
  pub peaks_are : ArePeaks s past peaks
