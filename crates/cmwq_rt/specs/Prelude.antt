-- The words that the contracts of a hub cite, in one import. Those of the types are imported from where they are
-- declared.
pub use Rattle.cmwq_model.specs.Layout.{Layout, fits, has_numbers, is_callers, is_workers}
pub use Rattle.cmwq_model.specs.Calls.{is_tick}
pub use Rattle.cmwq_model.specs.Tickets.{ticket_told}
pub use Rattle.cmwq_model.specs.Legal.{past_of, entry_for, bits}
unfoldable pub use Rattle.cmwq_model.specs.Legal.{IsLegal}
pub use Rattle.cmwq_model.specs.Scripted.{IsScripted}
pub use Rattle.cmwq_model.specs.Verdict.{AllFit, IsFirstWrong}
pub use Rattle.cmwq_monitor.specs.Calls.{own_entry, Extends, StandFrom}
pub use Rattle.cmwq_monitor.specs.Faults.{IsStranger, Refused, SaysFault, is_full}
pub use Rattle.cmwq_monitor.specs.Held.{active_in}
pub use Rattle.cmwq_monitor.specs.Participants.{View, newcomer, made_by, Agree, Gains, is_caller}
pub use Rattle.cmwq_monitor.specs.Settled.{Settles, AllSettle}
pub use Rattle.cmwq_monitor.specs.Starts.{StartsOne}
pub use Rattle.cmwq_monitor.specs.Steps.{HasEnded, HasEndedSome}
pub use Rattle.cmwq_monitor.specs.Whole.{HadNoRoom, MakesEntries, EndsWhole, Completes, BrokeOff, Stops}
pub use Rattle.cmwq_rt.specs.Batches.{MakesAll, MakesBatch, StopsBatch}
pub use Rattle.cmwq_rt.specs.Later.{Later}
pub use Rattle.cmwq_rt.specs.Places.{Places, first_worker, after_worker, next_after, worker_by_number, all_free}
pub use Rattle.cmwq_rt.specs.Places.{AreCounts, IsNextPlace}
pub use Rattle.cmwq_rt.specs.Scripts.{Follows, HasFollowed, HasStopped}
pub use Rattle.cmwq_rt.specs.Ending.{EndsAs, OneIsStranger}
pub use Rattle.cmwq_rt.specs.Starting.{HasStarted}
pub use Rattle.cmwq_rt.specs.Sums.{added, no_waits, plus, one_refused, one_without_room}
pub use Rattle.cmwq_rt.specs.Running.{Running, fault_after, breaks_off, MakesOne, Behavior, RunsItem, EndsRun}
pub use Rattle.cmwq_rt.specs.Running.{RunsInTurn, HasWorked, IsNextStart}
pub use Rattle.cmwq_rt.specs.Waiting.{SleepsThrough, HasWaited, is_refusal, IsOfRun, fault_after_wait}
pub use Rattle.cmwq_rt.specs.Waiting.{left_out_after, IsAwake, IsRefusedFor, WhyNot, is_wait}
pub use Rattle.cmwq_rt.specs.Promises.{MadeOrRefused, DoneOrBrokeOff, MadeInRun, WaitedInRun}
pub use Rattle.cmwq_rt.specs.Lent.{HasOnlyWaited, WaitsInTurn}
