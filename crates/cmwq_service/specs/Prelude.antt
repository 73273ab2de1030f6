-- The words that the contracts of a service cite, in one import.
pub use Rattle.cmwq_monitor.specs.Calls.{Extends}
pub use Rattle.cmwq_monitor.specs.Participants.{View, Gains}
pub use Rattle.cmwq_monitor.specs.Whole.{Completes}
pub use Rattle.cmwq_rt.specs.Batches.{MakesAll, MakesBatch, StopsBatch}
pub use Rattle.cmwq_service.specs.Calls.{Denied, DeniedBatch, Interrupted, Continues}
pub use Rattle.cmwq_service.specs.Calls.{MadeOrDenied, DoneOrInterrupted, WaitedOrNot}
pub use Rattle.cmwq_service.specs.Outside.{IsFirstOutside, IsOutside, is_allowed, limit_broken, look_outside}
pub use Rattle.cmwq_service.specs.Serving.{CalledIn, Conduct, Ending, HasOnlyTicked, IsServed, ItemConduct, TickedIn}
