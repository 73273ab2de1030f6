-- What is told of a run whose history was not written to its end.
use Rattle.std.proofs.Common.{Result, Ok, Err}
use Rattle.std.specs.Prelude.{IfErr}
use Rattle.cmwq_engine.specs.Conduct.{Conduct}
use Rattle.cmwq_engine.specs.declared.crew.Roster.{Roster}
use Rattle.cmwq_engine.proofs.Outcome.{fails_silently}
use Rattle.cmwq_rt_journal.specs.Common.{◌≡◌, true, Layout}
use Rattle.cmwq_rt_journal.specs.Journaled.{TellsOf, is_quiet}
use Rattle.cmwq_rt_journal.specs.declared.fault.Unwritten.{Unwritten}
use Rattle.cmwq_rt_journal.specs.declared.fault.Unwritten.TheVariants as unwritten

pub tells_quietly : (s : Layout) (calls : Conduct) (r : Roster) (f : Unwritten) → is_quiet f ≡ true
    → TellsOf s calls r f
tells_quietly s calls r unwritten.Sink quiet = record {}
tells_quietly s calls r (unwritten.Run f) quiet = fails_silently s calls r f quiet

pub tells_so : {T : Type 0} (o : Result T Unwritten) (s : Layout) (calls : Conduct) (r : Roster)
    → IfErr o (λ f. is_quiet f ≡ true) → IfErr o (TellsOf s calls r)
tells_so (Ok x) s calls r quiet = tt
tells_so (Err f) s calls r quiet = tells_quietly s calls r f quiet
