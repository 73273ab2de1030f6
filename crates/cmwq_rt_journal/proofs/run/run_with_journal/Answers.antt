use Rattle.std.proofs.Common.{sym, subst, refl}
use Rattle.cmwq_rt_journal.proofs.Kept.{nothing_written}
use Rattle.cmwq_rt_journal.proofs.run.run_with_journal.Goals as goal

pub write_parts-requires-clause-fits : goal.write_parts-requires-clause-fits
write_parts-requires-clause-fits g c κs within =
    subst (g.C.Crew.fits c.args.crew.now) (sym c.in-Ok-with_readers.ensures.shape) c.requires

pub returns-in_default-clause-front : goal.returns-in_default-clause-front
returns-in_default-clause-front g c = nothing_written c.args.shape.now (g.O.Sink.written c.args.output.now) _ refl

pub returns-in-Err-clause-front : goal.returns-in-Err-clause-front
returns-in-Err-clause-front g c = nothing_written c.args.shape.now (g.O.Sink.written c.args.output.now) _ refl
