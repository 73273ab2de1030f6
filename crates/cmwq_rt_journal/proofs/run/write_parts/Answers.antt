use Rattle.std.proofs.Common.{ap}
use Rattle.cmwq_rt_journal.proofs.Kept.{nothing_written}
use Rattle.cmwq_engine.proofs.Outcome.{fails_silently}
use Rattle.cmwq_rt_journal.proofs.run.write_parts.Goals as goal

pub returns-in-Ok-clause-sink : goal.returns-in-Ok-clause-sink
returns-in-Ok-clause-sink g c failed =
    c.end_run.ensures.sink failed (g.O.Sink.troubles c.args.output.now) c.in-Ok.ensures.grown c.in-Ok.ensures.sink

pub returns-in-Err-clause-front : goal.returns-in-Err-clause-front
returns-in-Err-clause-front g c =
    nothing_written g.N.HubName.layout (g.O.Sink.written c.args.output.now) _
    (ap g.O.Sink.written c.in-Err.ensures.none.1)

pub returns-in-Err-clause-tells : goal.returns-in-Err-clause-tells
returns-in-Err-clause-tells g c = fails_silently g.N.HubName.layout _ _ c.in-Err.fault c.in-Err.ensures.none.0
