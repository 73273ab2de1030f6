use Rattle.cmwq_rt_journal.proofs.Kept.{has_kept}
use Rattle.cmwq_rt_journal.proofs.Journaling.{tells_quietly, tells_so}
use Rattle.cmwq_rt_journal.proofs.run.end_run.Goals as goal

pub returns-in-Err-clause-tells : goal.returns-in-Err-clause-tells
returns-in-Err-clause-tells g c = tells_quietly g.N.HubName.layout _ _ c.told.result c.told.ensures.tells

pub returns-in-Err-ends-clause-front : goal.returns-in-Err-ends-clause-front
returns-in-Err-ends-clause-front g c start kept = (
  c.args.beside.journal.seen,
  c.requires.legal,
  has_kept g.N.HubName.layout c.args.beside.journal.seen start (g.O.Sink.written c.args.output.now)
      c.args.beside.kept kept,
)

pub returns-in-Ok-end_with-clause-tells : goal.returns-in-Ok-end_with-clause-tells
returns-in-Ok-end_with-clause-tells g c = tells_so c.write_end.result g.N.HubName.layout _ _ c.write_end.ensures.tells

pub returns-clause-front : goal.returns-clause-front
returns-clause-front g c start kept = (
  c.args.beside.journal.seen,
  c.requires.legal,
  has_kept g.N.HubName.layout c.args.beside.journal.seen start (g.O.Sink.written c.args.output.now)
      c.args.beside.kept kept,
)
