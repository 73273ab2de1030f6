use Rattle.cmwq_rt_journal.proofs.Kept.{keeps_so}
use Rattle.cmwq_rt_journal.proofs.beside.keep_beside_run.Goals as goal

pub returns-clause-kept : goal.returns-clause-kept
returns-clause-kept g c =
    keeps_so g.N.HubName.layout c.args.journal.seen c.keep_journal-kept.new.journal.seen
    (g.O.Sink.written c.args.output.now) (g.O.Sink.written c.keep_journal-kept.new.output)
    c.keep_journal-kept.result
    c.keep_journal-kept.ensures.written c.keep_journal-kept.ensures.broke
