use Rattle.cmwq_rt_journal.proofs.Kept.{end_is_front}
use Rattle.cmwq_rt_journal.proofs.run.write_end.Goals as goal

pub returns-clause-front : goal.returns-clause-front
returns-clause-front g c start body =
    end_is_front g.N.HubName.layout c.args.journal.now.seen c.args.counted.rest.entries.items c.args.counted.rest.first
    start (g.O.Sink.written c.args.output.now) (g.O.Sink.written c.end_journal.new.output) c.in-Err.fault
    c.requires.rest body c.in-Err.ensures.broke
