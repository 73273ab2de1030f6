use Rattle.cmwq_rt_journal.specs.Common.{sym, subst, AppendsFront, entries_text}
use Rattle.cmwq_rt_journal.specs.Breaking.{BreaksOff}
use Rattle.cmwq_rt_journal.proofs.Texts.{batch_breaks}
use Rattle.cmwq_rt_journal.proofs.keep.keep_from_start.Goals as goal

pub returns-in-Err-write_batch-clause-broke : goal.returns-in-Err-write_batch-clause-broke
returns-in-Err-write_batch-clause-broke g c =
    let s = g.N.HubName.layout in
    let old = c.loop.journal.seen in
    let new = c.hand_over_within.new.journal in
    let start = g.O.Sink.written c.args.output.now in
    let before = g.O.Sink.written c.loop.output in
    let end = g.O.Sink.written c.write_batch.new.output in
    let broke =
    batch_breaks s old new.batch new.seen start before end c.in-Ok.ensures.batch c.loop.invariant.text
    (subst (λ l. AppendsFront before end (entries_text l)) c.batch.ensures c.in-Err-write_batch.ensures.err) in
    (c.requires, subst (λ n. BreaksOff s new.seen n start end) (sym c.len-written.ensures.len) broke)
