use Rattle.std.proofs.Common.{ℕ, refl, subst}
use Rattle.cmwq_rt_journal.proofs.Kept.{nothing_written}
use Rattle.cmwq_service.specs.Writing.{WritesServed}
use Rattle.cmwq_service.proofs.Served.{writes_served}
use Rattle.cmwq_service.proofs.writing.run_writing_with_waits.Goals as goal

pub returns-in-Err-clause-front : goal.returns-in-Err-clause-front
returns-in-Err-clause-front g c = nothing_written c.args.shape.now (g.O.Sink.written c.args.output.now) _ refl

pub returns-in-Ok-run_with_journal-clause-whole : goal.returns-in-Ok-run_with_journal-clause-whole
returns-in-Ok-run_with_journal-clause-whole g c =
    let s = c.args.shape.now in
    let calls = g.S.Service.calls in
    let ends = g.S.Service.ends in
    let does = g.S.Service.does in
    let entries = c.in-Ok-run_with_journal.tally.answered in
    let old = g.O.Sink.written c.args.output.now in
    let new = g.O.Sink.written c.run_with_journal.new.output in
    subst (λ (n : ℕ). WritesServed s n calls ends does entries old new) c.in-Ok.ensures
    (writes_served s c.in-Ok.serving.waits does calls ends entries _ _ old new c.in-Ok-run_with_journal.ensures.whole)
