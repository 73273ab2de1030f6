use Rattle.std.proofs.Common.{◌∙◌, sym}
use Rattle.cmwq_waits.specs.HeldUp.{awaits}
use Rattle.cmwq_waits.specs.declared.run_wait.RunWait.{RunWait}
use Rattle.cmwq_waits.proofs.Loops.{none_in_all, none_more, seen_at, some_at}
use Rattle.cmwq_waits.proofs.look.Look.awaits_one.Goals as goal

pub awaits_run-requires-clause-open : goal.awaits_run-requires-clause-open
awaits_run-requires-clause-open c =
    (seen_at c.args.self.now.past c.args.set.now c.loop-wait.wait-index _ c.requires.seen c.loop-wait-test.true).is_open

pub awaits_run-requires-clause-started : goal.awaits_run-requires-clause-started
awaits_run-requires-clause-started c =
    let sees = seen_at c.args.self.now.past c.args.set.now c.loop-wait.wait-index _ c.requires.seen c.loop-wait-test.true
    in sees.has_started

pub loop-wait-preserved : goal.loop-wait-preserved
loop-wait-preserved c =
    none_more (λ (w : RunWait). awaits c.args.self.now.past c.args.ticket w.run) c.args.set.now c.loop-wait.wait-index _
    c.loop-wait.invariant c.loop-wait-test.true (sym c.awaits_run.ensures ∙ c.if-awaits_run.false)

pub returns-then-awaits_run : goal.returns-then-awaits_run
returns-then-awaits_run c =
    sym
    (some_at (λ (w : RunWait). awaits c.args.self.now.past c.args.ticket w.run) c.args.set.now c.loop-wait.wait-index _
    c.loop-wait-test.true (sym c.awaits_run.ensures ∙ c.if-awaits_run.true))

pub returns : goal.returns
returns c =
    sym
    (none_in_all (λ (w : RunWait). awaits c.args.self.now.past c.args.ticket w.run) c.args.set.now c.loop-wait.wait-index
    c.loop-wait-test.false c.loop-wait.invariant)
