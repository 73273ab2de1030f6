use Rattle.std.proofs.Common.{drop, refl}
use Rattle.cmwq_core.specs.History.{past_in}
use Rattle.cmwq_dispatch.proofs.Cared.{all_named}
use Rattle.cmwq_dispatch.proofs.dispatch.wake_after.Goals as goal

pub returns-then-is_over-clause-named : goal.returns-then-is_over-clause-named
returns-then-is_over-clause-named c =
    all_named c.args.entry.now.who c.args.sleepers.now c.clear.new.self c.args.wakes.now c.add_all.new.self
    c.clear.ensures.nobody c.add_all.ensures.all c.add_all.ensures.more

pub entered-requires-clause-own : goal.entered-requires-clause-own
entered-requires-clause-own c = c.rises_by.ensures.up c.args.entry.now refl

pub entered-requires-clause-before : goal.entered-requires-clause-before
entered-requires-clause-before c =
    c.rises_by.ensures.kept c.args.execution.now.layout (drop 1 (past_in c.args.execution.now)) c.requires.before

pub returns-clause-named : goal.returns-clause-named
returns-clause-named c =
    c.rises_by.ensures.on c.entered.new.self c.args.wakes.now c.entered.new.wakes c.entered.ensures.named
