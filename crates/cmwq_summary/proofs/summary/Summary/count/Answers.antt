use Rattle.std.proofs.Common.{◌∙◌}
use Rattle.cmwq_model.specs.Prelude.{past_of}
use Rattle.cmwq_summary.proofs.Counting.{counts_of}
use Rattle.cmwq_summary.proofs.summary.Summary.count.Goals as goal

pub count-requires : goal.count-requires
count-requires c =
    let r = rw (← c.self.view_is) at c.requires in let b = c.self.inside in
    rw (counts_of b.shape (past_of b.entries) b.counters c.args.counter c.self.invariant.counters_are).many_are r

pub returns : goal.returns
returns c =
    let r = rw (← c.self.view_is) at c.requires in let b = c.self.inside in
    let are = counts_of b.shape (past_of b.entries) b.counters c.args.counter c.self.invariant.counters_are in
    rw (← c.self.view_is) (c.count.ensures ∙ are.each c.args.key r)
