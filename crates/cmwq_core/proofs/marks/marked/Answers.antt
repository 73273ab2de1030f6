use Rattle.cmwq_core.specs.Common.{Some, None, past_of}
use Rattle.cmwq_core.proofs.Marked.{item_there, queueing_there, marked_as}
use Rattle.cmwq_core.proofs.marks.marked.Goals as goal

pub returns-in-Some-clause-there : goal.returns-in-Some-clause-there
returns-in-Some-clause-there c = let b = c.args.state.now in
    λ j same. item_there b.layout (past_of b.entries) c.args.effect.entry c.item.result c.in-Some.item j
    c.requires.legal c.item.ensures c.in-Some.is same

pub returns-in-Some-or-clause-is : goal.returns-in-Some-or-clause-is
returns-in-Some-or-clause-is c = let b = c.args.state.now in
    marked_as b.layout (past_of b.entries) c.args.effect c.or.result c.item.result (Some c.in-Some-or.queueing)
    c.requires c.item.ensures c.in-None.is c.or.ensures c.in-Some-or.is

pub returns-in-Some-or-clause-there : goal.returns-in-Some-or-clause-there
returns-in-Some-or-clause-there c = let b = c.args.state.now in
    λ j same. queueing_there b.layout (past_of b.entries) c.args.effect c.or.result c.in-Some-or.queueing j c.requires
    c.or.ensures c.in-Some-or.is same

pub returns-in-None-or-clause-is : goal.returns-in-None-or-clause-is
returns-in-None-or-clause-is c = let b = c.args.state.now in
    marked_as b.layout (past_of b.entries) c.args.effect c.or.result c.item.result None c.requires c.item.ensures
    c.in-None.is c.or.ensures c.in-None-or.is
