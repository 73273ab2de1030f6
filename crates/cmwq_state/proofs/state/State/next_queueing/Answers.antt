use Rattle.cmwq_state.specs.Common.{◌∙◌, sym, past_of}
use Rattle.cmwq_state.proofs.Nexts.{next_open, next_none}
use Rattle.cmwq_state.proofs.state.State.next_queueing.Goals as goal

pub unstarted-requires : goal.unstarted-requires
unstarted-requires c = let b = c.args.self.now in
    (next_open b.layout (past_of b.entries) c.args.pool c.in-Some.task c.next_task.ensures.legal
    (sym c.next_task.ensures.is ∙ c.in-Some.is)).item

pub returns-in-Some : goal.returns-in-Some
returns-in-Some c = let b = c.args.self.now in
    c.unstarted.ensures
    ∙ (next_open b.layout (past_of b.entries) c.args.pool c.in-Some.task c.next_task.ensures.legal
    (sym c.next_task.ensures.is ∙ c.in-Some.is)).is

pub returns-in-None : goal.returns-in-None
returns-in-None c = let b = c.args.self.now in
    next_none b.layout (past_of b.entries) c.args.pool c.next_task.ensures.legal
    (sym c.next_task.ensures.is ∙ c.in-None.is)
