use Rattle.cmwq_cmd_run.specs.Common.{◌≡◌, take, None}
use Rattle.cmwq_rt.specs.Later.{Later}
use Rattle.cmwq_cmd_run.specs.Interpreted.{ActInTurn}
use Rattle.cmwq_cmd_run.proofs.interpreter.Interpreter.act_all.Given as goal

abbrev pub invariant-loop-k : goal.invariant-loop-k
invariant-loop-k g l =
    Later l.fn.context.participant l.context.participant × (l.context.fault ≡ None)
    × (l.context.item ≡ l.fn.context.item)
    × ActInTurn g.N.HubName.layout l.fn.context.item (take l.k l.fn.actions) l.fn.context.left_out l.context.left_out
    l.fn.context.participant l.context.participant
