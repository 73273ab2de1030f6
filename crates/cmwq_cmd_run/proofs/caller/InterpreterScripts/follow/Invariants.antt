use Rattle.std.proofs.Common.{◌≡◌, take}
use Rattle.cmwq_json_script.specs.Views.{calls_in}
use Rattle.cmwq_cmd_run.specs.Followed.{IsOnWay}
use Rattle.cmwq_cmd_run.proofs.caller.InterpreterScripts.follow.Given as goal

abbrev pub invariant-loop-k : goal.invariant-loop-k
invariant-loop-k g l =
    IsOnWay g.N.HubName.layout l.fn.caller (calls_in (take l.k l.actions.items)) l.way l.caller
    × (l.caller.who ≡ l.fn.caller.who)
