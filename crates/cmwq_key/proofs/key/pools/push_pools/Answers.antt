use Rattle.cmwq_model.specs.Prelude.{past_of}
use Rattle.cmwq_key.specs.Keys.{told_cpu}
use Rattle.cmwq_key.proofs.Coding.{codes_go_on, none_more}
use Rattle.cmwq_key.proofs.key.pools.push_pools.Goals as goal

pub loop-cpu-init : goal.loop-cpu-init
loop-cpu-init c = none_more c.args.key.now.items

pub loop-cpu-preserved : goal.loop-cpu-preserved
loop-cpu-preserved c =
    codes_go_on (told_cpu c.args.state.now.layout (past_of c.args.state.now.entries) c.args.numbered.now) _ _ _
    c.loop-cpu.cpu c.loop-cpu.invariant c.in_ok-push_cpu.ensures
