use Rattle.cmwq_trace.specs.Events.{cpu_event}
use Rattle.cmwq_trace.proofs.Mapped.{one_mapped}
use Rattle.cmwq_trace.proofs.events.push_cpus.Goals as goal

pub loop-cpu-preserved : goal.loop-cpu-preserved
loop-cpu-preserved c = one_mapped cpu_event _ _ _ c.loop-cpu.cpu c.loop-cpu.invariant c.in_ok-push.ensures.items
