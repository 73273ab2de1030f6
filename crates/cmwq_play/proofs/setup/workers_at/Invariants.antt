use Rattle.std.proofs.Common.{◌≡◌}
use Rattle.cmwq_play.specs.Firsts.{workers_from}
use Rattle.cmwq_play.proofs.setup.workers_at.Given as goal

abbrev pub invariant-loop-cpu : goal.invariant-loop-cpu
invariant-loop-cpu l = l.workers.items ≡ workers_from l.cpu l.count
