use Rattle.cmwq_monitor.specs.Common.{◌∙◌, sym}
use Rattle.cmwq_monitor.proofs.monitor.sleeps_on.Goals as goal

pub returns-clause-wanted : goal.returns-clause-wanted
returns-clause-wanted c is s layout room sleeps =
    sym (c.is_wanted.ensures s layout room sleeps) ∙ c.if-is_wanted.false
