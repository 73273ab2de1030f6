use Rattle.cmwq_resume.specs.Common.{◌≡◌, ◌++◌, map, take}
use Rattle.cmwq_resume.specs.Resume.{queue_call}
use Rattle.cmwq_resume.proofs.calls.push_queues.Given as goal

abbrev pub invariant-loop-queueing : goal.invariant-loop-queueing
invariant-loop-queueing l = (l.calls).items
    ≡ (l.initial.calls).items ++ map queue_call (take l.queueing-index l.queueings)
