use Rattle.std.proofs.Common.{◌≡◌, ◌++◌, take}
use Rattle.std.specs.Prelude.{flat_map}
use Rattle.cmwq_text.specs.ShapeText.{queue_text}
use Rattle.cmwq_cmd_resume.proofs.spelling.push_queues.Given as goal

abbrev pub invariant-loop-queue : goal.invariant-loop-queue
invariant-loop-queue l = (l.text).items
    ≡ (l.initial.text).items ++ flat_map queue_text (take l.queue-index l.queues)
