use Rattle.std.proofs.Common.{◌≡◌, ◌≤◌}
use Rattle.cmwq_names.specs.Labels.{whole_front}
use Rattle.cmwq_names.proofs.label.whole_front.Given as goal

abbrev pub invariant-loop-end : goal.invariant-loop-end
invariant-loop-end l = (whole_front l.name l.end ≡ whole_front l.name l.most) × (l.end ≤ l.most)

abbrev pub decreases-loop-end : goal.decreases-loop-end
decreases-loop-end l = l.end
