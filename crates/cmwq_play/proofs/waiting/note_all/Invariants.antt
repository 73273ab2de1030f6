use Rattle.std.proofs.Common.{◌≡◌, [], take}
use Rattle.std.specs.List.{fold}
use Rattle.cmwq_play.specs.Waiting.{noted_at}
use Rattle.cmwq_play.proofs.waiting.note_all.Given as goal

abbrev pub invariant-loop-at : goal.invariant-loop-at
invariant-loop-at l = l.waits ≡ fold (noted_at l.machine) [] (take l.at-index l.workers)
