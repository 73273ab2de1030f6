use Rattle.std.proofs.Common.{take}
use Rattle.cmwq_play.specs.Searches.{IsPathTo}
use Rattle.cmwq_play.specs.Starts.{start_of}
use Rattle.cmwq_play.proofs.play.Play.play_path.Given as goal

abbrev pub invariant-loop-place : goal.invariant-loop-place
invariant-loop-place l = IsPathTo (start_of l.setup) (take l.place l.path) l.self
