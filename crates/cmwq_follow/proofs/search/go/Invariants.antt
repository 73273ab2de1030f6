use Rattle.cmwq_play.specs.Starts.{start_of}
use Rattle.cmwq_follow.specs.Ways.{IsKept, IsUnderWay}
use Rattle.cmwq_follow.proofs.search.go.Given as goal

abbrev pub invariant-loop : goal.invariant-loop
invariant-loop l = IsUnderWay (start_of l.setup) l.history l.way l.play × IsKept l.history l.trial
