use Rattle.std.proofs.Common.{◌≡◌, ◌+◌, ◌*◌, ◌<◌, length}
use Rattle.cmwq_explore.specs.Cuts.{IsLater, MayCut}
use Rattle.cmwq_explore.specs.Findings.{TellsAfter}
use Rattle.cmwq_explore.specs.Seens.{IsSearch}
use Rattle.cmwq_play.specs.Starts.{start_of}
use Rattle.cmwq_explore.proofs.search.Search.+searching.Given as goal

abbrev pub decreases-visit : goal.decreases-visit
decreases-visit g l = 4 * l.depth

abbrev pub decreases-visit_after : goal.decreases-visit_after
decreases-visit_after g l = 4 * l.depth + 3

abbrev pub decreases-visit_move : goal.decreases-visit_move
decreases-visit_move g l = 4 * l.depth + 2

abbrev pub decreases-go_on : goal.decreases-go_on
decreases-go_on g l = 4 * l.depth + 1

abbrev pub invariant-visit_after-loop-k : goal.invariant-visit_after-loop-k
invariant-visit_after-loop-k g l = record {
  search : IsSearch (start_of l.setup) l.self;
  later : IsLater l.fn.self l.self;
  cut : 0 < l.finding.cut → MayCut (l.depth + 1) l.fn.play l.self;
  play : l.k < length l.movers → l.play ≡ l.fn.play;
  tells : TellsAfter (l.depth + 1) l.finding l.fn.play l.movers l.k;
}
