use Rattle.std.proofs.Common.{◌≡◌, take}
use Rattle.cmwq_play.specs.Searches.{after}
use Rattle.cmwq_play.specs.Starts.{start_of}
use Rattle.cmwq_follow.proofs.search.play_again.Given as goal

abbrev pub invariant-loop-party : goal.invariant-loop-party
invariant-loop-party l = l.play ≡ after (start_of l.setup) (take l.party-index l.path)
