use Rattle.cmwq_play.specs.Starts.{start_of}
use Rattle.cmwq_play.proofs.Paths.{after_turn}
use Rattle.cmwq_follow.proofs.search.play_again.Goals as goal

pub loop-party-preserved : goal.loop-party-preserved
loop-party-preserved c =
    after_turn (start_of c.args.setup.now) c.args.path.now c.loop-party.party-index c.loop-party.play
    c.make_move.new.self 0 c.loop-party-test.true c.loop-party.invariant c.in_ok-make_move.ensures
