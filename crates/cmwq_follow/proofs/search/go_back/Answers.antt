use Rattle.std.proofs.Common.{◌∙◌, ap, not}
use Rattle.cmwq_play.specs.Searches.{after}
use Rattle.cmwq_play.specs.Starts.{start_of}
use Rattle.cmwq_follow.proofs.Going.{emptied, ends, goes_back, popped}
use Rattle.cmwq_follow.proofs.search.go_back.Goals as goal

pub returns-then-is_none-clause-exhausted : goal.returns-then-is_none-clause-exhausted
returns-then-is_none-clause-exhausted c =
    λ history dead same. ends c.args.way.now.path.items c.args.way.now.tries.items dead.last c.args.play.now dead.leads
    dead.nobody
    (emptied c.args.way.now.path.items c.args.way.now.path.len c.pop.new.self.len c.pop.result c.args.way.now.path.ok.0
    (c.is_none.ensures ∙ ap not c.if-is_none.true) c.pop.ensures.cases)

pub returns-clause-goes : goal.returns-clause-goes
returns-clause-goes c =
    let last = popped c.args.way.now.path.items c.pop.new.self.items c.pop.result
    (c.is_none.ensures ∙ ap not c.if-is_none.false) c.pop.ensures.items in
    λ history dead same. goes_back c.pop.new.self.items c.args.way.now.path.items c.args.way.now.tries.items dead.last
    c.args.play.now c.play_again.new.play last.0 dead.leads dead.nobody last.1
    (c.in_ok-play_again.ensures ∙ ap (after (start_of c.args.setup.now)) c.deref.ensures.value)
