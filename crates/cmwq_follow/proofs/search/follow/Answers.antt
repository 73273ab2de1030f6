use Rattle.std.proofs.Common.{arith, sym, subst}
use Rattle.cmwq_play.specs.Starts.{start_of}
use Rattle.cmwq_follow.specs.Followed.{LeaveAtMost}
use Rattle.cmwq_follow.proofs.Going.{breaks_so, fresh, leaves_nothing}
use Rattle.cmwq_follow.proofs.search.follow.Goals as goal

pub returns-then-is_empty-clause-path : goal.returns-then-is_empty-clause-path
returns-then-is_empty-clause-path c =
    leaves_nothing (start_of c.args.setup.now) c.args.history.now c.new.result.items (fresh c.args.setup.now)
    (grind (arith, c.is_empty.ensures, c.if-is_empty.true)) c.new.ensures.items

pub go_from_start-requires : goal.go_from_start-requires
go_from_start-requires c =
    c.in_ok-way.ensures (start_of c.args.setup.now) c.args.history.now (fresh c.args.setup.now)
    (grind (arith, c.is_empty.ensures, c.if-is_empty.false))

pub returns-clause-breaks : goal.returns-clause-breaks
returns-clause-breaks c =
    breaks_so c.found.result
    (λ most found. subst (λ n. LeaveAtMost (start_of c.args.setup.now) c.args.history.now n) (sym found.1)
    (c.in_ok-step.ensures.exhausted found.0)) c.found.ensures.breaks
