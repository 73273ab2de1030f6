use Rattle.std.proofs.Common.{◌∙◌, ◌≤◌, ◌++◌, Option, Some, ap, subst}
use Rattle.std.specs.Prelude.{option_to_list}
use Rattle.cmwq_play.specs.Starts.{start_of}
use Rattle.cmwq_follow.specs.declared.search.Tried.{Tried}
use Rattle.cmwq_follow.proofs.Going.{dead_end, passed_over, trying_likely, trying_next}
use Rattle.cmwq_follow.proofs.search.advance.Goals as goal

pub returns-in_ok-push-in-Nobody-clause-goes : goal.returns-in_ok-push-in-Nobody-clause-goes
returns-in_ok-push-in-Nobody-clause-goes c =
    c.try_move.ensures.goes (start_of c.args.setup.now)
    (trying_likely (start_of c.args.setup.now) c.args.history.now _ c.args.play.now c.likely_next-likely.result
    c.args.way.now.tries.items c.pop.new.self.items c.requires.way
    (c.pop.ensures.items
    ∙ ap (λ (o : Option Tried). c.pop.new.self.items ++ option_to_list o) (c.in-Some.is ∙ ap Some c.in-Nobody.is))
    c.in_ok-push-in-Nobody.ensures.items)

pub returns-in_ok-push-in-Nobody-clause-whole : goal.returns-in_ok-push-in-Nobody-clause-whole
returns-in_ok-push-in-Nobody-clause-whole c =
    c.try_move.ensures.whole (start_of c.args.setup.now)
    (trying_likely (start_of c.args.setup.now) c.args.history.now _ c.args.play.now c.likely_next-likely.result
    c.args.way.now.tries.items c.pop.new.self.items c.requires.way
    (c.pop.ensures.items
    ∙ ap (λ (o : Option Tried). c.pop.new.self.items ++ option_to_list o) (c.in-Some.is ∙ ap Some c.in-Nobody.is))
    c.in_ok-push-in-Nobody.ensures.items)

pub returns-then-next-likely-clause-goes : goal.returns-then-next-likely-clause-goes
returns-then-next-likely-clause-goes c =
    λ same. passed_over (start_of c.args.setup.now) c.args.history.now c.args.way.now.most c.args.way.now.path.items
    c.args.play.now c.in-Others.likely c.in-Others.next c.args.way.now.tries.items c.push-in-Others.new.self.items
    c.pop.new.self.items c.requires.way
    (c.pop.ensures.items
    ∙ ap (λ (o : Option Tried). c.pop.new.self.items ++ option_to_list o) (c.in-Some.is ∙ ap Some c.in-Others.is))
    c.if-next-likely.true c.in_ok-push-in-Others.ensures.items

pub returns-else-next-likely-clause-goes : goal.returns-else-next-likely-clause-goes
returns-else-next-likely-clause-goes c =
    c.try_move-else-next-likely.ensures.goes (start_of c.args.setup.now)
    (trying_next (start_of c.args.setup.now) c.args.history.now _ c.args.play.now c.in-Others.likely c.in-Others.next
    c.args.way.now.tries.items c.pop.new.self.items c.requires.way
    (c.pop.ensures.items
    ∙ ap (λ (o : Option Tried). c.pop.new.self.items ++ option_to_list o) (c.in-Some.is ∙ ap Some c.in-Others.is))
    c.in_ok-push-in-Others.ensures.items)

pub returns-else-next-likely-clause-whole : goal.returns-else-next-likely-clause-whole
returns-else-next-likely-clause-whole c =
    c.try_move-else-next-likely.ensures.whole (start_of c.args.setup.now)
    (trying_next (start_of c.args.setup.now) c.args.history.now _ c.args.play.now c.in-Others.likely c.in-Others.next
    c.args.way.now.tries.items c.pop.new.self.items c.requires.way
    (c.pop.ensures.items
    ∙ ap (λ (o : Option Tried). c.pop.new.self.items ++ option_to_list o) (c.in-Some.is ∙ ap Some c.in-Others.is))
    c.in_ok-push-in-Others.ensures.items)

pub returns-in-Others-2-clause-goes : goal.returns-in-Others-2-clause-goes
returns-in-Others-2-clause-goes c =
    c.go_back.ensures.goes c.args.history.now
    (dead_end (start_of c.args.setup.now) c.args.history.now c.args.way.now _ c.args.play.now c.in-Others.likely
    c.in-Others.next c.requires.way
    (c.pop.ensures.items
    ∙ ap (λ (o : Option Tried). c.pop.new.self.items ++ option_to_list o) (c.in-Some.is ∙ ap Some c.in-Others.is))
    (subst (λ n. n ≤ c.in-Others.next) c.parties.ensures c.if-next-parties.false))

pub returns-in-Others-2-clause-exhausted : goal.returns-in-Others-2-clause-exhausted
returns-in-Others-2-clause-exhausted c =
    c.go_back.ensures.exhausted c.args.history.now
    (dead_end (start_of c.args.setup.now) c.args.history.now c.args.way.now _ c.args.play.now c.in-Others.likely
    c.in-Others.next c.requires.way
    (c.pop.ensures.items
    ∙ ap (λ (o : Option Tried). c.pop.new.self.items ++ option_to_list o) (c.in-Some.is ∙ ap Some c.in-Others.is))
    (subst (λ n. n ≤ c.in-Others.next) c.parties.ensures c.if-next-parties.false))
