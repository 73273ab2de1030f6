use Rattle.std.proofs.Common.{◌∙◌, ◌++◌, ap, [], ◌∷◌}
use Rattle.cmwq_follow.specs.declared.search.Tried.TheVariants as tried
use Rattle.cmwq_follow.proofs.Going.{begun_as}
use Rattle.cmwq_follow.proofs.search.Way.new.Goals as goal

pub returns : goal.returns
returns c =
    λ start history fresh some. begun_as start history c.new.result.items c.push.new.self.items fresh some c.new.ensures.items
    (c.in_ok-push.ensures.items ∙ ap (λ ts. ts ++ tried.Nobody ∷ []) c.new-tries.ensures.items)
