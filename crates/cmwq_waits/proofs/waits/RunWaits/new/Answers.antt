use Rattle.std.proofs.Common.{◌∙◌, ◌*◌, ap, ap₂}
use Rattle.cmwq_model.specs.Prelude.{Layout}
use Rattle.cmwq_waits.proofs.Entered.{has_none}
use Rattle.cmwq_waits.proofs.waits.RunWaits.new.Goals as goal

pub returns-clause-none : goal.returns-clause-none
returns-clause-none c =
    has_none c.args.shape.now c.args.first.0 _ _ c.in_ok-with_capacity.ensures.items
    (c.in_ok-with_capacity.ensures.exact
    ∙ ap₂ (λ a b. 2 * a * b) (c.from.ensures ∙ ap (λ (s : Layout). s.cpus) c.counts-counts.ensures.counts)
    (c.from-2.ensures ∙ ap (λ (s : Layout). s.workers) c.counts-counts.ensures.counts))
