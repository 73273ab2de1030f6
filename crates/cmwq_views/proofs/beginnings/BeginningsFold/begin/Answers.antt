use Rattle.std.proofs.Common.{◌*◌, ◌∙◌, ap}
use Rattle.cmwq_model.specs.Prelude.{Layout, most_workers}
use Rattle.cmwq_views.specs.declared.deed.Deed.TheVariants.{Book, Other, Queue, Sleep, Start, Wait}
use Rattle.cmwq_views.proofs.Last.{no_lasts}
use Rattle.cmwq_views.proofs.beginnings.BeginningsFold.begin.Goals as goal

pub returns : goal.returns
returns c =
    let s = c.args.shape.now in
    let counts = c.counts-counts.ensures.counts in
    let cpus = c.from.ensures ∙ ap (λ (s : Layout). s.cpus) counts in
    let items = c.into.ensures ∙ ap (λ (s : Layout). s.items) counts in
    let callers = c.into-2.ensures ∙ ap (λ (s : Layout). s.callers) counts in
    record {
      workers =
          no_lasts Start Sleep _ (2 * most_workers * s.cpus) c.in_ok-workers.workers c.in_ok-workers.ensures.first
          c.in_ok-workers.ensures.second (ap (λ n. 2 * most_workers * n) cpus);
      items = no_lasts Queue Book _ s.items c.in_ok-items.items c.in_ok-items.ensures.first
          c.in_ok-items.ensures.second items;
      callers = no_lasts Wait Other _ s.callers c.in_ok-callers.callers c.in_ok-callers.ensures.first
          c.in_ok-callers.ensures.second callers;
    }
