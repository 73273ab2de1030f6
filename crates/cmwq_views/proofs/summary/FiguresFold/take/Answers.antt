use Rattle.cmwq_views.proofs.Figured.{effect_is, has_its_time, are_few, counts_are, is_after}
use Rattle.cmwq_views.proofs.summary.FiguresFold.take.Goals as goal

pub add-requires : goal.add-requires
add-requires c =
    let s = c.args.step.now in let h = c.args.self.now.summary in let next = c.told.ensures.next in
    rw c.told.ensures.told (record {
      effect = effect_is s h c.requires next;
      time = has_its_time s h c.requires next;
      few = are_few s h c.requires next;
      active = counts_are s h c.requires next _
          (rw (c.state.ensures.layout, c.state.ensures.past) at c.active_counts.ensures);
    })

pub returns : goal.returns
returns c =
    rw (c.add.ensures, c.told.ensures.told)
    (is_after c.args.step.now c.args.self.now.summary c.requires c.told.ensures.next)
