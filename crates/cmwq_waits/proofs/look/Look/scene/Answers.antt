use Rattle.std.proofs.Common.{refl}
use Rattle.cmwq_waits.proofs.look.Look.scene.Goals as goal

pub returns : goal.returns
returns c = let l = c.self.inside in
    rw (← c.self.view_is)
    (record {
      taken = l.taken_back;
      more = l.queued;
      opened = refl;
      legal = c.self.invariant.1;
      next = c.self.invariant.2;
    })
