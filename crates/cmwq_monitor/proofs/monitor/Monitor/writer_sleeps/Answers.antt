use Rattle.std.specs.Prelude.{not}
use Rattle.cmwq_monitor.specs.Common.{◌≡◌, ◌∙◌, ap, true, false, Bool, sym, refl, true≢false}
use Rattle.cmwq_monitor.specs.Held.{is_writer_wanted}
use Rattle.cmwq_monitor.proofs.monitor.Monitor.writer_sleeps.Goals as goal

pub invariant_of-self : goal.invariant_of-self
invariant_of-self g c =
    let i = c.self.invariant in (
      i.0,
      i.1,
      i.2,
      i.3,
      i.4,
      λ sleeps. sym (c.is_wanted.ensures g.N.HubName.layout i.0 i.1 (not c.is_wanted.result))
          ∙ from_not c.is_wanted.result sleeps,
      i.6,
      i.7,
    )
  where
    from_not : (b : Bool) → not b ≡ true → b ≡ false
    from_not true h = absurd (true≢false (sym h))
    from_not false h = refl

pub returns-clause-is : goal.returns-clause-is
returns-clause-is g c =
    let i = c.self.invariant in
    ap not (c.is_wanted.ensures g.N.HubName.layout i.0 i.1 c.self.inside.writer_sleeps
    ∙ ap (is_writer_wanted g.N.HubName.layout) c.self.view_is)
