use Rattle.std.proofs.Common.{◌∙◌, ap}
use Rattle.cmwq_refinement.specs.Timers as timers
use Rattle.cmwq_model.specs.Prelude.{item_number}
use Rattle.cmwq_state.proofs.Applied.{may_set_timers, timers_applied}
use Rattle.cmwq_state.proofs.apply.apply_timers.Goals as goal

pub set_timers-requires : goal.set_timers-requires
set_timers-requires c = rw c.requires.3 (may_set_timers c.requires.0 c.requires.1 c.args.effect.now c.requires.2.effect)

pub returns : goal.returns
returns c s past next are =
    let f = c.args.effect.now in
    c.set_timers.ensures
    ∙ (ap (λ rows. timers.timers_after_settling (item_number f.settled) f.booked rows) are
    ∙ timers_applied s past f next.effect)
