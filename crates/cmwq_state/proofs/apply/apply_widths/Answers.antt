use Rattle.std.proofs.Common.{◌∷◌, sym, subst}
use Rattle.cmwq_state.specs.Widths.{AreWidths}
use Rattle.cmwq_state.proofs.Applied.{may_set_width}
use Rattle.cmwq_state.proofs.WidthSteps.{widths_applied}
use Rattle.cmwq_state.proofs.apply.apply_widths.Goals as goal

pub set_width-requires : goal.set_width-requires
set_width-requires c =
    may_set_width c.requires.0 c.requires.1 c.args.effect.now c.args.most.now.items c.requires.2.effect
    c.requires.3.many

pub returns : goal.returns
returns c s past next are =
    let e = c.args.effect.now.entry in
    subst (AreWidths s (e ∷ past) c.set_width.new.most.items) (sym c.frozen_after.ensures)
    (widths_applied s past e c.args.most.now.items c.set_width.new.most.items c.args.frozen are c.set_width.ensures)
