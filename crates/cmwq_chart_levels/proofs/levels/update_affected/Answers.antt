use Rattle.std.proofs.Common.{sym, ap, ◌∙◌, ◌++◌, append-nil}
use Rattle.cmwq_chart_levels.proofs.Outside.{all_stay, none_end, none_affected}
use Rattle.cmwq_chart_levels.proofs.levels.update_affected.Goals as goal

pub returns-in-Nowhere-clause-running : goal.returns-in-Nowhere-clause-running
returns-in-Nowhere-clause-running c =
    let s = c.args.step.now in
    let stay =
    none_affected s.layout s.past s.entry s.told c.requires.effect
    c.args.running.now c.requires.running (rw c.told-effect.ensures.told at c.in-Nowhere.ensures) in
    sym (all_stay s.layout s.past s.entry s.told c.requires.effect
    c.args.running.now c.requires.running stay)

pub returns-in-Nowhere-clause-levels : goal.returns-in-Nowhere-clause-levels
returns-in-Nowhere-clause-levels c =
    let s = c.args.step.now in
    let stay =
    none_affected s.layout s.past s.entry s.told c.requires.effect
    c.args.running.now c.requires.running (rw c.told-effect.ensures.told at c.in-Nowhere.ensures) in
    sym (ap (λ l. c.args.levels.now.items ++ l)
    (none_end s.layout s.past s.entry s.told c.requires.effect
    c.args.running.now stay) ∙ append-nil c.args.levels.now.items)
