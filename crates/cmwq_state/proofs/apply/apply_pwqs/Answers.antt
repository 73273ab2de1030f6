use Rattle.cmwq_state.specs.Common.{◌∷◌, width_by}
use Rattle.cmwq_model.proofs.Limits.{limits_of}
use Rattle.cmwq_state.proofs.WidthSteps.{widths_are}
use Rattle.cmwq_state.proofs.PwqsBehind.{all_behind}
use Rattle.cmwq_state.proofs.Applied.{may_end_in_pwqs, pwqs_ready, may_have_run, may_be_placed, may_pass, passed_by}
use Rattle.cmwq_state.proofs.Applied.{pwqs_applied}
use Rattle.cmwq_state.proofs.apply.apply_pwqs.Goals as goal

pub move_pwqs-requires-clause-most : goal.move_pwqs-requires-clause-most
move_pwqs-requires-clause-most c = rw c.requires.3 c.requires.4.many

pub move_pwqs-requires-clause-counts : goal.move_pwqs-requires-clause-counts
move_pwqs-requires-clause-counts c = rw c.requires.3 c.requires.5.many

pub move_pwqs-requires-clause-ended : goal.move_pwqs-requires-clause-ended
move_pwqs-requires-clause-ended c =
    let s = c.requires.0 in let n = c.requires.2 in
    may_end_in_pwqs s c.requires.1 c.args.effect.now c.args.pwqs.now n.effect (limits_of s n.inside) n.before
    c.requires.5

pub move_pwqs-requires-clause-opened : goal.move_pwqs-requires-clause-opened
move_pwqs-requires-clause-opened c =
    let s = c.requires.0 in let n = c.requires.2 in
    (pwqs_ready s c.requires.1 c.args.effect.now c.args.pwqs.now n.effect (limits_of s n.inside) n.before
    c.requires.5).1

pub move_pwqs-requires-clause-ended_placed : goal.move_pwqs-requires-clause-ended_placed
move_pwqs-requires-clause-ended_placed c =
    let s = c.requires.0 in let n = c.requires.2 in
    (may_be_placed s c.requires.1 c.args.effect.now c.args.queues.now n.effect (limits_of s n.inside) n.before
    c.requires.3).0

pub move_pwqs-requires-clause-opened_placed : goal.move_pwqs-requires-clause-opened_placed
move_pwqs-requires-clause-opened_placed c =
    let s = c.requires.0 in let n = c.requires.2 in
    (may_be_placed s c.requires.1 c.args.effect.now c.args.queues.now n.effect (limits_of s n.inside) n.before
    c.requires.3).1

pub move_pwqs-requires-clause-ran : goal.move_pwqs-requires-clause-ran
move_pwqs-requires-clause-ran c =
    may_have_run c.requires.0 c.requires.1 c.args.effect.now c.args.pwqs.now c.requires.2.effect c.requires.2.before
    c.requires.5

pub move_pwqs-requires-clause-behind : goal.move_pwqs-requires-clause-behind
move_pwqs-requires-clause-behind c keeps =
    let s = c.requires.0 in let past = c.requires.1 in let n = c.requires.2 in let e = c.args.effect.now.entry in
    rw c.requires.3
    (all_behind s past e c.args.pwqs.now (width_by s.queues c.args.most.now c.args.frozen) n.before
    (limits_of s n.inside).cpus.1 c.requires.5 keeps
    (widths_are s (e ∷ past) c.args.most.now c.args.frozen c.requires.4))

pub move_pwqs-requires-clause-placed : goal.move_pwqs-requires-clause-placed
move_pwqs-requires-clause-placed c =
    let s = c.requires.0 in let n = c.requires.2 in
    may_pass s c.requires.1 c.args.effect.now c.args.pwqs.now c.args.queues.now n.effect (limits_of s n.inside) n.before
    c.requires.5 c.requires.3

pub returns : goal.returns
returns c s past next queues widths are =
    let f = c.args.effect.now in
    pwqs_applied s past f c.args.pwqs.now c.move_pwqs.new.pwqs (width_by s.queues c.args.most.now c.args.frozen)
    next.effect (limits_of s next.inside) next.before are
    (passed_by s past f c.args.pwqs.now c.args.queues.now c.args.most.now c.args.frozen c.move_pwqs.new.pwqs queues
    widths c.move_pwqs.ensures)
