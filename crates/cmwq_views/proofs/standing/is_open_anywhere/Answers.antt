use Rattle.std.proofs.Common.{◌≡◌, false, sym, subst, arith, ◌∙◌}
use Rattle.std.specs.List.{list_any, range_with_len}
use Rattle.cmwq_model.specs.Prelude.{most_cpus, past_of}
use Rattle.cmwq_obstacle.proofs.Ranges.{any_none, any_first_of}
use Rattle.cmwq_views.specs.Open.{is_open_on}
use Rattle.cmwq_views.proofs.standing.is_open_anywhere.Goals as goal

pub returns-then-is_open_on : goal.returns-then-is_open_on
returns-then-is_open_on c =
    sym (any_first_of (is_open_on (past_of c.args.standing.now.entries) c.args.number)
    c.loop-cpu.cpu most_cpus (sym c.is_open_on.ensures ∙ c.if-is_open_on.true) c.loop-cpu-test.true)

pub loop-cpu-preserved : goal.loop-cpu-preserved
loop-cpu-preserved c =
    any_none (is_open_on (past_of c.args.standing.now.entries) c.args.number)
    c.loop-cpu.cpu c.loop-cpu.invariant (sym c.is_open_on.ensures ∙ c.if-is_open_on.false)

pub returns : goal.returns
returns c =
    let low = c.loop-cpu-test.false in let high = c.loop-cpu.auto.cpu-end in
    let at : c.loop-cpu.cpu ≡ most_cpus = omega arith in
    sym (subst (λ n. list_any (is_open_on (past_of c.args.standing.now.entries) c.args.number) (range_with_len 0 n) ≡ false)
    at c.loop-cpu.invariant)
