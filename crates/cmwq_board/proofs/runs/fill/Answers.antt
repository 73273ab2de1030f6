use Rattle.std.proofs.Common.{◌∙◌, ◌++◌, List, Option, ap, ap₂, arith, length, option_to_list, sym}
use Rattle.cmwq_core.specs.History.{past_in}
use Rattle.cmwq_waits.specs.declared.run_wait.RunWait.{RunWait}
use Rattle.cmwq_board.proofs.WaitingRuns.{few_so_far, one_few, waits_more}
use Rattle.cmwq_board.proofs.runs.fill.Goals as goal

pub add-requires : goal.add-requires
add-requires c =
    let i = c.loop-lending.invariant in
    let few =
    few_so_far (past_in c.args.execution.now) c.args.lent.now c.loop-lending.lending-index c.loop-lending-test.true in
    let one = one_few c.wait_in-wait.result in
    omega (arith, ap length i.0, i.1, few, one, c.requires.room)

pub loop-lending-preserved : goal.loop-lending-preserved
loop-lending-preserved c =
    let i = c.loop-lending.invariant in (
      c.add.ensures.items ∙ ap₂ (λ (ws : List RunWait) (o : Option RunWait). ws ++ option_to_list o) i.0
          c.wait_in-wait.ensures
          ∙ sym (waits_more (past_in c.args.execution.now) c.args.lent.now c.loop-lending.lending-index _
          c.loop-lending-test.true),
      c.add.ensures.capacity ∙ i.1,
    )
