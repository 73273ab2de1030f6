use Rattle.std.proofs.Common.{◌∙◌, ◌++◌, ap, option_to_list}
use Rattle.cmwq_model.specs.Prelude.{past_of}
use Rattle.cmwq_state.specs.Flights.{run_open}
use Rattle.cmwq_key.proofs.Coding.{rows_go_on}
use Rattle.cmwq_key.proofs.key.numbered.fill_running.Goals as goal

pub loop-item-preserved : goal.loop-item-preserved
loop-item-preserved c =
    rows_go_on (λ k. option_to_list (run_open (past_of c.args.state.now.entries) k)) _ _ c.loop-item.item
    c.loop-item.invariant
    (c.in_ok-push_some.ensures ∙ ap (λ o. c.loop-item.list.items ++ option_to_list o) c.item_run.ensures.is)
