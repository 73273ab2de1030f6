use Rattle.cmwq_state.specs.Common.{◌≡◌, ◌∙◌, ◌||◌, ap, sym, is_some, past_of, unstarted_queueing}
use Rattle.cmwq_state.specs.Flights.{run_open}
use Rattle.cmwq_state.proofs.Readings.{open_as}
use Rattle.cmwq_state.proofs.state.State.is_item_open.Goals as goal

pub returns-then-is_some : goal.returns-then-is_some
returns-then-is_some c = let b = c.args.self.now in let past = past_of b.entries in
    let run : c.is_some.result ≡ is_some (run_open past c.args.item.0) =
    c.is_some.ensures ∙ ap is_some c.item_run.ensures.is in
    c.if-is_some.true
    ∙ (ap (λ a. a || is_some (unstarted_queueing past c.args.item.0)) (sym c.if-is_some.true ∙ run)
    ∙ open_as b.layout past c.args.item.0 c.item_run.ensures.legal)

pub returns-else-is_some : goal.returns-else-is_some
returns-else-is_some c = let b = c.args.self.now in let past = past_of b.entries in
    let run : c.is_some.result ≡ is_some (run_open past c.args.item.0) =
    c.is_some.ensures ∙ ap is_some c.item_run.ensures.is in
    let unstarted_is : c.is_some-else-is_some.result ≡ is_some (unstarted_queueing past c.args.item.0) =
    c.is_some-else-is_some.ensures ∙ ap is_some c.unstarted.ensures in
    unstarted_is
    ∙ (ap (λ a. a || is_some (unstarted_queueing past c.args.item.0)) (sym c.if-is_some.false ∙ run)
    ∙ open_as b.layout past c.args.item.0 c.item_run.ensures.legal)
