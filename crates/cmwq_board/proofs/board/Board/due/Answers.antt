use Rattle.std.specs.Prelude.{◌≡◌, ◌+◌}
use Rattle.std.proofs.Common.{ap, arith, ◌∙◌, sym, subst}
use Rattle.cmwq_core.specs.History.{History, past_in}
use Rattle.cmwq_model.specs.Prelude.{Layout}
use Rattle.cmwq_board.specs.Boarded.{Boarded, layout_of, past_of_board}
use Rattle.cmwq_board.specs.Items.{IsDue, lesser}
use Rattle.cmwq_board.proofs.Items.{due_more, none_due}
use Rattle.cmwq_board.proofs.board.Board.due.Goals as goal

pub loop-item-init : goal.loop-item-init
loop-item-init c = none_due _

pub loop-item-preserved : goal.loop-item-preserved
loop-item-preserved c =
    let past = past_in c.state-state.result.now in
    subst (IsDue past (c.loop-item.item + 1))
    (sym (c.lesser-least.ensures ∙ ap (lesser c.loop-item.least) c.due_of.ensures))
    (due_more past c.loop-item.item c.loop-item.least c.loop-item.invariant)

pub returns : goal.returns
returns c =
    let h = c.self.inside.dispatch.history in
    let least = c.loop-item.least in
    let state : c.state-state.result.now ≡ h = c.state-state.ensures ∙ c.execution.ensures in
    let items : c.counts-item-end.result.items ≡ h.layout.items =
    ap (λ (s : Layout). s.items) (c.counts-item-end.ensures.counts ∙ c.shape.ensures) in
    let last : c.loop-item.item ≡ h.layout.items =
    omega (arith, items, c.loop-item-test.false, c.loop-item.auto.item-end) in
    subst (λ (b : Boarded). IsDue (past_of_board b) (layout_of b).items least) c.self.view_is
    (subst (λ (k : History). IsDue (past_in k) h.layout.items least) state
    (subst (λ n. IsDue (past_in c.state-state.result.now) n least) last c.loop-item.invariant))
