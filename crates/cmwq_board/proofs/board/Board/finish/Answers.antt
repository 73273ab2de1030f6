use Rattle.std.specs.Prelude.{◌≡◌, None, Ok}
use Rattle.std.proofs.Common.{ap, ◌∙◌, rules, subst, sym}
use Rattle.cmwq_dispatch.specs.Dispatched.{Dispatched, past_now}
use Rattle.cmwq_model.specs.declared.id.Who.TheVariants.{Worker}
use Rattle.cmwq_model.specs.declared.entry.Entry.{Entry}
use Rattle.cmwq_state.specs.Tails.{Tailed}
use Rattle.cmwq_board.specs.Boarded.{Boarded, board_of}
use Rattle.cmwq_board.specs.Lent.{unended_drains}
use Rattle.cmwq_board.specs.Machine.{GoesOn, bare, cleared, finish_of, run_ended, stepped}
use Rattle.cmwq_board.specs.Steps.{finish_fault}
use Rattle.cmwq_board.proofs.Cores.{finish_is, on_finish}
use Rattle.cmwq_board.proofs.Moves.{goes_more, not_fewer, sleep_finish, taken_core, taken_outcome}
use Rattle.cmwq_board.proofs.Places.{board_same, drains_same, left_same}
use Rattle.cmwq_board.proofs.board.Board.finish.Goals as goal

pub invariant_of-self : goal.invariant_of-self
invariant_of-self c =
    let d = c.self.inside.dispatch in
    let n = c.finish_run-finished.new.dispatch in
    let lent = c.self.inside.lent.items in
    let same = c.in-Ok.ensures.tickets in (
      ap (λ (t : Tailed Entry). t.all) c.in-Ok.ensures.kept,
      c.self.invariant.1 ∙ sym (drains_same (past_now d) (past_now n) same),
      c.self.invariant.2,
      board_same d n c.self.inside.tail.room c.finish_run-finished.new.tail.room lent c.in-Ok.ensures.stays same
          (ap (λ (t : Tailed Entry). t.room) c.in-Ok.ensures.kept) c.self.invariant.3,
      λ h. c.self.invariant.4 (left_same d.history.layout n.history.layout (past_now d) (past_now n) lent
          c.in-Ok.ensures.stays.layout same h),
      c.self.invariant.5,
    )

pub returns-in-Ok-clause-core : goal.returns-in-Ok-clause-core
returns-in-Ok-clause-core c =
    let b = c.args.self.now in
    let w = c.args.worker in
    let i = c.self.inside in
    let n = c.finish_run-finished.new in
    let mid = board_of n.dispatch n.tail.given n.tail.room i.lent.items i.news in
    let none : finish_fault b w ≡ None = search rules in
    let on = on_finish w c.in-Ok.finish i.dispatch n.dispatch c.args.wakes.now n.wakes c.in-Ok.ensures.finishes in
    let tail = c.in-Ok.ensures.kept in
    let same : bare mid ≡ run_ended (bare b) w =
    ap (λ (d : Dispatched). board_of d n.tail.given n.tail.room i.lent.items i.news) on
    ∙ ap (λ (x : Tailed Entry). run_ended (bare (board_of i.dispatch x.given x.room i.lent.items i.news)) w) tail
    ∙ ap (λ x. run_ended (bare x) w) c.self.view_is in
    c.clears.ensures.core ∙ ap cleared same
    ∙ taken_core (finish_fault b w) (bare b)
    (stepped (cleared (run_ended (bare b) w)) (Ok (finish_of b.dispatch.history w))) none

pub returns-in-Ok-clause-outcome : goal.returns-in-Ok-clause-outcome
returns-in-Ok-clause-outcome c =
    let b = c.args.self.now in
    let w = c.args.worker in
    let i = c.self.inside in
    let n = c.finish_run-finished.new in
    let none : finish_fault b w ≡ None = search rules in
    let is : c.in-Ok.finish ≡ finish_of b.dispatch.history w =
    finish_is w c.in-Ok.finish i.dispatch n.dispatch c.args.wakes.now n.wakes c.in-Ok.ensures.finishes
    ∙ ap (λ (x : Boarded). finish_of x.dispatch.history w) c.self.view_is in
    ap Ok is
    ∙ taken_outcome (finish_fault b w) (bare b)
    (stepped (cleared (run_ended (bare b) w)) (Ok (finish_of b.dispatch.history w))) none

pub returns-in-Ok-clause-named : goal.returns-in-Ok-clause-named
returns-in-Ok-clause-named c =
    let b = c.args.self.now in
    let w = c.args.worker in
    let i = c.self.inside in
    let d = i.dispatch in
    let n = c.finish_run-finished.new in
    let mid = board_of n.dispatch n.tail.given n.tail.room i.lent.items i.news in
    let drains = drains_same (past_now d) (past_now n.dispatch) c.in-Ok.ensures.tickets in
    let goes : GoesOn (Worker w) b mid c.args.wakes.now n.wakes =
    subst (λ (x : Boarded). GoesOn (Worker w) x mid c.args.wakes.now n.wakes) c.self.view_is
    (record {
      sleepers = sleep_finish w c.in-Ok.finish d n.dispatch c.args.wakes.now n.wakes c.in-Ok.ensures.finishes;
      time = not_fewer (unended_drains (past_now d)) (unended_drains (past_now n.dispatch)) drains;
    }) in
    goes_more (Worker w) b mid c.clears.new.self c.args.wakes.now n.wakes c.clears.new.wakes goes
    (c.clears.ensures.goes (Worker w))
