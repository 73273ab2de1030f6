use Rattle.std.specs.Prelude.{◌≡◌, None, Ok}
use Rattle.std.proofs.Common.{ap, ◌∙◌, rules, subst, sym}
use Rattle.cmwq_dispatch.specs.Dispatched.{Dispatched, past_now}
use Rattle.cmwq_model.specs.Calls.{now}
use Rattle.cmwq_model.specs.declared.id.Who.TheVariants.{Caller}
use Rattle.cmwq_model.specs.declared.entry.Entry.{Entry}
use Rattle.cmwq_state.specs.Tails.{Tailed}
use Rattle.cmwq_board.specs.Boarded.{Boarded, board_of, past_of_board}
use Rattle.cmwq_board.specs.Lent.{unended_drains}
use Rattle.cmwq_board.specs.Machine.{GoesOn, bare, stepped, ticked}
use Rattle.cmwq_board.specs.Steps.{advance_fault}
use Rattle.cmwq_board.proofs.Cores.{on_ticks}
use Rattle.cmwq_board.proofs.Moves.{not_fewer, taken_core, taken_outcome}
use Rattle.cmwq_board.proofs.Sleepers.{sleep_on_more}
use Rattle.cmwq_board.proofs.Places.{board_same, drains_same, left_same}
use Rattle.cmwq_board.proofs.board.Board.advance.Goals as goal

pub invariant_of-self : goal.invariant_of-self
invariant_of-self c =
    let d = c.self.inside.dispatch in
    let n = c.tick-ticked.new.dispatch in
    let lent = c.self.inside.lent.items in
    let same = c.in-Ok.ensures.tickets in (
      ap (λ (t : Tailed Entry). t.all) c.in-Ok.ensures.kept,
      c.self.invariant.1 ∙ sym (drains_same (past_now d) (past_now n) same),
      c.self.invariant.2,
      board_same d n c.self.inside.tail.room c.tick-ticked.new.tail.room lent c.in-Ok.ensures.stays same
          (ap (λ (t : Tailed Entry). t.room) c.in-Ok.ensures.kept) c.self.invariant.3,
      λ h. c.self.invariant.4 (left_same d.history.layout n.history.layout (past_now d) (past_now n) lent
          c.in-Ok.ensures.stays.layout same h),
      c.self.invariant.5,
    )

pub returns-in-Ok-clause-core : goal.returns-in-Ok-clause-core
returns-in-Ok-clause-core c =
    let b = c.args.self.now in
    let caller = c.args.caller in
    let ticks = c.args.ticks in
    let i = c.self.inside in
    let n = c.tick-ticked.new in
    let none : advance_fault b caller ticks ≡ None = search rules in
    let on = on_ticks caller ticks i.dispatch n.dispatch c.args.wakes.now n.wakes c.in-Ok.ensures.ticks in
    ap (λ (d : Dispatched). board_of d n.tail.given n.tail.room i.lent.items i.news) on
    ∙ ap (λ (x : Tailed Entry). ticked (bare (board_of i.dispatch x.given x.room i.lent.items i.news)) caller ticks)
    c.in-Ok.ensures.kept
    ∙ ap (λ x. ticked (bare x) caller ticks) c.self.view_is
    ∙ taken_core (advance_fault b caller ticks) (bare b)
    (stepped (ticked (bare b) caller ticks) (Ok (now (past_of_board (ticked (bare b) caller ticks))))) none

pub returns-in-Ok-clause-outcome : goal.returns-in-Ok-clause-outcome
returns-in-Ok-clause-outcome c =
    let b = c.args.self.now in
    let caller = c.args.caller in
    let ticks = c.args.ticks in
    let i = c.self.inside in
    let n = c.tick-ticked.new in
    let none : advance_fault b caller ticks ≡ None = search rules in
    let on = on_ticks caller ticks i.dispatch n.dispatch c.args.wakes.now n.wakes c.in-Ok.ensures.ticks in
    ap Ok
    (c.time.ensures
    ∙ ap (λ (d : Dispatched). now (past_now d)) on
    ∙ ap (λ x. now (past_of_board (ticked (bare x) caller ticks))) c.self.view_is)
    ∙ taken_outcome (advance_fault b caller ticks) (bare b)
    (stepped (ticked (bare b) caller ticks) (Ok (now (past_of_board (ticked (bare b) caller ticks))))) none

pub returns-in-Ok-clause-named : goal.returns-in-Ok-clause-named
returns-in-Ok-clause-named c =
    let caller = c.args.caller in
    let i = c.self.inside in
    let d = i.dispatch in
    let n = c.tick-ticked.new in
    let is = c.in-Ok.ensures.ticks in
    let mid = board_of n.dispatch n.tail.given n.tail.room i.lent.items i.news in
    subst (λ (x : Boarded). GoesOn (Caller caller) x mid c.args.wakes.now n.wakes) c.self.view_is
    (record {
      sleepers = sleep_on_more (Caller caller) d.asleep is.mid.asleep n.dispatch.asleep c.args.wakes.now is.meanwhile
          n.wakes is.tick.named is.fires.named;
      time = not_fewer (unended_drains (past_now d)) (unended_drains (past_now n.dispatch))
          (drains_same (past_now d) (past_now n.dispatch) c.in-Ok.ensures.tickets);
    })
