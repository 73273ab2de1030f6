use Rattle.std.specs.Prelude.{◌≡◌, ◌≤◌, None, Ok, Some, length}
use Rattle.std.proofs.Common.{ap, arith, ◌∙◌, subst, sym}
use Rattle.std.proofs.lemmas.Grind.{common_steps}
use Rattle.cmwq_model.specs.declared.id.Who.TheVariants.{Caller}
use Rattle.cmwq_board.specs.Boarded.{Boarded, layout_of}
use Rattle.cmwq_board.specs.Lent.{RunsWaitOnce}
use Rattle.cmwq_board.specs.Machine.{bare, cleared, freed, stepped}
use Rattle.cmwq_board.specs.Waits.{leave_fault, place_of}
use Rattle.cmwq_board.proofs.LeftWaits.{waits_no_more}
use Rattle.cmwq_board.proofs.Moves.{left_core, left_rises, none_of_ok, taken_core}
use Rattle.cmwq_board.proofs.Places.{place_is}
use Rattle.cmwq_board.proofs.board.Board.leaves.Goals as goal

pub returns-clause-outcome : goal.returns-clause-outcome
returns-clause-outcome c = grind (arith, common_steps)

pub returns-clause-core : goal.returns-clause-core
returns-clause-core c =
    let b = c.args.self.now in
    let p = c.args.party in
    let is_place : place_of b p ≡ Some c.in-Some.place = sym c.place_of.ensures ∙ c.in-Some.is in
    let none : leave_fault b p ≡ None =
    none_of_ok (leave_fault b p) (bare b) (stepped (cleared (freed (bare b) (place_of b p))) (Ok tt)) tt
    (returns-clause-outcome c) in
    c.clears.ensures.core
    ∙ ap cleared (left_core p c.in-Some.place b c.leaves_at.new.self c.leaves_at.ensures is_place)
    ∙ taken_core (leave_fault b p) (bare b) (stepped (cleared (freed (bare b) (place_of b p))) (Ok tt)) none

pub returns-clause-named : goal.returns-clause-named
returns-clause-named c =
    left_rises c.args.party c.in-Some.place c.args.self.now c.leaves_at.new.self c.clears.new.self c.args.wakes.now
    c.clears.new.wakes c.leaves_at.ensures (c.clears.ensures.goes (Caller c.args.party)) c.clears.ensures.quiet

pub returns-clause-gone : goal.returns-clause-gone
returns-clause-gone c =
    let b = c.args.self.now in
    let p = c.args.party in
    let place = c.in-Some.place in
    let is_place : place_of b p ≡ Some place = sym c.place_of.ensures ∙ c.in-Some.is in
    let few : length b.lent ≤ (layout_of b).callers =
    subst (λ (x : Boarded). length x.lent ≤ (layout_of x).callers) c.self.view_is c.self.invariant.3.lent.few in
    waits_no_more p place b c.leaves_at.new.self c.clears.new.self c.args.wakes.now c.clears.new.wakes
    (subst (λ (x : Boarded). RunsWaitOnce x.lent) c.self.view_is c.self.invariant.3.once)
    (place_is (layout_of b) b.lent p place few is_place).less is_place c.leaves_at.ensures c.clears.ensures.clears
