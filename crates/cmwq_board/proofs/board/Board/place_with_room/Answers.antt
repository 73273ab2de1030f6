use Rattle.std.specs.Prelude.{◌≡◌, ◌≤◌, length, true}
use Rattle.std.proofs.Common.{ap, ◌∙◌, sym, subst}
use Rattle.cmwq_dispatch.specs.Dispatched.{Dispatched}
use Rattle.cmwq_model.specs.Prelude.{fits}
use Rattle.cmwq_model.specs.declared.id.CallerId.{CallerId}
use Rattle.cmwq_model.specs.declared.id.Who.TheVariants.{Caller}
use Rattle.cmwq_board.specs.Boarded.{Boarded, layout_of}
use Rattle.cmwq_board.specs.Waits.{caller_at, has_room_for}
use Rattle.cmwq_board.proofs.Begins.{lent_is_free, no_early_fault, room_is, wait_fits}
use Rattle.cmwq_board.proofs.Places.{caller_there}
use Rattle.cmwq_board.proofs.board.Board.place_with_room.Goals as goal

pub caller_at-requires : goal.caller_at-requires
caller_at-requires c =
    (lent_is_free c.args.self.now c.in-Some.place (sym c.lent_place.ensures ∙ c.in-Some.is)).less

pub has_room_for-requires-clause-fits : goal.has_room_for-requires-clause-fits
has_room_for-requires-clause-fits c =
    let b = c.args.self.now in
    let may = no_early_fault b c.args.run c.args.call c.requires in
    let less = (lent_is_free b c.in-Some.place (sym c.lent_place.ensures ∙ c.in-Some.is)).less in
    let few =
    subst (λ (x : Boarded). length x.lent ≤ (layout_of x).callers) c.self.view_is c.self.invariant.3.lent.few in
    subst (λ (x : Boarded). fits (layout_of x) (Caller c.caller_at.result) c.args.call ≡ true) (sym c.self.view_is)
    (subst (λ (k : CallerId). fits (layout_of b) (Caller k) c.args.call ≡ true) (sym c.caller_at.ensures)
    (wait_fits (layout_of b) (caller_at b c.in-Some.place) c.args.call
    (caller_there (layout_of b) b.lent c.in-Some.place few less) may.call may.numbers))

pub returns-then-has_room_for-clause-there : goal.returns-then-has_room_for-clause-there
returns-then-has_room_for-clause-there c =
    (lent_is_free c.args.self.now c.in-Some.place (sym c.lent_place.ensures ∙ c.in-Some.is)).less

pub returns-then-has_room_for-clause-taken : goal.returns-then-has_room_for-clause-taken
returns-then-has_room_for-clause-taken c =
    let b = c.args.self.now in
    let i = c.self.inside in
    room_is b c.args.run c.args.call c.in-Some.place _ (sym c.lent_place.ensures ∙ c.in-Some.is)
    (subst (λ (x : Dispatched). has_room_for x c.args.run (caller_at b c.in-Some.place) c.args.call ≡ _)
    (ap (λ (x : Boarded). x.dispatch) c.self.view_is)
    (ap (λ k. has_room_for i.dispatch c.args.run k c.args.call) (sym c.caller_at.ensures)
    ∙ sym c.has_room_for.ensures ∙ c.if-has_room_for.true))

pub returns-else-has_room_for-clause-refused : goal.returns-else-has_room_for-clause-refused
returns-else-has_room_for-clause-refused c =
    let b = c.args.self.now in
    let i = c.self.inside in
    room_is b c.args.run c.args.call c.in-Some.place _ (sym c.lent_place.ensures ∙ c.in-Some.is)
    (subst (λ (x : Dispatched). has_room_for x c.args.run (caller_at b c.in-Some.place) c.args.call ≡ _)
    (ap (λ (x : Boarded). x.dispatch) c.self.view_is)
    (ap (λ k. has_room_for i.dispatch c.args.run k c.args.call) (sym c.caller_at.ensures)
    ∙ sym c.has_room_for.ensures ∙ c.if-has_room_for.false))
