use Rattle.std.specs.Prelude.{◌≡◌, ◌<◌, ◌≤◌, None, Some, false, length, slice_index_or, slice_set}
use Rattle.std.proofs.Common.{◌∙◌, length-set, refl, sym, subst}
use Rattle.cmwq_dispatch.specs.Dispatched.{past_now}
use Rattle.cmwq_model.specs.Prelude.{ticket_of}
use Rattle.cmwq_model.specs.declared.id.Who.TheVariants.{Caller}
use Rattle.cmwq_board.specs.Boarded.{Boarded, past_of_board}
use Rattle.cmwq_board.specs.Lent.{caller_of}
use Rattle.cmwq_board.specs.Waits.{caller_at, lending_at}
use Rattle.cmwq_board.specs.declared.left.Sought.TheVariants.{For}
use Rattle.cmwq_board.specs.declared.lending.Lending.TheVariants.{Free, Waits}
use Rattle.cmwq_board.proofs.Once.{once_resumed}
use Rattle.cmwq_board.proofs.Places.{board_now, left_resumed, resumed_places}
use Rattle.cmwq_board.proofs.Sought.{free_for, is_to_end, place_has}
use Rattle.cmwq_board.proofs.board.Board.resumes.Goals as goal

pub unreachable-requires : goal.unreachable-requires
unreachable-requires c =
    place_has c.args.self.now (For c.args.call) c.args.place c.requires.place
    (sym c.sought_at.ensures ∙ c.in_default.is)

pub invariant_of-self : goal.invariant_of-self
invariant_of-self c =
    let b = c.args.self.now in
    let i = c.self.inside in
    let d = i.dispatch in
    let s = d.history.layout in
    let ls = i.lent.items in
    let place = c.args.place in
    let t = c.in-Some.ticket in
    let found = sym c.sought_at.ensures ∙ c.in-Some.is in
    let of = is_to_end b (For c.args.call) place t c.requires.place found in
    let less : place < length ls = subst (λ (x : Boarded). place < length x.lent) (sym c.self.view_is) of.less in
    let held : ticket_of (past_now d) (Caller (caller_of s ls place)) t.number ≡ Some t =
    subst (λ (x : Boarded). ticket_of (past_of_board x) (Caller (caller_at x place)) t.number ≡ Some t)
    (sym c.self.view_is) (subst (λ k. ticket_of (past_of_board b) (Caller k) t.number ≡ Some t) of.own of.held) in
    let free : slice_index_or ls place Free ≡ Free =
    subst (λ (x : Boarded). lending_at x place ≡ Free) (sym c.self.view_is) (free_for b place t c.args.call found) in (
      c.self.invariant.0,
      c.self.invariant.1,
      c.self.invariant.2,
      board_now d d i.tail.room i.tail.room ls (slice_set ls place (Waits t None false)) c.self.invariant.3 refl refl
          refl (resumed_places s (past_now d) ls place t c.self.invariant.3.lent less held)
          (once_resumed ls place t c.self.invariant.3.once less) c.self.invariant.3.firing,
      λ h. c.self.invariant.4 (left_resumed s s (past_now d) ls place (Waits t None false) refl less free h),
      subst (λ k. k ≤ i.runs) (sym (length-set ls place (Waits t None false))) c.self.invariant.5,
    )
