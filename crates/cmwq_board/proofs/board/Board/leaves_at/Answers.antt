use Rattle.std.specs.Prelude.{◌≡◌, ◌<◌, ◌≤◌, List, length, slice_set}
use Rattle.std.proofs.Common.{ap, ◌∙◌, length-set, refl, sym, subst}
use Rattle.cmwq_core.specs.History.{History, past_in}
use Rattle.cmwq_dispatch.specs.Asleep.{IsUpAgain}
use Rattle.cmwq_dispatch.specs.Dispatched.{Dispatched, past_now}
use Rattle.cmwq_model.specs.declared.entry.Entry.{Entry}
use Rattle.cmwq_model.specs.declared.id.Who.TheVariants.{Caller}
use Rattle.cmwq_board.specs.Boarded.{Boarded, board_of, firing_for, with_asleep}
use Rattle.cmwq_board.specs.Lent.{AreLent, unended_drains}
use Rattle.cmwq_board.specs.declared.lending.Lending.{Lending}
use Rattle.cmwq_board.specs.declared.lending.Lending.TheVariants.{Free}
use Rattle.cmwq_board.proofs.Once.{once_freed}
use Rattle.cmwq_board.proofs.Places.{board_now, freed_places, same_asleep}
use Rattle.cmwq_board.proofs.board.Board.leaves_at.Goals as goal

pub invariant_of-self : goal.invariant_of-self
invariant_of-self c =
    let d = c.self.inside.dispatch in
    let n = c.awakes.new.self in
    let ls = c.self.inside.lent.items in
    let place = c.args.place in
    let same = c.awakes.ensures.same in
    let lent : ls ≡ c.args.self.now.lent = ap (λ (b : Boarded). b.lent) c.self.view_is in
    let less : place < length ls = subst (λ (xs : List Lending). place < length xs) (sym lent) c.requires.place in
    let past : past_now n ≡ past_now d = ap past_in same.history in (
      c.self.invariant.0 ∙ ap (λ (h : History). h.entries) (sym same.history),
      c.self.invariant.1 ∙ ap unended_drains (sym past),
      c.self.invariant.2,
      board_now d n c.self.inside.tail.room c.self.inside.tail.room ls (slice_set ls place Free) c.self.invariant.3
          (ap (λ (h : History). h.layout) same.history) (ap (λ (h : History). h.room) same.history) refl
          (subst (λ (p : List Entry). AreLent d.history.layout p (slice_set ls place Free)) (sym past)
          (freed_places d.history.layout (past_now d) ls place c.self.invariant.3.lent less))
          (once_freed ls place c.self.invariant.3.once less)
          (same.firing ∙ c.self.invariant.3.firing ∙ ap (λ (p : List Entry). firing_for (unended_drains p)) (sym past)),
      λ h. refl,
      subst (λ k. k ≤ c.self.inside.runs) (sym (length-set ls place Free)) c.self.invariant.5,
    )

pub returns : goal.returns
returns c =
    let i = c.self.inside in
    let n = c.awakes.new.self in
    let place = c.args.place in
    record {
      awake = with_asleep c.args.self.now n.asleep;
      awakes = record {
        same = refl;
        awake = subst (λ (x : Boarded). IsUpAgain (Caller c.args.party) x.dispatch.asleep n.asleep) c.self.view_is
            c.awakes.ensures.awake;
      };
      next = ap (λ (x : Dispatched). board_of x i.tail.given i.tail.room (slice_set i.lent.items place Free) i.news)
          (same_asleep i.dispatch n c.awakes.ensures.same)
          ∙ ap (λ (x : Boarded). record x {
            dispatch = record x.dispatch { asleep = n.asleep };
            lent = slice_set x.lent place Free;
          }) c.self.view_is;
    }
