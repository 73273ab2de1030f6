use Rattle.std.proofs.Common.{ap, ◌∙◌, refl, subst}
use Rattle.cmwq_dispatch.specs.Asleep.{IsUpAgain, Waits as SleepsFor}
use Rattle.cmwq_dispatch.specs.Dispatched.{Dispatched, FallsAsleep}
use Rattle.cmwq_model.specs.declared.id.Who.TheVariants.{Caller}
use Rattle.cmwq_board.specs.Boarded.{Boarded, with_asleep}
use Rattle.cmwq_board.proofs.Places.{same_asleep}
use Rattle.cmwq_board.proofs.board.Board.waits_on.Goals as goal

pub returns : goal.returns
returns c =
    let i = c.self.inside in
    let n = c.awakes.new.self in
    let t = c.args.ticket in
    record {
      awake = with_asleep c.args.self.now n.asleep;
      awakes = record {
        same = refl;
        awake = subst (λ (x : Boarded). IsUpAgain (Caller t.caller) x.dispatch.asleep n.asleep) c.self.view_is
            c.awakes.ensures.awake;
      };
      next = (
        subst (λ (x : Dispatched). FallsAsleep (SleepsFor t) x c.sleeps.result c.sleeps.new.self)
            (same_asleep i.dispatch n c.awakes.ensures.same
            ∙ ap (λ (x : Boarded). record x.dispatch { asleep = n.asleep }) c.self.view_is) c.sleeps.ensures,
        ap (λ (x : Boarded). record x { dispatch = c.sleeps.new.self }) c.self.view_is,
      );
    }
