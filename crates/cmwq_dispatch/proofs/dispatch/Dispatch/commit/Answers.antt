use Rattle.std.proofs.Common.{◌≡◌, ◌∙◌, ◌∷◌, ◌||◌, Bool, ap, refl, subst, sym}
use Rattle.cmwq_core.specs.History.{History, past_in}
use Rattle.cmwq_model.specs.Prelude.{IsLegal}
use Rattle.cmwq_dispatch.specs.Dispatched.{Dispatched, Enters, dispatched_of, is_finished}
use Rattle.cmwq_dispatch.proofs.Steady.{over_stays, waits_after}
use Rattle.cmwq_dispatch.proofs.dispatch.Dispatch.commit.Goals as goal

pub invariant_of-self : goal.invariant_of-self
invariant_of-self c =
    let i = c.self.inside in
    let e = c.args.plan.now.mark.entry in
    let held : i.execution ≡ c.args.self.now.history = ap (λ (d : Dispatched). d.history) c.self.view_is in
    let lives = ap (λ (d : Dispatched). d.failed) c.self.view_is ∙ c.requires.may.0 in (
      c.self.invariant.0 ∙ sym (ap (λ (h : History). h.layout) c.commit-reply.ensures.entry),
      waits_after i.execution c.commit-reply.new.self e c.enters.new.self c.commit-reply.ensures.entry
          c.enters.ensures.after,
      record {
        looked_after = c.wake_after.ensures.after;
        over = λ is. c.wake_after.ensures.nobody (c.is_finished-is_over.ensures
            ∙ (sym (ap (λ (b : Bool). b || is_finished c.commit-reply.new.self i.closed i.firing) lives) ∙ is));
      },
    )

pub returns-clause-over : goal.returns-clause-over
returns-clause-over c is =
    let i = c.self.inside in
    let e = c.args.plan.now.mark.entry in
    over_stays c.args.self.now (dispatched_of c.commit-reply.new.self i.closed i.failed i.crowded i.firing
    c.enters.new.self.first c.wake_after.new.sleepers) e
    (subst (λ (d : Dispatched). Enters e d (dispatched_of c.commit-reply.new.self i.closed i.failed i.crowded i.firing
    c.enters.new.self.first c.wake_after.new.sleepers)) c.self.view_is (record {
      history = c.commit-reply.ensures.entry;
      closed = refl;
      failed = refl;
      crowded = refl;
      firing = refl;
      first_lent = c.enters.ensures.first;
    })) c.requires.plan.2.legal c.requires.may is
