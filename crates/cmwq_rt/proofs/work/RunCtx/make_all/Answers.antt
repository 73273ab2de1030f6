use Rattle.std.specs.Prelude.{◌≡◌, IfSome, true}
use Rattle.cmwq_rt.specs.Common.{◌∙◌, ap, sym, subst, IfErr, IfOk, View, is_caller}
use Rattle.cmwq_rt.specs.Batches.{MakesBatch, StopsBatch}
use Rattle.cmwq_rt.specs.Later.{Later}
use Rattle.cmwq_rt.specs.Running.{Running, breaks_off}
use Rattle.cmwq_rt.proofs.Batching.{batch_answered, batch_breaks_off}
use Rattle.cmwq_rt.proofs.work.RunCtx.make_all.Goals as goal

pub invariant_of-self : goal.invariant_of-self
invariant_of-self g c =
    let s = g.N.HubName.layout in
    let v = c.self.inside.participant in
    let w = c.call_all-answer.new.participant in
    let later = batch_answered s v c.args.calls.now c.args.replies.now c.call_all-answer.new.replies w
    c.call_all-answer.result c.call_all-answer.ensures.made c.call_all-answer.ensures.stopped in (
      ap is_caller later.0 ∙ c.self.invariant.0,
      subst (λ o. IfSome o (λ f. breaks_off f ≡ true)) (sym c.fault_of_batch-self-inside.ensures)
          (batch_breaks_off s v c.args.calls.now c.args.replies.now c.call_all-answer.new.replies w
          c.call_all-answer.result c.self.inside.fault c.call_all-answer.ensures.stopped c.self.invariant.1),
    )

pub returns-clause-later : goal.returns-clause-later
returns-clause-later g c =
    let w = c.call_all-answer.new.participant in
    subst (λ (v : View). Later v w) (ap (λ (r : Running). r.participant) c.self.view_is)
    (batch_answered g.N.HubName.layout c.self.inside.participant c.args.calls.now c.args.replies.now
    c.call_all-answer.new.replies w c.call_all-answer.result c.call_all-answer.ensures.made
    c.call_all-answer.ensures.stopped)

pub returns-clause-made : goal.returns-clause-made
returns-clause-made g c =
    subst (λ (v : View). IfOk c.call_all-answer.result
    (λ _. MakesBatch g.N.HubName.layout v c.args.calls.now c.args.replies.now c.call_all-answer.new.replies
    c.call_all-answer.new.participant))
    (ap (λ (r : Running). r.participant) c.self.view_is)
    c.call_all-answer.ensures.made

pub returns-clause-stopped : goal.returns-clause-stopped
returns-clause-stopped g c =
    subst (λ (v : View). IfErr c.call_all-answer.result
    (λ e. StopsBatch g.N.HubName.layout v c.args.calls.now e.made e.fault c.args.replies.now
    c.call_all-answer.new.replies c.call_all-answer.new.participant))
    (ap (λ (r : Running). r.participant) c.self.view_is)
    c.call_all-answer.ensures.stopped
