use Rattle.cmwq_core.specs.Common.{◌≡◌, ℕ, ◌∙◌, ap₂, sym, CpuId, Queueing, past_of, cpu_for}
use Rattle.cmwq_core.proofs.Effecting.{cpu_of_run, cpu_of_none}
use Rattle.cmwq_core.proofs.effects.queued_at.Goals as goal
use Rattle.cmwq_core.proofs.effects.queued_at.Goals.{in-Some, in-None}

pub returns : goal.returns
returns c =
    let b = c.args.state.now in let past = past_of b.entries in
    let cpu : c.match-item_run.cpu ≡ cpu_for past c.args.item.0 c.args.place.cpu = elim c.match-item_run.branch [
      | in-Some w ↦
          w.cpu-is ∙ cpu_of_run b.layout past c.args.item.0 _ c.args.place.cpu c.item_run.ensures.legal
          (sym c.item_run.ensures.is ∙ w.in-Some.is)
      | in-None w ↦
          w.cpu-is ∙ cpu_of_none b.layout past c.args.item.0 c.args.place.cpu c.item_run.ensures.legal
          (sym c.item_run.ensures.is ∙ w.in-None.is)
    ] in
    ap₂ (λ (k : CpuId) (n : ℕ). let x : Queueing =
    record { item = c.args.item; place = record { queue = c.args.place.queue; cpu = k }; number = n } in x) cpu
    c.number.ensures
