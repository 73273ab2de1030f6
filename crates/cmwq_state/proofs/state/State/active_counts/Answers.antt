use Rattle.std.proofs.Common.{◌∙◌, sym}
use Rattle.cmwq_model.specs.Prelude.{layout_of, past_of}
use Rattle.cmwq_theory_steps.proofs.Active.{active_counted}
use Rattle.cmwq_state.proofs.state.State.active_counts.Goals as goal

pub returns : goal.returns
returns c =
    let b = c.self.inside in let are = c.self.invariant.parts_are.pwqs in
    let s = layout_of b.counts b.queues.items in let past = past_of b.entries in
    rw (← c.self.view_is, c.counts.ensures) record {
      many = are.many;
      each = λ q k here there. are.counts q k here there
          ∙ sym (active_counted s past q k);
    }
