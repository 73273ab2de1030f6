use Rattle.std.proofs.Common.{◌∙◌, ◌++◌, List, None, ap, arith, length, option_to_list, refl, subst, sym, vec_capacity}
use Rattle.std.specs.Prelude.{if◌then◌else◌}
use Rattle.std.proofs.lemmas.List.{length-reverse}
use Rattle.cmwq_core.specs.History.{past_in}
use Rattle.cmwq_model.specs.Prelude.{ticket_in}
use Rattle.cmwq_waits.specs.Begun.{HasWaitsOf, is_lent, registry, wait_by}
use Rattle.cmwq_waits.specs.declared.run_wait.RunWait.{RunWait}
use Rattle.cmwq_waits.proofs.Entered.{has_after, has_place}
use Rattle.cmwq_waits.proofs.waits.RunWaits.enters.Goals as goal

pub add-requires : goal.add-requires
add-requires c =
    let i = c.self.inside in let h = c.args.execution.now in let e = c.args.plan.now.mark.entry in
    let place =
    has_place h.layout (past_in h) e (registry i.first i.laid i.waits.items (vec_capacity i.waits)) c.run_by-run.result
    c.done_by-done.result c.wait_begun-begun.result c.requires.plan.2.legal
    (subst (HasWaitsOf h.layout (past_in h)) (sym c.self.view_is) c.requires.before)
    (record {
      its_run = c.run_by-run.ensures;
      its_ticket = c.done_by-done.ensures;
      its_wait = c.wait_begun-begun.ensures
          ∙ ap (λ n. if is_lent i.first e.who then wait_by i.laid (ticket_in e n) else None)
          (c.len.ensures.len ∙ sym (length-reverse h.entries));
    }) in
    omega (arith, ap length c.keep.ensures.items, c.keep.ensures.capacity, place)

pub returns-clause-after : goal.returns-clause-after
returns-clause-after c =
    let i = c.self.inside in let h = c.args.execution.now in let e = c.args.plan.now.mark.entry in
    has_after h.layout (past_in h) e (registry i.first i.laid i.waits.items (vec_capacity i.waits)) c.run_by-run.result
    c.done_by-done.result c.wait_begun-begun.result c.requires.plan.2.legal
    (subst (HasWaitsOf h.layout (past_in h)) (sym c.self.view_is) c.requires.before)
    (record {
      its_run = c.run_by-run.ensures;
      its_ticket = c.done_by-done.ensures;
      its_wait = c.wait_begun-begun.ensures
          ∙ ap (λ n. if is_lent i.first e.who then wait_by i.laid (ticket_in e n) else None)
          (c.len.ensures.len ∙ sym (length-reverse h.entries));
    })
    (registry i.first c.laid_by-self-inside.result c.add.new.waits.items (vec_capacity c.add.new.waits)) refl
    (c.add.ensures.capacity ∙ c.keep.ensures.capacity) c.laid_by-self-inside.ensures
    (c.add.ensures.items
    ∙ ap (λ (ws : List RunWait). ws ++ option_to_list c.wait_begun-begun.result) c.keep.ensures.items)
