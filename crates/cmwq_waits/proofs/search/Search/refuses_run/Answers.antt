use Rattle.std.proofs.Common.{◌∙◌, ap, refl, sym, subst}
use Rattle.cmwq_core.specs.History.{History, past_in}
use Rattle.cmwq_waits.specs.HeldUp.{awaits}
use Rattle.cmwq_waits.specs.Looks.{IsQueuedNext}
use Rattle.cmwq_waits.specs.Refused.{Refuses}
use Rattle.cmwq_waits.proofs.Exact.{refusals_are_refused}
use Rattle.cmwq_model.specs.declared.record.Ticket.{Ticket}
use Rattle.cmwq_waits.proofs.Queued.{queued_is_next}
use Rattle.cmwq_waits.proofs.Refusing.{all_known, all_seen, circle_if, items_are, none_if, refused_is}
use Rattle.cmwq_waits.proofs.Refusing.{same_scene, same_ticket}
use Rattle.cmwq_waits.proofs.search.Search.refuses_run.Goals as goal
use Rattle.cmwq_waits.proofs.search.Search.refuses_run.Goals.{then-never_ends, else-never_ends}

pub invariant_of-look : goal.invariant_of-look
invariant_of-look c =
    let h = c.args.execution.now in let s = c.args.shape.now in
    let legal = rw c.requires.layout at c.len-legal.ensures.legal in
    rw c.state.ensures (
      c.requires.layout,
      legal,
      subst (IsQueuedNext s (past_in h)) (sym c.queued.ensures) (queued_is_next s (past_in h) c.args.call legal c.requires.numbers),
    )

pub never_ends-requires-clause-seen : goal.never_ends-requires-clause-seen
never_ends-requires-clause-seen c =
    let h = c.args.execution.now in
    rw (
      items_are h c.args.waits.now c.args.waits.now c.fill.new.set.items c.args.run.now c.args.call c.len.result
          refl c.fill.ensures.items c.len.ensures.len,
      c.state.ensures,
    )
    (all_seen c.args.shape.now (past_in h) c.args.waits.now c.args.run.now c.args.call
    (rw c.requires.layout at c.len-legal.ensures.legal) c.requires.numbers c.requires.waiting c.requires.open
    c.requires.started)

pub never_ends-requires-clause-known : goal.never_ends-requires-clause-known
never_ends-requires-clause-known c =
    let h = c.args.execution.now in
    rw (items_are h c.args.waits.now c.args.waits.now c.fill.new.set.items c.args.run.now c.args.call c.len.result
    refl c.fill.ensures.items c.len.ensures.len)
    (all_known c.args.shape.now (past_in h) c.args.waits.now c.args.run.now c.args.call
    (rw c.requires.layout at c.len-legal.ensures.legal) c.requires.numbers c.requires.waiting c.requires.open
    c.requires.started _ refl (ap (λ (k : History). past_in k) c.state.ensures))

pub returns-clause-is : goal.returns-clause-is
returns-clause-is c =
    let h = c.args.execution.now in let s = c.args.shape.now in
    let items =
    items_are h c.args.waits.now c.args.waits.now c.fill.new.set.items c.args.run.now c.args.call c.len.result
    refl c.fill.ensures.items c.len.ensures.len in
    let scene =
    same_scene s h c.state.result.now c.item_taken_back.result c.queued.result c.args.call c.state.ensures
    c.item_taken_back.ensures c.queued.ensures in
    let ticket = same_ticket h c.args.call c.len.result c.len.ensures.len in
    let told : Ticket = record { caller = record { 0 = 0 }; call = c.args.call; number = c.len.result } in
    let other =
    ap (λ (t : Ticket). awaits (past_in h) t c.args.run.now) (sym ticket)
    ∙ (ap (λ (k : History). awaits (past_in k) told c.args.run.now) (sym c.state.ensures)
    ∙ (sym c.awaits_run.ensures ∙ c.if-awaits_run.false)) in
    refused_is s (past_in h) c.args.waits.now c.fill.new.set.items c.args.run.now c.args.call _ c.never_ends.result
    c.if-never_ends.result scene items (sym c.is_turned_away.ensures ∙ c.if-is_turned_away.false) other
    c.never_ends.ensures.never
    (elim c.if-never_ends.branch [
      | then-never_ends w ↦ w.result-is ∙ sym (circle_if c.never_ends.result w.if-never_ends.true)
      | else-never_ends w ↦ w.result-is ∙ sym (none_if c.never_ends.result w.if-never_ends.false)
    ])

pub returns-clause-refused : goal.returns-clause-refused
returns-clause-refused c =
    let h = c.args.execution.now in let s = c.args.shape.now in
    subst (Refuses s (past_in h) c.args.waits.now c.args.run.now c.args.call) (sym (returns-clause-is c))
    (refusals_are_refused s (past_in h) c.args.waits.now c.args.run.now c.args.call c.requires.apart)
