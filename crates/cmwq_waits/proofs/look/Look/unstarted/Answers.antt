use Rattle.std.proofs.Common.{◌∙◌, ap, option_to_list, sym}
use Rattle.std.proofs.lemmas.Option.{same_Some}
use Rattle.cmwq_model.specs.Prelude.{past_of}
use Rattle.cmwq_model.specs.declared.record.Queueing.{Queueing}
use Rattle.cmwq_waits.proofs.Opened.{queued_of_item, queued_of_none}
use Rattle.cmwq_waits.proofs.look.Look.unstarted.Goals as goal
use Rattle.cmwq_waits.proofs.look.Look.unstarted.Goals.{in_default-via-in-Some+else-queueing-item, in_default-via-in_default}

pub returns-in-Some : goal.returns-in-Some
returns-in-Some c = let l = c.self.inside in
    rw (← c.self.view_is)
    (queued_of_item l.shape.now (past_of l.state.now.entries) l.taken_back l.queued c.in-Some.queueing c.args.item.0
    c.self.invariant.1 c.self.invariant.2 c.in-Some.is c.if-queueing-item.true)

pub returns-in_default : goal.returns-in_default
returns-in_default c = let l = c.self.inside in
    rw (← c.self.view_is)
    (queued_of_none l.shape.now (past_of l.state.now.entries) l.taken_back l.queued c.args.item.0 c.self.invariant.1
    (elim c.in_default.branch [
      | in_default-via-in-Some+else-queueing-item w ↦ λ x is same. w.if-queueing-item.false
          (ap (λ (y : Queueing). y.item.0) (same_Some w.in-Some.queueing x (sym w.in-Some.is ∙ is)) ∙ same)
      | in_default-via-in_default w ↦ λ x is same. w.in_default.not-Some x is
    ])
    ∙ ap option_to_list (sym c.unstarted_left.ensures))
