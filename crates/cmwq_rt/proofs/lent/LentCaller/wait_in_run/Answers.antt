use Rattle.std.proofs.Common.{◌∙◌, subst, sym}
use Rattle.std.specs.Prelude.{IfOk, ◌++◌, ◌∷◌, []}
use Rattle.cmwq_monitor.specs.Calls.{own_entry}
use Rattle.cmwq_rt.specs.Common.{IsPrefix, View}
use Rattle.cmwq_rt.proofs.Lending.{waited_unless}
use Rattle.cmwq_rt.proofs.lent.LentCaller.wait_in_run.Goals as goal

pub invariant_of-self : goal.invariant_of-self
invariant_of-self g c =
    λ whole. waited_unless g.N.HubName.layout c.self.inside.caller c.wait_in_run-hold.new.self c.args.call
    c.wait_in_run-hold.result.1 c.self.inside.has_only_waited c.requires.kind c.self.invariant
    c.wait_in_run-hold.ensures.done (sym c.has_gone_on-self-inside.ensures ∙ whole)

pub returns-clause-at_once : goal.returns-clause-at_once
returns-clause-at_once g c =
    let log = c.args.hold.monitor.value.history in
    subst (λ (v : View). IfOk c.wait_in_run-hold.result.1 (λ _. IsPrefix (log
    ++ own_entry g.N.HubName.layout log v c.args.call ∷ []) c.wait_in_run-hold.new.self.seen)) c.self.view_is
    c.wait_in_run-hold.ensures.at_once
