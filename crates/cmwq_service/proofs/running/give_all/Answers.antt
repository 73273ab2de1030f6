use Rattle.std.proofs.Common.{subst}
use Rattle.std.specs.Prelude.{OnOk}
use Rattle.cmwq_service.specs.Serving.{IsRestOfServed}
use Rattle.cmwq_service.proofs.Ending.{whole_rest, whole_served}
use Rattle.cmwq_service.proofs.running.give_all.Goals as goal

pub returns-in-Ok-clause-served : goal.returns-in-Ok-clause-served
returns-in-Ok-clause-served g c s waits rest =
    whole_served s waits g.S.Service.calls g.S.Service.ends g.S.Service.does c.args.rest.first c.args.rest.entries.items
    c.if-first-ne0.false
    (subst (λ o.
    OnOk o (IsRestOfServed s waits g.S.Service.calls g.S.Service.ends g.S.Service.does c.args.rest.first
    c.args.rest.entries.items))
    c.in-Ok.is rest)

pub returns-in-Err-clause-stopped : goal.returns-in-Err-clause-stopped
returns-in-Err-clause-stopped g c s rest =
    whole_rest s c.args.rest.first c.args.rest.entries.items c.if-first-ne0.false rest

pub returns-then-first-ne0-clause-stopped : goal.returns-then-first-ne0-clause-stopped
returns-then-first-ne0-clause-stopped g c s rest = c.stopped_at_first.ensures s
