use Rattle.cmwq_engine.specs.Common.{◌≡◌, drop, past_of, subst}
unfoldable use Rattle.cmwq_engine.specs.Common.{IsLegal}
use Rattle.cmwq_engine.proofs.Outcome.{gathered_fails, rest_left}
use Rattle.cmwq_engine.proofs.running.run_parts.Goals as goal

pub returns-in-Ok-clause-left : goal.returns-in-Ok-clause-left
returns-in-Ok-clause-left g c =
    let s = g.N.HubName.layout in
    let gathered = c.gather-gathered.ensures in
    rest_left s (g.W.Work.does c.args.work.now s) (g.C.Crew.calls c.args.crew.now) (g.C.Crew.roles c.args.crew.now s)
    c.gather-gathered.result c.into_monitor-monitor.result.history c.end.result.first c.end.result.entries.items
    (subst (λ m. IsLegal s (past_of m.history)) gathered.same c.end.ensures.legal)
    (subst (λ m. c.end.result.entries.items ≡ drop c.end.result.first m.history) gathered.same c.end.ensures.rest)
    gathered.counted gathered.called gathered.waited gathered.worked gathered.silent gathered.finished

pub returns-in-Ok-clause-fails : goal.returns-in-Ok-clause-fails
returns-in-Ok-clause-fails g c =
    let s = g.N.HubName.layout in
    gathered_fails s (g.C.Crew.calls c.args.crew.now) (g.C.Crew.roles c.args.crew.now s)
    c.into_monitor-monitor.result.history c.gather-gathered.result
    (subst (λ m. IsLegal s (past_of m.history)) c.gather-gathered.ensures.same c.end.ensures.legal)
    c.gather-gathered.ensures.fails
