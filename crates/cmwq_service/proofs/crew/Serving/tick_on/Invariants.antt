use Rattle.cmwq_service.specs.Serving.{HasOnlyTicked}
use Rattle.cmwq_service.proofs.crew.Serving.tick_on.Given as goal

abbrev pub invariant-loop : goal.invariant-loop
invariant-loop g l =
    HasOnlyTicked g.C.Client.layout (g.C.Client.view l.fn.client) (g.C.Client.view l.client)
