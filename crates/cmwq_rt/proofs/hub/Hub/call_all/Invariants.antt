use Rattle.std.proofs.Common.{◌≡◌, take}
use Rattle.cmwq_rt.specs.Batches.{MakesBatch}
use Rattle.cmwq_rt.proofs.hub.Hub.call_all.Given as goal

abbrev pub invariant-loop-k : goal.invariant-loop-k
invariant-loop-k g l = MakesBatch g.N.HubName.layout l.fn.participant (take l.k l.fn.calls) l.fn.replies l.replies
    l.participant × (l.participant.who ≡ l.fn.participant.who)
