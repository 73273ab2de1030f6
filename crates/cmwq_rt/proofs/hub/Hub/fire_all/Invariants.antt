use Rattle.std.proofs.Common.{◌≡◌, true}
use Rattle.cmwq_monitor.specs.Participants.{is_caller}
use Rattle.cmwq_monitor.specs.Steps.{IsFiring}
use Rattle.cmwq_rt.proofs.hub.Hub.fire_all.Given as goal

abbrev pub invariant-loop : goal.invariant-loop
invariant-loop g l = (goal.iterator-loop g).can_next l.iterator' × (goal.iterator-loop g).is_finite l.iterator'
    × IsFiring g.N.HubName.layout l.left l.fn.participant l.participant × (is_caller l.participant.who ≡ true)
