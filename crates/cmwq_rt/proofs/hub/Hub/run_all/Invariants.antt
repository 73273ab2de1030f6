use Rattle.cmwq_rt.specs.Common.{◌≡◌, ℕ, false, View, is_caller}
use Rattle.cmwq_rt.specs.Later.{Later}
use Rattle.cmwq_rt.specs.Running.{RunsInTurn, IsNextStart}
use Rattle.cmwq_rt.proofs.hub.Hub.run_all.Given as goal

abbrev pub invariant-loop : goal.invariant-loop
invariant-loop g l =
    let s = g.N.HubName.layout in
    (goal.iterator-loop g).can_next l.iterator' × (goal.iterator-loop g).is_finite l.iterator'
    × Later l.fn.participant l.participant × (is_caller l.participant.who ≡ false)
    × ((n : ℕ) × (ended : View) × RunsInTurn s (g.W.Work.does l.fn.work s) n l.left_out l.fn.participant ended
    × IsNextStart s ended l.next l.participant)
