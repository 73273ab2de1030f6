use Rattle.std.proofs.Common.{◌≡◌, take, min}
use Rattle.std.specs.Prelude.{◌-◌, ◌^◌}
use Rattle.std.specs.List.{sum_by}
use Rattle.cmwq_waits.specs.HeldUp.{places_ahead}
use Rattle.cmwq_waits.proofs.look.Look.have_all_places.Given as goal

abbrev pub invariant-loop-wait : goal.invariant-loop-wait
invariant-loop-wait l = l.held ≡ min (sum_by (places_ahead l.self l.of) (take l.wait-index l.set)) (2 ^ 32 - 1)
