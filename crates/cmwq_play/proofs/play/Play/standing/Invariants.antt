use Rattle.std.proofs.Common.{ℕ, ◌≡◌, ◌<◌, false}
use Rattle.cmwq_play.specs.Stands.{may}
use Rattle.cmwq_play.proofs.play.Play.standing.Given as goal

abbrev pub invariant-loop-party : goal.invariant-loop-party
invariant-loop-party l = (j : ℕ) → j < l.party → may l.self j ≡ false
