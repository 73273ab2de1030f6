use Rattle.std.proofs.Common.{ℕ, ◌≡◌, ◌<◌, false, Some, slice_get}
use Rattle.cmwq_play.specs.declared.place.CallerAt.{CallerAt}
use Rattle.cmwq_play.specs.Stands.{calls_left}
use Rattle.cmwq_play.proofs.play.Play.has_calls_left.Given as goal

abbrev pub invariant-loop-k : goal.invariant-loop-k
invariant-loop-k l = (j : ℕ) (at : CallerAt) → j < l.k → slice_get l.self.callers j ≡ Some at
    → calls_left l.self j at ≡ false
